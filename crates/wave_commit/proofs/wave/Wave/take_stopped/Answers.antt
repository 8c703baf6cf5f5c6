use Rattle.std.proofs.Common.{◌≡◌, ◌<◌, true, sym, ◌∙◌, subst, arith}
use Rattle.wave_commit.specs.Waves.{Noted, IsWave, is_new}
use Rattle.wave_commit.proofs.Noting.{stopped_more, stopped_last}
use Rattle.wave_commit.proofs.wave.Wave.take_stopped.Goals as goal

pub returns-in-Some : goal.returns-in-Some
returns-in-Some c n w told h =
    let k : Noted = record { line = c.self.inside.line; restored = c.self.inside.restored.items; ready = c.self.inside.ready.items; stopped = c.self.inside.stopped.items } in
    let h' : IsWave n k w told = subst (λ x. IsWave n x w told) (sym c.self.view_is) h in
    let inside : c.args.source < n = omega (arith, c.requires, h.restored.size) in
    let new : is_new k.line c.args.line c.index.result.now ≡ true = sym c.is_new.ensures ∙ c.if-not-is_new.false in
    stopped_more n k w told c.args.source c.args.line c.from.result c.from-2.result c.in-Some.field-0 c.index.result.now inside h' c.from.ensures c.from-2.ensures c.index.ensures new (λ m f are. c.in-Some.ensures m f (rw c.deref.ensures.value are))

pub returns-in-None : goal.returns-in-None
returns-in-None c n w told h =
    let k : Noted = record { line = c.self.inside.line; restored = c.self.inside.restored.items; ready = c.self.inside.ready.items; stopped = c.self.inside.stopped.items } in
    let h' : IsWave n k w told = subst (λ x. IsWave n x w told) (sym c.self.view_is) h in
    let inside : c.args.source < n = omega (arith, c.requires, h.restored.size) in
    let new : is_new k.line c.args.line c.index.result.now ≡ true = sym c.is_new.ensures ∙ c.if-not-is_new.false in
    stopped_last n k w told c.args.source c.args.line c.from.result c.from-2.result c.index.result.now inside h' c.from.ensures c.from-2.ensures c.index.ensures new (λ m f are. c.in-None.ensures m f (rw c.deref.ensures.value are))
