use Rattle.std.proofs.Common.{◌≡◌, ◌<◌, false, None, replicate, vec_len, sym, ap, ◌∙◌, subst, arith}
use Rattle.wave_commit.specs.Waves.{Noted, IsWave, first_failing}
use Rattle.wave_commit.proofs.Noting.{start_last, start_begins, begun_wave}
use Rattle.wave_commit.proofs.wave.Wave.start.Goals as goal

pub returns-then-line-eq65535 : goal.returns-then-line-eq65535
returns-then-line-eq65535 c n w told e h =
    let k : Noted = record { line = c.self.inside.line; restored = c.self.inside.restored.items; ready = c.self.inside.ready.items; stopped = c.self.inside.stopped.items } in
    let h' : IsWave n k w told = subst (λ x. IsWave n x w told) (sym c.self.view_is) h in
    let first : first_failing n told ≡ None = sym (c.in_default.ensures n told (rw c.deref.ensures.value h'.restored)) in
    (start_last n w told first (sym h'.line ∙ c.in_default-line.is) (sym e ∙ c.if-line-eq65535.true), h)

pub returns : goal.returns
returns c n w told e h =
    let k : Noted = record { line = c.self.inside.line; restored = c.self.inside.restored.items; ready = c.self.inside.ready.items; stopped = c.self.inside.stopped.items } in
    let h' : IsWave n k w told = subst (λ x. IsWave n x w told) (sym c.self.view_is) h in
    let first : first_failing n told ≡ None = sym (c.in_default.ensures n told (rw c.deref.ensures.value h'.restored)) in
    let before : w.line < 65535 = omega arith in
    let ready : vec_len c.self.inside.ready ≡ n = omega (arith, c.self.inside.ready.ok.0, h'.restored.size) in
    let stopped : vec_len c.self.inside.stopped ≡ n = omega (arith, c.self.inside.stopped.ok.0, h'.restored.size) in (
      start_begins n w told first (sym h'.line ∙ c.in_default-line.is) before,
      begun_wave n c.args.line k w told c.fill.new.self.items c.fill-2.new.self.items e h' (c.fill.ensures.items (λ y q. q) ∙ ap (λ m. replicate m false) ready) (c.fill-2.ensures.items (λ y q. q) ∙ ap (λ m. replicate m false) stopped),
    )
