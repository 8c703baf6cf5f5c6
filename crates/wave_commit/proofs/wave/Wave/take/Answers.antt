use Rattle.std.proofs.Common.{◌<◌, sym, refl, subst, arith}
use Rattle.wave_commit.specs.Waves.{Noted, IsWave}
use Rattle.wave_commit.proofs.Noting.{restored_noted}
use Rattle.wave_commit.proofs.wave.Wave.take.Goals as goal

pub returns-in-Ready : goal.returns-in-Ready
returns-in-Ready c n w told h = rw c.in-Ready.is (c.take_ready.ensures n w told h)

pub returns-in-Stopped : goal.returns-in-Stopped
returns-in-Stopped c n w told h = rw c.in-Stopped.is (c.take_stopped.ensures n w told h)

pub returns-in-Restored : goal.returns-in-Restored
returns-in-Restored c n w told h =
    let k : Noted = record { line = c.self.inside.line; restored = c.self.inside.restored.items; ready = c.self.inside.ready.items; stopped = c.self.inside.stopped.items } in
    let h' : IsWave n k w told = subst (λ x. IsWave n x w told) (sym c.self.view_is) h in
    let inside : c.args.source < n = omega (arith, c.requires, h.restored.size) in
    rw c.in-Restored.is (refl, restored_noted n k w told c.args.source c.from.result inside c.from.ensures h')
