use Rattle.std.proofs.Common.{ℕ, List, length}
use Rattle.core_laws.specs.CoreTies.{Pairs}
use Rattle.core_laws.specs.Ties.{Are}
use Rattle.job_core.proofs.sweep.row_lengths.Given as goal

abbrev pub invariant-loop-to : goal.invariant-loop-to
invariant-loop-to g l = (held : ℕ → ℕ → List g.row.T.Denot) → Pairs l.ranks l.pairs held → Are l.to l.row (λ to. length (held l.from to))
