use Rattle.std.proofs.Common.{ℕ, List, length}
use Rattle.core_laws.specs.CoreTies.{Pairs}
use Rattle.core_laws.specs.Ties.{AreBy, Are}
use Rattle.job_core.proofs.sweep.lengths.Given as goal

abbrev pub invariant-loop-from : goal.invariant-loop-from
invariant-loop-from g l = (held : ℕ → ℕ → List g.row.T.Denot) → Pairs l.ranks l.pairs held → AreBy (Are l.ranks) l.from l.rows (λ from to. length (held from to))
