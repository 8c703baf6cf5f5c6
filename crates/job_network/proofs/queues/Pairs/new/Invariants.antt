use Rattle.std.proofs.Common.{◌≡◌, [], replicate}
use Rattle.job_network.proofs.queues.Pairs.new.Given as goal

abbrev pub invariant-loop : goal.invariant-loop
invariant-loop g l = l.rows.items ≡ replicate l.counter (replicate l.ranks [])
