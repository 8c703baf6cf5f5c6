use Rattle.std.proofs.Common.{◌≡◌, ◌+◌, ◌*◌, Ok, drop, map}
use Rattle.c_values.specs.Value.{chained, link_of, reached, step_meaning, place_of}
use Rattle.c_values.proofs.value.+walk.Given as goal

-- an expression's depth, and how near a function is to the expression that it goes down to

abbrev pub decreases-value : goal.decreases-value
decreases-value g l = 8 * goal.size-value g l

abbrev pub decreases-both : goal.decreases-both
decreases-both g l = 8 * goal.size-both g l + 1

abbrev pub decreases-either : goal.decreases-either
decreases-either g l = 8 * goal.size-either g l + 1

abbrev pub decreases-linked : goal.decreases-linked
decreases-linked g l = 8 * goal.size-linked g l + 2

abbrev pub decreases-chain : goal.decreases-chain
decreases-chain g l = 8 * goal.size-chain g l + 3

abbrev pub decreases-selected : goal.decreases-selected
decreases-selected g l = 8 * goal.size-selected g l + 1

abbrev pub decreases-root : goal.decreases-root
decreases-root g l = 8 * goal.size-root g l + 1

abbrev pub decreases-place : goal.decreases-place
decreases-place g l = 8 * goal.size-place g l + 2

abbrev pub invariant-chain-loop-link : goal.invariant-chain-loop-link
invariant-chain-loop-link g l = chained (Ok l.a) (map link_of (drop l.link-index l.links)) l.variables (g.M.Objects.memory l.memory) ≡ chained (Ok l.fn.first) (map link_of l.links) l.variables (g.M.Objects.memory l.memory)

abbrev pub invariant-place-loop-step : goal.invariant-place-loop-step
invariant-place-loop-step g l = reached (Ok l.spot) (map step_meaning (drop l.step-index l.p.steps)) l.variables (g.M.Objects.memory l.memory) ≡ place_of l.fn.p l.variables (g.M.Objects.memory l.memory)
