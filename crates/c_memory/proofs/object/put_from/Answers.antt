use Rattle.std.proofs.Common.{rules, map, drop, sym, ap, ◌∙◌, refl, w64}
use Rattle.std.specs.Int.{w128}
use Rattle.std.proofs.lemmas.Int.{to_z-of_z}
use Rattle.c_memory.specs.Memory.{number}
use Rattle.c_memory.specs.Written.{with_cells}
use Rattle.c_memory.proofs.Writes.{past_end, none_left, turn}
use Rattle.c_memory.proofs.object.put_from.Goals as goal

pub returns-then-place-len : goal.returns-then-place-len
returns-then-place-len c =
    let ns = c.args.numbers.now in
    sym (past_end c.loop-n.cells.items c.len.result _ (map number (drop c.loop-n.n-index ns)) (c.len.ensures ∙ c.loop-n.cells.ok.0) c.len.type_inv c.if-place-len.true) ∙ c.loop-n.invariant ∙ ap (λ p. with_cells c.args.cells.now.items p (map number ns)) (to_z-of_z w128 c.args.at c.ranges.at)

pub loop-n-preserved : goal.loop-n-preserved
loop-n-preserved c =
    turn c.loop-n.cells.items _ c.len.result _ _ c.args.numbers.now c.loop-n.n-index c.number.result c.loop-n-test.true c.len.type_inv (search rules) c.if-place-len.false refl c.put_in.ensures (c.number.ensures ∙ ap number (to_z-of_z w64 _ (search rules)))
    ∙ c.loop-n.invariant

pub returns : goal.returns
returns c =
    let ns = c.args.numbers.now in
    sym (none_left c.loop-n.cells.items _ ns c.loop-n.n-index c.loop-n-test.false) ∙ c.loop-n.invariant ∙ ap (λ p. with_cells c.args.cells.now.items p (map number ns)) (to_z-of_z w128 c.args.at c.ranges.at)
