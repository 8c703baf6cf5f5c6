use Rattle.std.proofs.Common.{◌-◌, ◌<◌, ◌≤◌, arith, length, get_or}
use Rattle.c_memory.proofs.Comebacks.{inserted, up_from}
use Rattle.c_memory.proofs.memory.resumed.place_among.Goals as goal

pub returns-then-objects-at-clause-order : goal.returns-then-objects-at-clause-order
returns-then-objects-at-clause-order c o e =
    let os = c.args.objects.now in
    let at = c.loop-at.at in
    let some : 0 < at = c.loop-at-test.true in
    let l : at ≤ length os = c.loop-at.invariant.0 in
    let low : (get_or os (at - 1) c.index-objects-at.result).serial ≤ o.serial = omega (arith, e, c.if-objects-at.true) in
    inserted os at o (up_from os at c.index-objects-at.result o.serial c.requires some l low) (λ k d m n. let r = c.loop-at.invariant.1 k d m n in omega (arith, e, r)) l
