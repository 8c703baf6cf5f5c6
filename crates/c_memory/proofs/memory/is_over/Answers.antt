use Rattle.std.proofs.Common.{◌≡◌, ◌+◌, ◌<◌, ◌≤◌, take, get_or, arith}
use Rattle.std.proofs.lemmas.Bool.Decides.{nat_tests}
use Rattle.c_memory.specs.Memory.{total}
use Rattle.c_memory.proofs.Finds.{total_one, total_part}
use Rattle.c_memory.proofs.memory.is_over.Goals as goal

pub returns-then-sum-gt8192 : goal.returns-then-sum-gt8192
returns-then-sum-gt8192 c =
    let ns = c.args.lengths.now in
    let i = c.loop-n.n-index in
    let a : c.loop-n.sum ≡ c.args.from + total (take i ns) = c.loop-n.invariant.0 in
    let b : total (take (i + 1) ns) ≡ total (take i ns) + get_or ns i 0 = total_one ns i 0 c.loop-n-test.true in
    let d : total (take (i + 1) ns) ≤ total ns = total_part ns (i + 1) in
    let e : 8192 < c.loop-n.sum + get_or ns i 0 = c.if-sum-gt8192.true in
    let f : 8192 < c.args.from + total ns = omega (arith, a, b, d, e) in
    grind (arith, nat_tests, f)

pub loop-n-preserved : goal.loop-n-preserved
loop-n-preserved c =
    let ns = c.args.lengths.now in
    let i = c.loop-n.n-index in
    let a : c.loop-n.sum ≡ c.args.from + total (take i ns) = c.loop-n.invariant.0 in
    let b : total (take (i + 1) ns) ≡ total (take i ns) + get_or ns i 0 = total_one ns i 0 c.loop-n-test.true in
    let e : c.loop-n.sum + get_or ns i 0 ≤ 8192 = c.if-sum-gt8192.false in
    (omega (arith, a, b), omega (arith, e))
