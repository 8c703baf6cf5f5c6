use Rattle.std.proofs.Common.{refl, ◌∙◌, arith, ◌+◌, ◌≤◌, suc}
use Rattle.variable_stack.specs.declared.Descriptor.{Descriptor}
use Rattle.rank_machine.specs.Blocks.{blocks_of}
use Rattle.rank_machine.proofs.Descriptions.{all_described, described_next, described_serials}
use Rattle.rank_machine.proofs.describe.describe.Goals as goal

pub loop-k-preserved : goal.loop-k-preserved
loop-k-preserved c =
    let v = c.args.variables in
    let d : Descriptor = record { serial = v.first + c.loop-k.k; place = c.loop-k.place; length = c.in_ok-length.length } in
    let l : suc c.loop-k.k ≤ v.count = omega (arith, c.loop-k-test.true) in
    rw (c.in_ok-push.ensures.ok, c.in_ok-place.ensures) (described_next c.args.memory.now.memory v.first c.loop-k.k v.count c.loop-k.described d l refl c.in_ok-length.ensures ∙ c.loop-k.invariant)

pub returns-clause-serials : goal.returns-clause-serials
returns-clause-serials c =
    let m = c.args.memory.now.memory in
    let v = c.args.variables in
    described_serials m v c.args.described.now c.loop-k.described (all_described m v c.loop-k.k c.loop-k.place (blocks_of c.args.described.now) (blocks_of c.loop-k.described) c.loop-k-test.false c.loop-k.invariant)
