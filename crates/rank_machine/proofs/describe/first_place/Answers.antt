use Rattle.std.proofs.Common.{◌≡◌, ◌+◌, ◌-◌, ◌≤◌, ap, ◌∙◌, arith, length, suc}
use Rattle.rank_machine.specs.Layout.{size_at}
use Rattle.rank_machine.proofs.Descriptions.{less_next}
use Rattle.rank_machine.proofs.describe.first_place.Goals as goal

pub loop-k-preserved : goal.loop-k-preserved
loop-k-preserved c =
    let m = c.args.memory.now.memory in
    let v = c.args.variables in
    let l : suc c.loop-k.k ≤ v.count = omega (arith, c.loop-k-test.true) in
    let few = c.loop-k.invariant.few in
    let less : c.saturating_sub-place.result ≡ c.loop-k.place - size_at m (v.first + c.loop-k.k) = c.saturating_sub-place.ensures ∙ ap (λ x. c.loop-k.place - length x) c.object-cells.ensures in
    record {
      few = omega (arith, few, less);
      rest = rw less (less_next m v.first c.loop-k.k v.count c.loop-k.place l ∙ c.loop-k.invariant.rest);
    }
