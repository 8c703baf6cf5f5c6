use Rattle.std.proofs.Common.{◌∙◌, rules}
use Rattle.c_rules.specs.Table.{called}
use Rattle.c_check.proofs.InOrder.{items_structs, items_found, items_breaches}
use Rattle.c_check.proofs.walker.Walker.items.Goals as goal

pub loop-x-preserved : goal.loop-x-preserved
loop-x-preserved c = record {
  structs =
      items_structs c.args.items.now c.loop-x.x-index c.x-item.result c.loop-x-test.true c.x-item.is
      c.loop-x.structs c.add_struct.new.structs c.in_ok-add_struct.ensures
      ∙ c.loop-x.invariant.structs;
  found =
      items_found (called c.args.functions.now.entries) c.args.items.now c.loop-x.x-index c.loop-x.number c.next_number-number.result
      c.loop-x.structs c.as_slice.result.now c.add_struct.new.structs c.x-item.result
      c.loop-x-test.true c.x-item.is c.next_number-number.ensures c.as_slice.ensures c.in_ok-add_struct.ensures
      c.loop-x.found c.in_ok-more.more c.in_ok-found.found c.in_ok-more.ensures.found c.in_ok-found.ensures
      ∙ c.loop-x.invariant.found;
  breaches =
      items_breaches (called c.args.functions.now.entries) c.args.items.now c.loop-x.x-index c.loop-x.number c.next_number-number.result
      c.loop-x.structs c.as_slice.result.now c.add_struct.new.structs c.x-item.result
      c.loop-x-test.true c.x-item.is c.next_number-number.ensures c.as_slice.ensures c.in_ok-add_struct.ensures
      c.loop-x.self.judge.breaches.items c.item.new.self.judge.breaches.items c.in_ok-more.ensures.breaches
      ∙ c.loop-x.invariant.breaches;
  within = search rules;
}
