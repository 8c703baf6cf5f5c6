use Rattle.std.proofs.Common.{◌↔◌, ◌++◌, ◌+◌, drop, ap, sym, ◌∙◌, subst, arith}
use Rattle.std.proofs.lemmas.Bool.{not-true}
use Rattle.std.proofs.lemmas.List.{drop_all}
use Rattle.std.specs.BTreeSet.{contains}
use Rattle.std.specs.Ordering.{nat_cmp}
use Rattle.rank_machine.specs.WellFormed.{AreDistinct}
use Rattle.rank_image.proofs.News.{AreNew, goes_on, left_at}
use Rattle.rank_image.proofs.objects.are_distinct.Goals as goal

pub loop-v-preserved : goal.loop-v-preserved
loop-v-preserved c =
    let vs = c.args.variables.now in
    let os = c.args.objects.now in
    let i = c.loop-v.v-index in
    let x = c.v-item.result in
    goes_on c.loop-v.taken c.insert.new.self x (drop i vs ++ os) (drop (i + 1) vs ++ os) c.in_ok-insert.ensures.updates
    (not-true (contains nat_cmp c.loop-v.taken x.serial) (sym c.in_ok-insert.ensures.added ∙ c.if-not-branch.false))
    (ap (λ l. l ++ os) (left_at vs i x c.v-item.is (omega arith))) c.loop-v.invariant

pub loop-o-init : goal.loop-o-init
loop-o-init c = subst (λ l. AreNew c.loop-v.taken (l ++ c.args.objects.now) ↔ AreDistinct (c.args.variables.now ++ c.args.objects.now)) (drop_all c.loop-v.v-index c.args.variables.now (omega arith)) c.loop-v.invariant

pub loop-o-preserved : goal.loop-o-preserved
loop-o-preserved c =
    let os = c.args.objects.now in
    let i = c.loop-o.o-index in
    let x = c.o-item.result in
    goes_on c.loop-o.taken c.insert-in-loop-o.new.self x (drop i os) (drop (i + 1) os) c.in_ok-insert-2.ensures.updates
    (not-true (contains nat_cmp c.loop-o.taken x.serial) (sym c.in_ok-insert-2.ensures.added ∙ c.if-not-branch-2.false))
    (left_at os i x c.o-item.is (omega arith)) c.loop-o.invariant
