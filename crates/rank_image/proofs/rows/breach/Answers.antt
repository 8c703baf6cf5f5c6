use Rattle.std.proofs.Common.{sym, ◌∙◌}
use Rattle.rank_image.specs.Along.{spans_seen}
use Rattle.rank_image.proofs.Breaches.{found_by, no_sites, no_variables, no_objects, well_formed}
use Rattle.rank_image.proofs.rows.breach.Goals as goal

pub returns-in_default : goal.returns-in_default
returns-in_default c = no_sites c.args.code.now c.args.state.now c.as_slice.result.now c.as_slice.ensures (rw c.in_default.is at c.in_ok-spans.ensures)

pub returns-then-not-has_variables : goal.returns-then-not-has_variables
returns-then-not-has_variables c =
    no_variables c.args.code.now c.args.state.now (spans_seen c.as_slice-2.result.now)
    (found_by c.args.code.now c.args.state.now c.as_slice.result.now c.in-Some.spans.items c.as_slice-2.result.now c.as_slice.ensures c.as_slice-2.ensures.value (rw c.in-Some.is at c.in_ok-spans.ensures))
    (λ has. cc (sym c.if-not-has_variables.true ∙ c.has_variables.ensures.1 has))

pub returns-then-not-branch : goal.returns-then-not-branch
returns-then-not-branch c =
    no_objects c.args.code.now c.args.state.now (spans_seen c.as_slice-2.result.now)
    (found_by c.args.code.now c.args.state.now c.as_slice.result.now c.in-Some.spans.items c.as_slice-2.result.now c.as_slice.ensures c.as_slice-2.ensures.value (rw c.in-Some.is at c.in_ok-spans.ensures))
    (c.has_variables.ensures.0 c.if-not-has_variables.false)
    (λ has. cc (sym c.if-not-branch.true ∙ c.in_ok-has_objects.ensures.1 has))

pub returns : goal.returns
returns c =
    well_formed c.args.code.now c.args.state.now (spans_seen c.as_slice-2.result.now)
    (found_by c.args.code.now c.args.state.now c.as_slice.result.now c.in-Some.spans.items c.as_slice-2.result.now c.as_slice.ensures c.as_slice-2.ensures.value (rw c.in-Some.is at c.in_ok-spans.ensures))
    c.requires (c.has_variables.ensures.0 c.if-not-has_variables.false) (c.in_ok-has_objects.ensures.0 c.if-not-branch.false)
