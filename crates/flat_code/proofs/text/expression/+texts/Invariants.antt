use Rattle.std.proofs.Common.{◌≡◌, ◌++◌, ◌+◌, ◌*◌, drop, flat_map}
use Rattle.flat_code.specs.Text.{text_of}
use Rattle.flat_code.specs.Nested.{link_closing, step_closings}
use Rattle.flat_code.proofs.text.expression.+texts.Given as goal

abbrev pub decreases-put_expression : goal.decreases-put_expression
decreases-put_expression l = 8 * goal.size-put_expression l

abbrev pub decreases-put_place : goal.decreases-put_place
decreases-put_place l = 8 * goal.size-put_place l + 3

abbrev pub decreases-put_root : goal.decreases-put_root
decreases-put_root l = 8 * goal.size-put_root l + 2

abbrev pub decreases-close_step : goal.decreases-close_step
decreases-close_step l = 8 * goal.size-close_step l + 1

abbrev pub decreases-close_links : goal.decreases-close_links
decreases-close_links l = 8 * goal.size-close_links l + 2

abbrev pub decreases-close_link : goal.decreases-close_link
decreases-close_link l = 8 * goal.size-close_link l + 1

abbrev pub decreases-close_steps : goal.decreases-close_steps
decreases-close_steps l = 8 * goal.size-close_steps l + 2

abbrev pub invariant-close_steps-loop-k : goal.invariant-close_steps-loop-k
invariant-close_steps-loop-k l = l.text.items ++ step_closings l.structs (text_of l.structs) (drop l.k l.steps) ≡ l.fn.text.items ++ step_closings l.structs (text_of l.structs) l.steps

abbrev pub invariant-close_links-loop-link : goal.invariant-close_links-loop-link
invariant-close_links-loop-link l = l.text.items ++ flat_map (link_closing (text_of l.structs)) (drop l.link-index l.links) ≡ l.fn.text.items ++ flat_map (link_closing (text_of l.structs)) l.links
