use Rattle.std.proofs.Common.{◌++◌, ap, sym, ◌∙◌, arith}
use Rattle.std.specs.Prelude.{option_map}
use Rattle.rank_image.specs.Along.{spans_seen}
use Rattle.rank_image.proofs.Walks.{nothing_before, marks_end}
use Rattle.rank_image.proofs.sites.spans_along.Goals as goal

pub loop-site-init : goal.loop-site-init
loop-site-init c = rw (c.new-stack.ensures.spans, c.new-stack.ensures.used) (record { few = omega arith; spans = nothing_before _ })

pub returns-in-ToMark : goal.returns-in-ToMark
returns-in-ToMark c = sym (ap (option_map (λ rest. spans_seen c.loop-site.stack.spans.items ++ rest)) (marks_end c.args.code.now.functions c.loop-site.stack.used c.loop-site.way c.args.sites.now c.loop-site.site-index c.in-ToMark.is (omega arith))) ∙ c.loop-site.invariant.spans
