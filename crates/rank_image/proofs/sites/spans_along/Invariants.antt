use Rattle.std.proofs.Common.{◌≡◌, ◌++◌, ◌≤◌, drop}
use Rattle.std.specs.Prelude.{option_map}
use Rattle.rank_image.specs.Along.{spans_seen, spans_along}
use Rattle.rank_image.specs.declared.sites.Way.TheVariants.{Into}
use Rattle.rank_image.proofs.sites.spans_along.Given as goal

abbrev pub invariant-loop-site : goal.invariant-loop-site
invariant-loop-site l = record {
  few : l.stack.used ≤ 8192;
  spans : option_map (λ rest. spans_seen l.stack.spans.items ++ rest) (spans_along l.code.functions l.stack.used l.way (drop l.site-index l.sites)) ≡ spans_along l.code.functions 0 (Into l.code.main) l.sites;
}
