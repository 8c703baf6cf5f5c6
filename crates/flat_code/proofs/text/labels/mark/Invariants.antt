use Rattle.std.proofs.Common.{◌≡◌, drop, map}
use Rattle.flat_code.specs.Labels.{marked}
use Rattle.flat_code.proofs.text.labels.mark.Given as goal

abbrev pub invariant-loop-site : goal.invariant-loop-site
invariant-loop-site l = marked l.labels.items (map (λ s. s.place) (drop l.site-index l.site-items)) ≡ marked l.fn.labels.items (map (λ s. s.place) l.site-items)
