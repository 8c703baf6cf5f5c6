use Rattle.std.proofs.Common.{◌≡◌, ◌++◌, drop, map}
use Rattle.flat_code.specs.Text.{joined, listed, site_text}
use Rattle.flat_code.proofs.text.instr.put_sites.Given as goal

abbrev pub invariant-loop-site : goal.invariant-loop-site
invariant-loop-site l = l.text.items ++ listed (map site_text (drop l.site-index l.more)) ≡ l.fn.text.items ++ joined (map site_text l.sites)
