use Rattle.std.proofs.Common.{◌≡◌, ◌++◌, drop, map}
use Rattle.flat_code.specs.Text.{init_arguments}
use Rattle.flat_code.proofs.Lists.{addresses}
use Rattle.flat_code.proofs.text.call.init_texts.Given as goal

abbrev pub invariant-loop-name : goal.invariant-loop-name
invariant-loop-name l = map (λ a. a.items) l.texts.items ++ addresses (drop l.name-index l.names) ≡ init_arguments l.names
