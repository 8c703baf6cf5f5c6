use Rattle.std.proofs.Common.{◌≡◌, ◌++◌, drop, map}
use Rattle.flat_code.specs.Text.{texts_of}
use Rattle.flat_code.proofs.text.call.add_texts.Given as goal

abbrev pub invariant-loop-e : goal.invariant-loop-e
invariant-loop-e l = map (λ a. a.items) l.texts.items ++ texts_of l.structs (drop l.e-index l.es) ≡ map (λ a. a.items) l.fn.texts.items ++ texts_of l.structs l.es
