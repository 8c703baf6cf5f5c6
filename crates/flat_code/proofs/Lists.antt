-- Lists of texts.
use Rattle.std.proofs.Common.{◌≡◌, ℕ, ◌+◌, List, ◌++◌, ap, map, add-one}
use Rattle.std.specs.Prelude.{codes}
use Rattle.flat_code.specs.Text.{Text, separator, variable_text, variable_texts}

abbrev pub addresses : List Text → List Text
addresses names = map (λ name. codes "&" ++ name) names

pub next_variable : (k : ℕ) → variable_texts (k + 1) ≡ variable_texts k ++ separator k ++ variable_text k
next_variable k = ap variable_texts (add-one k)
