-- A text's tokens have the values that their classes have.
use Rattle.std.specs.Prelude.{ℕ, ◌≡◌, List, [], ◌∷◌}
use Rattle.c_tree.specs.declared.token.Token.{Token}
use Rattle.c_tree.specs.Scan.{tokens_of}
use Rattle.c_grammar.specs.Meaning.{fitting}

-- each token has the value that its class has
abbrev pub AllFit : List Token → Type 0
AllFit [] = Unit {0}
AllFit (t ∷ ts) = (fitting t.class t.value ≡ t.value) × AllFit ts

-- so has each token of a text
abbrev pub IsFitting : Type 0
IsFitting = (text : List ℕ) → AllFit (tokens_of text)
