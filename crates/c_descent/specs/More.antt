-- What a function gives that reads a rule and joins it to a tree that was read before.
use Rattle.std.specs.Prelude.{ℕ, ◌≡◌, List, [], ◌∷◌, Result, Ok, Err}
use Rattle.c_tree.specs.declared.token.Token.{Token}
use Rattle.c_tree.specs.declared.tree.Link.{Link}
use Rattle.c_grammar.specs.declared.fault.ReadError.{ReadError}
use Rattle.c_grammar.specs.Grammar.{Rule}
use Rattle.c_grammar.specs.Meaning.{Forest, ◌+++◌}
use Rattle.c_grammar.specs.Descent.{Reads, Read}
use Rattle.c_grammar.specs.Gives.{Fails}
use Rattle.c_grammar.specs.Readers.{grade}

-- a tree whose parse tree is the one before the tokens and then what the rule reads
abbrev pub GivesMore : {X : Type 0} → (X → Forest) → (X → List Token) → Forest → ℕ → Rule → List Token → Result X ReadError → Type 0
GivesMore view after front l r ts (Ok x) = (f : Forest) × (view x ≡ front +++ f) × Reads l r ts (Read f (after x))
GivesMore view after front l r ts (Err e) = Fails l r ts e

-- the first operator, where there is one, has the grade
abbrev pub FirstOf : {E : Type 0} → ℕ → List (Link E) → Type 0
FirstOf g [] = Unit {0}
FirstOf g (link ∷ links) = grade link.operator ≡ g
