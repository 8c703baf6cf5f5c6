-- What a function gives that reads a rule.
use Rattle.std.specs.Prelude.{ℕ, ◌≡◌, List, Result, Ok, Err, length}
use Rattle.c_tree.specs.declared.token.Token.{Token}
use Rattle.c_grammar.specs.declared.fault.ReadError.{ReadError}
use Rattle.c_grammar.specs.declared.fault.ReadError.TheVariants as error
use Rattle.c_grammar.specs.declared.fault.Unread.{Unread}
use Rattle.c_grammar.specs.declared.fault.Unread.TheVariants as unread
use Rattle.c_grammar.specs.Grammar.{Rule}
use Rattle.c_grammar.specs.Meaning.{Forest, TooDeep, TooLarge}
use Rattle.c_grammar.specs.Descent.{Reads, Read, Fault, Bad, Unfit}

-- why a rule was not read
abbrev pub Stops : ℕ → Rule → List Token → Unread → Type 0
Stops l r ts (unread.Syntax n) = (zs : List Token) × (length zs ≡ n) × Reads l r ts (Fault Bad zs)
Stops l r ts (unread.TooDeep n) = (zs : List Token) × (length zs ≡ n) × Reads l r ts (Fault (Unfit TooDeep) zs)
Stops l r ts (unread.TooLarge n) = (zs : List Token) × (length zs ≡ n) × Reads l r ts (Fault (Unfit TooLarge) zs)

-- the same, or memory ran out
abbrev pub Fails : ℕ → Rule → List Token → ReadError → Type 0
Fails l r ts error.Memory = Unit {0}
Fails l r ts (error.Unread why) = Stops l r ts why

-- a tree, of which view tells the parse tree, and the tokens after it
abbrev pub Gives : {X : Type 0} → (X → Forest) → (X → List Token) → ℕ → Rule → List Token → Result X ReadError → Type 0
Gives view after l r ts (Ok x) = Reads l r ts (Read (view x) (after x))
Gives view after l r ts (Err e) = Fails l r ts e

-- the same of a function that needs no memory
abbrev pub Finds : {X : Type 0} → (X → Forest) → (X → List Token) → ℕ → Rule → List Token → Result X Unread → Type 0
Finds view after l r ts (Ok x) = Reads l r ts (Read (view x) (after x))
Finds view after l r ts (Err why) = Stops l r ts why
