-- The grammar's meaning as a textbook has it: no choice looks at a token, but that an option is left out only where the
-- next token can't begin it, so an else belongs to the nearest if.
use Rattle.std.specs.Prelude.{ℕ, suc, ◌≡◌, ◌↔◌, List, [], ◌∷◌, ◌++◌, true, false}
use Rattle.c_tree.specs.declared.token.Class.{Class}
use Rattle.c_tree.specs.declared.token.Token.{Token}
use Rattle.c_tree.specs.Codes.{code}
use Rattle.c_grammar.specs.Grammar.{Part, Program, Keep, Rule, Word, Ref, Then, Either, Many, Maybe, Deeper, rule}
use Rattle.c_grammar.specs.Meaning.{Forest, none, node, ◌+++◌, kept, starts, has, Spelled, tokens}
use Rattle.c_grammar.specs.Program.{IsProgram}

-- at level l the rule r spells the tokens, with this parse tree, before the tokens rest
pub data Spells : ℕ → Rule → Forest → List Spelled → List Token → Type 0 where
  s_word : (l : ℕ) (k : Keep) (cs : List Class) (t : Token) (rest : List Token) → has cs (code t.class) ≡ true → Spells l (Word k cs) (kept k t) (record { token = t; level = l } ∷ []) rest
  s_ref : (l : ℕ) (p : Part) (f : Forest) (ss : List Spelled) (rest : List Token) → Spells l (rule p) f ss rest → Spells l (Ref p) (node p f none) ss rest
  s_then : (l : ℕ) (a b : Rule) (f g : Forest) (ss zs : List Spelled) (rest : List Token) → Spells l a f ss (tokens zs ++ rest) → Spells l b g zs rest → Spells l (Then a b) (f +++ g) (ss ++ zs) rest
  s_left : (l : ℕ) (a b : Rule) (f : Forest) (ss : List Spelled) (rest : List Token) → Spells l a f ss rest → Spells l (Either a b) f ss rest
  s_right : (l : ℕ) (a b : Rule) (f : Forest) (ss : List Spelled) (rest : List Token) → Spells l b f ss rest → Spells l (Either a b) f ss rest
  s_stop : (l : ℕ) (r : Rule) (rest : List Token) → Spells l (Many r) none [] rest
  s_go : (l : ℕ) (r : Rule) (f : Forest) (ss : List Spelled) (rest : List Token) → Spells l (Then r (Many r)) f ss rest → Spells l (Many r) f ss rest
  s_no : (l : ℕ) (r : Rule) (rest : List Token) → starts r rest ≡ false → Spells l (Maybe r) none [] rest
  s_yes : (l : ℕ) (r : Rule) (f : Forest) (ss : List Spelled) (rest : List Token) → Spells l r f ss rest → Spells l (Maybe r) f ss rest
  s_deeper : (l : ℕ) (r : Rule) (f : Forest) (ss : List Spelled) (rest : List Token) → Spells (suc l) r f ss rest → Spells l (Deeper r) f ss rest

-- both meanings are one
abbrev pub IsTextbook : Type 0
IsTextbook = (f : Forest) (ss : List Spelled) → IsProgram f ss ↔ Spells 0 (Ref Program) f ss []
