-- What a parser by descent with one token of memory does with a rule. Internal: the public contract does not name it.
use Rattle.std.specs.Prelude.{ℕ, suc, ◌≡◌, List, ◌∷◌, true, false, Some, None}
use Rattle.c_tree.specs.declared.token.Class.{Class}
use Rattle.c_tree.specs.declared.token.Token.{Token}
use Rattle.c_grammar.specs.Grammar.{Part, Keep, Rule, Word, Ref, Then, Either, Many, Maybe, Deeper, rule}
use Rattle.c_grammar.specs.Meaning.{Forest, none, node, ◌+++◌, kept, next_in, starts, Reason, refused}

-- a fault: a token that fits nowhere, or one that is refused
pub data Kind : Type 0 where
  Bad : Kind
  Unfit : Reason → Kind

-- the parse tree and the tokens after it, or a fault and the tokens from it on
pub data Outcome : Type 0 where
  Read : Forest → List Token → Outcome
  Fault : Kind → List Token → Outcome

-- what comes of a rule at level l before these tokens
pub data Reads : ℕ → Rule → List Token → Outcome → Type 0 where
  word_read : (l : ℕ) (k : Keep) (cs : List Class) (t : Token) (ts : List Token) → next_in cs (t ∷ ts) ≡ true → refused l t ≡ None → Reads l (Word k cs) (t ∷ ts) (Read (kept k t) ts)
  word_unfit : (l : ℕ) (k : Keep) (cs : List Class) (t : Token) (ts : List Token) (w : Reason) → next_in cs (t ∷ ts) ≡ true → refused l t ≡ Some w → Reads l (Word k cs) (t ∷ ts) (Fault (Unfit w) (t ∷ ts))
  word_bad : (l : ℕ) (k : Keep) (cs : List Class) (ts : List Token) → next_in cs ts ≡ false → Reads l (Word k cs) ts (Fault Bad ts)
  ref_read : (l : ℕ) (p : Part) (ts zs : List Token) (f : Forest) → Reads l (rule p) ts (Read f zs) → Reads l (Ref p) ts (Read (node p f none) zs)
  ref_fault : (l : ℕ) (p : Part) (ts zs : List Token) (k : Kind) → Reads l (rule p) ts (Fault k zs) → Reads l (Ref p) ts (Fault k zs)
  then_read : (l : ℕ) (a b : Rule) (ts us zs : List Token) (f g : Forest) → Reads l a ts (Read f us) → Reads l b us (Read g zs) → Reads l (Then a b) ts (Read (f +++ g) zs)
  then_first : (l : ℕ) (a b : Rule) (ts zs : List Token) (k : Kind) → Reads l a ts (Fault k zs) → Reads l (Then a b) ts (Fault k zs)
  then_second : (l : ℕ) (a b : Rule) (ts us zs : List Token) (f : Forest) (k : Kind) → Reads l a ts (Read f us) → Reads l b us (Fault k zs) → Reads l (Then a b) ts (Fault k zs)
  left : (l : ℕ) (a b : Rule) (ts : List Token) (o : Outcome) → starts a ts ≡ true → Reads l a ts o → Reads l (Either a b) ts o
  right : (l : ℕ) (a b : Rule) (ts : List Token) (o : Outcome) → starts a ts ≡ false → Reads l b ts o → Reads l (Either a b) ts o
  stop : (l : ℕ) (r : Rule) (ts : List Token) → starts r ts ≡ false → Reads l (Many r) ts (Read none ts)
  go : (l : ℕ) (r : Rule) (ts : List Token) (o : Outcome) → starts r ts ≡ true → Reads l (Then r (Many r)) ts o → Reads l (Many r) ts o
  no : (l : ℕ) (r : Rule) (ts : List Token) → starts r ts ≡ false → Reads l (Maybe r) ts (Read none ts)
  yes : (l : ℕ) (r : Rule) (ts : List Token) (o : Outcome) → starts r ts ≡ true → Reads l r ts o → Reads l (Maybe r) ts o
  deeper : (l : ℕ) (r : Rule) (ts : List Token) (o : Outcome) → Reads (suc l) r ts o → Reads l (Deeper r) ts o
