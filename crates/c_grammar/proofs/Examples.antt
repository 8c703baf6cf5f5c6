-- The descent, computed on small lists of tokens.
use Rattle.std.proofs.Common.{◌≡◌, ℕ, zero, suc, Bool, true, false, List, [], ◌∷◌, ◌++◌, refl, length, Option, Some, None}
use Rattle.c_tree.specs.declared.token.Class.{Class}
use Rattle.c_tree.specs.declared.token.Class.TheVariants as class
use Rattle.c_tree.specs.declared.token.Operator.TheVariants as operator
use Rattle.c_tree.specs.declared.token.Call.TheVariants as call
use Rattle.c_tree.specs.declared.token.Token.{Token}
use Rattle.c_tree.specs.declared.token.Value.TheVariants as value
use Rattle.c_tree.specs.Codes.{code}
use Rattle.c_grammar.specs.Grammar.{Part, Program, PlainStatement, IfStatement, ElsePart, Statement, Expression, Binary, Unary, Keep, Rule, Word, Ref, Then, Either, Many, Maybe, Deeper, rule}
use Rattle.c_grammar.specs.Meaning.{Forest, none, leaf, node, ◌+++◌, kept, has, starts, Reason, TooDeep, TooLarge, refused}
use Rattle.c_grammar.specs.Descent.{Reads, Read, Fault, Kind, Bad, Unfit, Outcome, word_read, word_unfit, word_bad, ref_read, ref_fault, then_read, then_first, then_second, left, right, stop, go, no, yes, deeper}

abbrev unfit_or : Option Reason → Forest → Token → List Token → Outcome
unfit_or None f t ts = Read f ts
unfit_or (Some w) f t ts = Fault (Unfit w) (t ∷ ts)

abbrev word_step : ℕ → Keep → List Class → List Token → Outcome
word_step l k cs [] = Fault Bad []
word_step l k cs (t ∷ ts) = elim (has cs (code t.class)) as (λ _. Outcome) [ true ↦ unfit_or (refused l t) (kept k t) t ts | false ↦ Fault Bad (t ∷ ts) ]

abbrev put_node : Part → Option Outcome → Option Outcome
put_node p (Some (Read f zs)) = Some (Read (node p f none) zs)
put_node p o = o

abbrev put_before : Forest → Option Outcome → Option Outcome
put_before f (Some (Read g zs)) = Some (Read (f +++ g) zs)
put_before f o = o

abbrev and_then : Option Outcome → (List Token → Option Outcome) → Option Outcome
and_then (Some (Read f us)) next = put_before f (next us)
and_then o next = o

-- what a descent in at most so many steps gives
abbrev descend : ℕ → ℕ → Rule → List Token → Option Outcome
descend zero l r ts = None
descend (suc k) l (Word keep cs) ts = Some (word_step l keep cs ts)
descend (suc k) l (Ref p) ts = put_node p (descend k l (rule p) ts)
descend (suc k) l (Then a b) ts = and_then (descend k l a ts) (λ us. descend k l b us)
descend (suc k) l (Either a b) ts = elim (starts a ts) as (λ _. Option Outcome) [ true ↦ descend k l a ts | false ↦ descend k l b ts ]
descend (suc k) l (Many r) ts = elim (starts r ts) as (λ _. Option Outcome) [ true ↦ descend k l (Then r (Many r)) ts | false ↦ Some (Read none ts) ]
descend (suc k) l (Maybe r) ts = elim (starts r ts) as (λ _. Option Outcome) [ true ↦ descend k l r ts | false ↦ Some (Read none ts) ]
descend (suc k) l (Deeper r) ts = descend k (suc l) r ts

-- so much of it is right
abbrev Right : ℕ → Rule → List Token → Option Outcome → Type 0
Right l r ts None = Unit {0}
Right l r ts (Some o) = Reads l r ts o

word_right : (l : ℕ) (k : Keep) (cs : List Class) (ts : List Token) → Reads l (Word k cs) ts (word_step l k cs ts)
word_right l k cs [] = word_bad l k cs [] refl
word_right l k cs (t ∷ ts) = by (has cs (code t.class)) (refused l t) refl refl
  where
    by : (b : Bool) (o : Option Reason) → has cs (code t.class) ≡ b → refused l t ≡ o → Reads l (Word k cs) (t ∷ ts) (elim b as (λ _. Outcome) [ true ↦ unfit_or o (kept k t) t ts | false ↦ Fault Bad (t ∷ ts) ])
    by true None e q = word_read l k cs t ts e q
    by true (Some w) e q = word_unfit l k cs t ts w e q
    by false o e q = word_bad l k cs (t ∷ ts) e

ref_right : (l : ℕ) (p : Part) (ts : List Token) (o : Option Outcome) → Right l (rule p) ts o → Right l (Ref p) ts (put_node p o)
ref_right l p ts None h = tt
ref_right l p ts (Some (Read f zs)) h = ref_read l p ts zs f h
ref_right l p ts (Some (Fault k zs)) h = ref_fault l p ts zs k h

before_right : (l : ℕ) (a b : Rule) (ts us : List Token) (f : Forest) (o : Option Outcome) → Reads l a ts (Read f us) → Right l b us o → Right l (Then a b) ts (put_before f o)
before_right l a b ts us f None x h = tt
before_right l a b ts us f (Some (Read g zs)) x h = then_read l a b ts us zs f g x h
before_right l a b ts us f (Some (Fault k zs)) x h = then_second l a b ts us zs f k x h

then_right : (l : ℕ) (a b : Rule) (ts : List Token) (o : Option Outcome) (next : List Token → Option Outcome) → Right l a ts o → ((us : List Token) → Right l b us (next us)) → Right l (Then a b) ts (and_then o next)
then_right l a b ts None next h q = tt
then_right l a b ts (Some (Read f us)) next h q = before_right l a b ts us f (next us) h (q us)
then_right l a b ts (Some (Fault k zs)) next h q = then_first l a b ts zs k h

some_right : (l m : ℕ) (q r : Rule) (ts : List Token) (o : Option Outcome) → ((x : Outcome) → Reads l q ts x → Reads m r ts x) → Right l q ts o → Right m r ts o
some_right l m q r ts None w h = tt
some_right l m q r ts (Some o) w h = w o h

either_right : (l : ℕ) (a b : Rule) (ts : List Token) (x y : Option Outcome) (t : Bool) → starts a ts ≡ t → Right l a ts x → Right l b ts y → Right l (Either a b) ts (elim t as (λ _. Option Outcome) [ true ↦ x | false ↦ y ])
either_right l a b ts x y true e p q = some_right l l a (Either a b) ts x (λ o h. left l a b ts o e h) p
either_right l a b ts x y false e p q = some_right l l b (Either a b) ts y (λ o h. right l a b ts o e h) q

many_right : (l : ℕ) (r : Rule) (ts : List Token) (x : Option Outcome) (t : Bool) → starts r ts ≡ t → Right l (Then r (Many r)) ts x → Right l (Many r) ts (elim t as (λ _. Option Outcome) [ true ↦ x | false ↦ Some (Read none ts) ])
many_right l r ts x true e p = some_right l l (Then r (Many r)) (Many r) ts x (λ o h. go l r ts o e h) p
many_right l r ts x false e p = stop l r ts e

maybe_right : (l : ℕ) (r : Rule) (ts : List Token) (x : Option Outcome) (t : Bool) → starts r ts ≡ t → Right l r ts x → Right l (Maybe r) ts (elim t as (λ _. Option Outcome) [ true ↦ x | false ↦ Some (Read none ts) ])
maybe_right l r ts x true e p = some_right l l r (Maybe r) ts x (λ o h. yes l r ts o e h) p
maybe_right l r ts x false e p = no l r ts e

descend_right : (k l : ℕ) (r : Rule) (ts : List Token) → Right l r ts (descend k l r ts)
descend_right zero l r ts = tt
descend_right (suc k) l (Word keep cs) ts = word_right l keep cs ts
descend_right (suc k) l (Ref p) ts = ref_right l p ts _ (descend_right k l (rule p) ts)
descend_right (suc k) l (Then a b) ts = then_right l a b ts _ _ (descend_right k l a ts) (λ us. descend_right k l b us)
descend_right (suc k) l (Either a b) ts = either_right l a b ts _ _ (starts a ts) refl (descend_right k l a ts) (descend_right k l b ts)
descend_right (suc k) l (Many r) ts = many_right l r ts _ (starts r ts) refl (descend_right k l (Then r (Many r)) ts)
descend_right (suc k) l (Maybe r) ts = maybe_right l r ts _ (starts r ts) refl (descend_right k l r ts)
descend_right (suc k) l (Deeper r) ts = some_right (suc l) l r (Deeper r) ts _ (λ o h. deeper l r ts o h) (descend_right k (suc l) r ts)

-- ---- examples

abbrev words : List Class → List Token
words [] = []
words (c ∷ cs) = record { class = c; value = value.Nothing; place = 0 } ∷ words cs

abbrev shown : Class → Forest
shown c = leaf c value.Nothing 0 none

-- the name x as an expression
abbrev grades : ℕ → Forest → Forest
grades zero f = f
grades (suc g) f = node (Binary g) (grades g f) none

abbrev test : Forest
test = node Expression (grades 10 (node Unary (leaf class.Name (value.Bytes []) 0 none) none)) none

abbrev if_tree : Forest → Forest → Forest
if_tree then_part else_part = node Statement (node IfStatement (shown class.If +++ (test +++ (then_part +++ node ElsePart else_part none))) none) none

abbrev plain : Forest
plain = node PlainStatement (shown class.Semicolon) none

abbrev if_x : List Class
if_x = class.If ∷ class.LeftParen ∷ class.Name ∷ class.RightParen ∷ []

-- if (x) if (x) ; else ;
nearest : Reads 2 (Ref Statement) (words (if_x ++ (if_x ++ (class.Semicolon ∷ class.Else ∷ class.Semicolon ∷ [])))) (Read (if_tree (if_tree (node Statement plain none) plain) none) [])
nearest = descend_right 100 2 (Ref Statement) (words (if_x ++ (if_x ++ (class.Semicolon ∷ class.Else ∷ class.Semicolon ∷ []))))

-- int main() { cs }
abbrev running : List Class → List Token
running cs = words (class.Int ∷ class.Name ∷ class.LeftParen ∷ class.RightParen ∷ class.LeftBrace ∷ (cs ++ (class.RightBrace ∷ [])))

abbrev returning : List Class → List Token
returning cs = running (class.Return ∷ (cs ++ (class.Semicolon ∷ [])))

-- the class in so many parentheses, after so many minuses, and the statement in so many blocks
abbrev deep : ℕ → Class → List Class
deep zero c = c ∷ []
deep (suc n) c = class.LeftParen ∷ (deep n c ++ (class.RightParen ∷ []))

abbrev minuses : ℕ → List Class
minuses zero = class.Name ∷ []
minuses (suc n) = class.Sign operator.Minus ∷ minuses n

abbrev blocks : ℕ → List Class → List Class
blocks zero cs = cs
blocks (suc n) cs = class.LeftBrace ∷ (blocks n cs ++ (class.RightBrace ∷ []))

-- if (x) ; else if (x) ; .. else ;
abbrev chain : ℕ → List Class
chain zero = class.Semicolon ∷ []
chain (suc n) = if_x ++ (class.Semicolon ∷ class.Else ∷ chain n)

-- a program, or its first fault with the number of tokens from there on
data Verdict : Type 0 where
  Whole : Verdict
  At : Kind → ℕ → Verdict
  Undecided : Verdict

abbrev verdict : Option Outcome → Verdict
verdict (Some (Read f [])) = Whole
verdict (Some (Read f (t ∷ ts))) = At Bad (length (t ∷ ts))
verdict (Some (Fault k zs)) = At k (length zs)
verdict None = Undecided

abbrev judged : List Token → Verdict
judged ts = verdict (descend 3000 0 (Ref Program) ts)

at_limit : judged (returning (deep 62 class.Number)) ≡ Whole
at_limit = refl

below_limit : judged (returning (deep 63 class.Number)) ≡ At (Unfit TooDeep) 66
below_limit = refl

large : judged (returning (class.HugeNumber ∷ [])) ≡ At (Unfit TooLarge) 3
large = refl

deep_first : judged (returning (deep 63 class.HugeNumber)) ≡ At (Unfit TooDeep) 66
deep_first = refl

syntax_first : judged (returning (class.Name ∷ class.HugeNumber ∷ [])) ≡ At Bad 3
syntax_first = refl

too_early : judged (words (class.Int ∷ class.Name ∷ [])) ≡ At Bad 0
too_early = refl

-- the operand of - is deeper, that of ++ is not
minus_limit : judged (returning (minuses 62)) ≡ Whole
minus_limit = refl

below_minus : judged (returning (minuses 63)) ≡ At (Unfit TooDeep) 3
below_minus = refl

step_limit : judged (running (class.PlusPlus ∷ (deep 62 class.Name ++ (class.Semicolon ∷ [])))) ≡ Whole
step_limit = refl

-- an item is deeper than its block, and a name that MPI_Init takes is two levels above the call
block_limit : judged (running (blocks 62 (class.Semicolon ∷ []))) ≡ Whole
block_limit = refl

below_block : judged (running (blocks 63 (class.Semicolon ∷ []))) ≡ At (Unfit TooDeep) 65
below_block = refl

abbrev init : List Class
init = class.Mpi call.Init ∷ class.LeftParen ∷ class.Sign operator.And ∷ class.Name ∷ class.Comma ∷ class.Sign operator.And ∷ class.Name ∷ class.RightParen ∷ class.Semicolon ∷ []

init_limit : judged (running (blocks 60 init)) ≡ Whole
init_limit = refl

below_init : judged (running (blocks 61 init)) ≡ At (Unfit TooDeep) 68
below_init = refl

-- an else if goes on with its chain, and no deeper; an else ends it
long_chain : judged (running (chain 80)) ≡ Whole
long_chain = refl

second_else : judged (running (chain 2 ++ (class.Else ∷ class.Semicolon ∷ []))) ≡ At Bad 3
second_else = refl
