-- Which alternative of a plain statement is read, by the next token.
use Rattle.std.proofs.Common.{◌≡◌, Bool, true, false, List, [], ◌∷◌, ◌++◌, ◌||◌, refl, ap, ◌∙◌, ℕ, Option, Some, None, Result, Ok, Err}
use Rattle.c_tree.specs.declared.token.Class.{Class}
use Rattle.c_tree.specs.declared.token.Class.TheVariants as class
use Rattle.c_tree.specs.declared.token.Operator.{Operator}
use Rattle.c_tree.specs.declared.token.Token.{Token}
use Rattle.c_grammar.specs.Grammar.{Rule, Keep, Word, Ref, Either, Maybe, MpiCall, Mark, SimpleStatement, Block, WhileStatement, DoStatement, ForStatement, ReturnStatement, PrintStatement, FreeStatement, assignments, placed, one_of, word, ◌⊳◌, plain_statement}
use Rattle.c_grammar.specs.Meaning.{Forest, none, next_in, starts, begins}
use Rattle.c_grammar.specs.Gives.{Gives}
use Rattle.c_grammar.specs.declared.fault.ReadError.{ReadError}
use Rattle.c_grammar.proofs.Steps.{Passes, fails_from}
use Rattle.c_grammar.specs.Descent.{Reads, Read, Outcome, left, right, yes, no}
use Rattle.c_grammar.proofs.Tables.{apart_test, subset_test, starters, in_starters, in_append, clash, among}
use Rattle.c_grammar.proofs.Viable.{bool_false}
use Rattle.c_grammar.proofs.Words.{word_like}
use Rattle.c_descent.specs.Statements.{holders, leaves}

-- where the next token is of the classes, an alternative that begins with none of them is passed, and one that
-- begins with all of them is taken
pub other : {l : ℕ} {a b : Rule} {ts : List Token} {o : Outcome} (cs : List Class) → apart_test cs (starters a) ≡ true → next_in cs ts ≡ true → Reads l b ts o → Reads l (Either a b) ts o
other {l} {a} {b} {ts} {o} cs test q h = right l a b ts o (in_starters a ts ∙ bool_false _ (clash cs (starters a) test ts q)) h

pub here : {l : ℕ} {a b : Rule} {ts : List Token} {o : Outcome} (cs : List Class) → subset_test cs (starters a) ≡ true → next_in cs ts ≡ true → Reads l a ts o → Reads l (Either a b) ts o
here {l} {a} {b} {ts} {o} cs test q h = left l a b ts o (in_starters a ts ∙ among cs (starters a) test ts q ∙ q) h

-- where it is of none of them, an alternative that begins with nothing else is passed
pub without : {l : ℕ} {a b : Rule} {ts : List Token} {o : Outcome} (cs : List Class) → subset_test (starters a) cs ≡ true → next_in cs ts ≡ false → Reads l b ts o → Reads l (Either a b) ts o
without {l} {a} {b} {ts} {o} cs test q h = right l a b ts o (in_starters a ts ∙ bool_false _ (λ e. let both : next_in cs ts ≡ true = among (starters a) cs test ts e ∙ e in cc)) h

neither : (cs ds : List Class) (ts : List Token) → next_in cs ts ≡ false → next_in ds ts ≡ false → next_in (cs ++ ds) ts ≡ false
neither cs ds ts c d = in_append cs ds ts ∙ (λ i. c i || d i)

-- one class of several
pub word_of : {l : ℕ} {k : Keep} {ts : List Token} {o : Outcome} (cs ds : List Class) → subset_test cs ds ≡ true → next_in cs ts ≡ true → Reads l (Word k cs) ts o → Reads l (Word k ds) ts o
word_of {l} {k} {ts} {o} cs ds test q h = word_like l k cs ds ts o (among cs ds test ts q) h

-- ---- the alternatives

abbrev pub only : Class → List Class
only c = c ∷ []

pub at_empty : {l : ℕ} {ts : List Token} {o : Outcome} → next_in (only class.Semicolon) ts ≡ true → Reads l (placed class.Semicolon) ts o → Reads l plain_statement ts o
at_empty q h = here (only class.Semicolon) refl q h

pub at_break : {l : ℕ} {ts : List Token} {o : Outcome} → next_in (only class.Break) ts ≡ true → Reads l (one_of (class.Break ∷ class.Continue ∷ []) ⊳ word class.Semicolon) ts o → Reads l plain_statement ts o
at_break q h = other (only class.Break) refl q (here (only class.Break) refl q h)

pub at_continue : {l : ℕ} {ts : List Token} {o : Outcome} → next_in (only class.Continue) ts ≡ true → Reads l (one_of (class.Break ∷ class.Continue ∷ []) ⊳ word class.Semicolon) ts o → Reads l plain_statement ts o
at_continue q h = other (only class.Continue) refl q (here (only class.Continue) refl q h)

pub at_block : {l : ℕ} {ts : List Token} {o : Outcome} → next_in (only class.LeftBrace) ts ≡ true → Reads l (Ref Block) ts o → Reads l plain_statement ts o
at_block q h = other (only class.LeftBrace) refl q (other (only class.LeftBrace) refl q (here (only class.LeftBrace) refl q h))

pub at_while : {l : ℕ} {ts : List Token} {o : Outcome} → next_in (only class.While) ts ≡ true → Reads l (Ref WhileStatement) ts o → Reads l plain_statement ts o
at_while q h = other (only class.While) refl q (other (only class.While) refl q (other (only class.While) refl q (here (only class.While) refl q h)))

pub at_do : {l : ℕ} {ts : List Token} {o : Outcome} → next_in (only class.Do) ts ≡ true → Reads l (Ref DoStatement) ts o → Reads l plain_statement ts o
at_do q h = other (only class.Do) refl q (other (only class.Do) refl q (other (only class.Do) refl q (other (only class.Do) refl q (here (only class.Do) refl q h))))

pub at_for : {l : ℕ} {ts : List Token} {o : Outcome} → next_in (only class.For) ts ≡ true → Reads l (Ref ForStatement) ts o → Reads l plain_statement ts o
at_for q h = other (only class.For) refl q (other (only class.For) refl q (other (only class.For) refl q (other (only class.For) refl q (other (only class.For) refl q (here (only class.For) refl q h)))))

pub at_return : {l : ℕ} {ts : List Token} {o : Outcome} → next_in (only class.Return) ts ≡ true → Reads l (Ref ReturnStatement) ts o → Reads l plain_statement ts o
at_return q h = other (only class.Return) refl q (other (only class.Return) refl q (other (only class.Return) refl q (other (only class.Return) refl q (other (only class.Return) refl q (other (only class.Return) refl q (here (only class.Return) refl q h))))))

pub at_print : {l : ℕ} {ts : List Token} {o : Outcome} → next_in (only class.Printf) ts ≡ true → Reads l (Ref PrintStatement) ts o → Reads l plain_statement ts o
at_print q h = other (only class.Printf) refl q (other (only class.Printf) refl q (other (only class.Printf) refl q (other (only class.Printf) refl q (other (only class.Printf) refl q (other (only class.Printf) refl q (other (only class.Printf) refl q (here (only class.Printf) refl q h)))))))

pub at_free : {l : ℕ} {ts : List Token} {o : Outcome} → next_in (only class.Free) ts ≡ true → Reads l (Ref FreeStatement) ts o → Reads l plain_statement ts o
at_free q h = other (only class.Free) refl q (other (only class.Free) refl q (other (only class.Free) refl q (other (only class.Free) refl q (other (only class.Free) refl q (other (only class.Free) refl q (other (only class.Free) refl q (other (only class.Free) refl q (here (only class.Free) refl q h))))))))

pub at_mark : {l : ℕ} {ts : List Token} {o : Outcome} → next_in (begins Mark) ts ≡ true → Reads l (Ref Mark) ts o → Reads l plain_statement ts o
at_mark q h = other (begins Mark) refl q (other (begins Mark) refl q (other (begins Mark) refl q (other (begins Mark) refl q (other (begins Mark) refl q (other (begins Mark) refl q (other (begins Mark) refl q (other (begins Mark) refl q (other (begins Mark) refl q (here (begins Mark) refl q h)))))))))

pub at_call : {l : ℕ} {ts : List Token} {o : Outcome} → next_in (begins MpiCall) ts ≡ true → Reads l (Ref MpiCall ⊳ word class.Semicolon) ts o → Reads l plain_statement ts o
at_call q h = other (begins MpiCall) refl q (other (begins MpiCall) refl q (other (begins MpiCall) refl q (other (begins MpiCall) refl q (other (begins MpiCall) refl q (other (begins MpiCall) refl q (other (begins MpiCall) refl q (other (begins MpiCall) refl q (other (begins MpiCall) refl q (other (begins MpiCall) refl q (here (begins MpiCall) refl q h))))))))))

pub at_simple : {l : ℕ} {ts : List Token} {o : Outcome} → next_in (holders ++ leaves) ts ≡ false → Reads l (Ref SimpleStatement ⊳ word class.Semicolon) ts o → Reads l plain_statement ts o
at_simple q h = without (holders ++ leaves) refl q (without (holders ++ leaves) refl q (without (holders ++ leaves) refl q (without (holders ++ leaves) refl q (without (holders ++ leaves) refl q (without (holders ++ leaves) refl q (without (holders ++ leaves) refl q (without (holders ++ leaves) refl q (without (holders ++ leaves) refl q (without (holders ++ leaves) refl q (without (holders ++ leaves) refl q (h)))))))))))

-- no statement but a simple one begins
pub no_leaf : (ts : List Token) → next_in holders ts ≡ false → next_in (only class.Semicolon) ts ≡ false → next_in (only class.Break) ts ≡ false → next_in (only class.Continue) ts ≡ false → next_in (only class.Return) ts ≡ false → next_in (only class.Printf) ts ≡ false → next_in (only class.Free) ts ≡ false → next_in (begins Mark) ts ≡ false → next_in (begins MpiCall) ts ≡ false → next_in (holders ++ leaves) ts ≡ false
no_leaf ts h s b c r p f m k = neither holders leaves ts h (neither (only class.Semicolon) (class.Break ∷ (class.Continue ∷ (class.Return ∷ (class.Printf ∷ (class.Free ∷ (begins Mark ++ begins MpiCall)))))) ts s (neither (only class.Break) (class.Continue ∷ (class.Return ∷ (class.Printf ∷ (class.Free ∷ (begins Mark ++ begins MpiCall))))) ts b (neither (only class.Continue) (class.Return ∷ (class.Printf ∷ (class.Free ∷ (begins Mark ++ begins MpiCall)))) ts c (neither (only class.Return) (class.Printf ∷ (class.Free ∷ (begins Mark ++ begins MpiCall))) ts r (neither (only class.Printf) (class.Free ∷ (begins Mark ++ begins MpiCall)) ts p (neither (only class.Free) (begins Mark ++ begins MpiCall) ts f (neither (begins Mark) (begins MpiCall) ts m k)))))))

pub no_holder : (ts : List Token) → next_in (only class.LeftBrace) ts ≡ false → next_in (only class.While) ts ≡ false → next_in (only class.Do) ts ≡ false → next_in (only class.For) ts ≡ false → next_in holders ts ≡ false
no_holder ts b w d f = neither (only class.LeftBrace) (class.While ∷ class.Do ∷ class.For ∷ []) ts b (neither (only class.While) (class.Do ∷ class.For ∷ []) ts w (neither (only class.Do) (only class.For) ts d f))

-- ---- what may be left out

pub maybe_left : {l : ℕ} {a b : Rule} {ts : List Token} {o : Outcome} → starts a ts ≡ true → Reads l a ts o → Reads l (Maybe (Either a b)) ts o
maybe_left {l} {a} {b} {ts} {o} q h = yes l (Either a b) ts o (ap (λ (t : Bool). t || starts b ts) q) (left l a b ts o q h)

pub maybe_right : {l : ℕ} {a b : Rule} {ts : List Token} {o : Outcome} → starts a ts ≡ false → starts b ts ≡ true → Reads l b ts o → Reads l (Maybe (Either a b)) ts o
maybe_right {l} {a} {b} {ts} {o} p q h = yes l (Either a b) ts o (ap (λ (t : Bool). t || starts b ts) p ∙ q) (right l a b ts o p h)

pub maybe_neither : {l : ℕ} {a b : Rule} {ts : List Token} → starts a ts ≡ false → starts b ts ≡ false → Reads l (Maybe (Either a b)) ts (Read none ts)
maybe_neither {l} {a} {b} {ts} p q = no l (Either a b) ts (ap (λ (t : Bool). t || starts b ts) p ∙ q)

-- ---- results that are passed on

pub passing : {X : Type 0} (result : Result X ReadError) (view seen : X → Forest) (after : X → List Token) (l : ℕ) (r q : Rule) (ts : List Token) → ((x : X) → Reads l r ts (Read (view x) (after x)) → Reads l q ts (Read (seen x) (after x))) → Passes l q ts l r ts → Gives view after l r ts result → Gives seen after l q ts result
passing (Ok x) view seen after l r q ts good bad h = good x h
passing (Err e) view seen after l r q ts good bad h = fails_from e bad h
