-- Sequences that a function reads as the beginning of a longer one.
use Rattle.std.proofs.Common.{ℕ, List, Result, Ok, Err, sym, subst}
use Rattle.c_tree.specs.declared.token.Token.{Token}
use Rattle.c_grammar.specs.Grammar.{Rule, Then}
use Rattle.c_grammar.specs.Meaning.{Forest, none, ◌+++◌}
use Rattle.c_grammar.specs.Gives.{Gives}
use Rattle.c_grammar.specs.declared.fault.ReadError.{ReadError}
use Rattle.c_grammar.specs.Descent.{Reads, Outcome, Read, Fault, Kind, then_read, then_first, then_second}
use Rattle.c_grammar.proofs.Steps.{forest_assoc, none_right, fails_from}

-- r and c after it, as one sequence
abbrev pub appended : Rule → Rule → Rule
appended (Then a b) c = Then a (appended b c)
appended r c = Then r c

read_on : (l : ℕ) (r c : Rule) (ts us zs : List Token) (f g : Forest) → Reads l r ts (Read f us) → Reads l c us (Read g zs) → Reads l (appended r c) ts (Read (f +++ g) zs)
read_on l (Then a b) c ts us zs _ g (then_read _ _ _ _ vs _ f h x y) w =
    subst (λ (k : Forest). Reads l (Then a (appended b c)) ts (Read k zs)) (sym (forest_assoc f h g)) (then_read l a (appended b c) ts vs zs f (h +++ g) x (read_on l b c vs us zs h g y w))
read_on l r c ts us zs f g x w = then_read l r c ts us zs f g x w

fault_before : (l : ℕ) (r c : Rule) (ts zs : List Token) (k : Kind) → Reads l r ts (Fault k zs) → Reads l (appended r c) ts (Fault k zs)
fault_before l (Then a b) c ts zs k (then_first _ _ _ _ _ _ x) = then_first l a (appended b c) ts zs k x
fault_before l (Then a b) c ts zs k (then_second _ _ _ _ us _ f _ x y) = then_second l a (appended b c) ts us zs f k x (fault_before l b c us zs k y)
fault_before l r c ts zs k x = then_first l r c ts zs k x

fault_on : (l : ℕ) (r c : Rule) (ts us zs : List Token) (f : Forest) (k : Kind) → Reads l r ts (Read f us) → Reads l c us (Fault k zs) → Reads l (appended r c) ts (Fault k zs)
fault_on l (Then a b) c ts us zs _ k (then_read _ _ _ _ vs _ f h x y) w = then_second l a (appended b c) ts vs zs f k x (fault_on l b c vs us zs h k y w)
fault_on l r c ts us zs f k x w = then_second l r c ts us zs f k x w

pub r_more : {l : ℕ} (r : Rule) {c : Rule} {ts us zs : List Token} {f g : Forest} → Reads l r ts (Read f us) → Reads l c us (Read g zs) → Reads l (appended r c) ts (Read (f +++ g) zs)
r_more {l} r {c} {ts} {us} {zs} {f} {g} x w = read_on l r c ts us zs f g x w

-- the same, where nothing is kept of the end
pub r_more_end : {l : ℕ} (r : Rule) {c : Rule} {ts us zs : List Token} {f : Forest} → Reads l r ts (Read f us) → Reads l c us (Read none zs) → Reads l (appended r c) ts (Read f zs)
r_more_end {l} r {c} {ts} {us} {zs} {f} x w = subst (λ (h : Forest). Reads l (appended r c) ts (Read h zs)) (none_right f) (read_on l r c ts us zs f none x w)

pub f_more : {l : ℕ} (r : Rule) {c : Rule} {ts us zs : List Token} {f : Forest} {k : Kind} → Reads l r ts (Read f us) → Reads l c us (Fault k zs) → Reads l (appended r c) ts (Fault k zs)
f_more {l} r {c} {ts} {us} {zs} {f} {k} x w = fault_on l r c ts us zs f k x w

pub f_before : {l : ℕ} (r c : Rule) {ts zs : List Token} {k : Kind} → Reads l r ts (Fault k zs) → Reads l (appended r c) ts (Fault k zs)
f_before {l} r c {ts} {zs} {k} x = fault_before l r c ts zs k x

-- what a call gives that is passed on
pub passes : {X : Type 0} (view : X → Forest) (after : X → List Token) {l m : ℕ} {r q : Rule} {ts us : List Token} (o : Result X ReadError) → ((x : Outcome) → Reads m q us x → Reads l r ts x) → Gives view after m q us o → Gives view after l r ts o
passes {X} view after {l} {m} {r} {q} {ts} {us} (Ok x) p h = p (Read (view x) (after x)) h
passes {X} view after {l} {m} {r} {q} {ts} {us} (Err e) p h = fails_from e (λ k zs. p (Fault k zs)) h
