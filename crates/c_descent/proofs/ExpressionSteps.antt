-- Steps of expressions.
use Rattle.std.proofs.Common.{◌≡◌, ◌∙◌, ◌≤◌, ◌<◌, ◌-◌, ℕ, zero, suc, Result, Ok, Err, List, [], ◌∷◌, ◌++◌, refl, sym, ap, subst, arith}
use Rattle.c_tree.specs.declared.token.Token.{Token}
use Rattle.c_tree.specs.declared.tree.Expr.{Expr}
use Rattle.c_grammar.specs.declared.fault.ReadError.{ReadError}
use Rattle.c_grammar.specs.declared.fault.ReadError.TheVariants as error
use Rattle.c_grammar.specs.declared.fault.Unread.{Unread}
use Rattle.c_grammar.specs.Grammar.{Rule, Ref, Word, Kind, Many, Binary, Unary, Expression, binary, operand, operators, ◌⊳◌}
use Rattle.c_grammar.specs.Meaning.{Forest, none, node, ◌+++◌}
use Rattle.c_grammar.specs.Descent.{Reads, Read, Fault, Outcome}
use Rattle.c_grammar.specs.Descent as descent
use Rattle.c_grammar.specs.Gives.{Stops, Fails, Gives}
use Rattle.c_grammar.specs.Trees.{Shape, shape, whole, at_grade, lifted, each}
use Rattle.c_grammar.specs.Trees as trees
use Rattle.c_grammar.proofs.Grades.{whole_lift, each_push}
use Rattle.c_grammar.proofs.Steps.{Past, r_same, r_ref, f_ref, r_seq, f_first, f_second, fails_from, none_right, forest_assoc}
use Rattle.std.specs.Result.{IsErrAnd}
use Rattle.std.proofs.lemmas.Result.{err_from_is_err_and}
use Rattle.c_descent.specs.More.{GivesMore, FirstOf}
use Rattle.c_grammar.specs.Readers.{grade}
use Rattle.c_tree.specs.declared.tree.Link.{Link}

-- ---- nodes

-- what was read is the row of the node made of it
pub r_row : {l : ℕ} {r : Rule} {ts us : List Token} {f : Forest} (x : Expr) → Reads l r ts (Read f us) → shape x ≡ trees.operand f → Reads l r ts (Read (shape x).row us)
r_row x h e = r_same h (sym (ap (λ (s : Shape). s.row) e))

-- an operand's row in its node
pub unary_alone : (s : Shape) → s.grade ≡ 0 → node Unary s.row none ≡ at_grade 0 s
unary_alone s e = subst (λ (g : ℕ). node Unary s.row none ≡ lifted (0 - g) g s.row) (sym e) refl

-- an expression that is no choice
pub whole_alone : (s : Shape) → s.grade ≤ 10 → node Expression (at_grade 10 s +++ none) none ≡ whole s
whole_alone s low = ap (λ (row : Forest). node Expression row none) (none_right (at_grade 10 s)) ∙ sym (whole_lift s low)

-- ---- chains

binary_rule : (g : ℕ) → g < 10 → binary g ≡ (operand g ⊳ Many (Word Kind (operators g) ⊳ operand g))
binary_rule zero b = refl
binary_rule (suc zero) b = refl
binary_rule (suc (suc zero)) b = refl
binary_rule (suc (suc (suc zero))) b = refl
binary_rule (suc (suc (suc (suc zero)))) b = refl
binary_rule (suc (suc (suc (suc (suc zero))))) b = refl
binary_rule (suc (suc (suc (suc (suc (suc zero)))))) b = refl
binary_rule (suc (suc (suc (suc (suc (suc (suc zero))))))) b = refl
binary_rule (suc (suc (suc (suc (suc (suc (suc (suc zero)))))))) b = refl
binary_rule (suc (suc (suc (suc (suc (suc (suc (suc (suc zero))))))))) b = refl
binary_rule (suc (suc (suc (suc (suc (suc (suc (suc (suc (suc g)))))))))) b = absurd (omega arith)

pub r_binary : {l : ℕ} {ts us zs : List Token} {f h tree : Forest} (g : ℕ) → g < 10 → Reads l (operand g) ts (Read f us) → Reads l (Many (Word Kind (operators g) ⊳ operand g)) us (Read h zs) → tree ≡ node (Binary g) (f +++ h) none → Reads l (Ref (Binary g)) ts (Read tree zs)
r_binary {l} {ts} {us} {zs} {f} {h} g small x y same =
    r_same (r_ref (subst (λ (r : Rule). Reads l r ts (Read (f +++ h) zs)) (sym (binary_rule g small)) (r_seq x y))) (sym same)

pub f_binary_first : {l : ℕ} {ts zs : List Token} {k : descent.Kind} (g : ℕ) → g < 10 → Reads l (operand g) ts (Fault k zs) → Reads l (Ref (Binary g)) ts (Fault k zs)
f_binary_first {l} {ts} {zs} {k} g small x = f_ref (subst (λ (r : Rule). Reads l r ts (Fault k zs)) (sym (binary_rule g small)) (f_first x))

pub f_binary_second : {l : ℕ} {ts us zs : List Token} {f : Forest} {k : descent.Kind} (g : ℕ) → g < 10 → Reads l (operand g) ts (Read f us) → Reads l (Many (Word Kind (operators g) ⊳ operand g)) us (Fault k zs) → Reads l (Ref (Binary g)) ts (Fault k zs)
f_binary_second {l} {ts} {us} {zs} {f} {k} g small x y = f_ref (subst (λ (r : Rule). Reads l r ts (Fault k zs)) (sym (binary_rule g small)) (f_second x y))

-- ---- results that are passed on

-- what reads more after a tree, where the tree was read
pub more_after : {X : Type 0} (view : X → Forest) (after : X → List Token) (front f : Forest) {l : ℕ} {r q : Rule} {ts us : List Token} (o : Result X ReadError) → front ≡ f → ((g : Forest) (zs : List Token) → Reads l r us (Read g zs) → Reads l q ts (Read (f +++ g) zs)) → ((k : descent.Kind) (zs : List Token) → Reads l r us (Fault k zs) → Reads l q ts (Fault k zs)) → GivesMore view after front l r us o → Gives view after l q ts o
more_after view after front f (Ok x) same reads fails h = r_same (reads h.0 (after x) h.2) (sym (h.1 ∙ ap (λ (w : Forest). w +++ h.0) same))
more_after view after front f (Err e) same reads fails h = fails_from e fails h

-- the same where the tree itself is joined to one that was read before
pub more_more : {X : Type 0} (view : X → Forest) (after : X → List Token) (front back f : Forest) {l : ℕ} {r q : Rule} {ts us : List Token} (o : Result X ReadError) → back ≡ front +++ f → ((g : Forest) (zs : List Token) → Reads l r us (Read g zs) → Reads l q ts (Read (f +++ g) zs)) → ((k : descent.Kind) (zs : List Token) → Reads l r us (Fault k zs) → Reads l q ts (Fault k zs)) → GivesMore view after back l r us o → GivesMore view after front l q ts o
more_more view after front back f (Ok x) same reads fails h = (f +++ h.0, h.1 ∙ ap (λ (w : Forest). w +++ h.0) same ∙ forest_assoc front f h.0, reads h.0 (after x) h.2)
more_more view after front back f (Err e) same reads fails h = fails_from e fails h

-- what `?` returns there
pub more_passed_on : {X : Type 0} (view : X → Forest) (after : X → List Token) (front : Forest) (l : ℕ) (r : Rule) (ts : List Token) (e : ReadError) (o : Result X ReadError) → IsErrAnd o (λ y. y ≡ e) → Fails l r ts e → GivesMore view after front l r ts o
more_passed_on {X} view after front l r ts e o h f =
    let p = err_from_is_err_and o h in
    subst (λ (w : Result X ReadError). GivesMore view after front l r ts w) (sym p.1) (subst (λ (w : ReadError). Fails l r ts w) (sym p.2) f)

-- the same of a fault
pub more_stop_passed_on : {X : Type 0} (view : X → Forest) (after : X → List Token) (front : Forest) (l : ℕ) (r : Rule) (ts : List Token) (e : Unread) (o : Result X ReadError) → IsErrAnd o (λ y. y ≡ error.Unread e) → Stops l r ts e → GivesMore view after front l r ts o
more_stop_passed_on view after front l r ts e = more_passed_on view after front l r ts (error.Unread e)

-- an operand of a grade
pub gives_operand : {A : Type 0} (after : Expr × A → List Token) (g h l : ℕ) (ts : List Token) (o : Result (Expr × A) ReadError) → g ≡ h → Gives (λ x. at_grade h (shape x.0)) after l (operand h) ts o → Gives (λ x. at_grade g (shape x.0)) after l (operand g) ts o
gives_operand {A} after g h l ts o e = subst (λ (n : ℕ). Gives {X = Expr × A} (λ x. at_grade n (shape x.0)) after l (operand n) ts o) (sym e)

-- an alternative of an operand
pub gives_unary : {A : Type 0} (after : Expr × A → List Token) {l : ℕ} {r : Rule} {ts : List Token} (o : Result (Expr × A) ReadError) → ((w : Outcome) → Reads l r ts w → Reads l (Rattle.c_grammar.specs.Grammar.unary) ts w) → Gives (λ x. (shape x.0).row) after l r ts o → Rattle.std.specs.Prelude.IfOk o (λ x. trees.grade_of x.0 ≡ 0) → Gives (λ x. trees.unary_tree x.0) after l (Ref Unary) ts o
gives_unary after (Ok x) passes h low = r_same (r_ref (passes _ h)) (unary_alone (shape x.0) low)
gives_unary after (Err e) passes h low = fails_from e (λ k zs w. f_ref (passes _ w)) h

-- ---- rows that grow

-- one more after a row that began with another
pub row_more : (row front f g more : Forest) → more ≡ row +++ g → row ≡ front +++ f → more ≡ front +++ (f +++ g)
row_more row front f g more e h = e ∙ ap (λ (w : Forest). w +++ g) h ∙ forest_assoc front f g

-- a list with one more
pub row_push : {X : Type 0} (row : X → Forest) (xs ys : List X) (x : X) → ys ≡ xs ++ x ∷ [] → each row ys ≡ each row xs +++ row x
row_push row xs ys x e = ap (each row) e ∙ each_push row xs x

-- a list of one
pub row_one : {X : Type 0} (row : X → Forest) (xs ys : List X) (x : X) → xs ≡ [] → ys ≡ xs ++ x ∷ [] → each row ys ≡ row x
row_one row xs ys x e h = row_push row xs ys x h ∙ ap (λ zs. each row zs +++ row x) e

pub past_same : {l : ℕ} {r : Rule} {ts us : List Token} {f g : Forest} → Past l r ts us f → g ≡ f → Past l r ts us g
past_same {l} {r} {ts} {us} p e = subst (λ (w : Forest). Past l r ts us w) (sym e) p

-- a link more has the grade where it is the first
pub first_push : (g : ℕ) (links : List (Link Expr)) (link : Link Expr) → FirstOf g links → grade link.operator ≡ g → FirstOf g (links ++ link ∷ [])
first_push g [] link h e = e
first_push g (l ∷ links) link h e = h
