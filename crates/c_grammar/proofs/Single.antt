-- An expression's row, back from its parse tree.
use Rattle.std.proofs.Common.{◌≡◌, refl, ap, ◌∙◌, sym, subst, ℕ, zero, suc, ◌+◌, ◌-◌, ◌≤◌, ◌<◌, [], ◌∷◌, Bool, true, false, not, ◌&&◌, nat_eq, arith}
use Rattle.std.proofs.lemmas.Bool.{ne_eqb}
use Rattle.c_tree.specs.declared.token.Class.{Class}
use Rattle.c_tree.specs.declared.token.Value.{Value}
use Rattle.c_tree.specs.declared.tree.Expr.{Expr}
use Rattle.c_tree.specs.declared.tree.Expr.TheFolds.{map-Expr, fold_out-Expr}
use Rattle.c_tree.specs.declared.tree.Expr.TheOpen.{Expr-F}
use Rattle.c_tree.specs.declared.tree.Expr.TheViews.{out-Expr}
use Rattle.c_tree.specs.declared.tree.Primary.{Primary}
use Rattle.c_tree.specs.declared.tree.Primary.TheVariants as primary
use Rattle.c_grammar.specs.Grammar as part
use Rattle.c_grammar.specs.Grammar.{Part}
use Rattle.c_grammar.specs.Meaning.{Forest, none, leaf, node, ◌+++◌}
use Rattle.c_grammar.specs.Trees.{Shape, shape, shape_step, primary_row, part_of, lifted, at_grade, chain_grade}

-- the part of a chain without a link
abbrev pub is_bare : Part → Bool
is_bare (part.Binary g) = nat_eq g 11
is_bare _ = false

-- one node
abbrev pub is_single : Forest → Bool
is_single none = false
is_single (leaf c v p rest) = false
is_single (node p kids none) = true
is_single (node p kids (leaf c v q rest)) = false
is_single (node p kids (node q k rest)) = false

-- the row below the nodes around it
abbrev pub strip : Forest → Forest
strip none = none
strip (leaf c v p rest) = none
strip (node p kids rest) = elim (not (is_bare p) && is_single kids) as (λ _. Forest) [ true ↦ strip kids | false ↦ kids ]

abbrev Own : Shape → Type 0
Own s = (not (is_bare (part_of s.grade)) && is_single s.row) ≡ false

not_bare : (n : ℕ) → n ≤ 11 → is_bare (part_of n) ≡ false
not_bare zero small = refl
not_bare (suc n) small = go (nat_eq n 10) (ne_eqb n 11 (λ e. absurd (omega arith)))
  where
    go : (b : Bool) → nat_eq n 11 ≡ false → is_bare (elim b as (λ _. Part) [ true ↦ part.Expression | false ↦ part.Binary n ]) ≡ false
    go true h = refl
    go false h = h

single_lifted : (k g : ℕ) (row : Forest) → is_single (lifted k g row) ≡ true
single_lifted zero g row = refl
single_lifted (suc k) g row = refl

abbrev choose : Forest → Bool → Forest
choose kids b = elim b as (λ _. Forest) [ true ↦ strip kids | false ↦ kids ]

strip_lifted : (k : ℕ) (s : Shape) → (0 < k → k + s.grade ≤ 11) → Own s → strip (lifted k s.grade s.row) ≡ s.row
strip_lifted zero s small own = ap (choose s.row) own
strip_lifted (suc k) s small own =
    let within : suc k + s.grade ≤ 11 = small (omega arith) in
    ap (choose (lifted k s.grade s.row)) (λ i. not (not_bare (suc k + s.grade) within i) && single_lifted k s.grade s.row i)
    ∙ strip_lifted k s (λ _. omega arith) own

-- a row as it stands in its own node
own_primary : (p : Primary Shape) (rest : Forest) → is_single (primary_row (λ s. s) p +++ rest) ≡ false
own_primary (primary.Number n) rest = refl
own_primary (primary.Character at v) rest = refl
own_primary (primary.Constant at c) rest = refl
own_primary (primary.Name n) rest = refl
own_primary (primary.Call n arguments) rest = refl
own_primary (primary.Malloc at size) rest = refl
own_primary (primary.Group at inner) rest = refl

own_link : (k g : ℕ) (row rest : Forest) (c : Class) (v : Value) (at : ℕ) → is_single (lifted k g row +++ leaf c v at rest) ≡ false
own_link zero g row rest c v at = refl
own_link (suc k) g row rest c v at = refl

own_two : (k g : ℕ) (row : Forest) (l h : ℕ) (other rest : Forest) → is_single (lifted k g row +++ lifted l h other +++ rest) ≡ false
own_two zero g row zero h other rest = refl
own_two zero g row (suc l) h other rest = refl
own_two (suc k) g row zero h other rest = refl
own_two (suc k) g row (suc l) h other rest = refl

and_false : (b : Bool) → (b && false) ≡ false
and_false true = refl
and_false false = refl

own_step : (x : Expr-F Shape) → Own (shape_step x)
own_step (Expr-F.Postfix p suffixes) = own_primary p _
own_step (Expr-F.SizeOf at t) = refl
own_step (Expr-F.Cast at t x) = refl
own_step (Expr-F.Prefix at o x) = refl
own_step (Expr-F.Chain first []) = refl
own_step (Expr-F.Chain first (l ∷ rest)) =
    ap (λ b. not (is_bare (part_of (suc (chain_grade (l ∷ rest))))) && b) (own_link (chain_grade (l ∷ rest) - first.grade) first.grade first.row _ _ _ _) ∙ and_false _
own_step (Expr-F.Choice test then otherwise) = own_two (10 - test.grade) test.grade test.row (11 - then.grade) then.grade then.row _

own : (e : Expr) → Own (shape e)
own e = subst Own (sym (fold_out-Expr Shape shape_step e)) (own_step (map-Expr Expr Shape shape (out-Expr e)))

pub strip_at_grade : (w : ℕ) (e : Expr) → w ≤ 11 → strip (at_grade w (shape e)) ≡ (shape e).row
strip_at_grade w e small = strip_lifted (w - (shape e).grade) (shape e) (λ h. omega (arith, h)) (own e)
