-- Induction over expressions, with what holds of the parts as one row.
use Rattle.std.proofs.Common.{◌≡◌, refl, sym, subst, ℕ, List, [], ◌∷◌, map}
use Rattle.c_tree.specs.declared.tree.Access.{Access}
use Rattle.c_tree.specs.declared.tree.Expr.{Expr}
use Rattle.c_tree.specs.declared.tree.Expr.TheFolds.{map-Expr, ind-Expr}
use Rattle.c_tree.specs.declared.tree.Expr.TheOpen.{Expr-F}
use Rattle.c_tree.specs.declared.tree.Expr.TheViews.{roll-Expr}
use Rattle.c_tree.specs.declared.tree.Link.{Link}
use Rattle.c_tree.specs.declared.tree.MemberName.{MemberName}
use Rattle.c_tree.specs.declared.tree.Primary.{Primary}
use Rattle.c_tree.specs.declared.tree.Primary.TheVariants as primary
use Rattle.c_tree.specs.declared.tree.Suffix.{Suffix}
use Rattle.c_tree.specs.declared.tree.Suffix.TheVariants as suffix

module _ (P : Expr → Type 0) where
  abbrev pub All : List Expr → Type 0
  All [] = Unit {0}
  All (x ∷ xs) = P x × All xs

  abbrev pub AllOperands : List (Link Expr) → Type 0
  AllOperands [] = Unit {0}
  AllOperands (l ∷ ls) = P l.operand × AllOperands ls

  abbrev pub OfPrimary : Primary Expr → Type 0
  OfPrimary (primary.Number n) = Unit {0}
  OfPrimary (primary.Character at v) = Unit {0}
  OfPrimary (primary.Constant at c) = Unit {0}
  OfPrimary (primary.Name n) = Unit {0}
  OfPrimary (primary.Call n arguments) = All arguments
  OfPrimary (primary.Malloc at size) = P size
  OfPrimary (primary.Group at inner) = P inner

  abbrev pub OfSuffix : Suffix Expr → Type 0
  OfSuffix (suffix.Index at index) = P index
  OfSuffix (suffix.Member at a n) = Unit {0}

  abbrev pub AllSuffixes : List (Suffix Expr) → Type 0
  AllSuffixes [] = Unit {0}
  AllSuffixes (s ∷ ss) = OfSuffix s × AllSuffixes ss

  -- it holds of each part
  abbrev pub OfParts : Expr-F Expr → Type 0
  OfParts (Expr-F.Postfix p suffixes) = OfPrimary p × AllSuffixes suffixes
  OfParts (Expr-F.SizeOf at t) = Unit {0}
  OfParts (Expr-F.Cast at t x) = P x
  OfParts (Expr-F.Prefix at o x) = P x
  OfParts (Expr-F.Chain first rest) = P first × AllOperands rest
  OfParts (Expr-F.Choice test then otherwise) = P test × P then × P otherwise

  abbrev Such : Type 0
  Such = (x : Expr) × P x

  all_of : (xs : List Such) → All (map (λ e. e.0) xs)
  all_of [] = tt
  all_of (e ∷ xs) = (e.1, all_of xs)

  operands_of : (h : Link Such → Link Expr) → ((l : Link Such) → (h l).operand ≡ l.operand.0) → (ls : List (Link Such)) → AllOperands (map h ls)
  operands_of h same [] = tt
  operands_of h same (l ∷ ls) = (subst P (sym (same l)) l.operand.1, operands_of h same ls)

  suffixes_of : (h : Suffix Such → Suffix Expr) → ((at : ℕ) (x : Such) → h (suffix.Index at x) ≡ suffix.Index at x.0) → ((at : ℕ) (a : Access) (n : MemberName) → h (suffix.Member at a n) ≡ suffix.Member at a n) → (ss : List (Suffix Such)) → AllSuffixes (map h ss)
  suffixes_of h i m [] = tt
  suffixes_of h i m (suffix.Index at x ∷ ss) = (subst OfSuffix (sym (i at x)) x.1, suffixes_of h i m ss)
  suffixes_of h i m (suffix.Member at a n ∷ ss) = (subst OfSuffix (sym (m at a n)) tt, suffixes_of h i m ss)

  parts_of : (y : Expr-F Such) → OfParts (map-Expr Such Expr (λ e. e.0) y)
  parts_of (Expr-F.Postfix (primary.Number n) ss) = (tt, suffixes_of _ (λ at x. refl) (λ at a n. refl) ss)
  parts_of (Expr-F.Postfix (primary.Character at v) ss) = (tt, suffixes_of _ (λ at x. refl) (λ at a n. refl) ss)
  parts_of (Expr-F.Postfix (primary.Constant at c) ss) = (tt, suffixes_of _ (λ at x. refl) (λ at a n. refl) ss)
  parts_of (Expr-F.Postfix (primary.Name n) ss) = (tt, suffixes_of _ (λ at x. refl) (λ at a n. refl) ss)
  parts_of (Expr-F.Postfix (primary.Call n arguments) ss) = (all_of arguments, suffixes_of _ (λ at x. refl) (λ at a n. refl) ss)
  parts_of (Expr-F.Postfix (primary.Malloc at size) ss) = (size.1, suffixes_of _ (λ at x. refl) (λ at a n. refl) ss)
  parts_of (Expr-F.Postfix (primary.Group at inner) ss) = (inner.1, suffixes_of _ (λ at x. refl) (λ at a n. refl) ss)
  parts_of (Expr-F.SizeOf at t) = tt
  parts_of (Expr-F.Cast at t x) = x.1
  parts_of (Expr-F.Prefix at o x) = x.1
  parts_of (Expr-F.Chain first rest) = (first.1, operands_of _ (λ l. refl) rest)
  parts_of (Expr-F.Choice test then otherwise) = (test.1, then.1, otherwise.1)

  pub by_parts : ((x : Expr-F Expr) → OfParts x → P (roll-Expr x)) → (e : Expr) → P e
  by_parts step = ind-Expr P (λ x y is. step x (subst OfParts is (parts_of y)))
