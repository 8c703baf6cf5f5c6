-- What a node of an expression is found to be, by its parts.
use Rattle.std.proofs.Common.{◌≡◌, ℕ, suc, ◌+◌, ◌<◌, List, [], ◌∷◌, ◌++◌, map, length, drop, get_or, drop-cons, add-one, Option, refl, ap, sym, ◌∙◌, append_assoc, append-nil}
use Rattle.c_tree.specs.declared.tree.Access.{Access}
use Rattle.c_tree.specs.declared.tree.Expr.{Expr}
use Rattle.c_tree.specs.declared.tree.Expr.TheFolds.{fold-roll-Expr, map-Expr}
use Rattle.c_tree.specs.declared.tree.Expr.TheOpen.{Expr-F}
use Rattle.c_tree.specs.declared.tree.Expr.TheVariants as expr
use Rattle.c_tree.specs.declared.tree.Expr.TheViews.{roll-Expr}
use Rattle.c_tree.specs.declared.tree.Link.{Link}
use Rattle.c_tree.specs.declared.tree.MemberName.{MemberName}
use Rattle.c_tree.specs.declared.tree.Primary.{Primary}
use Rattle.c_tree.specs.declared.tree.Primary.TheVariants as primary
use Rattle.c_tree.specs.declared.tree.Suffix.{Suffix}
use Rattle.c_tree.specs.declared.tree.Suffix.TheVariants as suffix
use Rattle.c_tree.specs.declared.token.Operator.{Operator}
use Rattle.c_kernel.specs.declared.types.Struct.{Struct}
use Rattle.c_rules.specs.declared.breach.Breach.{Breach}
use Rattle.c_rules.specs.declared.found.Found.{Found}
use Rattle.c_rules.specs.declared.signature.Signature.{Signature}
use Rattle.c_rules.specs.Judged.{Judged, after, given, both}
use Rattle.c_rules.specs.Rules as rules
use Rattle.c_rules.specs.Scope.{Bytes, Scope}
use Rattle.c_check.specs.Expression.{Seen, seen, node, judged, judged_primary, judged_suffix, judged_suffixes, judged_links, seen_suffix, suffix_of, suffixed, part_of, whole_prefix, whole_chain, choice_of, whole_choice}

pub map_same : {A B : Type 0} (f g : A → B) → ((x : A) → f x ≡ g x) → (xs : List A) → map f xs ≡ map g xs
map_same f g e [] = refl
map_same f g e (x ∷ xs) = ap (λ y. y ∷ map f xs) (e x) ∙ ap (λ ys. g x ∷ ys) (map_same f g e xs)

-- the next of several, and those after it
pub drop_next : {A : Type 0} (xs : List A) (i : ℕ) (x : A) → i < length xs → x ≡ get_or xs i x → drop i xs ≡ x ∷ drop (i + 1) xs
drop_next xs i x within here = drop-cons xs i x within ∙ ap (λ y. y ∷ drop (suc i) xs) (sym here) ∙ ap (λ n. x ∷ drop n xs) (sym (add-one i))

suffix_cases : (P : Suffix Expr → Type 0) → ((at : ℕ) (e : Expr) → P (suffix.Index at e)) → ((at : ℕ) (how : Access) (n : MemberName) → P (suffix.Member at how n)) → (x : Suffix Expr) → P x
suffix_cases P of_index of_member (suffix.Index at e) = of_index at e
suffix_cases P of_index of_member (suffix.Member at how n) = of_member at how n

module _ (functions : Bytes → Option Signature) (structs : List Struct) (s : Scope) where
  abbrev select : Judged Found → Suffix Seen → Judged Found
  select = suffix_of functions structs s

  -- ---- a chain of suffixes, by what stands before it

  suffix_after : (fs : List Breach) (a : Judged Found) (x : Suffix Seen) → select (after fs a) x ≡ after fs (select a x)
  suffix_after fs a (suffix.Index at i) =
      let here = given (both a.found i.part.found) (λ p. rules.index structs p.0 p.1) in
      ap (λ gs. record { breaches = gs; found = here.found })
      (ap (λ gs. gs ++ here.breaches) (append_assoc fs a.breaches i.part.breaches) ∙ append_assoc fs (a.breaches ++ i.part.breaches) here.breaches)
  suffix_after fs a (suffix.Member at how n) =
      let here = given a.found (λ x. rules.member structs how x n) in
      ap (λ gs. record { breaches = gs; found = here.found }) (append_assoc fs a.breaches here.breaches)

  suffixed_after : (fs : List Breach) (a : Judged Found) (xs : List (Suffix Seen)) → suffixed functions structs s (after fs a) xs ≡ after fs (suffixed functions structs s a xs)
  suffixed_after fs a [] = refl
  suffixed_after fs a (x ∷ xs) = ap (λ b. suffixed functions structs s b xs) (suffix_after fs a x) ∙ suffixed_after fs (select a x) xs

  abbrev itself : Option Found → Judged Found
  itself a = record { breaches = []; found = a }

  pub suffixed_parts : (a : Judged Found) (xs : List (Suffix Seen)) → suffixed functions structs s a xs ≡ after a.breaches (suffixed functions structs s (itself a.found) xs)
  suffixed_parts a xs =
      ap (λ fs. suffixed functions structs s (record { breaches = fs; found = a.found }) xs) (sym (append-nil a.breaches))
      ∙ suffixed_after a.breaches (itself a.found) xs

  pub suffix_step : (xs : List (Suffix Expr)) (i : ℕ) (x : Suffix Expr) (a : Option Found) → i < length xs → x ≡ get_or xs i x
      → judged_suffixes functions structs s a (drop i xs) ≡ after (judged_suffix functions structs s a x).breaches (judged_suffixes functions structs s (judged_suffix functions structs s a x).found (drop (i + 1) xs))
  suffix_step xs i x a within here =
      ap (judged_suffixes functions structs s a) (drop_next xs i x within here)
      ∙ suffixed_parts (judged_suffix functions structs s a x) (map (seen_suffix functions structs s) (drop (i + 1) xs))

  -- ---- nodes

  judged_roll : (x : Expr-F Expr) → judged functions structs s (roll-Expr x) ≡ part_of functions structs s (map-Expr Expr Seen (seen functions structs s) x)
  judged_roll x = ap (λ (v : Seen). v.part) (fold-roll-Expr Seen (node functions structs s) x)

  same_suffixes : (a : Judged Found) (f : Suffix Expr → Suffix Seen) → ((x : Suffix Expr) → f x ≡ seen_suffix functions structs s x) → (xs : List (Suffix Expr))
      → suffixed functions structs s a (map f xs) ≡ after a.breaches (judged_suffixes functions structs s a.found xs)
  same_suffixes a f same xs = ap (suffixed functions structs s a) (map_same f (seen_suffix functions structs s) same xs) ∙ suffixed_parts a (map (seen_suffix functions structs s) xs)

  postfix : (p : Primary Expr) (xs : List (Suffix Expr)) → part_of functions structs s (map-Expr Expr Seen (seen functions structs s) (Expr-F.Postfix p xs)) ≡ after (judged_primary functions structs s p).breaches (judged_suffixes functions structs s (judged_primary functions structs s p).found xs)
  postfix (primary.Number n) xs = same_suffixes _ _ (suffix_cases _ (λ at e. refl) (λ at how n. refl)) xs
  postfix (primary.Character at v) xs = same_suffixes _ _ (suffix_cases _ (λ at e. refl) (λ at how n. refl)) xs
  postfix (primary.Constant at c) xs = same_suffixes _ _ (suffix_cases _ (λ at e. refl) (λ at how n. refl)) xs
  postfix (primary.Name n) xs = same_suffixes _ _ (suffix_cases _ (λ at e. refl) (λ at how n. refl)) xs
  postfix (primary.Call n es) xs = same_suffixes _ _ (suffix_cases _ (λ at e. refl) (λ at how n. refl)) xs
  postfix (primary.Malloc at e) xs = same_suffixes _ _ (suffix_cases _ (λ at e. refl) (λ at how n. refl)) xs
  postfix (primary.Group at e) xs = same_suffixes _ _ (suffix_cases _ (λ at e. refl) (λ at how n. refl)) xs

  pub judged_postfix : (p : Primary Expr) (xs : List (Suffix Expr)) → judged functions structs s (expr.Postfix p xs) ≡ after (judged_primary functions structs s p).breaches (judged_suffixes functions structs s (judged_primary functions structs s p).found xs)
  judged_postfix p xs = ap (judged functions structs s) (sym (expr.rolls-Postfix p xs)) ∙ judged_roll (Expr-F.Postfix p xs) ∙ postfix p xs

  pub judged_prefix : (at : ℕ) (o : Operator) (a : Expr) → judged functions structs s (expr.Prefix at o a) ≡ whole_prefix structs at o (judged functions structs s a)
  judged_prefix at o a = ap (judged functions structs s) (sym (expr.rolls-Prefix at o a)) ∙ judged_roll (Expr-F.Prefix at o a)

  pub judged_chain : (a : Expr) (ls : List (Link Expr)) → judged functions structs s (expr.Chain a ls) ≡ whole_chain structs (judged functions structs s a) (judged_links functions structs s ls)
  judged_chain a ls = ap (judged functions structs s) (sym (expr.rolls-Chain a ls)) ∙ judged_roll (Expr-F.Chain a ls)

  pub judged_choice : (c a b : Expr) → judged functions structs s (expr.Choice c a b) ≡ whole_choice (judged functions structs s c) (judged functions structs s a) (judged functions structs s b)
  judged_choice c a b = ap (judged functions structs s) (sym (expr.rolls-Choice c a b)) ∙ judged_roll (Expr-F.Choice c a b)

-- what is noted of a part, and then of the rest that goes on from it
pub rest_noted : (part whole : Judged Found) (a : Option Found) (rest : Option Found → Judged Found) (old mid : List Breach)
    → whole ≡ after part.breaches (rest part.found) → a ≡ part.found → mid ≡ old ++ part.breaches → mid ++ (rest a).breaches ≡ old ++ whole.breaches
rest_noted part whole a rest old mid is is_part of_part =
    ap (λ x. mid ++ (rest x).breaches) is_part
    ∙ ap (λ fs. fs ++ (rest part.found).breaches) of_part
    ∙ append_assoc old part.breaches (rest part.found).breaches
    ∙ sym (ap (λ (j : Judged Found). old ++ j.breaches) is)

-- what is noted of three parts in order, and then of their node
pub choice_noted : (c a b : Judged Found) (c' a' b' : Option Found) (old first second third new : List Breach)
    → c' ≡ c.found → a' ≡ a.found → b' ≡ b.found
    → first ≡ old ++ c.breaches → second ≡ first ++ a.breaches → third ≡ second ++ b.breaches → new ≡ third ++ (choice_of c' a' b').breaches
    → new ≡ old ++ (whole_choice c a b).breaches
choice_noted c a b c' a' b' old first second third new is_c is_a is_b of_c of_a of_b node =
    let parts : third ≡ old ++ (c.breaches ++ a.breaches ++ b.breaches) =
    of_b
    ∙ ap (λ fs. fs ++ b.breaches) (of_a ∙ ap (λ fs. fs ++ a.breaches) of_c ∙ append_assoc old c.breaches a.breaches)
    ∙ append_assoc old (c.breaches ++ a.breaches) b.breaches in
    node
    ∙ ap (λ x. third ++ (choice_of x a' b').breaches) is_c
    ∙ ap (λ x. third ++ (choice_of c.found x b').breaches) is_a
    ∙ ap (λ x. third ++ (choice_of c.found a.found x).breaches) is_b
    ∙ ap (λ fs. fs ++ (choice_of c.found a.found b.found).breaches) parts
    ∙ append_assoc old (c.breaches ++ a.breaches ++ b.breaches) (choice_of c.found a.found b.found).breaches
