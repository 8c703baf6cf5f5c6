-- Items in order, and what is noted of them.
use Rattle.std.proofs.Common.{◌≡◌, ℕ, ◌+◌, ◌<◌, get_or, drop, length, List, [], ◌++◌, Option, Some, None, option_map, refl, ap, ◌∙◌, sym, append_assoc, append-nil}
use Rattle.c_tree.specs.declared.tree.Item.{Item}
use Rattle.c_kernel.specs.declared.program.Function.{Function}
use Rattle.c_kernel.specs.declared.types.Struct.{Struct}
use Rattle.c_rules.specs.declared.breach.Breach.{Breach}
use Rattle.c_rules.specs.declared.signature.Signature.{Signature}
use Rattle.c_rules.specs.Judged.{Judged, by, given, both}
use Rattle.c_rules.specs.Scope.{Bytes}
use Rattle.c_rules.proofs.Gathered.{joined}
use Rattle.c_check.specs.Functions.{next_number}
use Rattle.c_check.specs.Program.{item_judged, items_judged}
use Rattle.c_check.specs.Structs.{with_item, all_structs}
use Rattle.c_check.proofs.Nodes.{drop_next}

-- two lists of what is found
module _ {A : Type 0} where
  pub found_more : (all a rest : Option (List A)) → joined (option_map (λ p. p.0 ++ p.1) (both all a)) rest ≡ joined all (given (both a rest) (λ p. by [] (p.0 ++ p.1))).found
  found_more None a rest = refl
  found_more (Some xs) None rest = refl
  found_more (Some xs) (Some ys) None = refl
  found_more (Some xs) (Some ys) (Some zs) = ap Some (append_assoc xs ys zs)

  none_more : (a rest : Option (List A)) → (given (both a rest) (λ p. by [] (p.0 ++ p.1))).breaches ≡ []
  none_more None rest = refl
  none_more (Some xs) None = refl
  none_more (Some xs) (Some ys) = refl

-- an item and those after it
module _ (is : List Item) (at : ℕ) (i : Item) (within : at < length is) (here : i ≡ get_or is at i) where
  pub items_structs : (structs later : List Struct) → later ≡ with_item structs i → all_structs later (drop (at + 1) is) ≡ all_structs structs (drop at is)
  items_structs structs later added =
      ap (λ ss. all_structs ss (drop (at + 1) is)) added
      ∙ ap (all_structs structs) (sym (drop_next is at i within here))

module _ (functions : Bytes → Option Signature) (is : List Item) (at k next : ℕ) (structs passed later : List Struct) (i : Item)
    (within : at < length is) (here : i ≡ get_or is at i) (number : next ≡ next_number k i) (same : passed ≡ structs) (added : later ≡ with_item structs i) where
  abbrev one : List Struct → Judged (List Function)
  one ss = item_judged functions ss k i

  abbrev after : List Struct → ℕ → Judged (List Function)
  after ss n = items_judged functions ss n (drop (at + 1) is)

  follows : after later next ≡ after (with_item structs i) (next_number k i)
  follows = ap (after later) number ∙ ap (λ ss. after ss (next_number k i)) added

  pub items_found : (all more found : Option (List Function)) → more ≡ (one passed).found → found ≡ option_map (λ p. p.0 ++ p.1) (both all more)
      → joined found (after later next).found ≡ joined all (items_judged functions structs k (drop at is)).found
  items_found all more found x xs =
      let rest = after (with_item structs i) (next_number k i) in
      ap (λ (j : Judged (List Function)). joined found j.found) follows
      ∙ ap (λ fs. joined fs rest.found) (xs ∙ ap (λ m. option_map (λ p. p.0 ++ p.1) (both all m)) (x ∙ ap (λ ss. (one ss).found) same))
      ∙ found_more all (one structs).found rest.found
      ∙ ap (λ js. joined all (items_judged functions structs k js).found) (sym (drop_next is at i within here))

  pub items_breaches : (noted breaches : List Breach) → breaches ≡ noted ++ (one passed).breaches
      → breaches ++ (after later next).breaches ≡ noted ++ (items_judged functions structs k (drop at is)).breaches
  items_breaches noted breaches x =
      let rest = after (with_item structs i) (next_number k i) in
      let new = (one structs).breaches in
      ap (λ (j : Judged (List Function)). breaches ++ j.breaches) follows
      ∙ ap (λ fs. fs ++ rest.breaches) (x ∙ ap (λ ss. noted ++ (one ss).breaches) same)
      ∙ append_assoc noted new rest.breaches
      ∙ ap (λ fs. noted ++ fs) (sym (append-nil (new ++ rest.breaches)) ∙ ap (λ fs. (new ++ rest.breaches) ++ fs) (sym (none_more (one structs).found rest.found)))
      ∙ ap (λ js. noted ++ (items_judged functions structs k js).breaches) (sym (drop_next is at i within here))
