-- Serials that none has yet.
use Rattle.std.proofs.Common.{◌≡◌, ◌≢◌, ◌↔◌, ◌<◌, ◌+◌, ℕ, Bool, true, false, List, ◌∷◌, length, drop, refl, ap, sym, ◌∙◌, subst, arith}
use Rattle.std.specs.Prelude.{cond, get_or}
use Rattle.std.proofs.lemmas.Bool.Decides.{nat_tests}
use Rattle.std.proofs.lemmas.List.{drop_more}
use Rattle.std.proofs.lemmas.List.Elements.{All-tail, All-cons}
use Rattle.std.specs.List.{All}
use Rattle.std.specs.BTreeSet.{BTreeSet, contains, Updates}
use Rattle.std.specs.Ordering.{is_eq, nat_cmp}
use Rattle.image_text.specs.declared.object.SavedObject.{SavedObject}
use Rattle.rank_machine.specs.WellFormed.{AreDistinct}

abbrev pub AreNew : BTreeSet ℕ → List SavedObject → Type 0
AreNew taken os = All (λ o. contains nat_cmp taken o.serial ≡ false) os × AreDistinct os

itself : (x : ℕ) → is_eq (nat_cmp x x) ≡ true
itself x = grind (arith, nat_tests)

another : (x q : ℕ) → q ≢ x → is_eq (nat_cmp x q) ≡ false
another x q n = grind (arith, nat_tests)

neither : (t b : Bool) → t ≡ false → b ≡ false → cond t true b ≡ false
neither true b e f = absurd (cc e)
neither false b e f = f

first_false : (t b : Bool) → cond t true b ≡ false → t ≡ false
first_false true b e = absurd (cc e)
first_false false b e = refl

second_false : (t b : Bool) → cond t true b ≡ false → b ≡ false
second_false true b e = absurd (cc e)
second_false false b e = e

module _ (before after : BTreeSet ℕ) (x : SavedObject) (up : Updates nat_cmp before after x.serial true) where
  stays : (q : ℕ) → contains nat_cmp before q ≡ false → q ≢ x.serial → contains nat_cmp after q ≡ false
  stays q none other = up.0 q ∙ neither (is_eq (nat_cmp x.serial q)) (contains nat_cmp before q) (another x.serial q other) none

  was : (q : ℕ) → contains nat_cmp after q ≡ false → contains nat_cmp before q ≡ false
  was q none = second_false (is_eq (nat_cmp x.serial q)) (contains nat_cmp before q) (sym (up.0 q) ∙ none)

  differs : (q : ℕ) → contains nat_cmp after q ≡ false → q ≢ x.serial
  differs q none same =
      let unlike : is_eq (nat_cmp x.serial q) ≡ false = first_false (is_eq (nat_cmp x.serial q)) (contains nat_cmp before q) (sym (up.0 q) ∙ none) in
      let like : is_eq (nat_cmp x.serial q) ≡ true = ap (λ k. is_eq (nat_cmp x.serial k)) same ∙ itself x.serial in
      absurd (cc (sym unlike ∙ like))

  -- the others are new where the first was
  taken_first : (rest : List SavedObject) → contains nat_cmp before x.serial ≡ false → AreNew before (x ∷ rest) ↔ AreNew after rest
  taken_first rest none = (
    (λ w. ((λ k d less. stays (get_or rest k d).serial (All-tail (λ o. contains nat_cmp before o.serial ≡ false) x rest w.0 k d less) (w.1.0 k d less)), w.1.1)),
    (λ w. (
      All-cons (λ o. contains nat_cmp before o.serial ≡ false) x rest none (λ k d less. was (get_or rest k d).serial (w.0 k d less)),
      ((λ k d less. differs (get_or rest k d).serial (w.0 k d less)), w.1),
    )),
  )

pub goes_on : {W : Type 0} (before after : BTreeSet ℕ) (x : SavedObject) (os rest : List SavedObject) → Updates nat_cmp before after x.serial true → contains nat_cmp before x.serial ≡ false → os ≡ x ∷ rest → AreNew before os ↔ W → AreNew after rest ↔ W
goes_on {W = W} before after x os rest up none e w =
    let s = subst (λ l. AreNew before l ↔ W) e w in
    let one = taken_first before after x up rest none in
    ((λ n. s.0 (one.1 n)), (λ h. one.0 (s.1 h)))

-- the list that is left at an element
pub left_at : (os : List SavedObject) (i : ℕ) (x : SavedObject) → x ≡ get_or os i x → i < length os → drop i os ≡ x ∷ drop (i + 1) os
left_at os i x is less = drop_more os i x less ∙ ap (λ y. y ∷ drop (i + 1) os) (sym is)
