-- The serials of calls' variables, the newest first.
use Rattle.std.proofs.Common.{◌≡◌, ℕ, zero, suc, ◌-◌, ◌<◌, ◌≤◌, ◌⊎◌, inl, inr, List, [], ◌∷◌, ◌++◌, length, map, reverse, take, drop, get_or, refl, ap, sym, ◌∙◌, arith}
use Rattle.std.proofs.lemmas.List.{get_or-map, get_or-reverse, get_or_past, length-drop, length-map, length-reverse, reverse-append, take-append-drop, take-map}
use Rattle.c_memory.specs.Memory.{Object}
use Rattle.flat_code.specs.Restart.{first_among, newest_serials}
use Rattle.image_text.specs.declared.object.SavedObject.{SavedObject}
use Rattle.rank_machine.specs.Saving.{object_of}

drop_past : {A : Type 0} (n : ℕ) (xs ys : List A) → length xs ≡ n → drop n (xs ++ ys) ≡ ys
drop_past n [] ys e = ap (λ (k : ℕ). drop k ys) (sym e)
drop_past zero (x ∷ xs) ys e = let no : ⊥ = omega (arith, e) in absurd no
drop_past (suc n) (x ∷ xs) ys e = drop_past n xs ys (omega (arith, e))

drop_all : {A : Type 0} (n : ℕ) (xs : List A) → length xs ≤ n → drop n xs ≡ []
drop_all zero [] l = refl
drop_all (suc n) [] l = refl
drop_all zero (x ∷ xs) l = let no : ⊥ = omega (arith, l) in absurd no
drop_all (suc n) (x ∷ xs) l = drop_all n xs (omega (arith, l))

apart : (a b : ℕ) → (a ≤ b) ⊎ (b ≤ a)
apart a b = grind arith

-- the first of a reversed list are the last
pub drop_newest : {A : Type 0} (n : ℕ) (xs : List A) → drop n (reverse xs) ≡ reverse (take (length xs - n) xs)
drop_newest n xs = elim (apart (length xs) n) [
  | inl l ↦ (let e : length xs - n ≡ 0 = omega (arith, l) in let r = length-reverse xs in drop_all n (reverse xs) (omega (arith, r, l)) ∙ sym (ap (λ k. reverse (take k xs)) e))
  | inr l ↦ (
      let k = length xs - n in
      let whole : reverse xs ≡ reverse (drop k xs) ++ reverse (take k xs) = sym (ap reverse (take-append-drop k xs)) ∙ reverse-append (take k xs) (drop k xs) in
      let r = length-reverse (drop k xs) in
      let d = length-drop k xs in
      let long : length (reverse (drop k xs)) ≡ n = omega (arith, r, d, l) in
      ap (drop n) whole ∙ drop_past n (reverse (drop k xs)) (reverse (take k xs)) long
      )
]

-- ---- of saved variables

abbrev pub numbers : List SavedObject → List ℕ
numbers vs = newest_serials (map object_of vs)

serials : (vs : List SavedObject) → map (λ (o : Object). o.serial) (map object_of vs) ≡ map (λ (v : SavedObject). v.serial) vs
serials [] = refl
serials (v ∷ vs) = ap (λ (x : List ℕ). v.serial ∷ x) (serials vs)

pub numbers_left : (n : ℕ) (vs : List SavedObject) → drop n (numbers vs) ≡ numbers (take (length vs - n) vs)
numbers_left n vs =
    let e = serials vs in
    let l : length (map (λ (v : SavedObject). v.serial) vs) ≡ length vs = length-map vs (λ (v : SavedObject). v.serial) in
    ap (λ (x : List ℕ). drop n (reverse x)) e ∙ drop_newest n (map (λ (v : SavedObject). v.serial) vs) ∙ ap (λ (k : ℕ). reverse (take (k - n) (map (λ (v : SavedObject). v.serial) vs))) l ∙ ap reverse (take-map (λ (v : SavedObject). v.serial) (length vs - n) vs ∙ sym (serials (take (length vs - n) vs)))

numbers_long : (vs : List SavedObject) → length (numbers vs) ≡ length vs
numbers_long vs = length-reverse (map (λ (o : Object). o.serial) (map object_of vs)) ∙ length-map (map object_of vs) (λ (o : Object). o.serial) ∙ length-map vs object_of

pub first_past : (vs : List SavedObject) (n : ℕ) → length vs < n → first_among (numbers vs) n ≡ 0
first_past vs zero l = refl
first_past vs (suc n) l = let e = numbers_long vs in get_or_past (numbers vs) n 0 (omega (arith, e, l))

pub first_at : (vs : List SavedObject) (n : ℕ) (d : SavedObject) → 0 < n → n ≤ length vs → first_among (numbers vs) n ≡ (get_or vs (length vs - n) d).serial
first_at vs zero d some l = let no : ⊥ = omega (arith, some) in absurd no
first_at vs (suc n) d some l =
    let xs = map (λ (v : SavedObject). v.serial) vs in
    let e : length xs ≡ length vs = length-map vs (λ (v : SavedObject). v.serial) in
    let k : length xs - 1 - n ≡ length vs - suc n = omega (arith, e, l) in
    ap (λ (x : List ℕ). get_or (reverse x) n 0) (serials vs) ∙ get_or-reverse xs n 0 (omega (arith, e, l)) ∙ ap (λ (i : ℕ). get_or xs i 0) k ∙ get_or-map (λ (v : SavedObject). v.serial) vs (length vs - suc n) d 0 (omega (arith, l))
