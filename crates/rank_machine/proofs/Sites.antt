-- The site that is named next.
use Rattle.std.proofs.Common.{◌≡◌, ℕ, zero, suc, ◌+◌, List, [], ◌∷◌, drop, Some, None, refl, ap, sym, ◌∙◌, add-one}
use Rattle.std.specs.Prelude.{slice_get}
use Rattle.flat_code.specs.declared.code.Site.{Site}
use Rattle.flat_code.specs.Machine.{Frame, Machine}
use Rattle.flat_code.specs.Restart.{enters_again, jumps, place_named}

drop_none : (xs : List ℕ) (k : ℕ) → None ≡ slice_get xs k → drop k xs ≡ []
drop_none [] zero e = refl
drop_none [] (suc k) e = refl
drop_none (x ∷ xs) zero e = absurd cc
drop_none (x ∷ xs) (suc k) e = drop_none xs k e

drop_next : (xs : List ℕ) (k x : ℕ) → Some x ≡ slice_get xs k → drop k xs ≡ x ∷ drop (suc k) xs
drop_next [] zero x e = absurd cc
drop_next [] (suc k) x e = absurd cc
drop_next (y ∷ xs) zero x e = let s : x ≡ y = cc in ap (λ (z : ℕ). z ∷ xs) (sym s)
drop_next (y ∷ xs) (suc k) x e = drop_next xs k x e

drop_some : (xs : List ℕ) (k x : ℕ) → Some x ≡ slice_get xs k → drop k xs ≡ x ∷ drop (k + 1) xs
drop_some xs k x e = drop_next xs k x e ∙ sym (ap (λ (n : ℕ). x ∷ drop n xs) (add-one k))

pub no_site : (m : Machine) (top : Frame) (below : List Frame) (xs : List ℕ) (k : ℕ) (sites : List Site) → None ≡ slice_get xs k → None ≡ enters_again m top below (drop k xs) sites
no_site m top below xs k sites e = sym (ap (λ (z : List ℕ). enters_again m top below z sites) (drop_none xs k e))

pub no_place : (m : Machine) (top : Frame) (below : List Frame) (xs : List ℕ) (k x : ℕ) (sites : List Site) → Some x ≡ slice_get xs k → None ≡ place_named sites x → None ≡ enters_again m top below (drop k xs) sites
no_place m top below xs k x sites e f = ap (jumps m top below (drop (k + 1) xs)) f ∙ sym (ap (λ (z : List ℕ). enters_again m top below z sites) (drop_some xs k x e))

pub a_place : (m : Machine) (top : Frame) (below : List Frame) (xs : List ℕ) (k x place : ℕ) (sites : List Site) → Some x ≡ slice_get xs k → Some place ≡ place_named sites x → jumps m top below (drop (k + 1) xs) (Some place) ≡ enters_again m top below (drop k xs) sites
a_place m top below xs k x place sites e f = ap (jumps m top below (drop (k + 1) xs)) f ∙ sym (ap (λ (z : List ℕ). enters_again m top below z sites) (drop_some xs k x e))
