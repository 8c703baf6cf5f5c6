-- Lists in the order of their keys.
use Rattle.std.proofs.Common.{◌≡◌, ℕ, zero, suc, ◌+◌, ◌<◌, ◌≤◌, ◌≢◌, ◌⊎◌, inl, inr, List, [], ◌∷◌, length, get_or, Some, None, refl, ap, subst, arith, nat_eq, true, false}
use Rattle.std.proofs.lemmas.Bool.Decides.{nat_tests}
use Rattle.c_memory.specs.Order.{IsRising, place_of}

-- each key is above the lower bound
pub rising_above : {X : Type 0} (key : X → ℕ) (low : ℕ) (xs : List X) (high : ℕ) → IsRising key low xs high → (k : ℕ) (d : X) → k < length xs → low ≤ key (get_or xs k d)
rising_above key low [] high h k d l = omega (arith, l)
rising_above key low (x ∷ xs) high h zero d l = h.0
rising_above key low (x ∷ xs) high h (suc k) d l =
    let r : suc (key x) ≤ key (get_or xs k d) = rising_above key (suc (key x)) xs high h.1 k d (omega (arith, l)) in
    omega (arith, r, h.0)

cut : (a b : ℕ) → (a < b) ⊎ (b ≤ a)
cut a b = grind arith

rising_below : {X : Type 0} (key : X → ℕ) (low : ℕ) (xs : List X) (high : ℕ) → IsRising key low xs high → (i j : ℕ) (d : X) → i < j → j < length xs → key (get_or xs i d) < key (get_or xs j d)
rising_below key low [] high h i j d l m = omega (arith, m)
rising_below key low (x ∷ xs) high h i zero d l m = omega (arith, l)
rising_below key low (x ∷ xs) high h zero (suc j) d l m = rising_above key (suc (key x)) xs high h.1 j d (omega (arith, m))
rising_below key low (x ∷ xs) high h (suc i) (suc j) d l m = rising_below key (suc (key x)) xs high h.1 i j d (omega (arith, l)) (omega (arith, m))

pub up_to : {X : Type 0} (key : X → ℕ) (low : ℕ) (xs : List X) (high : ℕ) → IsRising key low xs high → (i j : ℕ) (d : X) → i ≤ j → j < length xs → key (get_or xs i d) ≤ key (get_or xs j d)
up_to key low [] high h i j d l m = let no : ⊥ = omega (arith, m) in absurd no
up_to key low (x ∷ xs) high h zero zero d l m = omega arith
up_to key low (x ∷ xs) high h (suc i) zero d l m = let no : ⊥ = omega (arith, l) in absurd no
up_to key low (x ∷ xs) high h zero (suc j) d l m =
    let r : suc (key x) ≤ key (get_or xs j d) = rising_above key (suc (key x)) xs high h.1 j d (omega (arith, m)) in
    omega (arith, r)
up_to key low (x ∷ xs) high h (suc i) (suc j) d l m = up_to key (suc (key x)) xs high h.1 i j d (omega (arith, l)) (omega (arith, m))

pub place_found : {X : Type 0} (key : X → ℕ) (xs : List X) (n i : ℕ) (d : X) → ((k : ℕ) → k < i → key (get_or xs k d) < n) → i < length xs → key (get_or xs i d) ≡ n → place_of key xs n ≡ Some i
place_found key [] n i d h l e = let no : ⊥ = omega (arith, l) in absurd no
place_found key (x ∷ xs) n zero d h l e =
    let b : nat_eq (key x) n ≡ true = grind (arith, nat_tests, e) in
    rw b refl
place_found key (x ∷ xs) n (suc i) d h l e =
    let p : key x < n = h zero (omega arith) in
    let b : nat_eq (key x) n ≡ false = grind (arith, nat_tests, p) in
    let r : place_of key xs n ≡ Some i = place_found key xs n i d (λ k m. h (suc k) (omega (arith, m))) (omega (arith, l)) e in
    rw (b, r) refl

pub place_missing : {X : Type 0} (key : X → ℕ) (xs : List X) (n : ℕ) (d : X) → ((k : ℕ) → k < length xs → key (get_or xs k d) ≢ n) → place_of key xs n ≡ None
place_missing key [] n d h = refl
place_missing key (x ∷ xs) n d h =
    let p : key x ≢ n = h zero (omega arith) in
    let b : nat_eq (key x) n ≡ false = grind (arith, nat_tests, p) in
    let r : place_of key xs n ≡ None = place_missing key xs n d (λ k m. h (suc k) (omega (arith, m))) in
    rw (b, r) refl

pub any_default : {X : Type 0} (xs : List X) (i : ℕ) (d e : X) → i < length xs → get_or xs i d ≡ get_or xs i e
any_default [] i d e l = let no : ⊥ = omega (arith, l) in absurd no
any_default (x ∷ xs) zero d e l = refl
any_default (x ∷ xs) (suc i) d e l = any_default xs i d e (omega (arith, l))

-- one step of a search: what stands left of a lesser key, and right of another
pub left_of : {X : Type 0} (key : X → ℕ) (low : ℕ) (xs : List X) (high n i : ℕ) (y : X) → IsRising key low xs high → i < length xs → key (get_or xs i y) < n → (k : ℕ) (d : X) → k < i + 1 → key (get_or xs k d) < n
left_of key low xs high n i y h l m k d o =
    let e1 : key (get_or xs i y) ≡ key (get_or xs i d) = ap key (any_default xs i y d l) in
    let by : key (get_or xs k d) ≤ key (get_or xs i d) = up_to key low xs high h k i d (omega (arith, o)) l in
    omega (arith, e1, by, m)

pub right_of : {X : Type 0} (key : X → ℕ) (low : ℕ) (xs : List X) (high n i : ℕ) (y : X) → IsRising key low xs high → i < length xs → n ≤ key (get_or xs i y) → (k : ℕ) (d : X) → i ≤ k → k < length xs → n ≤ key (get_or xs k d)
right_of key low xs high n i y h l m k d o p =
    let e1 : key (get_or xs i y) ≡ key (get_or xs i d) = ap key (any_default xs i y d l) in
    let by : key (get_or xs i d) ≤ key (get_or xs k d) = up_to key low xs high h i k d o p in
    omega (arith, e1, by, m)

-- a search that found null
pub missing_here : {X : Type 0} (key : X → ℕ) (xs : List X) (high n i : ℕ) (y : X) → IsRising key 0 xs high → ((k : ℕ) (d : X) → k < i → key (get_or xs k d) < n) → ((k : ℕ) (d : X) → i ≤ k → k < length xs → n ≤ key (get_or xs k d)) → i < length xs → key (get_or xs i y) ≢ n → place_of key xs n ≡ None
missing_here key xs high n i y h left right l e = place_missing key xs n y (λ k m q. elim (cut k i) [
  | inl o ↦ (let a : key (get_or xs k y) < n = left k y o in let no : ⊥ = omega (arith, a, q) in no)
  | inr o ↦ elim (cut i k) [
    | inl b ↦ (let a : key (get_or xs i y) < key (get_or xs k y) = rising_below key 0 xs high h i k y b m in let f : n ≤ key (get_or xs i y) = right i y (omega arith) l in let no : ⊥ = omega (arith, a, f, q) in no)
    | inr b ↦ (let same : k ≡ i = omega (arith, o, b) in e (subst (λ j. key (get_or xs j y) ≡ n) same q))
  ]
])

missing_from : {X : Type 0} (key : X → ℕ) (xs : List X) (n : ℕ) → ((k : ℕ) (d : X) → k < length xs → key (get_or xs k d) < n) → place_of key xs n ≡ None
missing_from key [] n left = refl
missing_from key (x ∷ xs) n left =
    let p : key x < n = left zero x (omega arith) in
    let b : nat_eq (key x) n ≡ false = grind (arith, nat_tests, p) in
    let r : place_of key xs n ≡ None = missing_from key xs n (λ k d m. left (suc k) d (omega (arith, m))) in
    rw (b, r) refl

pub missing_past : {X : Type 0} (key : X → ℕ) (xs : List X) (n i : ℕ) → ((k : ℕ) (d : X) → k < i → key (get_or xs k d) < n) → length xs ≤ i → place_of key xs n ≡ None
missing_past key xs n i left past = missing_from key xs n (λ k d m. left k d (omega (arith, m, past)))
