-- Fronts of a text, tables, and what it is to cover a piece.
use Rattle.std.proofs.Common.{ℕ, ◌≡◌, ◌+◌, ◌<◌, ◌≤◌, List, [], ◌∷◌, ◌++◌, Bool, true, false, Some, refl, sym, ap, ◌∙◌, arith, length, length-append, append-nil}
use Rattle.std.specs.Prelude.{nat_eq, ◌&&◌}
use Rattle.std.proofs.lemmas.Bool.{and_parts, and_from, eqb-true, false≢true}
use Rattle.std.proofs.lemmas.List.{nil_from_length}
use Rattle.c_tree.specs.declared.token.Class.{Class}
use Rattle.c_tree.specs.Scan.{front, same, look, Table}
use Rattle.c_tree.specs.Tokens.{Meaning, Fault, IsPiece, every}
use Rattle.c_tree.proofs.Sight.{Sight, none, some}

-- ---- bytes that pass

pub every_append : (p : ℕ → Bool) (a b : List ℕ) → every p a ≡ true → every p b ≡ true → every p (a ++ b) ≡ true
every_append p [] b h k = k
every_append p (x ∷ a) b h k = let q = and_parts (p x) (every p a) h in and_from (p x) _ q.0 (every_append p a b q.1 k)

pub every_weaker : (p q : ℕ → Bool) (a : List ℕ) → ((b : ℕ) → p b ≡ true → q b ≡ true) → every p a ≡ true → every q a ≡ true
every_weaker p q [] w h = refl
every_weaker p q (x ∷ a) w h = let r = and_parts (p x) (every p a) h in and_from (q x) _ (w x r.0) (every_weaker p q a w r.1)

pub front_yes : (p : ℕ → Bool) (b : ℕ) (bs : List ℕ) → p b ≡ true → front p (b ∷ bs) ≡ b ∷ front p bs
front_yes p b bs h = rw (h, front) refl

pub front_no : (p : ℕ → Bool) (b : ℕ) (bs : List ℕ) → p b ≡ false → front p (b ∷ bs) ≡ []
front_no p b bs h = rw (h, front) refl

pub front_over : (p : ℕ → Bool) (w after : List ℕ) → every p w ≡ true → front p (w ++ after) ≡ w ++ front p after
front_over p [] after h = refl
front_over p (b ∷ bs) after h =
    let q = and_parts (p b) (every p bs) h in
    front_yes p b (bs ++ after) q.0 ∙ ap (λ t. b ∷ t) (front_over p bs after q.1)

-- a text is its front and a rest
abbrev pub IsFront : (ℕ → Bool) → List ℕ → Type 0
IsFront p text = (rest : List ℕ) × (text ≡ front p text ++ rest) × (every p (front p text) ≡ true)

front_step : (p : ℕ → Bool) (b : ℕ) (bs : List ℕ) (t : Bool) → p b ≡ t → IsFront p bs → IsFront p (b ∷ bs)
front_step p b bs true e h = (h.0, rw (front_yes p b bs e) (ap (λ t. b ∷ t) h.1), rw (front_yes p b bs e) (and_from (p b) _ e h.2))
front_step p b bs false e h = (b ∷ bs, rw (front_no p b bs e) refl, rw (front_no p b bs e) refl)

pub front_split : (p : ℕ → Bool) (text : List ℕ) → IsFront p text
front_split p [] = ([], refl, refl)
front_split p (b ∷ bs) = front_step p b bs (p b) refl (front_split p bs)

-- ---- tables

pub same_sound : (a b : List ℕ) → same a b ≡ true → a ≡ b
same_sound [] [] h = refl
same_sound [] (y ∷ ys) h = absurd (false≢true h)
same_sound (x ∷ xs) [] h = absurd (false≢true h)
same_sound (x ∷ xs) (y ∷ ys) h = let q = and_parts (nat_eq x y) (same xs ys) h in λ i. eqb-true x y q.0 i ∷ same_sound xs ys q.1 i

-- each row passes
abbrev pub every_row : (List ℕ → Class → Bool) → Table → Bool
every_row t [] = true
every_row t (r ∷ rs) = t r.0 r.1 && every_row t rs

look_step : (t : List ℕ → Class → Bool) (a : List ℕ) (d : Class) (rs : Table) (w : List ℕ) (c : Class) (s : Bool) → same a w ≡ s → t a d ≡ true → (look rs w ≡ Some c → t w c ≡ true) → look ((a, d) ∷ rs) w ≡ Some c → t w c ≡ true
look_step t a d rs w c true e h k g =
    let f : d ≡ c = cc (rw (e, look) at g) in
    rw (← same_sound a w e, ← f) h
look_step t a d rs w c false e h k g = k (rw (e, look) at g)

pub look_test : (t : List ℕ → Class → Bool) (rows : Table) (w : List ℕ) (c : Class) → every_row t rows ≡ true → look rows w ≡ Some c → t w c ≡ true
look_test t [] w c h g = let e : true ≡ false = cc in absurd (false≢true (sym e))
look_test t (r ∷ rs) w c h g = let q = and_parts (t r.0 r.1) (every_row t rs) h in look_step t r.0 r.1 rs w c (same r.0 w) refl q.0 (look_test t rs w c q.1) g

-- ---- covering a piece, and having one

-- what is seen is no shorter than w, and where it is as long it means m
abbrev pub Covers : List ℕ → Meaning → Sight → Type 0
Covers w m (none o) = ⊥
Covers w m (some n k) = (length w ≤ n) × (length w ≡ n → m ≡ k)

-- what is seen is a piece that the text begins with, or nothing
abbrev pub Got : List ℕ → List ℕ → Sight → Type 0
Got before text (none o) = o ≡ 0
Got before text (some n m) = (w rest : List ℕ) × (text ≡ w ++ rest) × (length w ≡ n) × IsPiece before w m

pub longer_covers : (f : List ℕ → Meaning) (w t : List ℕ) → Covers w (f w) (some (length (w ++ t)) (f (w ++ t)))
longer_covers f w t =
    let l : length (w ++ t) ≡ length w + length t = length-append w t in
    (omega arith, λ e. let z : length t ≡ 0 = omega arith in ap f (sym (ap (λ s. w ++ s) (nil_from_length t z) ∙ append-nil w)))

pub front_covers : (p : ℕ → Bool) (f : List ℕ → Meaning) (w after : List ℕ) → every p w ≡ true → Covers w (f w) (some (length (front p (w ++ after))) (f (front p (w ++ after))))
front_covers p f w after h = rw (front_over p w after h) (longer_covers f w (front p after))

pub far_covers : (w : List ℕ) (m k : Meaning) (n : ℕ) → length w < n → Covers w m (some n k)
far_covers w m k n l = (omega arith, λ e. absurd (omega arith))

-- what covers a literal of n bytes that isn't closed
abbrev pub Opens : ℕ → Sight → Type 0
Opens n s = (w : List ℕ) → length w ≡ n → Covers w (Fault 0) s

pub opens_far : (n k : ℕ) (m : Meaning) → n < k → Opens n (some k m)
opens_far n k m l w e = far_covers w (Fault 0) m k (omega arith)

pub opens_fault : (n k : ℕ) → n ≤ k → Opens n (some k (Fault 0))
opens_fault n k l w e = (omega arith, λ q. refl)
