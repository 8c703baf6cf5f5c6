-- Operators, and what begins no piece.
use Rattle.std.proofs.Common.{ℕ, ◌≡◌, ◌≤◌, List, [], ◌∷◌, ◌++◌, Bool, true, false, ◌||◌, Option, Some, None, refl, sym, ap, subst, ◌∙◌, arith, length, codes}
use Rattle.std.specs.Prelude.{nat_eq, nat_lt, not, ◌&&◌}
use Rattle.std.proofs.lemmas.Bool.{and_parts, and_from, or_parts, false≢true, eqb-true, eq-eqb, not-true, ltb-false}
use Rattle.c_tree.specs.declared.token.Class.{Class}
use Rattle.c_tree.specs.declared.token.Value.TheVariants as value
use Rattle.c_tree.specs.Scan.{Piece, One, Table, is_white, is_letter, is_digit, begins_with, same, look, signs, sign_of, first_piece}
use Rattle.c_tree.specs.Tokens.{Meaning, Space, Real, Fault, IsPiece}
use Rattle.c_tree.specs.Tokens as is
use Rattle.c_tree.proofs.Sight.{Sight, some, sized, seen, seen_other, IsOther}
use Rattle.c_tree.proofs.Fronts.{Covers, Got, same_sound, every_row, look_test}
use Rattle.c_tree.proofs.Comments.{slash_line, slash_comment, got_line_comment, got_comment}

-- ---- a text that begins with another

begins_append : (a rest : List ℕ) → begins_with a (a ++ rest) ≡ true
begins_append [] rest = refl
begins_append (x ∷ xs) rest = and_from (nat_eq x x) _ (eq-eqb x x refl) (begins_append xs rest)

pub begins_rest : (a text : List ℕ) → begins_with a text ≡ true → (rest : List ℕ) × (text ≡ a ++ rest)
begins_rest [] text h = (text, refl)
begins_rest (x ∷ xs) [] h = absurd (false≢true h)
begins_rest (x ∷ xs) (y ∷ ys) h =
    let q = and_parts (nat_eq x y) (begins_with xs ys) h in
    let r = begins_rest xs ys q.1 in
    (r.0, λ i. sym (eqb-true x y q.0) i ∷ r.1 i)

same_self : (a : List ℕ) → same a a ≡ true
same_self [] = refl
same_self (x ∷ xs) = and_from (nat_eq x x) _ (eq-eqb x x refl) (same_self xs)

begins_same : (a w after : List ℕ) → begins_with a (w ++ after) ≡ true → length w ≡ length a → a ≡ w
begins_same [] [] after h l = refl
begins_same [] (y ∷ ys) after h l = absurd (omega arith)
begins_same (x ∷ xs) [] after h l = absurd (omega arith)
begins_same (x ∷ xs) (y ∷ ys) after h l =
    let q = and_parts (nat_eq x y) (begins_with xs (ys ++ after)) h in
    λ i. eqb-true x y q.0 i ∷ begins_same xs ys after q.1 (omega arith) i

-- ---- the first of the table

abbrev no_longer : ℕ → List ℕ → Class → Bool
no_longer n w c = not (nat_lt n (length w))

-- the longest first
abbrev falling : Table → Bool
falling [] = true
falling (r ∷ rs) = every_row (no_longer (length r.0)) rs && falling rs

abbrev sign_sight : Table → List ℕ → Sight
sign_sight rs text = sized 0 (first_piece (sign_of rs text ∷ []))

sign_yes : (a : List ℕ) (d : Class) (rs : Table) (text : List ℕ) → begins_with a text ≡ true → sign_of ((a, d) ∷ rs) text ≡ Some (One d value.Nothing (length a))
sign_yes a d rs text h = rw (h, sign_of) refl

sign_no : (a : List ℕ) (d : Class) (rs : Table) (text : List ℕ) → begins_with a text ≡ false → sign_of ((a, d) ∷ rs) text ≡ sign_of rs text
sign_no a d rs text h = rw (h, sign_of) refl

sight_yes : (a : List ℕ) (d : Class) (rs : Table) (text : List ℕ) → begins_with a text ≡ true → sign_sight ((a, d) ∷ rs) text ≡ some (length a) (Real d value.Nothing)
sight_yes a d rs text h = ap (λ o. sized 0 (first_piece (o ∷ []))) (sign_yes a d rs text h)

sight_no : (a : List ℕ) (d : Class) (rs : Table) (text : List ℕ) → begins_with a text ≡ false → sign_sight ((a, d) ∷ rs) text ≡ sign_sight rs text
sight_no a d rs text h = ap (λ o. sized 0 (first_piece (o ∷ []))) (sign_no a d rs text h)

sign_step : (a : List ℕ) (d : Class) (rs : Table) (w : List ℕ) (c : Class) (after : List ℕ) (s b : Bool) → same a w ≡ s → begins_with a (w ++ after) ≡ b → every_row (no_longer (length a)) rs ≡ true → look ((a, d) ∷ rs) w ≡ Some c → (look rs w ≡ Some c → Covers w (Real c value.Nothing) (sign_sight rs (w ++ after))) → Covers w (Real c value.Nothing) (sign_sight ((a, d) ∷ rs) (w ++ after))
sign_step a d rs w c after true b e f h g k =
    let same_class : d ≡ c = cc (rw (e, look) at g) in
    let aw : a ≡ w = same_sound a w e in
    let begins : begins_with a (w ++ after) ≡ true = ap (λ v. begins_with v (w ++ after)) aw ∙ begins_append w after in
    subst (Covers w (Real c value.Nothing)) (sym (sight_yes a d rs (w ++ after) begins)) ((let l : length a ≡ length w = ap length aw in omega arith), λ l. ap (λ v. Real v value.Nothing) (sym same_class))
sign_step a d rs w c after false true e f h g k =
    let found : look rs w ≡ Some c = rw (e, look) at g in
    let t : no_longer (length a) w c ≡ true = look_test (no_longer (length a)) rs w c h found in
    let l : length w ≤ length a = ltb-false (length a) (length w) (not-true _ t) in
    subst (Covers w (Real c value.Nothing)) (sym (sight_yes a d rs (w ++ after) f)) (l, λ q. absurd (false≢true (sym e ∙ (ap (same a) (sym (begins_same a w after f q)) ∙ same_self a))))
sign_step a d rs w c after false false e f h g k =
    subst (Covers w (Real c value.Nothing)) (sym (sight_no a d rs (w ++ after) f)) (k (rw (e, look) at g))

sign_covers : (rs : Table) (w : List ℕ) (c : Class) (after : List ℕ) → falling rs ≡ true → look rs w ≡ Some c → Covers w (Real c value.Nothing) (sign_sight rs (w ++ after))
sign_covers [] w c after h g = let bad : ⊥ = cc in absurd bad
sign_covers (r ∷ rs) w c after h g =
    let q = and_parts (every_row (no_longer (length r.0)) rs) (falling rs) h in
    sign_step r.0 r.1 rs w c after _ _ refl refl q.0 g (sign_covers rs w c after q.1)

-- a row that the text begins with
abbrev Signed : Table → List ℕ → Option Piece → Type 0
Signed rs text None = Unit {0}
Signed rs text (Some p) = (w rest : List ℕ) × (c : Class) × (p ≡ One c value.Nothing (length w)) × (text ≡ w ++ rest) × (look rs w ≡ Some c)

look_yes : (a : List ℕ) (d : Class) (rs : Table) (w : List ℕ) → same a w ≡ true → look ((a, d) ∷ rs) w ≡ Some d
look_yes a d rs w h = rw (h, look) refl

look_no : (a : List ℕ) (d : Class) (rs : Table) (w : List ℕ) → same a w ≡ false → look ((a, d) ∷ rs) w ≡ look rs w
look_no a d rs w h = rw (h, look) refl

-- a text that begins with w, but not with a
not_same : (a w rest text : List ℕ) (s : Bool) → same a w ≡ s → begins_with a text ≡ false → text ≡ w ++ rest → same a w ≡ false
not_same a w rest text true e f h = absurd (false≢true (sym f ∙ (ap (begins_with a) (h ∙ ap (λ v. v ++ rest) (sym (same_sound a w e))) ∙ begins_append a rest)))
not_same a w rest text false e f h = e

signed_more : (a : List ℕ) (d : Class) (rs : Table) (text : List ℕ) (o : Option Piece) → begins_with a text ≡ false → Signed rs text o → Signed ((a, d) ∷ rs) text o
signed_more a d rs text None f h = tt
signed_more a d rs text (Some p) f (w, rest, c, e, g, k) = (w, rest, c, e, g, look_no a d rs w (not_same a w rest text _ refl f g) ∙ k)

signed_step : (a : List ℕ) (d : Class) (rs : Table) (text : List ℕ) (b : Bool) → begins_with a text ≡ b → Signed rs text (sign_of rs text) → Signed ((a, d) ∷ rs) text (sign_of ((a, d) ∷ rs) text)
signed_step a d rs text true e h =
    let r = begins_rest a text e in
    subst (Signed ((a, d) ∷ rs) text) (sym (sign_yes a d rs text e)) (a, r.0, d, refl, r.1, look_yes a d rs a (same_self a))
signed_step a d rs text false e h = subst (Signed ((a, d) ∷ rs) text) (sym (sign_no a d rs text e)) (signed_more a d rs text _ e h)

signed : (rs : Table) (text : List ℕ) → Signed rs text (sign_of rs text)
signed [] text = tt
signed (r ∷ rs) text = signed_step r.0 r.1 rs text _ refl (signed rs text)

got_signed : (before text : List ℕ) (o : Option Piece) → Signed signs text o → Got before text (sized 0 (first_piece (o ∷ [])))
got_signed before text None h = refl
got_signed before text (Some p) (w, rest, c, e, g, k) = subst (λ q. Got before text (sized 0 q)) (sym e) (w, rest, g, refl, is.operator c k)

-- ---- the kinds of bytes that begin no operator

abbrev pub begins_other : ℕ → Bool
begins_other b = is_white b || (is_letter b || (is_digit b || (nat_eq 35 b || (nat_eq 39 b || nat_eq 34 b))))

pub other_parts : (b : ℕ) → begins_other b ≡ false → IsOther b
other_parts b h =
    let q = or_parts (is_white b) _ h in
    let r = or_parts (is_letter b) _ q.1 in
    let s = or_parts (is_digit b) _ r.1 in
    let t = or_parts (nat_eq 35 b) _ s.1 in
    let u = or_parts (nat_eq 39 b) (nat_eq 34 b) t.1 in
    (q.0, r.0, s.0, t.0, u.0, u.1)

abbrev is_sign : List ℕ → Class → Bool
is_sign [] c = false
is_sign (b ∷ bs) c = not (begins_other b) && (not (begins_with (codes "//") (b ∷ bs)) && not (begins_with (codes "/*") (b ∷ bs)))

slash_text : (d b : ℕ) (after : List ℕ) → begins_with (47 ∷ d ∷ []) (b ∷ after) ≡ true → (t : List ℕ) × (b ∷ after ≡ 47 ∷ d ∷ t)
slash_text d b after h = begins_rest (47 ∷ d ∷ []) (b ∷ after) h

covers_single : (fresh : Bool) (b : ℕ) (c : Class) (after : List ℕ) (line comment : Bool) → begins_with (codes "//") (b ∷ after) ≡ line → begins_with (codes "/*") (b ∷ after) ≡ comment → IsOther b → look signs (b ∷ []) ≡ Some c → Covers (b ∷ []) (Real c value.Nothing) (seen fresh (b ∷ after))
covers_single fresh b c after true comment e f o h =
    let r = slash_text 47 b after e in
    subst (λ t. Covers (b ∷ []) (Real c value.Nothing) (seen fresh t)) (sym r.1) (slash_line fresh (b ∷ []) (Real c value.Nothing) r.0 refl)
covers_single fresh b c after false true e f o h =
    let r = slash_text 42 b after f in
    subst (λ t. Covers (b ∷ []) (Real c value.Nothing) (seen fresh t)) (sym r.1) (slash_comment fresh (b ∷ []) (Real c value.Nothing) r.0 refl)
covers_single fresh b c after false false e f o h = subst (Covers (b ∷ []) (Real c value.Nothing)) (sym (seen_other fresh b after o e f)) (sign_covers signs (b ∷ []) c after refl h)

pub covers_operator : (fresh : Bool) (w : List ℕ) (c : Class) (after : List ℕ) → look signs w ≡ Some c → Covers w (Real c value.Nothing) (seen fresh (w ++ after))
covers_operator fresh [] c after h = absurd (false≢true (look_test is_sign signs [] c refl h))
covers_operator fresh (b ∷ []) c after h =
    let q = and_parts (not (begins_other b)) _ (look_test is_sign signs (b ∷ []) c refl h) in
    covers_single fresh b c after _ _ refl refl (other_parts b (not-true _ q.0)) h
covers_operator fresh (b ∷ d ∷ bs) c after h =
    let q = and_parts (not (begins_other b)) _ (look_test is_sign signs (b ∷ d ∷ bs) c refl h) in
    let r = and_parts (not (begins_with (codes "//") (b ∷ d ∷ bs))) _ q.1 in
    subst (Covers (b ∷ d ∷ bs) (Real c value.Nothing)) (sym (seen_other fresh b (d ∷ bs ++ after) (other_parts b (not-true _ q.0)) (not-true _ r.0) (not-true _ r.1))) (sign_covers signs (b ∷ d ∷ bs) c after refl h)

got_other_at : (before : List ℕ) (fresh : Bool) (b : ℕ) (bs : List ℕ) (line comment : Bool) → begins_with (codes "//") (b ∷ bs) ≡ line → begins_with (codes "/*") (b ∷ bs) ≡ comment → IsOther b → Got before (b ∷ bs) (seen fresh (b ∷ bs))
got_other_at before fresh b bs true comment e f o = let r = slash_text 47 b bs e in subst (λ t. Got before t (seen fresh t)) (sym r.1) (got_line_comment before fresh r.0)
got_other_at before fresh b bs false true e f o = let r = slash_text 42 b bs f in subst (λ t. Got before t (seen fresh t)) (sym r.1) (got_comment before fresh r.0)
got_other_at before fresh b bs false false e f o = subst (Got before (b ∷ bs)) (sym (seen_other fresh b bs o e f)) (got_signed before (b ∷ bs) (sign_of signs (b ∷ bs)) (signed signs (b ∷ bs)))

pub got_other : (before : List ℕ) (fresh : Bool) (b : ℕ) (bs : List ℕ) → begins_other b ≡ false → Got before (b ∷ bs) (seen fresh (b ∷ bs))
got_other before fresh b bs h = got_other_at before fresh b bs _ _ refl refl (other_parts b h)
