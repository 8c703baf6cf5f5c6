-- Whether only blanks stand before a place in its line.
use Rattle.std.proofs.Common.{ℕ, ◌≡◌, ◌+◌, List, [], ◌∷◌, ◌++◌, Bool, true, false, ◌⊎◌, inl, inr, Some, refl, sym, ap, subst, ◌∙◌, arith, length, length-append, append_assoc, append-nil}
use Rattle.std.specs.Prelude.{nat_eq, not, ◌&&◌}
use Rattle.std.specs.Bool.{Decides}
use Rattle.std.proofs.lemmas.Bool.{and_parts, and_from, or_cases, or_left, or_right, eqb-true, eq-eqb, not-true}
use Rattle.std.proofs.lemmas.Bool.Decides.{nat_tests}
use Rattle.std.proofs.lemmas.List.{same_from_push}
use Rattle.c_tree.specs.declared.token.Class.{Class}
use Rattle.c_tree.specs.declared.token.Value.{Value}
use Rattle.c_tree.specs.Scan.{is_blank, is_letter, is_digit, is_name_byte, in_line, fresh_after, look, signs}
use Rattle.c_tree.specs.Tokens.{Meaning, Space, Real, IsFresh, at_start, after_line, after_blank, IsPiece, IsDecimal, a_zero, digits, IsSuffix, no_letter, small_letter, large_letter, every}
use Rattle.c_tree.specs.Tokens as is
use Rattle.c_tree.proofs.Fronts.{every_weaker, look_test}
use Rattle.c_tree.proofs.Directives.{directive_line}

-- ---- one byte on, and many

fresh_byte : (before : List ℕ) (f : Bool) (b : ℕ) → Decides f (IsFresh before) → fresh_after f b ≡ true → (nat_eq b 10 ≡ true) ⊎ ((is_blank b && f) ≡ true) → IsFresh (before ++ b ∷ [])
fresh_byte before f b d h (inl e) = after_line (before ++ b ∷ []) before (ap (λ x. before ++ x ∷ []) (eqb-true b 10 e))
fresh_byte before f b d h (inr e) = let q = and_parts (is_blank b) f e in after_blank (before ++ b ∷ []) before b refl q.0 (d.0 q.1)

byte_fresh : (before text : List ℕ) (f : Bool) (b : ℕ) → Decides f (IsFresh before) → text ≡ before ++ b ∷ [] → IsFresh text → fresh_after f b ≡ true
byte_fresh before _ f b d e at_start = let l : 0 ≡ length before + 1 = ap length e ∙ length-append before (b ∷ []) in absurd (omega arith)
byte_fresh before text f b d e (after_line _ above g) =
    let q = same_from_push above before 10 b (sym g ∙ e) in
    or_left (nat_eq b 10) _ (eq-eqb b 10 (sym q.1))
byte_fresh before text f b d e (after_blank _ front c g h k) =
    let q = same_from_push front before c b (sym g ∙ e) in
    or_right (nat_eq b 10) _ (and_from (is_blank b) f (ap is_blank (sym q.1) ∙ h) (d.1 (subst IsFresh q.0 k)))

fresh_push : (before : List ℕ) (f : Bool) (b : ℕ) → Decides f (IsFresh before) → Decides (fresh_after f b) (IsFresh (before ++ b ∷ []))
fresh_push before f b d = (λ h. fresh_byte before f b d h (or_cases (nat_eq b 10) (is_blank b && f) h), λ h. byte_fresh before (before ++ b ∷ []) f b d refl h)

abbrev pub runs : Bool → List ℕ → Bool
runs f [] = f
runs f (b ∷ bs) = runs (fresh_after f b) bs

pub fresh_more : (before w : List ℕ) (f : Bool) → Decides f (IsFresh before) → Decides (runs f w) (IsFresh (before ++ w))
fresh_more before [] f d = subst (λ x. Decides f (IsFresh x)) (sym (append-nil before)) d
fresh_more before (b ∷ bs) f d = subst (λ x. Decides (runs f (b ∷ bs)) (IsFresh x)) (append_assoc before (b ∷ []) bs) (fresh_more (before ++ b ∷ []) bs (fresh_after f b) (fresh_push before f b d))

pub fresh_none : Decides true (IsFresh [])
fresh_none = (λ h. at_start, λ h. refl)

-- ---- after a piece

runs_append : (f : Bool) (a b : List ℕ) → runs f (a ++ b) ≡ runs (runs f a) b
runs_append f [] b = refl
runs_append f (x ∷ a) b = runs_append (fresh_after f x) a b

-- in a line that has begun
runs_line : (w : List ℕ) → every in_line w ≡ true → runs false w ≡ false
runs_line [] h = refl
runs_line (b ∷ bs) h =
    let q = and_parts (in_line b) (every in_line bs) h in
    let e : fresh_after false b ≡ false = grind (arith, nat_tests) in
    ap (λ f. runs f bs) e ∙ runs_line bs q.1

runs_from : (f : Bool) (b : ℕ) (bs : List ℕ) → fresh_after f b ≡ false → every in_line bs ≡ true → runs f (b ∷ bs) ≡ false
runs_from f b bs e h = ap (λ g. runs g bs) e ∙ runs_line bs h

-- by the last byte
runs_last : (f : Bool) (a : List ℕ) (c : ℕ) → ((g : Bool) → fresh_after g c ≡ false) → runs f (a ++ c ∷ []) ≡ false
runs_last f a c h = runs_append f a (c ∷ []) ∙ h (runs f a)

letter_ends : (f : Bool) (b : ℕ) → is_letter b ≡ true → fresh_after f b ≡ false
letter_ends f b h =
    let e : nat_eq b 10 ≡ false = grind (arith, nat_tests) in
    let g : is_blank b ≡ false = grind (arith, nat_tests) in
    rw (e, g) refl

digit_ends : (f : Bool) (b : ℕ) → is_digit b ≡ true → fresh_after f b ≡ false
digit_ends f b h =
    let e : nat_eq b 10 ≡ false = grind (arith, nat_tests) in
    let g : is_blank b ≡ false = grind (arith, nat_tests) in
    rw (e, g) refl

name_in_line : (b : ℕ) → is_name_byte b ≡ true → in_line b ≡ true
name_in_line b h = grind (arith, nat_tests)

digit_in_line : (b : ℕ) → is_digit b ≡ true → in_line b ≡ true
digit_in_line b h = grind (arith, nat_tests)

runs_decimal : (f : Bool) (w : List ℕ) → IsDecimal w → runs f w ≡ false
runs_decimal f _ a_zero = refl
runs_decimal f _ (digits d ds h z k) = runs_from f d ds (digit_ends f d h) (every_weaker is_digit in_line ds digit_in_line k)

runs_number : (f : Bool) (w suffix : List ℕ) (long : Bool) → IsDecimal w → IsSuffix suffix long → runs f (w ++ suffix) ≡ false
runs_number f w _ _ d no_letter = ap (runs f) (append-nil w) ∙ runs_decimal f w d
runs_number f w _ _ d small_letter = runs_last f w 108 (λ g. refl)
runs_number f w _ _ d large_letter = runs_last f w 76 (λ g. refl)

abbrev ends_line : List ℕ → Class → Bool
ends_line w c = not (runs true w) && not (runs false w)

runs_operator : (f : Bool) (w : List ℕ) (c : Class) → look signs w ≡ Some c → runs f w ≡ false
runs_operator true w c h = not-true _ (and_parts (not (runs true w)) (not (runs false w)) (look_test ends_line signs w c refl h)).0
runs_operator false w c h = not-true _ (and_parts (not (runs true w)) (not (runs false w)) (look_test ends_line signs w c refl h)).1

first_same : (b c : ℕ) (bs w rest : List ℕ) → b ∷ bs ≡ (c ∷ w) ++ rest → c ≡ b
first_same b c bs w rest e = cc

-- what the scan takes to stand before the place after a space
pub runs_space : (before w : List ℕ) (f : Bool) (b : ℕ) (bs rest : List ℕ) → b ∷ bs ≡ w ++ rest → IsPiece before w Space → runs f w ≡ fresh_after f b
runs_space before w f b bs rest e (is.white c g h) = ap (runs f) g ∙ ap (fresh_after f) (first_same b c bs [] rest (e ∙ ap (λ x. x ++ rest) g))
runs_space before w f b bs rest e (is.line_comment body g h) = ap (runs f) g ∙ (runs_line body h ∙ ap (fresh_after f) (first_same b 47 bs (47 ∷ body) rest (e ∙ ap (λ x. x ++ rest) g)))
runs_space before w f b bs rest e (is.comment body g h) = ap (runs f) g ∙ (runs_append f (47 ∷ 42 ∷ body) (42 ∷ 47 ∷ []) ∙ ap (fresh_after f) (first_same b 47 bs (42 ∷ (body ++ 42 ∷ 47 ∷ [])) rest (e ∙ ap (λ x. x ++ rest) g)))

-- and after a token
pub runs_real : (before w : List ℕ) (f : Bool) (c : Class) (v : Value) → IsPiece before w (Real c v) → runs f w ≡ false
runs_real before w f _ _ (is.directive c d g) = let q = directive_line w c d in ap (runs f) q.1 ∙ runs_line q.0 q.2
runs_real before w f _ _ (is.word b body g h k) = ap (runs f) g ∙ runs_from f b body (letter_ends f b h) (every_weaker is_name_byte in_line body name_in_line k)
runs_real before w f _ _ (is.number ds suffix long g d s) = ap (runs f) g ∙ runs_number f ds suffix long d s
runs_real before w f _ _ (is.character u v g m) = ap (runs f) g ∙ runs_last f (39 ∷ u) 39 (λ g. refl)
runs_real before w f _ _ (is.string u bytes g m) = ap (runs f) g ∙ runs_last f (34 ∷ u) 34 (λ g. refl)
runs_real before w f _ _ (is.operator c h) = runs_operator f w c h
