-- Facts on the functions that read the front of a text.
use Rattle.std.proofs.Common.{◌≡◌, ◌≢◌, ℕ, zero, suc, ◌+◌, ◌*◌, ◌-◌, ◌<◌, ◌≤◌, min, Bool, true, false, ◌&&◌, cond, List, [], ◌∷◌, ◌++◌, length, take, drop, get_or, Some, refl, sym, ap, subst, ◌∙◌, arith}
use Rattle.std.specs.Prelude.{nat_eq}
use Rattle.std.specs.Str.{bytes_eq}
use Rattle.std.proofs.lemmas.List.{drop_more}
use Rattle.std.proofs.lemmas.Bool.Decides.{nat_tests}
use Rattle.c_tree.specs.declared.token.Class.{Class}
use Rattle.c_tree.specs.declared.token.Value.{Value}
use Rattle.c_tree.specs.Scan.{One, begins_with, comment_end, escape_or, front, is_letter, is_name_byte, is_text, name, no_return, number_value, put_blank, squeezed, string_end, word_class, word_value}

pub begins-is : (p s : List ℕ) → bytes_eq p (take (length p) s) ≡ begins_with p s
begins-is [] [] = refl
begins-is [] (y ∷ s) = refl
begins-is (x ∷ p) [] = refl
begins-is (x ∷ p) (y ∷ s) = ap (λ b. nat_eq x y && b) (begins-is p s)

-- ---- numbers

pub number_value-push : (v : ℕ) (ds : List ℕ) (d : ℕ) → number_value v (ds ++ d ∷ []) ≡ number_value v ds * 10 + (d - 48)
number_value-push v [] d = refl
number_value-push v (e ∷ ds) d = number_value-push (v * 10 + (e - 48)) ds d

pub capped : (v w d m : ℕ) → v ≡ min w m → min (min (v * 10) m + d) m ≡ min (w * 10 + d) m
capped v w d m e = omega arith

-- ---- lines

pub no_return_at : (line : List ℕ) (n : ℕ) → length line ≡ n + 1 → get_or line n 0 ≡ 13 → no_return line ≡ take n line
no_return_at [] n h e = absurd (omega arith)
no_return_at (b ∷ []) zero h e = rw e refl
no_return_at (b ∷ []) (suc n) h e = absurd (omega arith)
no_return_at (b ∷ c ∷ bs) zero h e = absurd (omega arith)
no_return_at (b ∷ c ∷ bs) (suc n) h e = ap (λ l. b ∷ l) (no_return_at (c ∷ bs) n (omega arith) e)

pub no_return_other : (line : List ℕ) (n : ℕ) → length line ≡ n + 1 → get_or line n 0 ≢ 13 → no_return line ≡ line
no_return_other [] n h e = absurd (omega arith)
no_return_other (b ∷ []) zero h e = let f : nat_eq b 13 ≡ false = grind (arith, nat_tests) in rw (f, no_return) refl
no_return_other (b ∷ []) (suc n) h e = absurd (omega arith)
no_return_other (b ∷ c ∷ bs) zero h e = absurd (omega arith)
no_return_other (b ∷ c ∷ bs) (suc n) h e = ap (λ l. b ∷ l) (no_return_other (c ∷ bs) n (omega arith) e)

-- the rest of a line squeezed, where blanks may stand before it
abbrev pub rest_of : Bool → List ℕ → List ℕ
rest_of after rest = cond after (put_blank (squeezed rest)) (squeezed rest)

-- ---- comments

pub comment_goes_on : (n at : ℕ) (text : List ℕ) → at < length text → begins_with (42 ∷ 47 ∷ []) (drop at text) ≡ false → comment_end n (drop at text) ≡ comment_end (n + 1) (drop (at + 1) text)
comment_goes_on n at text h e = let p = drop_more text at 0 h in subst (λ l. comment_end n l ≡ comment_end (n + 1) (drop (at + 1) text)) (sym p) (rw (rw p at e, comment_end) refl)

-- ---- strings

pub string_escape : (text : List ℕ) (v : ℕ) → 2 ≤ length text → get_or text 0 0 ≡ 92 → escape_or 34 34 (get_or text 1 0) ≡ Some v → (n : ℕ) (so_far : List ℕ) → string_end n so_far text ≡ string_end (n + 2) (so_far ++ v ∷ []) (drop 2 text)
string_escape [] v h e s n so_far = absurd (omega arith)
string_escape (b ∷ []) v h e s n so_far = absurd (omega arith)
string_escape (b ∷ c ∷ bs) v h e s n so_far = subst (λ x. string_end n so_far (x ∷ c ∷ bs) ≡ string_end (n + 2) (so_far ++ v ∷ []) bs) (sym e) (rw (s, string_end) refl)

no_quote : (b : ℕ) → is_text b ≡ true → (nat_eq b 34 ≡ false) × (nat_eq b 92 ≡ false)
no_quote b e = (grind (arith, nat_tests), grind (arith, nat_tests))

pub string_text : (text : List ℕ) → is_text (get_or text 0 0) ≡ true → (n : ℕ) (so_far : List ℕ) → string_end n so_far text ≡ string_end (n + 1) (so_far ++ get_or text 0 0 ∷ []) (drop 1 text)
string_text [] e n so_far = absurd cc
string_text (b ∷ []) e n so_far = rw ((no_quote b e).0, string_end) refl
string_text (b ∷ c ∷ bs) e n so_far = rw ((no_quote b e).0, (no_quote b e).1, e, string_end) refl

-- ---- names

name_starts : (text : List ℕ) → 1 ≤ length text → is_letter (get_or text 0 0) ≡ true → name text ≡ Some (One (word_class (front is_name_byte text)) (word_value (word_class (front is_name_byte text)) (front is_name_byte text)) (length (front is_name_byte text)))
name_starts [] h e = absurd (omega arith)
name_starts (b ∷ bs) h e = rw (e, name) refl

pub name_is : (text w : List ℕ) (c : Class) (v : Value) → 1 ≤ length text → is_letter (get_or text 0 0) ≡ true → w ≡ front is_name_byte text → c ≡ word_class w → v ≡ word_value c w → Some (One c v (length w)) ≡ name text
name_is text w c v h e f g k = rw (k, g) (ap (λ x. Some (One (word_class x) (word_value (word_class x) x) (length x))) f ∙ sym (name_starts text h e))
