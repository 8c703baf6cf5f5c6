-- Strings.
use Rattle.std.proofs.Common.{ℕ, zero, suc, ◌≡◌, ◌+◌, ◌≤◌, List, [], ◌∷◌, ◌++◌, Bool, true, false, Option, Some, None, refl, sym, ap, subst, ◌∙◌, arith, length, length-append, append_assoc, append-nil}
use Rattle.std.specs.Prelude.{nat_eq}
use Rattle.std.proofs.lemmas.Bool.{eqb-true}
use Rattle.std.proofs.lemmas.Bool.Decides.{nat_tests}
use Rattle.c_tree.specs.declared.token.Class.TheVariants as class
use Rattle.c_tree.specs.declared.token.Value.TheVariants as value
use Rattle.c_tree.specs.Scan.{Piece, Wrong, is_text, escape_or, string_end}
use Rattle.c_tree.specs.Tokens.{Meaning, Real, Fault, IsPiece, InString, empty, itself, escaped}
use Rattle.c_tree.specs.Tokens as is
use Rattle.c_tree.proofs.Sight.{Sight, some, sized, seen, string_reach}
use Rattle.c_tree.proofs.Fronts.{Covers, Got, Opens, opens_far, opens_fault}

-- what is seen of a string, n bytes on, that stands for these bytes so far
abbrev shown : ℕ → List ℕ → List ℕ → Sight
shown n s t = sized (string_reach n t) (string_end n s t)

sized_wrong : (n o : ℕ) → 1 ≤ n → sized n (Wrong o) ≡ some n (Fault o)
sized_wrong zero o l = absurd (omega arith)
sized_wrong (suc n) o l = refl

-- ---- one item

text_no : (b : ℕ) → is_text b ≡ true → (nat_eq b 34 ≡ false) × (nat_eq b 92 ≡ false)
text_no b h = (grind (arith, nat_tests), grind (arith, nat_tests))

shown_itself : (n : ℕ) (s : List ℕ) (b : ℕ) (t : List ℕ) → is_text b ≡ true → shown n s (b ∷ t) ≡ shown (n + 1) (s ++ b ∷ []) t
shown_itself n s b [] h =
    let q = text_no b h in
    let r : string_reach n (b ∷ []) ≡ n + 1 = rw (h, string_reach) refl in
    let p : string_end n s (b ∷ []) ≡ Wrong 0 = rw (q.0, string_end) refl in
    λ i. sized (r i) (p i)
shown_itself n s b (c ∷ t) h =
    let q = text_no b h in
    let r : string_reach n (b ∷ c ∷ t) ≡ string_reach (n + 1) (c ∷ t) = rw (q.1, h, string_reach) refl in
    let p : string_end n s (b ∷ c ∷ t) ≡ string_end (n + 1) (s ++ b ∷ []) (c ∷ t) = rw (q.0, q.1, h, string_end) refl in
    λ i. sized (r i) (p i)

shown_escaped : (n : ℕ) (s : List ℕ) (c v : ℕ) (t : List ℕ) → escape_or 34 34 c ≡ Some v → shown n s (92 ∷ c ∷ t) ≡ shown (n + 2) (s ++ v ∷ []) t
shown_escaped n s c v t h =
    ap (λ (o : Option ℕ). sized (elim o as (λ _. ℕ) [ Some v ↦ string_reach (n + 2) t | None ↦ n + 2 ]) (elim o as (λ _. Piece) [ Some v ↦ string_end (n + 2) (s ++ v ∷ []) t | None ↦ Wrong n ])) h

shown_over : (n : ℕ) (s u bytes t : List ℕ) → InString u bytes → shown n s (u ++ t) ≡ shown (n + length u) (s ++ bytes) t
shown_over n s _ _ t empty = λ i. shown ((let e : n ≡ n + 0 = omega arith in e) i) (sym (append-nil s) i) t
shown_over n s _ _ t (itself b u bytes h m) =
    let e : n + 1 + length u ≡ n + suc (length u) = omega arith in
    shown_itself n s b (u ++ t) h ∙ (shown_over (n + 1) (s ++ b ∷ []) u bytes t m ∙ λ i. shown (e i) (append_assoc s (b ∷ []) bytes i) t)
shown_over n s _ _ t (escaped c v u bytes h m) =
    let e : n + 2 + length u ≡ n + suc (suc (length u)) = omega arith in
    shown_escaped n s c v (u ++ t) h ∙ (shown_over (n + 2) (s ++ v ∷ []) u bytes t m ∙ λ i. shown (e i) (append_assoc s (v ∷ []) bytes i) t)

-- ---- where the items stop

pub data Stop : List ℕ → Type 0 where
  at_end : Stop []
  at_quote : (t : List ℕ) → Stop (34 ∷ t)
  at_last : Stop (92 ∷ [])
  at_escape : (c : ℕ) (t : List ℕ) → escape_or 34 34 c ≡ None → Stop (92 ∷ c ∷ t)
  at_byte : (b : ℕ) (t : List ℕ) → nat_eq b 34 ≡ false → nat_eq b 92 ≡ false → is_text b ≡ false → Stop (b ∷ t)

abbrev Parts : List ℕ → Type 0
Parts t = (u bytes rest : List ℕ) × (t ≡ u ++ rest) × InString u bytes × Stop rest

parts_stop : (t : List ℕ) → Stop t → Parts t
parts_stop t s = ([], [], t, refl, empty, s)

parts_itself : (b : ℕ) (t : List ℕ) → is_text b ≡ true → Parts t → Parts (b ∷ t)
parts_itself b t h (u, bytes, rest, e, m, s) = (b ∷ u, b ∷ bytes, rest, ap (λ x. b ∷ x) e, itself b u bytes h m, s)

parts_escape : (c : ℕ) (t : List ℕ) (o : Option ℕ) → escape_or 34 34 c ≡ o → Parts t → Parts (92 ∷ c ∷ t)
parts_escape c t None h p = parts_stop (92 ∷ c ∷ t) (at_escape c t h)
parts_escape c t (Some v) h (u, bytes, rest, e, m, s) = (92 ∷ c ∷ u, v ∷ bytes, rest, ap (λ x. 92 ∷ c ∷ x) e, escaped c v u bytes h m, s)

parts_byte : (b : ℕ) (t : List ℕ) (quote slash plain : Bool) → nat_eq b 34 ≡ quote → nat_eq b 92 ≡ slash → is_text b ≡ plain → Parts (92 ∷ t) → Parts t → Parts (b ∷ t)
parts_byte b t true slash plain h g k e p = subst (λ x. Parts (x ∷ t)) (sym (eqb-true b 34 h)) (parts_stop (34 ∷ t) (at_quote t))
parts_byte b t false true plain h g k e p = subst (λ x. Parts (x ∷ t)) (sym (eqb-true b 92 g)) e
parts_byte b t false false true h g k e p = parts_itself b t k p
parts_byte b t false false false h g k e p = parts_stop (b ∷ t) (at_byte b t h g k)

parts_both : (t : List ℕ) → Parts t × Parts (92 ∷ t)
parts_both [] = (parts_stop [] at_end, parts_stop (92 ∷ []) at_last)
parts_both (b ∷ t) = let h = parts_both t in (parts_byte b t _ _ _ refl refl refl h.1 h.0, parts_escape b t _ refl h.0)

parts : (t : List ℕ) → Parts t
parts t = (parts_both t).0

-- ---- what is seen there

shown_end : (n : ℕ) (s : List ℕ) → 1 ≤ n → shown n s [] ≡ some n (Fault 0)
shown_end n s l = sized_wrong n 0 l

shown_quote : (n : ℕ) (s t : List ℕ) → shown n s (34 ∷ t) ≡ some (n + 1) (Real class.Text (value.Bytes s))
shown_quote n s [] = refl
shown_quote n s (c ∷ t) = refl

shown_last : (n : ℕ) (s : List ℕ) → 1 ≤ n → shown n s (92 ∷ []) ≡ some n (Fault 0)
shown_last n s l = sized_wrong n 0 l

shown_wrong : (n : ℕ) (s : List ℕ) (c : ℕ) (t : List ℕ) → escape_or 34 34 c ≡ None → shown n s (92 ∷ c ∷ t) ≡ some (n + 2) (Fault n)
shown_wrong n s c t h =
    ap (λ (o : Option ℕ). sized (elim o as (λ _. ℕ) [ Some v ↦ string_reach (n + 2) t | None ↦ n + 2 ]) (elim o as (λ _. Piece) [ Some v ↦ string_end (n + 2) (s ++ v ∷ []) t | None ↦ Wrong n ])) h ∙ sized_wrong (n + 2) n (omega arith)

shown_byte : (n : ℕ) (s : List ℕ) (b : ℕ) (t : List ℕ) → 1 ≤ n → nat_eq b 34 ≡ false → nat_eq b 92 ≡ false → is_text b ≡ false → shown n s (b ∷ t) ≡ some n (Fault 0)
shown_byte n s b [] l h g k =
    let r : string_reach n (b ∷ []) ≡ n = rw (k, string_reach) refl in
    let p : string_end n s (b ∷ []) ≡ Wrong 0 = rw (h, string_end) refl in
    (λ i. sized (r i) (p i)) ∙ sized_wrong n 0 l
shown_byte n s b (c ∷ t) l h g k =
    let r : string_reach n (b ∷ c ∷ t) ≡ n = rw (g, k, string_reach) refl in
    let p : string_end n s (b ∷ c ∷ t) ≡ Wrong 0 = rw (h, g, k, string_end) refl in
    (λ i. sized (r i) (p i)) ∙ sized_wrong n 0 l

-- ---- an open string of n bytes

opens_stop : (n k : ℕ) (s rest : List ℕ) → Stop rest → n ≤ k → 1 ≤ k → Opens n (shown k s rest)
opens_stop n k s _ at_end l o = subst (Opens n) (sym (shown_end k s o)) (opens_fault n k l)
opens_stop n k s _ (at_quote t) l o = subst (Opens n) (sym (shown_quote k s t)) (opens_far n (k + 1) _ (omega arith))
opens_stop n k s _ at_last l o = subst (Opens n) (sym (shown_last k s o)) (opens_fault n k l)
opens_stop n k s _ (at_escape c t h) l o = subst (Opens n) (sym (shown_wrong k s c t h)) (opens_far n (k + 2) _ (omega arith))
opens_stop n k s _ (at_byte b t h g e) l o = subst (Opens n) (sym (shown_byte k s b t o h g e)) (opens_fault n k l)

opens : (n : ℕ) (s t : List ℕ) → 1 ≤ n → Opens n (shown n s t)
opens n s t l =
    let (u, bytes, rest, e, m, p) = parts t in
    subst (Opens n) (sym (ap (shown n s) e ∙ shown_over n s u bytes rest m)) (opens_stop n (n + length u) (s ++ bytes) rest p (omega arith) (omega arith))

-- ---- covering and having

pub covers_open_string : (fresh : Bool) (u bytes after : List ℕ) → InString u bytes → Covers (34 ∷ u) (Fault 0) (seen fresh (34 ∷ (u ++ after)))
covers_open_string fresh u bytes after m = subst (Covers (34 ∷ u) (Fault 0)) (sym (shown_over 1 [] u bytes after m)) (opens (1 + length u) bytes after (omega arith) (34 ∷ u) (omega arith))

pub covers_string : (fresh : Bool) (u bytes after : List ℕ) → InString u bytes → Covers (34 ∷ (u ++ 34 ∷ [])) (Real class.Text (value.Bytes bytes)) (seen fresh (34 ∷ ((u ++ 34 ∷ []) ++ after)))
covers_string fresh u bytes after m =
    let a : (u ++ 34 ∷ []) ++ after ≡ u ++ 34 ∷ after = append_assoc u (34 ∷ []) after in
    let l : length (u ++ 34 ∷ []) ≡ length u + 1 = length-append u (34 ∷ []) in
    let e : seen fresh (34 ∷ ((u ++ 34 ∷ []) ++ after)) ≡ some (1 + length u + 1) (Real class.Text (value.Bytes bytes)) = ap (shown 1 []) a ∙ (shown_over 1 [] u bytes (34 ∷ after) m ∙ shown_quote (1 + length u) bytes after) in
    subst (Covers (34 ∷ (u ++ 34 ∷ [])) (Real class.Text (value.Bytes bytes))) (sym e) (omega arith, λ q. refl)

pub covers_wrong_string : (fresh : Bool) (u bytes : List ℕ) (b : ℕ) (after : List ℕ) → InString u bytes → escape_or 34 34 b ≡ None → Covers (34 ∷ (u ++ 92 ∷ b ∷ [])) (Fault (1 + length u)) (seen fresh (34 ∷ ((u ++ 92 ∷ b ∷ []) ++ after)))
covers_wrong_string fresh u bytes b after m h =
    let a : (u ++ 92 ∷ b ∷ []) ++ after ≡ u ++ 92 ∷ b ∷ after = append_assoc u (92 ∷ b ∷ []) after in
    let l : length (u ++ 92 ∷ b ∷ []) ≡ length u + 2 = length-append u (92 ∷ b ∷ []) in
    let e : seen fresh (34 ∷ ((u ++ 92 ∷ b ∷ []) ++ after)) ≡ some (1 + length u + 2) (Fault (1 + length u)) = ap (shown 1 []) a ∙ (shown_over 1 [] u bytes (92 ∷ b ∷ after) m ∙ shown_wrong (1 + length u) bytes b after h) in
    subst (Covers (34 ∷ (u ++ 92 ∷ b ∷ [])) (Fault (1 + length u))) (sym e) (omega arith, λ q. refl)

got_open : (before u bytes rest : List ℕ) → InString u bytes → Got before (34 ∷ (u ++ rest)) (some (1 + length u) (Fault 0))
got_open before u bytes rest m = (34 ∷ u, rest, refl, omega arith, is.open_string u bytes refl m)

got_stop : (before u bytes rest : List ℕ) → InString u bytes → Stop rest → Got before (34 ∷ (u ++ rest)) (shown (1 + length u) bytes rest)
got_stop before u bytes _ m at_end = subst (Got before (34 ∷ (u ++ []))) (sym (shown_end (1 + length u) bytes (omega arith))) (got_open before u bytes [] m)
got_stop before u bytes _ m (at_quote t) =
    let a : u ++ 34 ∷ t ≡ (u ++ 34 ∷ []) ++ t = sym (append_assoc u (34 ∷ []) t) in
    let l : length (u ++ 34 ∷ []) ≡ length u + 1 = length-append u (34 ∷ []) in
    subst (Got before (34 ∷ (u ++ 34 ∷ t))) (sym (shown_quote (1 + length u) bytes t)) (34 ∷ (u ++ 34 ∷ []), t, ap (λ x. 34 ∷ x) a, omega arith, is.string u bytes refl m)
got_stop before u bytes _ m at_last = subst (Got before (34 ∷ (u ++ 92 ∷ []))) (sym (shown_last (1 + length u) bytes (omega arith))) (got_open before u bytes (92 ∷ []) m)
got_stop before u bytes _ m (at_escape c t h) =
    let a : u ++ 92 ∷ c ∷ t ≡ (u ++ 92 ∷ c ∷ []) ++ t = sym (append_assoc u (92 ∷ c ∷ []) t) in
    let l : length (u ++ 92 ∷ c ∷ []) ≡ length u + 2 = length-append u (92 ∷ c ∷ []) in
    subst (Got before (34 ∷ (u ++ 92 ∷ c ∷ t))) (sym (shown_wrong (1 + length u) bytes c t h)) (34 ∷ (u ++ 92 ∷ c ∷ []), t, ap (λ x. 34 ∷ x) a, omega arith, is.wrong_string u bytes c refl m h)
got_stop before u bytes _ m (at_byte b t h g k) = subst (Got before (34 ∷ (u ++ b ∷ t))) (sym (shown_byte (1 + length u) bytes b t (omega arith) h g k)) (got_open before u bytes (b ∷ t) m)

pub got_string : (before : List ℕ) (fresh : Bool) (t : List ℕ) → Got before (34 ∷ t) (seen fresh (34 ∷ t))
got_string before fresh t =
    let (u, bytes, rest, e, m, p) = parts t in
    let g : Got before (34 ∷ (u ++ rest)) (shown 1 [] (u ++ rest)) = subst (Got before (34 ∷ (u ++ rest))) (sym (shown_over 1 [] u bytes rest m)) (got_stop before u bytes rest m p) in
    subst (λ x. Got before (34 ∷ x) (shown 1 [] x)) (sym e) g
