-- Characters.
use Rattle.std.proofs.Common.{ℕ, suc, ◌≡◌, ◌+◌, ◌≤◌, List, [], ◌∷◌, ◌++◌, Bool, true, false, Option, Some, None, refl, sym, ap, subst, ◌∙◌, arith, length, length-append, append_assoc}
use Rattle.std.specs.Prelude.{nat_eq}
use Rattle.std.proofs.lemmas.Bool.{eqb-true}
use Rattle.std.proofs.lemmas.Bool.Decides.{nat_tests}
use Rattle.c_tree.specs.declared.token.Class.TheVariants as class
use Rattle.c_tree.specs.declared.token.Value.TheVariants as value
use Rattle.c_tree.specs.Scan.{Piece, Wrong, is_character, character_escape, closed, after_quote}
use Rattle.c_tree.specs.Tokens.{Meaning, Real, Fault, IsPiece, InCharacter, empty, itself, escaped}
use Rattle.c_tree.specs.Tokens as is
use Rattle.c_tree.proofs.Sight.{Sight, some, sized, seen, character_reach}
use Rattle.c_tree.proofs.Fronts.{Covers, Got, Opens, opens_far, opens_fault}

-- what is seen of a character, after its quote
abbrev shown : List ℕ → Sight
shown bs = sized (character_reach bs) (after_quote bs)

-- ---- what the scan does with each start

shown_plain : (b : ℕ) (t : List ℕ) → is_character b ≡ true → shown (b ∷ t) ≡ sized 2 (closed b 2 t)
shown_plain b t h = let e : nat_eq b 92 ≡ false = grind (arith, nat_tests) in
    let r : character_reach (b ∷ t) ≡ 2 = rw (e, h, character_reach) refl in
    let p : after_quote (b ∷ t) ≡ closed b 2 t = rw (e, h, after_quote) refl in
    λ i. sized (r i) (p i)

shown_odd : (b : ℕ) (t : List ℕ) → is_character b ≡ false → nat_eq b 92 ≡ false → shown (b ∷ t) ≡ some 1 (Fault 0)
shown_odd b t h e =
    let r : character_reach (b ∷ t) ≡ 1 = rw (e, h, character_reach) refl in
    let p : after_quote (b ∷ t) ≡ Wrong 0 = rw (e, h, after_quote) refl in
    λ i. sized (r i) (p i)

shown_escape : (c v : ℕ) (t : List ℕ) → character_escape c ≡ Some v → shown (92 ∷ c ∷ t) ≡ sized 3 (closed v 3 t)
shown_escape c v t h = ap (λ (o : Option ℕ). sized 3 (elim o as (λ _. Piece) [ Some v ↦ closed v 3 t | None ↦ Wrong 1 ])) h

shown_wrong : (c : ℕ) (t : List ℕ) → character_escape c ≡ None → shown (92 ∷ c ∷ t) ≡ some 3 (Fault 1)
shown_wrong c t h = ap (λ (o : Option ℕ). sized 3 (elim o as (λ _. Piece) [ Some v ↦ closed v 3 t | None ↦ Wrong 1 ])) h

closed_yes : (r v n b : ℕ) (t : List ℕ) → nat_eq b 39 ≡ true → sized r (closed v n (b ∷ t)) ≡ some (n + 1) (Real class.Character (value.Number v))
closed_yes r v n b t h = rw (h, closed) refl

closed_no : (r v n b : ℕ) (t : List ℕ) → nat_eq b 39 ≡ false → sized (suc r) (closed v n (b ∷ t)) ≡ some (suc r) (Fault 0)
closed_no r v n b t h = rw (h, closed) refl

-- ---- an open character of n bytes

opens_closed_step : (n r v b : ℕ) (t : List ℕ) (y : Bool) → nat_eq b 39 ≡ y → n ≤ suc r → Opens n (sized (suc r) (closed v (suc r) (b ∷ t)))
opens_closed_step n r v b t true h l = subst (Opens n) (sym (closed_yes (suc r) v (suc r) b t h)) (opens_far n (suc r + 1) _ (omega arith))
opens_closed_step n r v b t false h l = subst (Opens n) (sym (closed_no r v (suc r) b t h)) (opens_fault n (suc r) l)

opens_closed : (n r v : ℕ) (t : List ℕ) → n ≤ suc r → Opens n (sized (suc r) (closed v (suc r) t))
opens_closed n r v [] l = opens_fault n (suc r) l
opens_closed n r v (b ∷ t) l = opens_closed_step n r v b t _ refl l

opens_escape : (c : ℕ) (t : List ℕ) (o : Option ℕ) → character_escape c ≡ o → Opens 1 (shown (92 ∷ c ∷ t))
opens_escape c t (Some v) h = subst (Opens 1) (sym (shown_escape c v t h)) (opens_closed 1 2 v t (omega arith))
opens_escape c t None h = subst (Opens 1) (sym (shown_wrong c t h)) (opens_far 1 3 _ (omega arith))

opens_byte : (b : ℕ) (t : List ℕ) (plain slash : Bool) → is_character b ≡ plain → nat_eq b 92 ≡ slash → Opens 1 (shown (b ∷ t))
opens_byte b t true s h e = subst (Opens 1) (sym (shown_plain b t h)) (opens_closed 1 1 b t (omega arith))
opens_byte b [] false true h e = subst (λ x. Opens 1 (shown (x ∷ []))) (sym (eqb-true b 92 e)) (opens_fault 1 1 (omega arith))
opens_byte b (c ∷ t) false true h e = subst (λ x. Opens 1 (shown (x ∷ c ∷ t))) (sym (eqb-true b 92 e)) (opens_escape c t _ refl)
opens_byte b t false false h e = subst (Opens 1) (sym (shown_odd b t h e)) (opens_fault 1 1 (omega arith))

opens : (t : List ℕ) → Opens 1 (shown t)
opens [] = opens_fault 1 1 (omega arith)
opens (b ∷ t) = opens_byte b t _ _ refl refl

-- ---- covering

pub covers_open_character : (fresh : Bool) (u bytes after : List ℕ) → InCharacter u bytes → length bytes ≤ 1 → Covers (39 ∷ u) (Fault 0) (seen fresh (39 ∷ (u ++ after)))
covers_open_character fresh _ _ after empty l = opens after (39 ∷ []) refl
covers_open_character fresh _ _ after (itself b _ _ h empty) l = subst (Opens 2) (sym (shown_plain b after h)) (opens_closed 2 1 b after (omega arith)) (39 ∷ b ∷ []) refl
covers_open_character fresh _ _ after (escaped b v _ _ h empty) l = subst (Opens 3) (sym (shown_escape b v after h)) (opens_closed 3 2 v after (omega arith)) (39 ∷ 92 ∷ b ∷ []) refl
covers_open_character fresh _ _ after (itself b _ _ h (itself c _ _ g m)) l = absurd (omega arith)
covers_open_character fresh _ _ after (itself b _ _ h (escaped c v _ _ g m)) l = absurd (omega arith)
covers_open_character fresh _ _ after (escaped b v _ _ h (itself c _ _ g m)) l = absurd (omega arith)
covers_open_character fresh _ _ after (escaped b v _ _ h (escaped c x _ _ g m)) l = absurd (omega arith)

pub covers_character : (fresh : Bool) (u : List ℕ) (v : ℕ) (after : List ℕ) → InCharacter u (v ∷ []) → Covers (39 ∷ (u ++ 39 ∷ [])) (Real class.Character (value.Number v)) (seen fresh (39 ∷ ((u ++ 39 ∷ []) ++ after)))
covers_character fresh _ v after (itself _ _ _ h empty) = subst (Covers (39 ∷ v ∷ 39 ∷ []) (Real class.Character (value.Number v))) (sym (shown_plain v (39 ∷ after) h)) (omega arith, λ e. refl)
covers_character fresh _ v after (escaped b _ _ _ h empty) = subst (Covers (39 ∷ 92 ∷ b ∷ 39 ∷ []) (Real class.Character (value.Number v))) (sym (shown_escape b v (39 ∷ after) h)) (omega arith, λ e. refl)

pub covers_wrong_character : (fresh : Bool) (b : ℕ) (after : List ℕ) → character_escape b ≡ None → Covers (39 ∷ 92 ∷ b ∷ []) (Fault 1) (seen fresh (39 ∷ 92 ∷ b ∷ after))
covers_wrong_character fresh b after h = subst (Covers (39 ∷ 92 ∷ b ∷ []) (Fault 1)) (sym (shown_wrong b after h)) (omega arith, λ e. refl)

-- ---- having

got_closed_step : (before u : List ℕ) (r v b : ℕ) (t : List ℕ) (y : Bool) → nat_eq b 39 ≡ y → InCharacter u (v ∷ []) → length u ≡ r → Got before (39 ∷ (u ++ b ∷ t)) (sized (suc r) (closed v (suc r) (b ∷ t)))
got_closed_step before u r v b t true h m l =
    let a : u ++ b ∷ t ≡ (u ++ 39 ∷ []) ++ t = ap (λ x. u ++ x ∷ t) (eqb-true b 39 h) ∙ sym (append_assoc u (39 ∷ []) t) in
    let n : length (u ++ 39 ∷ []) ≡ length u + 1 = length-append u (39 ∷ []) in
    subst (Got before (39 ∷ (u ++ b ∷ t))) (sym (closed_yes (suc r) v (suc r) b t h)) (39 ∷ (u ++ 39 ∷ []), t, ap (λ x. 39 ∷ x) a, omega arith, is.character u v refl m)
got_closed_step before u r v b t false h m l =
    subst (Got before (39 ∷ (u ++ b ∷ t))) (sym (closed_no r v (suc r) b t h)) (39 ∷ u, b ∷ t, refl, ap suc l, is.open_character u (v ∷ []) refl m (omega arith))

got_closed : (before u : List ℕ) (r v : ℕ) (t : List ℕ) → InCharacter u (v ∷ []) → length u ≡ r → Got before (39 ∷ (u ++ t)) (sized (suc r) (closed v (suc r) t))
got_closed before u r v [] m l = (39 ∷ u, [], refl, ap suc l, is.open_character u (v ∷ []) refl m (omega arith))
got_closed before u r v (b ∷ t) m l = got_closed_step before u r v b t _ refl m l

got_opened : (before t : List ℕ) → Got before (39 ∷ t) (some 1 (Fault 0))
got_opened before t = (39 ∷ [], t, refl, refl, is.open_character [] [] refl empty (omega arith))

got_escape : (before : List ℕ) (c : ℕ) (t : List ℕ) (o : Option ℕ) → character_escape c ≡ o → Got before (39 ∷ 92 ∷ c ∷ t) (shown (92 ∷ c ∷ t))
got_escape before c t (Some v) h = subst (Got before (39 ∷ 92 ∷ c ∷ t)) (sym (shown_escape c v t h)) (got_closed before (92 ∷ c ∷ []) 2 v t (escaped c v [] [] h empty) refl)
got_escape before c t None h = subst (Got before (39 ∷ 92 ∷ c ∷ t)) (sym (shown_wrong c t h)) (39 ∷ 92 ∷ c ∷ [], t, refl, refl, is.wrong_character c refl h)

got_byte : (before : List ℕ) (b : ℕ) (t : List ℕ) (plain slash : Bool) → is_character b ≡ plain → nat_eq b 92 ≡ slash → Got before (39 ∷ b ∷ t) (shown (b ∷ t))
got_byte before b t true s h e = subst (Got before (39 ∷ b ∷ t)) (sym (shown_plain b t h)) (got_closed before (b ∷ []) 1 b t (itself b [] [] h empty) refl)
got_byte before b [] false true h e = subst (λ x. Got before (39 ∷ x ∷ []) (shown (x ∷ []))) (sym (eqb-true b 92 e)) (got_opened before (92 ∷ []))
got_byte before b (c ∷ t) false true h e = subst (λ x. Got before (39 ∷ x ∷ c ∷ t) (shown (x ∷ c ∷ t))) (sym (eqb-true b 92 e)) (got_escape before c t _ refl)
got_byte before b t false false h e = subst (Got before (39 ∷ b ∷ t)) (sym (shown_odd b t h e)) (got_opened before (b ∷ t))

pub got_character : (before : List ℕ) (fresh : Bool) (t : List ℕ) → Got before (39 ∷ t) (seen fresh (39 ∷ t))
got_character before fresh [] = got_opened before []
got_character before fresh (b ∷ t) = got_byte before b t _ _ refl refl
