-- White space and comments.
use Rattle.std.proofs.Common.{ℕ, suc, ◌≡◌, ◌+◌, ◌<◌, ◌≤◌, List, [], ◌∷◌, ◌++◌, Bool, true, false, ◌⊎◌, inl, inr, refl, sym, ap, subst, ◌∙◌, arith, length, length-append, append_assoc, append-nil, codes}
use Rattle.std.specs.Prelude.{nat_eq, ◌&&◌}
use Rattle.std.proofs.lemmas.Bool.{or_parts, or_from, and_right, eqb-true, and_parts}
use Rattle.c_tree.specs.Scan.{Piece, Gap, One, Wrong, is_white, in_line, front, begins_with, comment_end}
use Rattle.c_tree.specs.Tokens.{Meaning, Space, Real, Fault, IsPiece, every, closes}
use Rattle.c_tree.specs.Tokens as is
use Rattle.c_tree.proofs.Sight.{sized, seen, seen_white}
use Rattle.c_tree.proofs.Fronts.{Covers, Got, front_covers, front_split, far_covers}

pub covers_white : (fresh : Bool) (b : ℕ) (after : List ℕ) → is_white b ≡ true → Covers (b ∷ []) Space (seen fresh (b ∷ after))
covers_white fresh b after h = rw (seen_white fresh b after h) (omega arith, λ e. refl)

pub got_white : (before : List ℕ) (fresh : Bool) (b : ℕ) (bs : List ℕ) → is_white b ≡ true → Got before (b ∷ bs) (seen fresh (b ∷ bs))
got_white before fresh b bs h = rw (seen_white fresh b bs h) (b ∷ [], bs, refl, refl, is.white b refl h)

pub covers_line_comment : (fresh : Bool) (body after : List ℕ) → every in_line body ≡ true → Covers (47 ∷ 47 ∷ body) Space (seen fresh (47 ∷ 47 ∷ (body ++ after)))
covers_line_comment fresh body after h = front_covers in_line (λ w. Space) (47 ∷ 47 ∷ body) after h

pub got_line_comment : (before : List ℕ) (fresh : Bool) (bs : List ℕ) → Got before (47 ∷ 47 ∷ bs) (seen fresh (47 ∷ 47 ∷ bs))
got_line_comment before fresh bs =
    let s = front_split in_line bs in
    (47 ∷ 47 ∷ front in_line bs, s.0, ap (λ t. 47 ∷ 47 ∷ t) s.1, refl, is.line_comment (front in_line bs) refl s.2)

-- ---- comments

end_no : (n b : ℕ) (bs : List ℕ) → begins_with (codes "*/") (b ∷ bs) ≡ false → comment_end n (b ∷ bs) ≡ comment_end (n + 1) bs
end_no n b bs h = rw (h, comment_end) refl

end_yes : (n b : ℕ) (bs : List ℕ) → begins_with (codes "*/") (b ∷ bs) ≡ true → comment_end n (b ∷ bs) ≡ Gap (n + 2)
end_yes n b bs h = rw (h, comment_end) refl

-- a byte before which the end didn't stand
no_end : (b : ℕ) (body after : List ℕ) → begins_with (codes "*/") (b ∷ body) ≡ false → begins_with (codes "*/") (b ∷ (body ++ 42 ∷ after)) ≡ false
no_end b [] after h = and_right (nat_eq 42 b) false refl
no_end b (c ∷ cs) after h = h

no_end_left : (b : ℕ) (body after : List ℕ) → begins_with (codes "*/") (b ∷ (body ++ 42 ∷ after)) ≡ false → begins_with (codes "*/") (b ∷ body) ≡ false
no_end_left b [] after h = and_right (nat_eq 42 b) false refl
no_end_left b (c ∷ cs) after h = h

end_at : (n : ℕ) (body after : List ℕ) → closes body ≡ false → comment_end n (body ++ 42 ∷ 47 ∷ after) ≡ Gap (n + length body + 2)
end_at n [] after h = ap (λ k. Gap (k + 2)) (omega arith)
end_at n (b ∷ bs) after h =
    let q = or_parts (begins_with (codes "*/") (b ∷ bs)) (closes bs) h in
    let e : n + 1 + length bs + 2 ≡ n + suc (length bs) + 2 = omega arith in
    end_no n b (bs ++ 42 ∷ 47 ∷ after) (no_end b bs (47 ∷ after) q.0) ∙ (end_at (n + 1) bs after q.1 ∙ ap Gap e)

-- the comment goes on beyond j, or is wrong
abbrev Beyond : ℕ → Piece → Type 0
Beyond j (Gap n) = j < n
Beyond j (One c v n) = ⊥
Beyond j (Wrong o) = o ≡ 0

beyond_step : (j n b : ℕ) (bs : List ℕ) (t : Bool) → begins_with (codes "*/") (b ∷ bs) ≡ t → j < n + 2 → Beyond j (comment_end (n + 1) bs) → Beyond j (comment_end n (b ∷ bs))
beyond_step j n b bs true e l h = rw (end_yes n b bs e) l
beyond_step j n b bs false e l h = rw (end_no n b bs e) h

beyond_start : (j n : ℕ) (after : List ℕ) → j ≤ n → Beyond j (comment_end n after)
beyond_start j n [] l = refl
beyond_start j n (b ∷ bs) l = beyond_step j n b bs _ refl (omega arith) (beyond_start j (n + 1) bs (omega arith))

-- where the end stands across the place, the comment goes on
beyond_body : (j n : ℕ) (body after : List ℕ) → closes body ≡ false → j ≡ n + length body → Beyond j (comment_end n (body ++ after))
beyond_body j n [] after h e = beyond_start j n after (omega arith)
beyond_body j n (b ∷ []) after h e = beyond_step j n b after _ refl (omega arith) (beyond_body j (n + 1) [] after refl (omega arith))
beyond_body j n (b ∷ c ∷ bs) after h e =
    let q = or_parts (begins_with (codes "*/") (b ∷ c ∷ bs)) (closes (c ∷ bs)) h in
    rw (end_no n b (c ∷ bs ++ after) q.0) (beyond_body j (n + 1) (c ∷ bs) after q.1 (omega arith))

pub covers_comment : (fresh : Bool) (body after : List ℕ) → closes body ≡ false → Covers (47 ∷ 42 ∷ (body ++ 42 ∷ 47 ∷ [])) Space (seen fresh (47 ∷ 42 ∷ ((body ++ 42 ∷ 47 ∷ []) ++ after)))
covers_comment fresh body after h =
    let a : (body ++ 42 ∷ 47 ∷ []) ++ after ≡ body ++ 42 ∷ 47 ∷ after = append_assoc body (42 ∷ 47 ∷ []) after in
    let l : length (body ++ 42 ∷ 47 ∷ []) ≡ length body + 2 = length-append body (42 ∷ 47 ∷ []) in
    rw (a, end_at 2 body after h) (omega arith, λ e. refl)

-- what is beyond the body covers it
covers_beyond : (body : List ℕ) (r : ℕ) (p : Piece) → Beyond (2 + length body) p → length body ≤ r → Covers (47 ∷ 42 ∷ body) (Fault 0) (sized (suc (suc r)) p)
covers_beyond body r (Gap n) h l = (omega arith, λ e. absurd (omega arith))
covers_beyond body r (One c v n) h l = absurd h
covers_beyond body r (Wrong o) h l = (omega arith, λ e. ap Fault (sym h))

pub covers_open_comment : (fresh : Bool) (body after : List ℕ) → closes body ≡ false → Covers (47 ∷ 42 ∷ body) (Fault 0) (seen fresh (47 ∷ 42 ∷ (body ++ after)))
covers_open_comment fresh body after h =
    let l : length (body ++ after) ≡ length body + length after = length-append body after in
    covers_beyond body (length (body ++ after)) (comment_end 2 (body ++ after)) (beyond_body (2 + length body) 2 body after h refl) (omega arith)

-- a comment covers each piece of one byte
pub slash_line : (fresh : Bool) (w : List ℕ) (m : Meaning) (t : List ℕ) → length w ≡ 1 → Covers w m (seen fresh (47 ∷ 47 ∷ t))
slash_line fresh w m t l = far_covers w m Space _ (omega arith)

slash_beyond : (w : List ℕ) (m : Meaning) (r : ℕ) (p : Piece) → length w ≡ 1 → Beyond 1 p → Covers w m (sized (suc (suc r)) p)
slash_beyond w m r (Gap n) l h = far_covers w m Space n (omega arith)
slash_beyond w m r (One c v n) l h = absurd h
slash_beyond w m r (Wrong o) l h = far_covers w m (Fault o) (suc (suc r)) (omega arith)

pub slash_comment : (fresh : Bool) (w : List ℕ) (m : Meaning) (t : List ℕ) → length w ≡ 1 → Covers w m (seen fresh (47 ∷ 42 ∷ t))
slash_comment fresh w m t l = slash_beyond w m (length t) (comment_end 2 t) l (beyond_start 1 2 t (omega arith))

-- a text with the end in it, or not
abbrev Ended : List ℕ → Type 0
Ended t = ((body after : List ℕ) × (t ≡ body ++ 42 ∷ 47 ∷ after) × (closes body ≡ false)) ⊎ (closes t ≡ false)

ended_step : (b : ℕ) (bs : List ℕ) (t : Bool) → begins_with (codes "*/") (b ∷ bs) ≡ t → Ended bs → Ended (b ∷ bs)
ended_step b [] t e h = inr (or_from _ false (and_right (nat_eq 42 b) false refl) refl)
ended_step b (c ∷ cs) true e h =
    let q = and_parts (nat_eq 42 b) (nat_eq 47 c && true) e in
    let r = and_parts (nat_eq 47 c) true q.1 in
    inl ([], cs, (λ i. sym (eqb-true 42 b q.0) i ∷ sym (eqb-true 47 c r.0) i ∷ cs), refl)
ended_step b (c ∷ cs) false e (inl h) =
    let k : begins_with (codes "*/") (b ∷ (h.0 ++ 42 ∷ 47 ∷ h.1)) ≡ false = subst (λ t. begins_with (codes "*/") (b ∷ t) ≡ false) h.2 e in
    inl (b ∷ h.0, h.1, ap (λ t. b ∷ t) h.2, or_from _ _ (no_end_left b h.0 (47 ∷ h.1) k) h.3)
ended_step b (c ∷ cs) false e (inr h) = inr (or_from _ _ e h)

ended : (t : List ℕ) → Ended t
ended [] = inr refl
ended (b ∷ bs) = ended_step b bs _ refl (ended bs)

-- a comment that isn't closed
open_step : (n b : ℕ) (bs : List ℕ) → closes (b ∷ bs) ≡ false → comment_end (n + 1) bs ≡ Wrong 0 → comment_end n (b ∷ bs) ≡ Wrong 0
open_step n b bs h k = end_no n b bs (or_parts (begins_with (codes "*/") (b ∷ bs)) (closes bs) h).0 ∙ k

open_end : (n : ℕ) (t : List ℕ) → closes t ≡ false → comment_end n t ≡ Wrong 0
open_end n [] h = refl
open_end n (b ∷ bs) h = open_step n b bs h (open_end (n + 1) bs (or_parts (begins_with (codes "*/") (b ∷ bs)) (closes bs) h).1)

got_ended : (before t : List ℕ) → Ended t → Got before (47 ∷ 42 ∷ t) (sized (length (47 ∷ 42 ∷ t)) (comment_end 2 t))
got_ended before t (inl (body, after, e, h)) =
    let a : t ≡ (body ++ 42 ∷ 47 ∷ []) ++ after = e ∙ sym (append_assoc body (42 ∷ 47 ∷ []) after) in
    let l : length (body ++ 42 ∷ 47 ∷ []) ≡ length body + 2 = length-append body (42 ∷ 47 ∷ []) in
    let w : List ℕ = 47 ∷ 42 ∷ (body ++ 42 ∷ 47 ∷ []) in
    let g : comment_end 2 t ≡ Gap (2 + length body + 2) = ap (comment_end 2) e ∙ end_at 2 body after h in
    subst (λ p. Got before (47 ∷ 42 ∷ t) (sized (length (47 ∷ 42 ∷ t)) p)) (sym g) (w, after, ap (λ s. 47 ∷ 42 ∷ s) a, omega arith, is.comment body refl h)
got_ended before t (inr h) =
    subst (λ p. Got before (47 ∷ 42 ∷ t) (sized (length (47 ∷ 42 ∷ t)) p)) (sym (open_end 2 t h)) (47 ∷ 42 ∷ t, [], ap (λ s. 47 ∷ 42 ∷ s) (sym (append-nil t)), refl, is.open_comment t refl h)

pub got_comment : (before : List ℕ) (fresh : Bool) (t : List ℕ) → Got before (47 ∷ 42 ∷ t) (seen fresh (47 ∷ 42 ∷ t))
got_comment before fresh t = got_ended before t (ended t)
