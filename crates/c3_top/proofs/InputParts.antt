-- Where an input is split.
use Rattle.std.proofs.Common.{◌≡◌, ℕ, suc, ◌+◌, ◌<◌, ◌≤◌, Bool, true, false, cond, ◌&&◌, List, [], ◌∷◌, ◌++◌, length, take, drop, get_or, Option, Some, None, refl, sym, ap, ◌∙◌, arith, append_assoc}
use Rattle.std.proofs.lemmas.List.{drop_more, length-drop, take_more}
use Rattle.std.specs.Prelude.{option_map, codes}
use Rattle.c3_top.specs.Input.{Parts, after_line, is_feed, is_schedule_line, line_of, parts_of, split_from}

-- the parts of an input that begins with a front more
abbrev pub with_front : List ℕ → Option Parts → Option Parts
with_front front parts = option_map {T = Parts} (λ p. record p { text = front ++ p.text }) parts

one_more : (front : List ℕ) (b : ℕ) (parts : Option Parts) → with_front front (option_map {T = Parts} (λ p. record p { text = b ∷ p.text }) parts) ≡ with_front (front ++ b ∷ []) parts
one_more front b None = refl
one_more front b (Some p) = ap (λ t. Some (record p { text = t })) (sym (append_assoc front (b ∷ []) p.text))

passed : (front : List ℕ) (b : ℕ) (bs : List ℕ) (fresh : Bool) → (fresh && is_schedule_line (line_of (b ∷ bs))) ≡ false → with_front front (split_from fresh (b ∷ bs)) ≡ with_front (front ++ b ∷ []) (split_from (is_feed b) bs)
passed front b bs fresh e = rw e (one_more front b (split_from (is_feed b) bs))

-- the first byte begins no line before a schedule
pub split_next : (text : List ℕ) (at : ℕ) (fresh : Bool) → at < length text → (fresh && is_schedule_line (line_of (drop at text))) ≡ false
    → with_front (take at text) (split_from fresh (drop at text)) ≡ with_front (take (at + 1) text) (split_from (is_feed (get_or text at 0)) (drop (at + 1) text))
split_next text at fresh h e =
    let b : ℕ = get_or text at 0 in
    let bs : List ℕ = drop (at + 1) text in
    let more : drop at text ≡ b ∷ bs = drop_more text at 0 h in
    ap (λ l. with_front (take at text) (split_from fresh l)) more ∙ passed (take at text) b bs fresh (ap (λ l. fresh && is_schedule_line (line_of l)) (sym more) ∙ e)
    ∙ ap (λ l. with_front l (split_from (is_feed b) bs)) (sym (take_more text at 0 h))

-- ---- the schedule is no longer than the input

abbrev Fits : ℕ → Option Parts → Type 0
Fits n None = Unit {0}
Fits n (Some p) = length p.schedule ≤ n

fits_more : (n b : ℕ) (parts : Option Parts) → Fits n parts → Fits (suc n) (option_map {T = Parts} (λ p. record p { text = b ∷ p.text }) parts)
fits_more n b None h = tt
fits_more n b (Some p) h = omega (arith, h)

split_fits : (fresh : Bool) (text : List ℕ) → Fits (length text) (split_from fresh text)
split_fits fresh [] = tt
split_fits fresh (b ∷ bs) = by_line (fresh && is_schedule_line (line_of (b ∷ bs))) (split_from (is_feed b) bs) (split_fits (is_feed b) bs)
  where
    by_line : (here : Bool) (parts : Option Parts) → Fits (length bs) parts → Fits (suc (length bs)) (cond here (Some (record { text = []; schedule = after_line (b ∷ bs) })) (option_map {T = Parts} (λ p. record p { text = b ∷ p.text }) parts))
    by_line true parts h = let e = length-drop (suc (length (line_of (b ∷ bs)))) (b ∷ bs) in omega (arith, e)
    by_line false parts h = fits_more (length bs) b parts h

abbrev chosen : List ℕ → Option Parts → Parts
chosen input parts = elim parts [ None ↦ record { text = input; schedule = codes "r*3076" } | Some p ↦ p ]

pub schedule_fits : (input : List ℕ) → length input ≤ 1048576 → length (parts_of input).schedule ≤ 1048576
schedule_fits input h = by_parts (split_from true input) (split_fits true input)
  where
    by_parts : (parts : Option Parts) → Fits (length input) parts → length (chosen input parts).schedule ≤ 1048576
    by_parts None k = omega arith
    by_parts (Some p) k = omega (arith, k, h)
