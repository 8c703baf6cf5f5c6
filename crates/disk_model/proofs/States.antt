-- What a stop may leave, after a change.
use Rattle.std.proofs.Common.{◌≡◌, ◌⊎◌, inl, inr, ⊎_elim, ℕ, zero, suc, ◌+◌, ◌-◌, ◌<◌, ◌≤◌, min, max, Bool, true, if◌then◌else◌, List, [], ◌∷◌, ◌++◌, length, take, drop, get_or, refl, sym, ◌∙◌, ap, arith, length-take, length-drop}
use Rattle.std.proofs.lemmas.List.{ext_get_or, get_or-take, get_or-drop, get_or_append_left, length_push, get_or_push}
use Rattle.std.proofs.lemmas.List.FromFn.{get_or-map-range_with_len, length-map-range_with_len}
use Rattle.std.proofs.lemmas.Bool.{cases_lt, and_from, lt-ltb, cond-true}
use Rattle.std.specs.Prelude.{ltb}
use Rattle.disk_model.specs.Disk.{Torn}
use Rattle.disk_model.specs.Disk as disk
use Rattle.disk_model.specs.declared.calls.Choice.{Choice}
use Rattle.disk_model.specs.declared.calls.Choice.TheVariants.{Written, Old, Fill, Short}
use Rattle.disk_model.specs.Files.{Writes, Cuts, FileState, is_kept, MayLeave, left_by, at_rest, on_file}
use Rattle.disk_model.specs.Sound.{Beside, kept-below, kept-with, kept-least, IsSound}

-- f at each place below n
table : (ℕ → ℕ) → ℕ → List ℕ
table f zero = []
table f (suc n) = table f n ++ f n ∷ []

length-table : (f : ℕ → ℕ) (n : ℕ) → length (table f n) ≡ n
unfolding table
length-table f zero = refl
length-table f (suc n) = omega (arith, length_push (table f n) (f n), length-table f n)

get_or-table : (f : ℕ → ℕ) (n p : ℕ) → p < n → get_or (table f n) p 0 ≡ f p
unfolding table
get_or-table f zero p lt = absurd (omega (arith, lt))
get_or-table f (suc n) p lt = ⊎_elim
    (λ below. get_or_append_left (table f n) (f n ∷ []) 0 p (omega (arith, below, length-table f n)) ∙ get_or-table f n p below)
    (λ last. let same : p ≡ n = omega (arith, lt, last) in get_or_push (table f n) (f n) 0 p (omega (arith, same, length-table f n)) ∙ ap f (sym same))
    (cases_lt p n)

choose : {A B : Type 0} → A ⊎ B → ℕ → ℕ → ℕ
choose (inl own) x y = x
choose (inr other) x y = y

choose-to : {A B : Type 0} (d : A ⊎ B) (x y z : ℕ) → (A → x ≡ z) → (B → y ≡ z) → choose d x y ≡ z
unfolding choose
choose-to (inl own) x y z first last = first own
choose-to (inr other) x y z first last = last other

-- b at each place that d chooses, and else synced
mixed : {A B : ℕ → Type 0} → ((p : ℕ) → A p ⊎ B p) → List ℕ → List ℕ → ℕ → List ℕ
mixed d b synced n = table (λ p. choose (d p) (get_or b p 0) (get_or synced p 0)) n

length-mixed : {A B : ℕ → Type 0} (d : (p : ℕ) → A p ⊎ B p) (b synced : List ℕ) (n : ℕ) → length (mixed d b synced n) ≡ n
unfolding mixed
length-mixed d b synced n = length-table _ n

get_or-mixed : {A B : ℕ → Type 0} (d : (p : ℕ) → A p ⊎ B p) (b synced : List ℕ) (n p z : ℕ) → p < n → (A p → get_or b p 0 ≡ z) → (B p → get_or synced p 0 ≡ z) → get_or (mixed d b synced n) p 0 ≡ z
unfolding mixed
get_or-mixed d b synced n p z lt own other = get_or-table (λ p. choose (d p) (get_or b p 0) (get_or synced p 0)) n p lt ∙ choose-to (d p) (get_or b p 0) (get_or synced p 0) z own other

abbrev Inside : ℕ → ℕ → ℕ → Type 0
Inside at n p = (at ≤ p) × (p < at + n)

beside : (at n p : ℕ) → Beside at n p ⊎ Inside at n p
beside at n p = ⊎_elim (λ lt. inl (inl lt)) (λ le. ⊎_elim (λ lt. inr (le, lt)) (λ past. inl (inr past)) (cases_lt p (at + n))) (cases_lt p at)

same_front : (n : ℕ) (b a : List ℕ) → min n (length b) ≡ min n (length a) → ((p : ℕ) → p < n → p < length b → get_or b p 0 ≡ get_or a p 0) → take n b ≡ take n a
same_front n b a size same = ext_get_or 0 (take n b) (take n a) (length-take n b ∙ size ∙ sym (length-take n a)) (λ i lt.
    let within : i < n = omega (arith, lt, length-take n b) in
    let inside : i < length b = omega (arith, lt, length-take n b) in
    get_or-take n b i 0 within ∙ same i within inside ∙ sym (get_or-take n a i 0 within))

same_back : (n : ℕ) (b a : List ℕ) → length b - n ≡ length a - n → ((p : ℕ) → n ≤ p → p < length b → get_or b p 0 ≡ get_or a p 0) → drop n b ≡ drop n a
same_back n b a size same = ext_get_or 0 (drop n b) (drop n a) (length-drop n b ∙ size ∙ sym (length-drop n a)) (λ i lt.
    get_or-drop n b i 0 ∙ same (n + i) (omega arith) (omega (arith, lt, length-drop n b)) ∙ sym (get_or-drop n a i 0))

-- a torn write is one of a content that might have been left before it
pub write-left : (s : FileState) (file at : ℕ) (bytes : List ℕ) (done : Bool) (b : List ℕ) → at ≤ length s.seen → MayLeave s s.seen → MayLeave (on_file (Writes file at bytes done) s) b
    → (a : List ℕ) × MayLeave s a × Torn at (length bytes) a b
write-left s file at bytes done b le is left =
    let n = length bytes in
    let m = min s.greatest (length b) in
    let a = mixed (beside at n) b s.synced m in
    let size : length a ≡ m = length-mixed (beside at n) b s.synced m in
    let bounds : (s.least ≤ length s.seen) × (length s.seen ≤ s.greatest) × (length b ≤ max s.greatest (at + n)) × (s.least ≤ length b) = (is.no_shorter, is.no_longer, left.no_longer, left.no_shorter) in (
      a,
      record {
        no_shorter = omega (arith, size, bounds);
        no_longer = omega (arith, size);
        stays = λ p kept. get_or-mixed (beside at n) b s.synced m p (get_or s.synced p 0) (omega (arith, kept-below s.least p s.ranges kept, bounds)) (λ own. left.stays p (kept-with s.least p at n s.ranges own kept)) (λ other. refl);
      },
      record {
        before = same_front at b a (omega (arith, size, bounds, le)) (λ p lt inside. sym (get_or-mixed (beside at n) b s.synced m p (get_or b p 0) (omega (arith, lt, inside, bounds, le)) (λ own. refl) (λ other. absurd (omega (arith, lt, other.0)))));
        after = same_back (at + n) b a (omega (arith, size, bounds)) (λ p past inside. sym (get_or-mixed (beside at n) b s.synced m p (get_or b p 0) (omega (arith, past, inside, bounds)) (λ own. refl) (λ other. absurd (omega (arith, past, other.1)))));
        no_shorter = omega (arith, size);
        no_longer = omega (arith, size, bounds);
      },
    )

front : (n p : ℕ) → (p < n) ⊎ (n ≤ p)
front n p = cases_lt p n

-- a cut that is cut short too
pub cut-left : (s : FileState) (file n : ℕ) (done : Bool) (b : List ℕ) → n ≤ length s.seen → MayLeave s s.seen → MayLeave (on_file (Cuts file n done) s) b
    → (a : List ℕ) × MayLeave s a × disk.Cut n a b
cut-left s file n done b le is left =
    let m = max s.least (length b) in
    let a = mixed (front n) b s.synced m in
    let size : length a ≡ m = length-mixed (front n) b s.synced m in
    let bounds : (s.least ≤ length s.seen) × (length s.seen ≤ s.greatest) × (length b ≤ s.greatest) × (min s.least n ≤ length b) = (is.no_shorter, is.no_longer, left.no_longer, left.no_shorter) in (
      a,
      record {
        no_shorter = omega (arith, size);
        no_longer = omega (arith, size, bounds);
        stays = λ p kept. let lt = kept-below s.least p s.ranges kept in
            get_or-mixed (front n) b s.synced m p (get_or s.synced p 0) (omega (arith, lt)) (λ own. left.stays p (kept-least s.least (min s.least n) p s.ranges (omega (arith, lt, own)) kept)) (λ other. refl);
      },
      record {
        front = same_front n b a (omega (arith, size, bounds)) (λ p lt inside. sym (get_or-mixed (front n) b s.synced m p (get_or b p 0) (omega (arith, inside)) (λ own. refl) (λ other. absurd (omega (arith, lt, other)))));
        no_longer = omega (arith, size);
        least = ⊎_elim (λ short. inr (omega (arith, size, bounds, short))) (λ long. inl long) (cases_lt (length b) n);
      },
    )

-- after a sync that succeeds a stop leaves what a read gives
pub at_rest-only : (bytes b : List ℕ) → MayLeave (at_rest bytes) b → b ≡ bytes
at_rest-only bytes b left =
    let size : length b ≡ length bytes = omega (arith, left.no_shorter, left.no_longer) in
    ext_get_or 0 b bytes size (λ i lt. left.stays i (and_from (ltb i (length bytes)) true (lt-ltb i (length bytes) (omega (arith, lt, size))) refl))

-- each choice is one of what a stop may leave
pub left_by-left : (choice : Choice) (s : FileState) → IsSound s → MayLeave s (left_by choice s)
left_by-left Written s is = is.seen
left_by-left Old s is = record { no_shorter = is.synced_long; no_longer = is.synced_short; stays = λ p kept. refl }
left_by-left (Fill byte) s is =
    let f : ℕ → ℕ = λ place. if is_kept s place then get_or s.synced place 0 else byte in
    let size = length-map-range_with_len f 0 s.greatest in
    record {
      no_shorter = omega (arith, size, is.synced_long, is.synced_short);
      no_longer = omega (arith, size);
      stays = λ p kept. get_or-map-range_with_len f 0 s.greatest p p 0 (omega (arith, kept-below s.least p s.ranges kept, is.synced_long, is.synced_short)) (omega arith)
          ∙ cond-true (is_kept s p) (get_or s.synced p 0) byte kept;
    }
left_by-left Short s is = record {
  no_shorter = omega (arith, length-take s.least s.seen, is.seen.no_shorter);
  no_longer = omega (arith, length-take s.least s.seen, is.seen.no_shorter, is.seen.no_longer);
  stays = λ p kept. get_or-take s.least s.seen p 0 (kept-below s.least p s.ranges kept) ∙ is.seen.stays p kept;
}
