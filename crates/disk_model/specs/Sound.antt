-- What a read gives is one of what a stop may leave, after each list of changes.
use Rattle.std.proofs.Common.{◌≡◌, ◌⊎◌, inl, inr, ⊎_elim, ℕ, ◌+◌, ◌-◌, ◌<◌, ◌≤◌, min, max, Bool, true, false, if◌then◌else◌, List, [], ◌∷◌, ◌++◌, length, take, drop, get_or, refl, sym, ◌∙◌, ap, arith, length-append, length-take, length-drop}
use Rattle.std.proofs.lemmas.List.{drop_all, append-nil, get_or-take, get_or-drop, get_or_append_left, take_all, take_at, drop_at, append_assoc}
use Rattle.std.proofs.lemmas.Bool.{cases_lt, and_parts, and_from, or_cases, or_left, or_right, ltb-true, leb-true, lt-ltb, le-leb}
use Rattle.std.specs.Prelude.{ltb, leb, ◌&&◌, ◌||◌}
use Rattle.disk_model.specs.Disk.{Torn}
use Rattle.disk_model.specs.Files.{Change, Writes, Cuts, Syncs, Stops, FileState, is_outside, MayLeave, left_by, at_rest, on_file, is_on, after, replay, files_after}

abbrev pub Beside : ℕ → ℕ → ℕ → Type 0
Beside at n p = (p < at) ⊎ (at + n ≤ p)

-- which bytes are sure to stay, after one more range, or with a lower least length
pub kept-below : (least p : ℕ) (ranges : List (ℕ × ℕ)) → (ltb p least && is_outside p ranges) ≡ true → p < least
kept-below least p ranges kept = ltb-true p least (and_parts (ltb p least) (is_outside p ranges) kept).0

pub kept-with : (least p at n : ℕ) (ranges : List (ℕ × ℕ)) → Beside at n p → (ltb p least && is_outside p ranges) ≡ true → (ltb p least && is_outside p ((at, n) ∷ ranges)) ≡ true
kept-with least p at n ranges beside kept =
    let parts = and_parts (ltb p least) (is_outside p ranges) kept in
    and_from (ltb p least) (is_outside p ((at, n) ∷ ranges)) parts.0 (and_from (ltb p at || leb (at + n) p) (is_outside p ranges) (is beside) parts.1)
  where
    is : Beside at n p → (ltb p at || leb (at + n) p) ≡ true
    is (inl lt) = or_left (ltb p at) (leb (at + n) p) (lt-ltb p at lt)
    is (inr le) = or_right (ltb p at) (leb (at + n) p) (le-leb (at + n) p le)

pub kept-without : (least p at n : ℕ) (ranges : List (ℕ × ℕ)) → (ltb p least && is_outside p ((at, n) ∷ ranges)) ≡ true → Beside at n p × ((ltb p least && is_outside p ranges) ≡ true)
kept-without least p at n ranges kept =
    let parts = and_parts (ltb p least) (is_outside p ((at, n) ∷ ranges)) kept in
    let outside = and_parts (ltb p at || leb (at + n) p) (is_outside p ranges) parts.1 in (
      ⊎_elim (λ lt. inl (ltb-true p at lt)) (λ le. inr (leb-true (at + n) p le)) (or_cases (ltb p at) (leb (at + n) p) outside.0),
      and_from (ltb p least) (is_outside p ranges) parts.0 outside.1,
    )

pub kept-least : (least other p : ℕ) (ranges : List (ℕ × ℕ)) → p < other → (ltb p least && is_outside p ranges) ≡ true → (ltb p other && is_outside p ranges) ≡ true
kept-least least other p ranges lt kept = and_from (ltb p other) (is_outside p ranges) (lt-ltb p other lt) (and_parts (ltb p least) (is_outside p ranges) kept).1

pub at_rest-left : (bytes : List ℕ) → MayLeave (at_rest bytes) bytes
at_rest-left bytes = record { no_shorter = omega arith; no_longer = omega arith; stays = λ p kept. refl }

-- a write that is done whole is one that isn't cut short
module _ (old : List ℕ) (at : ℕ) (bytes : List ℕ) where
  abbrev written : List ℕ
  written = take at old ++ bytes ++ drop (at + length bytes) old

  pub length-written : at ≤ length old → length written ≡ max (length old) (at + length bytes)
  length-written le = omega (arith, le, length-append (take at old ++ bytes) (drop (at + length bytes) old), length-append (take at old) bytes, length-take at old, length-drop (at + length bytes) old)

  split : written ≡ take at old ++ (bytes ++ drop (at + length bytes) old)
  split = append_assoc (take at old) bytes (drop (at + length bytes) old)

  pub written-torn : at ≤ length old → Torn at (length bytes) old written
  written-torn le = record {
    before = ap (λ (l : List ℕ). take at l) split ∙ take_at (take at old) (bytes ++ drop (at + length bytes) old) at (omega (arith, le, length-take at old));
    after = drop_at (take at old ++ bytes) (drop (at + length bytes) old) (at + length bytes) (omega (arith, le, length-append (take at old) bytes, length-take at old));
    no_shorter = omega (arith, length-written le);
    no_longer = omega (arith, length-written le);
  }

  pub written-beside : at ≤ length old → (p : ℕ) → Beside at (length bytes) p → get_or written p 0 ≡ get_or old p 0
  written-beside le p (inl lt) = sym (get_or-take at written p 0 lt) ∙ ap (λ (l : List ℕ). get_or l p 0) (written-torn le).before ∙ get_or-take at old p 0 lt
  written-beside le p (inr past) =
      let e = at + length bytes in
      let is : p ≡ e + (p - e) = omega (arith, past) in
      ap (λ n. get_or written n 0) is ∙ sym (get_or-drop e written (p - e) 0) ∙ ap (λ (l : List ℕ). get_or l (p - e) 0) (written-torn le).after ∙ get_or-drop e old (p - e) 0 ∙ ap (λ n. get_or old n 0) (sym is)

  past-end : length old < at → written ≡ old ++ bytes
  past-end past = ap (λ (l : List ℕ). l ++ bytes ++ drop (at + length bytes) old) (take_all at old (omega (arith, past))) ∙ ap (λ (l : List ℕ). old ++ bytes ++ l) (drop_all (at + length bytes) old (omega (arith, past))) ∙ append-nil (old ++ bytes)

-- What a read gives may be left, and so may what was synced.
pub record IsSound (s : FileState) : Type 0 where
  pub seen : MayLeave s s.seen
  pub synced_long : s.least ≤ length s.synced
  pub synced_short : length s.synced ≤ s.greatest

write-seen : (s : FileState) (file at : ℕ) (bytes : List ℕ) (done : Bool) → MayLeave s s.seen → MayLeave (on_file (Writes file at bytes done) s) (on_file (Writes file at bytes done) s).seen
write-seen s file at bytes true is = ⊎_elim
    (λ past. let same = past-end s.seen at bytes past in record {
      no_shorter = omega (arith, is.no_shorter, ap length same, length-append s.seen bytes);
      no_longer = omega (arith, is.no_longer, ap length same, length-append s.seen bytes, past);
      stays = λ p kept. let was = kept-without s.least p at (length bytes) s.ranges kept in
          ap (λ (l : List ℕ). get_or l p 0) same ∙ get_or_append_left s.seen bytes 0 p (omega (arith, kept-below s.least p s.ranges was.1, is.no_shorter)) ∙ is.stays p was.1;
    })
    (λ le. record {
      no_shorter = omega (arith, is.no_shorter, length-written s.seen at bytes le);
      no_longer = omega (arith, is.no_longer, length-written s.seen at bytes le);
      stays = λ p kept. let was = kept-without s.least p at (length bytes) s.ranges kept in
          written-beside s.seen at bytes le p was.0 ∙ is.stays p was.1;
    })
    (cases_lt (length s.seen) at)
write-seen s file at bytes false is = record {
  no_shorter = is.no_shorter;
  no_longer = omega (arith, is.no_longer);
  stays = λ p kept. is.stays p (kept-without s.least p at (length bytes) s.ranges kept).1;
}

cut-seen : (s : FileState) (file n : ℕ) (done : Bool) → MayLeave s s.seen → MayLeave (on_file (Cuts file n done) s) (on_file (Cuts file n done) s).seen
cut-seen s file n true is = record {
  no_shorter = omega (arith, is.no_shorter, length-take n s.seen);
  no_longer = omega (arith, is.no_longer, length-take n s.seen);
  stays = λ p kept. let lt = kept-below (min s.least n) p s.ranges kept in
      get_or-take n s.seen p 0 (omega (arith, lt)) ∙ is.stays p (kept-least (min s.least n) s.least p s.ranges (omega (arith, lt)) kept);
}
cut-seen s file n false is = record {
  no_shorter = omega (arith, is.no_shorter);
  no_longer = is.no_longer;
  stays = λ p kept. is.stays p (kept-least (min s.least n) s.least p s.ranges (omega (arith, kept-below (min s.least n) p s.ranges kept)) kept);
}

at_rest-sound : (bytes : List ℕ) → IsSound (at_rest bytes)
at_rest-sound bytes = record { seen = at_rest-left bytes; synced_long = omega arith; synced_short = omega arith }

on_file-sound : (change : Change) (s : FileState) → IsSound s → IsSound (on_file change s)
on_file-sound (Writes file at bytes done) s is = record {
  seen = write-seen s file at bytes done is.seen;
  synced_long = is.synced_long;
  synced_short = omega (arith, is.synced_short);
}
on_file-sound (Cuts file n done) s is = record {
  seen = cut-seen s file n done is.seen;
  synced_long = omega (arith, is.synced_long);
  synced_short = is.synced_short;
}
on_file-sound (Syncs file) s is = at_rest-sound s.seen
on_file-sound (Stops choice) s is = at_rest-sound (left_by choice s)

replay-sound : (changes : List Change) (s : ℕ → FileState) → ((f : ℕ) → IsSound (s f)) → (f : ℕ) → IsSound (replay changes s f)
replay-sound [] s is f = is f
replay-sound (change ∷ changes) s is f = replay-sound changes (after change s) (λ g. next g (is_on change g)) f
  where
    next : (g : ℕ) (here : Bool) → IsSound (if here then on_file change (s g) else s g)
    next g true = on_file-sound change (s g) (is g)
    next g false = is g

pub all-sound : (changes : List Change) (f : ℕ) → IsSound (files_after changes f)
all-sound changes f = replay-sound changes (λ g. at_rest []) (λ g. at_rest-sound []) f
