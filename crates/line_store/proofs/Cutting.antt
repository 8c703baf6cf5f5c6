-- The outputs are cut back to the committed line.
use Rattle.std.proofs.Common.{◌≡◌, ⊎_elim, ℕ, zero, suc, ◌+◌, ◌<◌, ◌≤◌, List, length, take, get_or, refl, sym, ◌∙◌, ap, subst, arith, None}
use Rattle.std.proofs.lemmas.Option.{none-some}
use Rattle.std.proofs.lemmas.Bool.{cases_eq}
use Rattle.disk_model.specs.Disk.{View, IsView}
use Rattle.disk_model.specs.Runs.{LeavesOnly, Touches}
use Rattle.line_store.specs.Reading.{output_file, image_file, ranks_of, output_of, Saved}
use Rattle.line_store.specs.Store.{ReadsAsLeft, StaysTo}
use Rattle.line_store.specs.Held.{Standing, cut_back, length_at, output_at, IsHeld, IsQuiet, IsCutOf, IsAtLine, Spares}
use Rattle.line_store.proofs.Holding.{output-quiet, output-held}
use Rattle.line_store.proofs.Sessions.{reads-then, reads-none}

-- what is known while they are cut
abbrev pub now_of : View → Standing → Standing
now_of v s = record { line = s.line; committed = s.committed; images = λ r. None; logs = λ r. None; outputs = λ r. v.seen (output_file r) }

pub now-held : (text : List ℕ) (s : Standing) (v : View) → IsHeld text v s → IsHeld text v (now_of v s)
now-held text s v held = record {
  files = held.files;
  safe = held.safe;
  settled = held.settled;
  line = held.line;
  outputs = λ r lt. refl;
  committed = held.committed;
  images = λ r i lt is. absurd (none-some i is);
  logs = λ r l lt is. absurd (none-some l is);
}

-- the line's image names so many bytes of output, and they are there
pub cut-bound : (text : List ℕ) (s : Standing) (rank n : ℕ) (v : View) {count : ℕ} → IsView count v → IsHeld text v s → n ≡ length_at s.line (s.committed rank).image → rank < ranks_of text
    → (0 < s.line → output_of (v.seen (image_file rank s.line)) ≤ n) × (n ≤ length (v.seen (output_file rank)))
cut-bound text s rank n v is held names lt = by_line s.line refl names
  where
    by_line : (line : ℕ) → s.line ≡ line → n ≡ length_at line (s.committed rank).image → (0 < s.line → output_of (v.seen (image_file rank s.line)) ≤ n) × (n ≤ length (v.seen (output_file rank)))
    by_line zero at names = (λ pos. absurd (omega (arith, pos, at)), omega (arith, names))
    by_line (suc line) at names =
        let pos : 0 < s.line = omega (arith, at) in
        let same : output_of (v.seen (image_file rank s.line)) ≡ n = ap (λ (x : Saved). output_of x.image) (held.committed pos rank lt) ∙ sym names in
        let long = subst (λ l. output_of (v.seen (image_file rank l)) ≤ length (v.seen (output_file rank))) held.line
        (held.safe.kept (v.seen 2) (is.seen_left 2 (omega (arith, held.files))) (omega (arith, pos, held.line)) rank lt).front.long in
        (λ p. omega (arith, same), omega (arith, same, long))

module _ (text : List ℕ) (s : Standing) (rank n : ℕ) (old mid new : View) {count : ℕ} (is : IsView count mid) (held : IsHeld text mid (now_of mid s)) (names : n ≡ length_at s.line (s.committed rank).image) (lt : rank < ranks_of text)
    (touches : Touches (output_file rank) (StaysTo n) mid new) where
  bound : (0 < s.line → output_of (mid.seen (image_file rank s.line)) ≤ n) × (n ≤ length (mid.seen (output_file rank)))
  bound = cut-bound text (now_of mid s) rank n mid is held names lt

  pub cut-quiet : IsQuiet text mid new
  cut-quiet = output-quiet text (now_of mid s) rank n mid new held touches bound.1 (λ pos inside. bound.0 pos)

  pub cut-held : IsHeld text new (now_of new s)
  cut-held =
      let h = output-held text (now_of mid s) rank n mid new held touches bound.1 (λ pos inside. bound.0 pos) (new.seen (output_file rank)) refl (λ r i inside is same. absurd (none-some i is)) in
      record {
        files = h.files;
        safe = h.safe;
        settled = h.settled;
        line = h.line;
        outputs = λ r inside. refl;
        committed = h.committed;
        images = λ r i inside is. absurd (none-some i is);
        logs = λ r l inside is. absurd (none-some l is);
      }

-- so far
pub record CutSoFar (text : List ℕ) (s : Standing) (old mid : View) : Type 0 where
  pub run : LeavesOnly old mid (ReadsAsLeft old)
  pub held : IsHeld text mid (now_of mid s)

pub none-cut : (text : List ℕ) (s : Standing) (v : View) {count : ℕ} → IsView count v → IsHeld text v s → CutSoFar text s v v
none-cut text s v is held = record { run = reads-none v is; held = now-held text s v held }

-- one more
module _ (text : List ℕ) (s : Standing) (rank n : ℕ) (old mid new : View) {count : ℕ} (is : IsView count mid) (so_far : CutSoFar text s old mid) (names : n ≡ length_at s.line (s.committed rank).image) (lt : rank < ranks_of text)
    (f : ℕ) (same : f ≡ output_file rank) (touches : Touches f (StaysTo n) mid new) where
  pub cut-all-quiet : IsQuiet text old new
  cut-all-quiet =
      let q = cut-quiet text s rank n old mid new is so_far.held names lt (subst (λ g. Touches g (StaysTo n) mid new) same touches) in
      record { run = reads-then old mid new is so_far.run q.run; safe = q.safe }

  pub cut-more : CutSoFar text s old new
  cut-more = record { run = cut-all-quiet.run; held = cut-held text s rank n old mid new is so_far.held names lt (subst (λ g. Touches g (StaysTo n) mid new) same touches) }

-- after all of them
pub all-cut : (text : List ℕ) (s : Standing) (lengths : List ℕ) (old new : View) → IsHeld text old s → IsHeld text new (now_of new s)
    → ((r : ℕ) → r < ranks_of text → new.seen (output_file r) ≡ take (get_or lengths r 0) (old.seen (output_file r))) → IsHeld text new (cut_back s lengths)
all-cut text s lengths old new was held done = record {
  files = held.files;
  safe = held.safe;
  settled = held.settled;
  line = held.line;
  outputs = λ r lt. done r lt ∙ ap (λ (l : List ℕ). take (get_or lengths r 0) l) (was.outputs r lt);
  committed = held.committed;
  images = λ r i lt is. absurd (none-some i is);
  logs = λ r l lt is. absurd (none-some l is);
}

-- The outputs are then those of the line.
pub cut-at-line : (text : List ℕ) (s : Standing) (ranks : ℕ) (lengths : List ℕ) (v : View) → IsHeld text v s → ranks ≡ ranks_of text → IsCutOf ranks s lengths → IsAtLine ranks (cut_back s lengths)
cut-at-line text s ranks lengths v held count names = record {
  images = λ r. refl;
  logs = λ r. refl;
  outputs = λ r lt. by_line r (omega (arith, lt, count)) s.line refl (names r lt);
}
  where
    by_line : (r : ℕ) → r < ranks_of text → (line : ℕ) → s.line ≡ line → get_or lengths r 0 ≡ length_at line (s.committed r).image → take (get_or lengths r 0) (s.outputs r) ≡ output_at line (s.committed r).output
    by_line r lt zero at names = ap (λ n. take n (s.outputs r)) names
    by_line r lt (suc line) at names =
        let pos : 0 < s.line = omega (arith, at) in
        let same = held.committed pos r lt in
        ap (λ n. take n (s.outputs r)) (names ∙ sym (ap (λ (x : Saved). output_of x.image) same)) ∙ ap (λ (l : List ℕ). take (output_of (v.seen (image_file r s.line))) l) (sym (held.outputs r lt)) ∙ ap (λ (x : Saved). x.output) same

-- the outputs that are cut so far, and the others
pub size-there : (old mid : View) (f rank n : ℕ) (lengths : List ℕ) → f ≡ output_file rank → n ≡ get_or lengths rank 0 → mid.seen (output_file rank) ≡ old.seen (output_file rank)
    → get_or lengths rank 0 ≤ length (old.seen (output_file rank)) → n ≤ length (mid.seen f)
size-there old mid f rank n lengths same is later long = subst (λ g. n ≤ length (mid.seen g)) (sym same) (omega (arith, is, ap length later, long))

pub cut-done : (old mid new : View) (f rank n : ℕ) (lengths : List ℕ) → f ≡ output_file rank → n ≡ get_or lengths rank 0 → Spares f mid new → new.seen f ≡ take n (mid.seen f) → mid.seen (output_file rank) ≡ old.seen (output_file rank)
    → ((r : ℕ) → r < rank → mid.seen (output_file r) ≡ take (get_or lengths r 0) (old.seen (output_file r))) → (r : ℕ) → r < rank + 1 → new.seen (output_file r) ≡ take (get_or lengths r 0) (old.seen (output_file r))
cut-done old mid new f rank n lengths same is spares cut later before r lt =
    let written : new.seen (output_file rank) ≡ take n (mid.seen (output_file rank)) = subst (λ g. new.seen g ≡ take n (mid.seen g)) same cut in
    ⊎_elim (λ e. subst (λ k. new.seen (output_file k) ≡ take (get_or lengths k 0) (old.seen (output_file k))) (sym e)
    (written ∙ ap (λ m. take m (mid.seen (output_file rank))) is ∙ ap (λ (l : List ℕ). take (get_or lengths rank 0) l) later))
    (λ other. spares.others (output_file r) (λ e. other (omega (arith, e, same))) ∙ before r (omega (arith, lt, other)))
    (cases_eq r rank)

pub cut-later : (old mid new : View) (f rank : ℕ) → f ≡ output_file rank → Spares f mid new → ((r : ℕ) → rank ≤ r → mid.seen (output_file r) ≡ old.seen (output_file r)) → (r : ℕ) → rank + 1 ≤ r → new.seen (output_file r) ≡ old.seen (output_file r)
cut-later old mid new f rank same spares later r le = spares.others (output_file r) (λ e. absurd (omega (arith, e, same, le))) ∙ later r (omega (arith, le))
