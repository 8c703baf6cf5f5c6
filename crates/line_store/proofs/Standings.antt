-- What is saved becomes the committed line.
use Rattle.std.proofs.Common.{◌≡◌, ◌⊎◌, ⊎_elim, ℕ, zero, suc, ◌+◌, ◌*◌, ◌<◌, ◌≤◌, List, length, take, refl, sym, ◌∙◌, ap, subst, arith, None, Some}
use Rattle.std.specs.Prelude.{Option}
use Rattle.std.proofs.lemmas.Option.{none-some}
use Rattle.disk_model.specs.Disk.{View, IsView}
use Rattle.disk_model.specs.Runs.{Touches, Keeps}
use Rattle.line_store.specs.Reading.{output_file, image_file, log_file, line_of, opens_gate, ranks_of, output_of, table, Saved, saved, Finished, finished, states, Reading, reading_at, reading}
use Rattle.line_store.specs.Store.{IsSettled, IsSaved}
use Rattle.line_store.specs.Held.{Standing, standing_of, got, next_saved, advanced, IsComplete, states_at, states_of, reading_of, IsFrontKept, IsRankKept, HoldsImage, HoldsLog, IsSafe, IsHeld, IsQuiet, Spares}
use Rattle.line_store.proofs.Frame.{table-same}
use Rattle.line_store.proofs.Saving.{keeps-left}
use Rattle.line_store.proofs.Holding.{stable-kept, rank-kept, saved-kept, settled-kept}

-- the reading of what is held
pub states-held : (text : List ℕ) (v : View) (s : Standing) → IsHeld text v s → states v.seen s.line ≡ states_of (ranks_of text) s
states-held text v s held = by_line s.line held.committed
  where
    by_line : (line : ℕ) → (0 < line → (rank : ℕ) → rank < ranks_of text → saved v.seen line rank ≡ s.committed rank) → states v.seen line ≡ states_at line s.committed (ranks_of text)
    by_line zero same = refl
    by_line (suc line) same = ap (λ (j : List ℕ). table (saved v.seen (suc line)) (ranks_of j)) held.safe.job ∙ table-same (saved v.seen (suc line)) s.committed (ranks_of text) (same (omega arith))

pub none-finished : (v : View) {n : ℕ} → IsView n v → 5 ≤ v.files → IsSettled v → finished v.seen ≡ None
none-finished v is files settled = rw (settled.end (v.seen 4) (is.seen_left 4 (omega (arith, files)))) refl

abbrev with_parts : List ℕ → ℕ → List Saved → Option Finished → Reading
with_parts job line states finished = record { job = job; line = line; states = states; finished = finished }

pub reading_at-held : (text : List ℕ) (v : View) (s : Standing) {n : ℕ} → IsView n v → IsHeld text v s → reading_at v.seen s.line ≡ reading_of text s None
reading_at-held text v s is held = ap (λ j. with_parts j s.line (states v.seen s.line) (finished v.seen)) held.safe.job
    ∙ ap (λ t. with_parts text s.line t (finished v.seen)) (states-held text v s held) ∙ ap (λ f. with_parts text s.line (states_of (ranks_of text) s) f) (none-finished v is (omega (arith, held.files)) held.settled)

pub reading-held : (text : List ℕ) (v : View) (s : Standing) {n : ℕ} → IsView n v → IsHeld text v s → reading v.seen ≡ Some (reading_of text s None)
reading-held text v s is held = rw (held.safe.gate, held.line) (ap Some (reading_at-held text v s is held))

module _ (text : List ℕ) (s : Standing) (old : View) (held : IsHeld text old s) (complete : IsComplete (ranks_of text) s) where
  image_there : (rank : ℕ) → rank < ranks_of text → HoldsImage old rank (s.line + 1) (got (s.images rank))
  image_there rank lt = held.images rank (got (s.images rank)) lt (complete.image rank lt)

  log_there : (rank : ℕ) → rank < ranks_of text → HoldsLog old rank (s.line + 1) (got (s.logs rank))
  log_there rank lt = held.logs rank (got (s.logs rank)) lt (complete.log rank lt)

  pub complete-kept : (rank : ℕ) → rank < ranks_of text → IsRankKept old rank (s.line + 1)
  complete-kept rank lt = record {
    image = (image_there rank lt).stable;
    log = (log_there rank lt).stable;
    front = subst (λ (i : List ℕ). IsFrontKept old rank (output_of i)) (sym (image_there rank lt).seen) (image_there rank lt).front;
  }

  pub complete-saved : (line : ℕ) → line ≡ s.line + 1 → IsSaved old line
  complete-saved line next = subst (λ l. IsSaved old l) (sym next) (record {
    job = held.safe.stable;
    images = λ r lt. (complete-kept r (inside r lt)).image;
    logs = λ r lt. (complete-kept r (inside r lt)).log;
    outputs = λ r lt. (complete-kept r (inside r lt)).front.same;
  })
    where
      inside : (r : ℕ) → r < ranks_of (old.seen 0) → r < ranks_of text
      inside r lt = subst (λ (j : List ℕ). r < ranks_of j) held.safe.job lt

  complete-state : (rank : ℕ) → rank < ranks_of text → saved old.seen (s.line + 1) rank ≡ next_saved s rank
  complete-state rank lt = rw ((image_there rank lt).seen, (log_there rank lt).seen, held.outputs rank lt) refl

  -- the reading that the commit makes
  pub complete-reading : {n : ℕ} → IsView n old → (line : ℕ) → line ≡ s.line + 1 → reading_at old.seen line ≡ reading_of text (advanced s) None
  complete-reading is line next = subst (λ l. reading_at old.seen l ≡ reading_of text (advanced s) None) (sym next)
      (ap (λ j. with_parts j (s.line + 1) (states old.seen (s.line + 1)) (finished old.seen)) held.safe.job
      ∙ ap (λ t. with_parts text (s.line + 1) t (finished old.seen)) there
      ∙ ap (λ f. with_parts text (s.line + 1) (states_of (ranks_of text) (advanced s)) f) (none-finished old is (omega (arith, held.files)) held.settled))
    where
      there : states old.seen (s.line + 1) ≡ states_at (s.line + 1) (next_saved s) (ranks_of text)
      there =
          let same : s.line + 1 ≡ suc s.line = omega arith in
          subst (λ l. (((rank : ℕ) → rank < ranks_of text → saved old.seen l rank ≡ next_saved s rank) → states old.seen l ≡ states_at l (next_saved s) (ranks_of text))) (sym same)
          (λ each. ap (λ (j : List ℕ). table (saved old.seen (suc s.line)) (ranks_of j)) held.safe.job ∙ table-same (saved old.seen (suc s.line)) (next_saved s) (ranks_of text) each) complete-state

  -- After the commit's calls, whether they succeed or not.
  pub committed-safe : {n : ℕ} → IsView n old → (new : View) → Spares 2 old new → ((b : List ℕ) → new.may_leave 2 b → (line_of b ≡ s.line) ⊎ (line_of b ≡ s.line + 1)) → IsSafe text new
  committed-safe is new spares lines = record {
    gate = ap opens_gate (spares.others 1 (λ e. absurd (omega (arith, e)))) ∙ held.safe.gate;
    job = spares.others 0 (λ e. absurd (omega (arith, e))) ∙ held.safe.job;
    stable = stable-kept 2 old new spares 0 (λ e. absurd (omega (arith, e))) held.safe.stable;
    kept = λ b left pos rank lt. rank-kept 2 old new spares rank (line_of b) (λ e. absurd (omega (arith, e))) (λ e. absurd (omega (arith, e))) (λ e. absurd (omega (arith, e))) (⊎_elim
        (λ stays. subst (λ l. IsRankKept old rank l) (held.line ∙ sym stays) (held.safe.kept (old.seen 2) (is.seen_left 2 (omega (arith, held.files, is.same_files))) (omega (arith, held.line, stays, pos)) rank lt))
        (λ goes. subst (λ l. IsRankKept old rank l) (sym goes) (complete-kept rank lt))
        (lines b left));
  }

  -- After they succeed.
  pub committed-held : {n : ℕ} → IsView n old → (new : View) → new.files ≡ old.files → Spares 2 old new → ((b : List ℕ) → new.may_leave 2 b → (line_of b ≡ s.line) ⊎ (line_of b ≡ s.line + 1))
      → IsSettled new → line_of (new.seen 2) ≡ s.line + 1 → IsHeld text new (advanced s)
  committed-held is new files spares lines settled line = record {
    files = omega (arith, files, held.files);
    safe = committed-safe is new spares lines;
    settled = settled;
    line = line;
    outputs = λ r lt. spares.others (output_file r) (λ e. absurd (omega (arith, e))) ∙ held.outputs r lt;
    committed = λ pos r lt. saved-kept 2 old new spares r (s.line + 1) (λ e. absurd (omega (arith, e))) (λ e. absurd (omega (arith, e))) (λ e. absurd (omega (arith, e))) ∙ complete-state r lt;
    images = λ r i lt is. absurd (none-some i is);
    logs = λ r l lt is. absurd (none-some l is);
  }

-- What is known once the disk is settled.
pub settled-held : (text : List ℕ) (v : View) → 5 * ranks_of text + 5 ≤ v.files → IsSafe text v → IsSettled v → IsHeld text v (standing_of v)
settled-held text v files safe settled = record {
  files = files;
  safe = safe;
  settled = settled;
  line = refl;
  outputs = λ r lt. refl;
  committed = λ pos r lt. refl;
  images = λ r i lt is. absurd (none-some i is);
  logs = λ r l lt is. absurd (none-some l is);
}

-- While the disk is settled, whether that succeeds or not.
pub settling-safe : (text : List ℕ) (old new : View) → IsSafe text old → Spares 2 old new → ((b : List ℕ) → new.may_leave 2 b → (a : List ℕ) × old.may_leave 2 a × (line_of a ≡ line_of b)) → IsSafe text new
settling-safe text old new safe spares lines = record {
  gate = ap opens_gate (spares.others 1 (λ e. absurd (omega (arith, e)))) ∙ safe.gate;
  job = spares.others 0 (λ e. absurd (omega (arith, e))) ∙ safe.job;
  stable = stable-kept 2 old new spares 0 (λ e. absurd (omega (arith, e))) safe.stable;
  kept = λ b left pos rank lt.
      let was = lines b left in
      rank-kept 2 old new spares rank (line_of b) (λ e. absurd (omega (arith, e))) (λ e. absurd (omega (arith, e))) (λ e. absurd (omega (arith, e)))
      (subst (λ l. IsRankKept old rank l) was.2 (safe.kept was.0 was.1 (omega (arith, was.2, pos)) rank lt));
}

-- Calls that change no bytes.
pub keeps-settled : (old new : View) → Keeps old new → IsSettled old → IsSettled new
keeps-settled old new keeps settled = record {
  line = λ b left. settled.line b (keeps.left 2 b left) ∙ ap line_of (sym (keeps.seen 2));
  short = λ b left. omega (arith, settled.short b (keeps.left 2 b left), ap line_of (keeps.seen 2));
  end = λ b left. settled.end b (keeps.left 4 b left);
}

pub keeps-safe : (text : List ℕ) (old new : View) → IsSafe text old → Keeps old new → IsSafe text new
keeps-safe text old new safe keeps = settling-safe text old new safe (record { others = λ g other. keeps.seen g; others_left = λ g b other left. keeps.left g b left }) (λ b left. (b, keeps.left 2 b left, refl))

pub keeps-held : (text : List ℕ) (s : Standing) (old new : View) → IsHeld text old s → Keeps old new → IsHeld text new s
keeps-held text s old new held keeps = record {
  files = omega (arith, keeps.run.files, held.files);
  safe = keeps-safe text old new held.safe keeps;
  settled = keeps-settled old new keeps held.settled;
  line = ap line_of (keeps.seen 2) ∙ held.line;
  outputs = λ r lt. keeps.seen (output_file r) ∙ held.outputs r lt;
  committed = λ pos r lt. rw (keeps.seen (image_file r s.line), keeps.seen (log_file r s.line), keeps.seen (output_file r)) (held.committed pos r lt);
  images = λ r i lt is.
      let was = held.images r i lt is in
      record {
        seen = keeps.seen (image_file r (s.line + 1)) ∙ was.seen;
        stable = λ b left. was.stable b (keeps.left (image_file r (s.line + 1)) b left) ∙ sym (keeps.seen (image_file r (s.line + 1)));
        front = record {
          long = subst (λ (l : List ℕ). output_of i ≤ length l) (sym (keeps.seen (output_file r))) was.front.long;
          same = λ b left. was.front.same b (keeps.left (output_file r) b left) ∙ ap (λ (l : List ℕ). take (output_of i) l) (sym (keeps.seen (output_file r)));
        };
      };
  logs = λ r l lt is.
      let was = held.logs r l lt is in
      record {
        seen = keeps.seen (log_file r (s.line + 1)) ∙ was.seen;
        stable = λ b left. was.stable b (keeps.left (log_file r (s.line + 1)) b left) ∙ sym (keeps.seen (log_file r (s.line + 1)));
      };
}

pub keeps-quiet : (text : List ℕ) (old new : View) → IsSafe text old → Keeps old new → IsQuiet text old new
keeps-quiet text old new safe keeps = record { run = keeps-left old new keeps; safe = keeps-safe text old new safe keeps }

-- Calls on a file of a rank leave a settled disk settled.
pub rank-settled : (file : ℕ) (R : List ℕ → List ℕ → Type 0) (old new : View) → 4 < file → Touches file R old new → IsSettled old → IsSettled new
rank-settled file R old new above touches = settled-kept file old new (record { others = touches.others; others_left = touches.others_left }) (λ is. absurd (omega (arith, is, above))) (λ is. absurd (omega (arith, is, above)))
