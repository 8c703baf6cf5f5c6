-- The reading reads only some of the files.
use Rattle.std.proofs.Common.{◌≡◌, ◌≢◌, ℕ, zero, suc, ◌+◌, ◌<◌, List, take, refl, ◌∙◌, ap, arith}
use Rattle.std.specs.Prelude.{Option}
use Rattle.disk_model.specs.Disk.{Contents}
use Rattle.line_store.specs.Reading.{output_file, image_file, log_file, line_of, opens_gate, ranks_of, output_of, table, Saved, saved, Finished, finished, states, Reading, reading_at, reading}

pub table-same : {A : Type 0} (f g : ℕ → A) (n : ℕ) → ((r : ℕ) → r < n → f r ≡ g r) → table f n ≡ table g n
table-same f g zero same = refl
table-same f g (suc n) same =
    let first : table f n ≡ table g n = table-same f g n (λ r lt. same r (omega (arith, lt))) in
    rw (first, same n (omega arith)) refl

pub saved-same : (c d : Contents) (line rank : ℕ) → c (image_file rank line) ≡ d (image_file rank line) → c (log_file rank line) ≡ d (log_file rank line)
    → take (output_of (d (image_file rank line))) (c (output_file rank)) ≡ take (output_of (d (image_file rank line))) (d (output_file rank)) → saved c line rank ≡ saved d line rank
saved-same c d line rank image log output = rw (image, log, output) refl

pub states-same : (c d : Contents) (line : ℕ) → c 0 ≡ d 0 → ((r : ℕ) → 0 < line → r < ranks_of (d 0) → saved c line r ≡ saved d line r) → states c line ≡ states d line
states-same c d zero job same = refl
states-same c d (suc line) job same = rw job (table-same (saved c (suc line)) (saved d (suc line)) (ranks_of (d 0)) (λ r lt. same r (omega arith) lt))

pub finished-same : (c d : Contents) → c 0 ≡ d 0 → c 3 ≡ d 3 → c 4 ≡ d 4 → ((r : ℕ) → r < ranks_of (d 0) → c (output_file r) ≡ d (output_file r)) → finished c ≡ finished d
finished-same c d job ends end outputs =
    let same = table-same (λ r. c (output_file r)) (λ r. d (output_file r)) (ranks_of (d 0)) outputs in
    rw (end, ends, job, same) refl

abbrev with_parts : List ℕ → ℕ → List Saved → Option Finished → Reading
with_parts job line states finished = record { job = job; line = line; states = states; finished = finished }

pub reading_at-same : (c d : Contents) (line : ℕ) → c 0 ≡ d 0 → states c line ≡ states d line → finished c ≡ finished d → reading_at c line ≡ reading_at d line
reading_at-same c d line job st fin = ap (λ j. with_parts j line (states c line) (finished c)) job ∙ ap (λ s. with_parts (d 0) line s (finished c)) st ∙ ap (λ f. with_parts (d 0) line (states d line) f) fin

pub reading-same : (c d : Contents) → opens_gate (c 1) ≡ opens_gate (d 1) → line_of (c 2) ≡ line_of (d 2) → reading_at c (line_of (d 2)) ≡ reading_at d (line_of (d 2)) → reading c ≡ reading d
reading-same c d gate line rest = rw (gate, line, rest) refl

-- A file that isn't read at this line.
pub record IsUnread (line file : ℕ) : Type 0 where
  pub above : 4 < file
  pub output : (rank : ℕ) → output_file rank ≢ file
  pub image : (rank : ℕ) → image_file rank line ≢ file
  pub log : (rank : ℕ) → log_file rank line ≢ file

-- Contents that differ in such a file alone read alike.
pub reading-unread : (file : ℕ) (c d : Contents) → ((g : ℕ) → g ≢ file → c g ≡ d g) → IsUnread (line_of (d 2)) file → reading c ≡ reading d
reading-unread file c d same unread =
    let job = same 0 (λ is. absurd (omega (arith, is, unread.above))) in
    let line = ap line_of (same 2 (λ is. absurd (omega (arith, is, unread.above)))) in
    reading-same c d (ap opens_gate (same 1 (λ is. absurd (omega (arith, is, unread.above))))) line
    (reading_at-same c d (line_of (d 2)) job
    (states-same c d (line_of (d 2)) job (λ r pos lt. saved-same c d (line_of (d 2)) r (same _ (unread.image r)) (same _ (unread.log r)) (ap (λ b. take (output_of (d (image_file r (line_of (d 2))))) b) (same _ (unread.output r)))))
    (finished-same c d job (same 3 (λ is. absurd (omega (arith, is, unread.above)))) (same 4 (λ is. absurd (omega (arith, is, unread.above)))) (λ r lt. same _ (unread.output r))))

-- Contents that differ in the line file alone read alike at the same line.
pub reading_at-off_line : (c d : Contents) (line : ℕ) → ((g : ℕ) → g ≢ 2 → c g ≡ d g) → reading_at c line ≡ reading_at d line
reading_at-off_line c d line same =
    let job = same 0 (λ is. absurd (omega (arith, is))) in
    reading_at-same c d line job
    (states-same c d line job (λ r pos lt. saved-same c d line r (same _ (λ is. absurd (omega (arith, is)))) (same _ (λ is. absurd (omega (arith, is)))) (ap (λ b. take (output_of (d (image_file r line))) b) (same _ (λ is. absurd (omega (arith, is)))))))
    (finished-same c d job (same 3 (λ is. absurd (omega (arith, is)))) (same 4 (λ is. absurd (omega (arith, is)))) (λ r lt. same _ (λ is. absurd (omega (arith, is)))))

-- a file of the next line's slot
pub image-unread : (line rank : ℕ) → IsUnread line (image_file rank (line + 1))
image-unread line rank = record {
  above = omega arith;
  output = λ r is. absurd (omega (arith, is));
  image = λ r is. absurd (omega (arith, is));
  log = λ r is. absurd (omega (arith, is));
}

pub log-unread : (line rank : ℕ) → IsUnread line (log_file rank (line + 1))
log-unread line rank = record {
  above = omega arith;
  output = λ r is. absurd (omega (arith, is));
  image = λ r is. absurd (omega (arith, is));
  log = λ r is. absurd (omega (arith, is));
}
