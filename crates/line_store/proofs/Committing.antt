-- What a stop leaves while a line is committed.
use Rattle.std.proofs.Common.{◌≡◌, ◌≢◌, ◌⊎◌, inl, inr, ⊎_elim, ℕ, ◌+◌, ◌<◌, ◌≤◌, true, false, List, [], ◌∷◌, length, refl, sym, ◌∙◌, ap, subst, arith}
use Rattle.std.specs.Prelude.{Some}
use Rattle.disk_model.specs.Disk.{Contents, View, IsView, IsStable, Leaves, Steps, Torn, Holds}
use Rattle.disk_model.specs.Runs.{LeavesOnly}
use Rattle.disk_model.proofs.Moments.{put, put_else, stepped_from, kept_leaves, started, goes_on}
use Rattle.line_store.specs.Reading.{output_file, image_file, log_file, line_of, opens_gate, opens_end, ranks_of, finished, reading_at, reading}
use Rattle.line_store.specs.Store.{IsSettled, HasFiles, ReadsAsLeftOr, IsSaved}
use Rattle.line_store.proofs.Lines.{torn-line, holds-line}
use Rattle.line_store.proofs.Frame.{saved-same, states-same, reading_at-same, reading-same, reading_at-off_line}

-- no end is open
closed : (c d : Contents) → opens_end (c 4) ≡ false → opens_end (d 4) ≡ false → finished c ≡ finished d
closed c d is was = rw (is, was) refl

reading-open : (c : Contents) (line : ℕ) → opens_gate (c 1) ≡ true → line_of (c 2) ≡ line → reading c ≡ Some (reading_at c line)
reading-open c line is_open is = rw (is_open, is) refl

module _ (old mid : View) (line : ℕ) (is_view : IsView old.files old) (files : 5 ≤ old.files) (has : HasFiles old.files (ranks_of (old.seen 0)))
    (settled : IsSettled old) (next : line ≡ line_of (old.seen 2) + 1) (is_saved : IsSaved old line) (at : ℕ) (is_at : at ≡ line_of (old.seen 2)) where
  -- the line's files are as a read gives them
  reads_next : (c : Contents) → ((f : ℕ) → f ≢ 2 → f < old.files → old.may_leave f (c f)) → reading_at c line ≡ reading_at old.seen line
  reads_next c left =
      let job : c 0 ≡ old.seen 0 = is_saved.job (c 0) (left 0 (λ is. absurd (omega (arith, is))) (omega (arith, files))) in
      reading_at-same c old.seen line job
      (states-same c old.seen line job (λ r pos lt.
      let image : c (image_file r line) ≡ old.seen (image_file r line) = is_saved.images r lt (c (image_file r line)) (left (image_file r line) (λ is. absurd (omega (arith, is))) (omega (arith, has, lt))) in
      let log : c (log_file r line) ≡ old.seen (log_file r line) = is_saved.logs r lt (c (log_file r line)) (left (log_file r line) (λ is. absurd (omega (arith, is))) (omega (arith, has, lt))) in
      saved-same c old.seen line r image log (is_saved.outputs r lt (c (output_file r)) (left (output_file r) (λ is. absurd (omega (arith, is))) (omega (arith, has, lt))))))
      (closed c old.seen (settled.end (c 4) (left 4 (λ is. absurd (omega (arith, is))) (omega (arith, files)))) (settled.end (old.seen 4) (is_view.seen_left 4 (omega (arith, files)))))

  pub committed-left : line < 65536 → Steps 2 (Torn at 1) old mid → (c : Contents) → Leaves mid c → ReadsAsLeftOr old (Some (reading_at old.seen line)) c
  committed-left below steps c left =
      let from = stepped_from 2 (Torn at 1) old mid (omega (arith, files)) steps c left in
      let torn = subst (λ n. Torn n 1 from.0 (c 2)) is_at from.1 in
      let was : line_of from.0 ≡ line_of (old.seen 2) = settled.line from.0 from.2 in
      let d = put c 2 from.0 in
      let is : line_of (c 2) ≡ line_of (old.seen 2) ⊎ line_of (c 2) ≡ line_of (old.seen 2) + 1 =
      torn-line (line_of (old.seen 2)) from.0 (c 2) (omega (arith, below, next)) was (settled.short from.0 from.2) torn in
      ⊎_elim (λ stays. inl (d, from.3, reading-same c d refl (stays ∙ sym was) (reading_at-off_line c d (line_of from.0) (λ g other. sym (put_else c 2 from.0 g other)))))
      (λ goes. elim (opens_gate (c 1)) as (λ b. opens_gate (c 1) ≡ b → ReadsAsLeftOr old (Some (reading_at old.seen line)) c) [
        | true ↦ λ is_open. inr (reading-open c line is_open (goes ∙ sym next) ∙ ap Some (reads_next c (λ f other lt. subst (λ b. old.may_leave f b) (put_else c 2 from.0 f other) (from.3 f lt))))
        | false ↦ λ shut. inl (d, from.3, rw shut refl)
      ] refl) is

  -- the line stays, or the next one is there
  pub committed-lines : line < 65536 → Steps 2 (Torn at 1) old mid → (b : List ℕ) → mid.may_leave 2 b → (line_of b ≡ line_of (old.seen 2)) ⊎ (line_of b ≡ line)
  committed-lines below steps b left =
      let from = steps.left b left in
      let torn = subst (λ n. Torn n 1 from.0 b) is_at from.2 in
      ⊎_elim (λ stays. inl stays) (λ goes. inr (goes ∙ sym next))
      (torn-line (line_of (old.seen 2)) from.0 b (omega (arith, below, next)) (settled.line from.0 from.1) (settled.short from.0 from.1) torn)

  pub wrote : line < 65536 → Steps 2 (Torn at 1) old mid → LeavesOnly old mid (ReadsAsLeftOr old (Some (reading_at old.seen line)))
  wrote below steps = goes_on old old mid _ (started old _ is_view (λ c left. inl (c, left, refl))) steps.time (committed-left below steps)

  pub synced : line < 65536 → Steps 2 (Torn at 1) old mid → (new : View) → Steps 2 (λ a b. b ≡ a) mid new → LeavesOnly old new (ReadsAsLeftOr old (Some (reading_at old.seen line)))
  synced below steps new kept = goes_on old mid new _ (wrote below steps) kept.time (λ c left. committed-left below steps c (kept_leaves 2 mid new kept c left))

  pub committed-settled : line < 65536 → Steps 2 (Torn at 1) old mid → Holds (old.seen 2) at (1 ∷ []) (mid.seen 2)
      → (new : View) → Steps 2 (λ a b. b ≡ a) mid new → IsStable new 2 → IsSettled new × (line_of (new.seen 2) ≡ line)
  committed-settled below steps holds new synced stable =
      let held = holds-line (line_of (old.seen 2)) (old.seen 2) (mid.seen 2) (omega (arith, below, next)) refl (settled.short (old.seen 2) (is_view.seen_left 2 (omega (arith, files)))) (subst (λ n. Holds (old.seen 2) n (1 ∷ []) (mid.seen 2)) is_at holds) in
      let is : line_of (new.seen 2) ≡ line = ap line_of synced.seen ∙ held.0 ∙ sym next in
      let short : length (new.seen 2) ≤ line = omega (arith, ap length synced.seen, held.1, next) in (
        record {
          line = λ b left. ap line_of (stable b left);
          short = λ b left. omega (arith, ap length (stable b left), short, is);
          end = λ b left. settled.end b (steps.others_left 4 b (λ is. absurd (omega (arith, is))) (synced.others_left 4 b (λ is. absurd (omega (arith, is))) left));
        },
        is,
      )
