-- What a stop leaves while the job ends.
use Rattle.std.proofs.Common.{◌≡◌, ◌≢◌, inl, inr, ⊎_elim, ℕ, ◌+◌, ◌<◌, ◌≤◌, true, false, List, [], ◌∷◌, take, refl, sym, ◌∙◌, ap, subst, arith, Some}
use Rattle.std.specs.Prelude.{Option}
use Rattle.disk_model.specs.Disk.{Contents, View, IsView, IsStable, Leaves, Steps, Torn, Holds}
use Rattle.disk_model.specs.Runs.{DiffersIn, Touches}
use Rattle.disk_model.proofs.Moments.{put, put_here, put_else, stepped_from, kept_leaves, started, goes_on, weaker, and_then, left_now}
use Rattle.line_store.specs.Reading.{output_file, image_file, log_file, line_of, opens_gate, opens_end, ranks_of, output_of, table, Saved, Finished, finished, states, Reading, reading}
use Rattle.line_store.specs.Store.{ReadsAsLeft, ReadsAsLeftOr, Anyhow}
use Rattle.line_store.specs.Held.{Standing, states_of, reading_of, ended_with, IsRankKept, IsSafe, IsHeld, IsQuiet, Makes, IsEndReady, Spares}
use Rattle.line_store.proofs.Frame.{table-same, saved-same, states-same, reading_at-same, reading-same}
use Rattle.line_store.proofs.Holding.{spared, stable-kept, rank-kept, image-kept, log-kept, saved-kept, settled-kept}
use Rattle.line_store.proofs.Standings.{states-held}

-- no end is open
closed : (c d : Contents) → opens_end (c 4) ≡ false → opens_end (d 4) ≡ false → finished c ≡ finished d
closed c d is was = rw (is, was) refl

-- Contents that differ in the codes alone, or in the end alone, read alike where no end is open.
pub reading-closed : (f : ℕ) (c d : Contents) → 2 < f → f < 5 → ((g : ℕ) → g ≢ f → c g ≡ d g) → opens_end (c 4) ≡ false → opens_end (d 4) ≡ false → reading c ≡ reading d
reading-closed f c d above below same is was =
    let job = same 0 (λ e. absurd (omega (arith, e, above))) in
    let line = ap line_of (same 2 (λ e. absurd (omega (arith, e, above)))) in
    reading-same c d (ap opens_gate (same 1 (λ e. absurd (omega (arith, e, above))))) line
    (reading_at-same c d (line_of (d 2)) job
    (states-same c d (line_of (d 2)) job (λ r pos lt. saved-same c d (line_of (d 2)) r (same (image_file r (line_of (d 2))) (λ e. absurd (omega (arith, e, below)))) (same (log_file r (line_of (d 2))) (λ e. absurd (omega (arith, e, below))))
    (ap (λ (l : List ℕ). take (output_of (d (image_file r (line_of (d 2))))) l) (same (output_file r) (λ e. absurd (omega (arith, e, below)))))))
    (closed c d is was))

-- Calls on the codes or on the end leave what is kept of the ranks.
pub ending-safe : (text : List ℕ) (f : ℕ) (old new : View) → 2 < f → f < 5 → Spares f old new → IsSafe text old → IsSafe text new
ending-safe text f old new above below spares safe = record {
  gate = ap opens_gate (spares.others 1 (λ e. absurd (omega (arith, e, above)))) ∙ safe.gate;
  job = spares.others 0 (λ e. absurd (omega (arith, e, above))) ∙ safe.job;
  stable = stable-kept f old new spares 0 (λ e. absurd (omega (arith, e, above))) safe.stable;
  kept = λ b left pos rank lt. rank-kept f old new spares rank (line_of b) (λ e. absurd (omega (arith, e, below))) (λ e. absurd (omega (arith, e, below))) (λ e. absurd (omega (arith, e, below)))
      (safe.kept b (spares.others_left 2 b (λ e. absurd (omega (arith, e, above))) left) pos rank lt);
}

-- The codes are put.
module _ (text : List ℕ) (s : Standing) (old new : View) (held : IsHeld text old s) (touches : Touches 3 Anyhow old new) where
  pub codes-quiet : IsQuiet text old new
  codes-quiet = record {
    run = weaker old new (DiffersIn 3 Anyhow old) (ReadsAsLeft old) (λ c differs.
        let shut = held.settled.end (differs.was 4) (differs.left 4 (omega (arith, held.files))) in (
          differs.was,
          differs.left,
          reading-closed 3 c differs.was (omega arith) (omega arith) differs.others (ap opens_end (differs.others 4 (λ e. absurd (omega (arith, e)))) ∙ shut) shut,
        )) touches.run;
    safe = ending-safe text 3 old new (omega arith) (omega arith) (spared 3 Anyhow old new touches) held.safe;
  }

  pub codes-held : IsHeld text new s
  codes-held =
      let spares = spared 3 Anyhow old new touches in
      record {
        files = omega (arith, held.files, touches.run.files);
        safe = codes-quiet.safe;
        settled = settled-kept 3 old new spares (λ e. absurd (omega (arith, e))) (λ e. absurd (omega (arith, e))) held.settled;
        line = ap line_of (touches.others 2 (λ e. absurd (omega (arith, e)))) ∙ held.line;
        outputs = λ r lt. touches.others (output_file r) (λ e. absurd (omega (arith, e))) ∙ held.outputs r lt;
        committed = λ pos r lt. saved-kept 3 old new spares r s.line (λ e. absurd (omega (arith, e))) (λ e. absurd (omega (arith, e))) (λ e. absurd (omega (arith, e))) ∙ held.committed pos r lt;
        images = λ r i lt is. image-kept 3 old new spares r (s.line + 1) i (λ e. absurd (omega (arith, e))) (λ e. absurd (omega (arith, e))) (held.images r i lt is);
        logs = λ r l lt is. log-kept 3 old new spares r (s.line + 1) l (λ e. absurd (omega (arith, e))) (held.logs r l lt is);
      }

abbrev with_parts : List ℕ → ℕ → List Saved → Option Finished → Reading
with_parts job line states finished = record { job = job; line = line; states = states; finished = finished }

module _ (text : List ℕ) (ranks : ℕ) (s : Standing) (ends : List ℕ) (old : View) {n : ℕ} (is_view : IsView n old) (ready : IsEndReady text ranks s ends old) where
  abbrev made : Reading
  made = reading_of text s (Some (ended_with ranks s ends))

  below : 5 ≤ old.files
  below = omega (arith, ready.held.files)

  -- with the end open
  pub reads_ended : (c : Contents) → ((f : ℕ) → f ≢ 4 → f < old.files → old.may_leave f (c f)) → opens_gate (c 1) ≡ true → opens_end (c 4) ≡ true → reading c ≡ Some made
  reads_ended c left gate is_end =
      let held = ready.held in
      let job : c 0 ≡ text = held.safe.stable (c 0) (left 0 (λ e. absurd (omega (arith, e))) (omega (arith, below))) ∙ held.safe.job in
      let two = left 2 (λ e. absurd (omega (arith, e))) (omega (arith, below)) in
      let line : line_of (c 2) ≡ s.line = held.settled.line (c 2) two ∙ held.line in
      let outs : (r : ℕ) → r < ranks → c (output_file r) ≡ s.outputs r = λ r lt. ready.outputs r lt (c (output_file r)) (left (output_file r) (λ e. absurd (omega (arith, e))) (omega (arith, held.files, lt, ready.count))) ∙ held.outputs r (omega (arith, lt, ready.count)) in
      let st : states c s.line ≡ states_of (ranks_of text) s =
      states-same c old.seen s.line (job ∙ sym held.safe.job) (λ r pos lt.
      let inside : r < ranks_of text = subst (λ (j : List ℕ). r < ranks_of j) held.safe.job lt in
      let kept = subst (λ l. IsRankKept old r l) line (held.safe.kept (c 2) two (omega (arith, pos, line)) r inside) in
      saved-same c old.seen s.line r
      (kept.image (c (image_file r s.line)) (left (image_file r s.line) (λ e. absurd (omega (arith, e))) (omega (arith, held.files, inside))))
      (kept.log (c (log_file r s.line)) (left (log_file r s.line) (λ e. absurd (omega (arith, e))) (omega (arith, held.files, inside))))
      (kept.front.same (c (output_file r)) (left (output_file r) (λ e. absurd (omega (arith, e))) (omega (arith, held.files, inside)))))
      ∙ states-held text old s held in
      let codes : c 3 ≡ ends = ready.stable (c 3) (left 3 (λ e. absurd (omega (arith, e))) (omega (arith, below))) ∙ ready.codes in
      let fin : finished c ≡ Some (ended_with ranks s ends) =
      rw (is_end, codes) (ap (λ (o : List (List ℕ)). Some (ends_at ends o)) (ap (λ (j : List ℕ). table (λ r. c (output_file r)) (ranks_of j)) job ∙ ap (λ k. table (λ r. c (output_file r)) k) (sym ready.count) ∙ table-same (λ r. c (output_file r)) s.outputs ranks outs)) in
      rw (gate, line) (ap Some (ap (λ j. with_parts j s.line (states c s.line) (finished c)) job ∙ ap (λ t. with_parts text s.line t (finished c)) st ∙ ap (λ f. with_parts text s.line (states_of (ranks_of text) s) f) fin))
    where
      ends_at : List ℕ → List (List ℕ) → Finished
      ends_at e o = record { ends = e; outputs = o }

  pub ended-left : (mid : View) → Steps 4 (Torn 0 1) old mid → (c : Contents) → Leaves mid c → ReadsAsLeftOr old (Some made) c
  ended-left mid steps c left =
      let from = stepped_from 4 (Torn 0 1) old mid (omega (arith, below)) steps c left in
      let d = put c 4 from.0 in
      let shut : opens_end (d 4) ≡ false = ap opens_end (put_here c 4 from.0) ∙ ready.held.settled.end from.0 from.2 in
      elim (opens_end (c 4)) as (λ b. opens_end (c 4) ≡ b → ReadsAsLeftOr old (Some made) c) [
        | true ↦ λ is_end. elim (opens_gate (c 1)) as (λ b. opens_gate (c 1) ≡ b → ReadsAsLeftOr old (Some made) c) [
          | true ↦ λ is_open. inr (reads_ended c (λ f other lt. subst (λ b. old.may_leave f b) (put_else c 4 from.0 f other) (from.3 f lt)) is_open is_end)
          | false ↦ λ closed_gate. inl (d, from.3, rw closed_gate refl)
        ] refl
        | false ↦ λ is_shut. inl (d, from.3, reading-closed 4 c d (omega arith) (omega arith) (λ g other. sym (put_else c 4 from.0 g other)) is_shut shut)
      ] refl

  pub end-wrote : (mid : View) → Steps 4 (Torn 0 1) old mid → Makes text made old mid
  end-wrote mid steps = record {
    run = goes_on old old mid (ReadsAsLeftOr old (Some made)) (started old (ReadsAsLeftOr old (Some made)) is_view (λ c left. inl (c, left, refl))) steps.time (ended-left mid steps);
    safe = ending-safe text 4 old mid (omega arith) (omega arith) (record { others = steps.others; others_left = steps.others_left }) ready.held.safe;
  }

  pub end-synced : (mid : View) → Steps 4 (Torn 0 1) old mid → (new : View) → Steps 4 (λ a b. b ≡ a) mid new → Makes text made old new
  end-synced mid steps new kept = record {
    run = goes_on old mid new (ReadsAsLeftOr old (Some made)) (end-wrote mid steps).run kept.time (λ c left. ended-left mid steps c (kept_leaves 4 mid new kept c left));
    safe = ending-safe text 4 mid new (omega arith) (omega arith) (record { others = kept.others; others_left = kept.others_left }) (end-wrote mid steps).safe;
  }

  -- After the calls succeed the disk reads as ended.
  pub end-reads : (mid : View) → Steps 4 (Torn 0 1) old mid → Holds (old.seen 4) 0 (69 ∷ []) (mid.seen 4) → (new : View) → Steps 4 (λ a b. b ≡ a) mid new → reading new.seen ≡ Some made
  end-reads mid steps holds new kept =
      let same : (g : ℕ) → g ≢ 4 → new.seen g ≡ old.seen g = λ g other. kept.others g other ∙ steps.others g other in
      reads_ended new.seen (λ f other lt. subst (λ b. old.may_leave f b) (sym (same f other)) (is_view.seen_left f lt))
      (ap opens_gate (same 1 (λ e. absurd (omega (arith, e)))) ∙ ready.held.safe.gate) (ap opens_end (kept.seen ∙ holds))

-- a call that makes no new reading, before one that does
pub quiet-makes : (text : List ℕ) (made : Reading) (old new : View) → IsQuiet text old new → Makes text made old new
quiet-makes text made old new quiet = record { run = weaker old new (ReadsAsLeft old) (ReadsAsLeftOr old (Some made)) (λ c reads. inl reads) quiet.run; safe = quiet.safe }

pub quiet-then-makes : (text : List ℕ) (made : Reading) (old mid new : View) {n : ℕ} → IsView n mid → IsQuiet text old mid → Makes text made mid new → Makes text made old new
quiet-then-makes text made old mid new is quiet makes = record {
  run = and_then old mid new (ReadsAsLeftOr old (Some made)) (quiet-makes text made old mid quiet).run
      (weaker mid new (ReadsAsLeftOr mid (Some made)) (ReadsAsLeftOr old (Some made)) (λ c reads. ⊎_elim
      (λ was. let first = left_now old mid (ReadsAsLeft old) is quiet.run was.0 was.1 in inl (first.0, first.1, was.2 ∙ first.2))
      (λ same. inr same) reads) makes.run);
  safe = makes.safe;
}

-- after the outputs are synced and the codes are put
pub end-ready : (text : List ℕ) (ranks : ℕ) (s : Standing) (ends : List ℕ) (old mid new : View) → ranks ≡ ranks_of text → IsHeld text mid s → ((r : ℕ) → r < ranks → IsStable mid (output_file r))
    → Touches 3 Anyhow mid new → new.seen 3 ≡ ends → IsStable new 3 → IsEndReady text ranks s ends new
end-ready text ranks s ends old mid new count held outputs touches codes stable = record {
  count = count;
  held = codes-held text s mid new held touches;
  codes = codes;
  stable = stable;
  outputs = λ r lt. stable-kept 3 mid new (spared 3 Anyhow mid new touches) (output_file r) (λ e. absurd (omega (arith, e))) (outputs r lt);
}

-- the reading by the number of ranks and the text of the ends
pub as-ended : (text : List ℕ) (s : Standing) (n m : ℕ) (a b : List ℕ) → n ≡ m → a ≡ b → reading_of text s (Some (ended_with n s a)) ≡ reading_of text s (Some (ended_with m s b))
as-ended text s n m a b count codes = ap (λ k. reading_of text s (Some (ended_with k s a))) count ∙ ap (λ (l : List ℕ). reading_of text s (Some (ended_with m s l))) codes
