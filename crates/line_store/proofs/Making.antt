-- A job is made under a closed gate.
use Rattle.std.proofs.Common.{◌≡◌, ◌≢◌, ◌⊎◌, inl, inr, ℕ, ◌<◌, ◌≤◌, true, false, List, [], refl, sym, ◌∙◌, ap, subst, arith}
use Rattle.std.specs.Prelude.{None, Some}
use Rattle.disk_model.specs.Disk.{Contents, View, IsView, IsStable, Leaves, Steps}
use Rattle.disk_model.specs.Runs.{LeavesOnly, DiffersIn, Touches}
use Rattle.disk_model.proofs.Moments.{weaker, and_then, started, goes_on, kept_leaves}
use Rattle.line_store.specs.Reading.{line_of, opens_gate, reading}
use Rattle.line_store.specs.Held.{IsSafe}
use Rattle.line_store.specs.Store.{IsShut, StaysShut, IsEmpty, IsNew, IsClosedOr, Anyhow, new_job}

closed : (c : Contents) → opens_gate (c 1) ≡ false → reading c ≡ None
closed c shut = rw shut refl

pub shut-none : (v : View) {n : ℕ} → IsView n v → 2 ≤ n → IsShut v → StaysShut v v
shut-none v is files shut = record { run = started v (λ c. reading c ≡ None) is (λ c left. closed c (shut (c 1) (left 1 (omega (arith, files, is.same_files))))); shut = shut }

-- some calls on a file other than the gate
pub shut-touch : (file : ℕ) (mid new : View) → file ≢ 1 → 2 ≤ mid.files → IsShut mid → Touches file Anyhow mid new → StaysShut mid new
shut-touch file mid new other files shut touches = record {
  run = weaker mid new (DiffersIn file Anyhow mid) (λ c. reading c ≡ None) (λ c differs.
      closed c (ap opens_gate (differs.others 1 (λ is. other (sym is))) ∙ shut (differs.was 1) (differs.left 1 (omega (arith, files))))) touches.run;
  shut = λ b left. shut b (touches.others_left 1 b (λ is. other (sym is)) left);
}

pub shut-then : (old mid new : View) → StaysShut old mid → StaysShut mid new → StaysShut old new
shut-then old mid new first next = record { run = and_then old mid new (λ c. reading c ≡ None) first.run next.run; shut = next.shut }

pub shut-more : (file : ℕ) (old mid new : View) → file ≢ 1 → 2 ≤ old.files → StaysShut old mid → Touches file Anyhow mid new → StaysShut old new
shut-more file old mid new other files so_far touches = shut-then old mid new so_far (shut-touch file mid new other (omega (arith, files, so_far.run.files)) so_far.shut touches)

-- another file stays empty, and stays synced
pub empty-kept : (file g : ℕ) (mid new : View) → g ≢ file → Touches file Anyhow mid new → IsEmpty mid g → IsEmpty new g
empty-kept file g mid new other touches empty = record {
  none = touches.others g other ∙ empty.none;
  stable = λ b left. empty.stable b (touches.others_left g b other left) ∙ sym (touches.others g other);
}

module _ (old mid : View) (files : 5 ≤ old.files) (shut : IsShut old) (line : IsEmpty old 2) (end : IsEmpty old 4) (text : IsStable old 0) (step : List ℕ → List ℕ → Type 0) where
  made : (c : Contents) → opens_gate (c 1) ≡ true → c 0 ≡ old.seen 0 → c 2 ≡ [] → c 4 ≡ [] → reading c ≡ Some (new_job (old.seen 0))
  made c is_open job none shut_end = rw (is_open, none, shut_end, job) refl

  pub gate-left : Steps 1 step old mid → (c : Contents) → Leaves mid c → (reading c ≡ None) ⊎ (reading c ≡ Some (new_job (old.seen 0)))
  gate-left steps c left =
      let at = λ (g : ℕ) (other : g ≢ 1) (lt : g < old.files). steps.others_left g (c g) other (left g (subst (λ n. g < n) (sym steps.time.files) lt)) in
      elim (opens_gate (c 1)) as (λ b. opens_gate (c 1) ≡ b → (reading c ≡ None) ⊎ (reading c ≡ Some (new_job (old.seen 0)))) [
        | true ↦ λ is_open. inr (made c is_open (text (c 0) (at 0 (λ is. absurd (omega (arith, is))) (omega (arith, files)))) (line.stable (c 2) (at 2 (λ is. absurd (omega (arith, is))) (omega (arith, files))) ∙ line.none) (end.stable (c 4) (at 4 (λ is. absurd (omega (arith, is))) (omega (arith, files))) ∙ end.none))
        | false ↦ λ is_shut. inl (closed c is_shut)
      ] refl

  pub gate-wrote : {n : ℕ} → IsView n old → Steps 1 step old mid → LeavesOnly old mid (λ c. (reading c ≡ None) ⊎ (reading c ≡ Some (new_job (old.seen 0))))
  gate-wrote is steps = goes_on old old mid _ (started old _ is (λ c left. inl (closed c (shut (c 1) (left 1 (omega (arith, files))))))) steps.time (gate-left steps)

  pub gate-synced : {n : ℕ} → IsView n old → Steps 1 step old mid → (new : View) → Steps 1 (λ a b. b ≡ a) mid new → LeavesOnly old new (λ c. (reading c ≡ None) ⊎ (reading c ≡ Some (new_job (old.seen 0))))
  gate-synced is steps new kept = goes_on old mid new _ (gate-wrote is steps) kept.time (λ c left. gate-left steps c (kept_leaves 1 mid new kept c left))

  pub gate-made : (new : View) → Steps 1 step old mid → Steps 1 (λ a b. b ≡ a) mid new → opens_gate (mid.seen 1) ≡ true → reading new.seen ≡ Some (new_job (old.seen 0))
  gate-made new steps kept is_open =
      let same = λ (g : ℕ) (other : g ≢ 1). kept.others g other ∙ steps.others g other in
      made new.seen (ap opens_gate kept.seen ∙ is_open) (same 0 (λ is. absurd (omega (arith, is)))) (same 2 (λ is. absurd (omega (arith, is))) ∙ line.none) (same 4 (λ is. absurd (omega (arith, is))) ∙ end.none)

pub shut-first : (text : List ℕ) (old new : View) → StaysShut old new → LeavesOnly old new (IsClosedOr text)
shut-first text old new stays = weaker old new (λ c. reading c ≡ None) (IsClosedOr text) (λ c is. inl is) stays.run

-- A new job's disk is safe.
pub new-safe : (ranks : ℕ) (text : List ℕ) (v : View) → IsNew ranks text v → IsSafe text v
new-safe ranks text v new = record {
  gate = new.gate;
  job = new.ready.job;
  stable = new.ready.durable;
  kept = λ b left pos rank lt. let none : line_of b ≡ 0 = ap line_of (new.ready.line.stable b left ∙ new.ready.line.none) in absurd (omega (arith, none, pos));
}
