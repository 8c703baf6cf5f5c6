-- Each event of a session, a sweep too, commits at most one line; so a line that has risen was committed by one of them.
use Rattle.std.proofs.Common.{◌≡◌, ℕ, zero, suc, ◌+◌, ◌<◌, ◌≤◌, Bool, true, false, not, List, [], ◌∷◌, ◌++◌, sym, refl, ap, ◌∙◌, subst, ⊎_elim, arith}
use Rattle.std.specs.Prelude.{◌&&◌, ◌==◌, nat_lt, length}
use Rattle.std.specs.List.{AllByRecursion}
use Rattle.std.proofs.lemmas.Bool.{cond_both, and_parts, and_left, ne_eqb, eqb-true, ltb-true, cases_eq, true≢false}
use Rattle.mpi_words.specs.declared.control.Control.{Control}
use Rattle.mpi_words.specs.declared.control.Control.TheVariants.{Request, Count, Ready, Stop, Stopped, Restored}
use Rattle.core_laws.specs.Rows.{set_at}
use Rattle.core_laws.specs.Protocol.{Wave, Protocol, move_told, move_pop, move_stop}
use Rattle.core_laws.specs.Process.{Rank, Ranks}
use Rattle.core_laws.specs.Quiet.{Event, Turn, Deliver, Handle, Begin_wave}
use Rattle.core_laws.specs.Handling.{handles}
use Rattle.core_laws.specs.Core.{Core, step_of, steps_of, core_delivers, core_handled, accepts}
use Rattle.core_laws.specs.CoreEvents.{Single, Sweep, Kill, Session_event, Core_does, Restart, session_of, session_next_of, start_of, restart_from, below, times, row_events, pair_events, sweep_events}
use Rattle.core_laws.specs.Invariant.{Invariant, UpKept, bit}
use Rattle.core_laws.specs.SessionEnd.{finished, session_to_end}
use Rattle.core_laws.specs.Sweeps.{CommitsAfter, Keeps, AllSaved, Peaceful, sweeps_in}
use Rattle.core_laws.specs.Prompt.{Prompt}
use Rattle.core_laws.proofs.SweepStages.{keeps_next, staged_first, staged_session, staged_last}
use Rattle.core_laws.proofs.EventsKept.{may_come}
use Rattle.core_laws.proofs.PromptKept.{wave_then_ready}
use Rattle.core_laws.proofs.SweepTracks.{Rises, line_step, wave_delivers}
use Rattle.core_laws.proofs.Noting.{ready_cases, stopped_cases}

-- Where no wave is under way a control or a delivery commits nothing and begins none.
abbrev Idle : Wave → Wave → Type 0
Idle w v = (v.line ≡ w.line) × (v.under_way ≡ false)

none_stopped : (L : ℕ) (ready stopped : Bool) (epoch : ℕ) (logging was_ready : Bool) (l : ℕ) (c : List Control) → epoch ≤ L → UpKept L ready stopped epoch logging was_ready (Stopped l ∷ c) → ⊥
none_stopped L ready stopped epoch logging was_ready l c most h = absurd (omega (arith, h.stoppeds, ap bit (and_left (epoch == suc L) (not logging) (ne_eqb epoch (suc L) (λ e. absurd (omega (arith, e, most)))))))

idle_handles : (n : ℕ) (p : Protocol) (s r : ℕ) (c : List Control) → s < n → p.control s r ≡ c → Invariant n p → p.wave.under_way ≡ false → Idle p.wave (handles n p s r c).wave
idle_handles n p s r [] a is inv h = (refl, h)
idle_handles n p s r (Request l ∷ rest) a is inv h = (refl, h)
idle_handles n p s r (Count l k ∷ rest) a is inv h = subst (Idle p.wave) (sym (wave_then_ready n (move_told p s r k rest) r)) (refl, h)
idle_handles n p s r (Ready l ∷ rest) a is inv h = ready_cases n p s r l rest (λ (q : Protocol). Idle p.wave q.wave) (λ _ _. (refl, h)) (λ _ _. (refl, h)) (λ _. (refl, h))
idle_handles n p s r (Stop l ∷ rest) a is inv h = cond_both (p.layer r).logging (move_stop (move_pop p s r rest) r) (move_pop p s r rest) (λ (q : Protocol). Idle p.wave q.wave) (λ e. (refl, h)) (λ e. (refl, h))
idle_handles n p s r (Stopped l ∷ rest) a is inv h = absurd (none_stopped p.wave.line (p.wave.ready s) (p.wave.stopped s) (p.layer s).epoch (p.layer s).logging (p.layer s).was_ready l rest
    (omega (arith, (inv.kept.rank s a).most, ap bit h))
    (subst (λ c. UpKept p.wave.line (p.wave.ready s) (p.wave.stopped s) (p.layer s).epoch (p.layer s).logging (p.layer s).was_ready c) (ap (p.control s) (sym (may_come n p s r (Stopped l) rest is inv)) ∙ is) (inv.kept.up s a)))
idle_handles n p s r (Restored ∷ rest) a is inv h = (refl, h)

-- in a wave it may go on, or be over with one line more
data Ends (w v : Wave) : Type 0 where
  Stays : v.line ≡ w.line → Ends w v
  Commits : v.line ≡ suc w.line → v.under_way ≡ false → Ends w v

ends_handles : (n : ℕ) (p : Protocol) (s r : ℕ) (c : List Control) → Ends p.wave (handles n p s r c).wave
ends_handles n p s r [] = Stays refl
ends_handles n p s r (Request l ∷ rest) = Stays refl
ends_handles n p s r (Count l k ∷ rest) = Stays (ap (λ w. w.line) (wave_then_ready n (move_told p s r k rest) r))
ends_handles n p s r (Ready l ∷ rest) = ready_cases n p s r l rest (λ (q : Protocol). Ends p.wave q.wave) (λ _ _. Stays refl) (λ _ _. Stays refl) (λ _. Stays refl)
ends_handles n p s r (Stop l ∷ rest) = cond_both (p.layer r).logging (move_stop (move_pop p s r rest) r) (move_pop p s r rest) (λ (q : Protocol). Ends p.wave q.wave) (λ e. Stays refl) (λ e. Stays refl)
ends_handles n p s r (Stopped l ∷ rest) = stopped_cases n p s r l rest (λ (q : Protocol). Ends p.wave q.wave) (λ _ _. Commits refl refl) (λ _ _. Stays refl) (λ _. Stays refl)
ends_handles n p s r (Restored ∷ rest) = Stays refl

-- The events of a sweep.
abbrev IsMove : Event → Type 0
IsMove (Handle s r) = Unit {0}
IsMove (Deliver s r) = Unit {0}
IsMove (Turn r) = ⊥
IsMove Begin_wave = ⊥

idle_step : {S : Type 0} (P : Ranks S) (n : ℕ) (c : Core S) (e : Event) → IsMove e → Invariant n c.protocol → c.protocol.wave.under_way ≡ false → Idle c.protocol.wave (step_of P n c e).protocol.wave
idle_step {S} P n c (Handle s r) m inv h = cond_both (nat_lt s n && (nat_lt r n && not (c.killed r))) (core_handled c (handles n c.protocol s r (c.protocol.control s r))) c (λ (x : Core S). Idle c.protocol.wave x.protocol.wave)
    (λ e. idle_handles n c.protocol s r (c.protocol.control s r) (ltb-true s n (and_parts (nat_lt s n) (nat_lt r n && not (c.killed r)) e).0) refl inv h) (λ e. (refl, h))
idle_step {S} P n c (Deliver s r) m kept h = cond_both (nat_lt s n && (nat_lt r n && (not (c.killed r) && accepts (c.one r).log (c.one r).left s))) (core_delivers n c s r (c.protocol.channel s r)) c (λ (x : Core S). Idle c.protocol.wave x.protocol.wave)
    (λ e. subst (Idle c.protocol.wave) (sym (wave_delivers n c s r (c.protocol.channel s r))) (refl, h)) (λ e. (refl, h))
idle_step P n c (Turn r) m kept h = absurd m
idle_step P n c Begin_wave m kept h = absurd m

ends_step : {S : Type 0} (P : Ranks S) (n : ℕ) (c : Core S) (e : Event) → IsMove e → Ends c.protocol.wave (step_of P n c e).protocol.wave
ends_step {S} P n c (Handle s r) m = cond_both (nat_lt s n && (nat_lt r n && not (c.killed r))) (core_handled c (handles n c.protocol s r (c.protocol.control s r))) c (λ (x : Core S). Ends c.protocol.wave x.protocol.wave)
    (λ e. ends_handles n c.protocol s r (c.protocol.control s r)) (λ e. Stays refl)
ends_step {S} P n c (Deliver s r) m = cond_both (nat_lt s n && (nat_lt r n && (not (c.killed r) && accepts (c.one r).log (c.one r).left s))) (core_delivers n c s r (c.protocol.channel s r)) c (λ (x : Core S). Ends c.protocol.wave x.protocol.wave)
    (λ e. Stays (ap (λ w. w.line) (wave_delivers n c s r (c.protocol.channel s r)))) (λ e. Stays refl)
ends_step P n c (Turn r) m = absurd m
ends_step P n c Begin_wave m = absurd m

idle_steps : {S : Type 0} (P : Ranks S) (n : ℕ) (K : Core S → Type 0) → Keeps P n K → (es : List Event) (c : Core S) → AllByRecursion IsMove es → K c → c.protocol.wave.under_way ≡ false → (steps_of P n c es).protocol.wave.line ≡ c.protocol.wave.line
idle_steps P n K keeps [] c m kept h = refl
idle_steps P n K keeps (e ∷ es) c m kept h = let i = idle_step P n c e m.0 (keeps.invariant c kept) h in idle_steps P n K keeps es (step_of P n c e) m.1 (keeps.step c e kept) i.1 ∙ i.0

ends_then : (w v u : Wave) → Ends w v → (v.under_way ≡ false → u.line ≡ v.line) → Rises v u → Rises w u
ends_then w v u (Stays e) idle h = (omega (arith, e, h), omega (arith, e, h))
ends_then w v u (Commits e none) idle h = (omega (arith, e, idle none), omega (arith, e, idle none))

moves_rise : {S : Type 0} (P : Ranks S) (n : ℕ) (K : Core S → Type 0) → Keeps P n K → (es : List Event) (c : Core S) → AllByRecursion IsMove es → K c → Rises c.protocol.wave (steps_of P n c es).protocol.wave
moves_rise P n K keeps [] c m kept = (omega arith, omega arith)
moves_rise P n K keeps (e ∷ es) c m kept = let k = keeps.step c e kept in ends_then c.protocol.wave (step_of P n c e).protocol.wave (steps_of P n (step_of P n c e) es).protocol.wave (ends_step P n c e m.0) (idle_steps P n K keeps es (step_of P n c e) m.1 k) (moves_rise P n K keeps es (step_of P n c e) m.1 k)

all-append : (xs ys : List Event) → AllByRecursion IsMove xs → AllByRecursion IsMove ys → AllByRecursion IsMove (xs ++ ys)
all-append [] ys a b = b
all-append (x ∷ xs) ys a b = (a.0, all-append xs ys a.1 b)

all_times : (k : ℕ) (e : Event) → IsMove e → AllByRecursion IsMove (times k e)
all_times zero e m = tt
all_times (suc k) e m = (m, all_times k e m)

all_row : (e : ℕ → Event) (count : ℕ → ℕ) (xs : List ℕ) → ((x : ℕ) → IsMove (e x)) → AllByRecursion IsMove (row_events e count xs)
all_row e count [] m = tt
all_row e count (x ∷ xs) m = all-append (times (count x) (e x)) (row_events e count xs) (all_times (count x) (e x) (m x)) (all_row e count xs m)

all_pairs : (n : ℕ) (e : ℕ → ℕ → Event) (count : ℕ → ℕ → ℕ) (xs : List ℕ) → ((x y : ℕ) → IsMove (e x y)) → AllByRecursion IsMove (pair_events n e count xs)
all_pairs n e count [] m = tt
all_pairs n e count (x ∷ xs) m = all-append (row_events (e x) (count x) (below n)) (pair_events n e count xs) (all_row (e x) (count x) (below n) (m x)) (all_pairs n e count xs m)

sweep_moves : (n : ℕ) (p : Protocol) → AllByRecursion IsMove (sweep_events n p)
sweep_moves n p = all-append (pair_events n Handle (λ s r. length (p.control s r)) (below n)) (pair_events n Deliver (λ s r. length (p.channel s r)) (below n))
    (all_pairs n Handle (λ s r. length (p.control s r)) (below n) (λ x y. tt)) (all_pairs n Deliver (λ s r. length (p.channel s r)) (below n) (λ x y. tt))

pub rises : {S : Type 0} (P : Ranks S) (n : ℕ) (K : Core S → Type 0) → Keeps P n K → (c : Core S) (e : Session_event) → K c → Rises c.protocol.wave (session_next_of P n c e).protocol.wave
rises P n K keeps c (Core_does (Single e)) kept = line_step P n c e
rises P n K keeps c (Core_does Sweep) kept = moves_rise P n K keeps (sweep_events n c.protocol) c (sweep_moves n c.protocol) kept
rises {S} P n K keeps c (Core_does (Kill r)) kept = cond_both (nat_lt r n) (record c { killed = set_at c.killed r true }) c (λ (x : Core S). Rises c.protocol.wave x.protocol.wave) (λ e. (omega arith, omega arith)) (λ e. (omega arith, omega arith))
rises {S} P n K keeps c Restart kept = cond_both (c.protocol.wave.line == 0) (start_of P) (restart_from c.protocol.wave.line c.saved) (λ (x : Core S). Rises c.protocol.wave x.protocol.wave)
    (λ e. let at : c.protocol.wave.line ≡ 0 = eqb-true c.protocol.wave.line 0 e in (omega (arith, at), omega (arith, at)))
    (λ e. (omega arith, omega arith))

commits_cons : {S : Type 0} (P : Ranks S) (n L : ℕ) (c : Core S) (e : Session_event) (es : List Session_event) → CommitsAfter P n L (session_next_of P n c e) es → CommitsAfter P n L c (e ∷ es)
commits_cons P n L c e es h = record { before = e ∷ h.before; event = h.event; after = h.after; split = ap (λ xs. e ∷ xs) h.split; waits = h.waits; commits = h.commits }

pub commits_after : {S : Type 0} (P : Ranks S) (n L : ℕ) (K : Core S → Type 0) → Keeps P n K → (es : List Session_event) (c : Core S) → AllByRecursion Peaceful es → K c → c.protocol.wave.line ≡ L → L < (session_of P n c es).protocol.wave.line → CommitsAfter P n L c es
commits_after P n L K keeps [] c calm kept at h = absurd (omega (arith, h, at))
commits_after P n L K keeps (e ∷ es) c calm kept at h = ⊎_elim
    (λ d. commits_cons P n L c e es (commits_after P n L K keeps es (session_next_of P n c e) calm.1 (keeps_next P n K keeps c e calm.0 kept) d h))
    (λ d. record { before = []; event = e; after = es; split = refl; waits = at; commits = omega (arith, d, at, rises P n K keeps c e kept) })
    (cases_eq (session_next_of P n c e).protocol.wave.line L)

-- Four sweeps commit.
pub past_four : {S : Type 0} (P : Ranks S) (n : ℕ) (K : Core S → Type 0) → Keeps P n K → (c : Core S) (es : List Session_event) → 0 < n → K c → Prompt n c.protocol → AllSaved n c → AllByRecursion Peaceful es → 4 ≤ sweeps_in es → c.protocol.wave.line < (session_of P n c es).protocol.wave.line
past_four P n K keeps c es some kept prompt all calm four = staged_last n (sweeps_in es + 0) c.protocol.wave.line K (session_of P n c es) (omega (arith, four))
    (staged_session P n 0 c.protocol.wave.line K keeps es c some calm (staged_first n K c kept prompt all))

pub four_sweeps : {S : Type 0} (P : Ranks S) (n : ℕ) (K : Core S → Type 0) → Keeps P n K → (c : Core S) (es : List Session_event) → 0 < n → K c → Prompt n c.protocol → AllSaved n c → AllByRecursion Peaceful es → 4 ≤ sweeps_in es → CommitsAfter P n c.protocol.wave.line c es
four_sweeps P n K keeps c es some kept prompt all calm four = commits_after P n c.protocol.wave.line K keeps es c calm kept refl (past_four P n K keeps c es some kept prompt all calm four)

-- A session that isn't finished has made all its events.
pub made_all : {S : Type 0} (P : Ranks S) (ended : Rank S → Bool) (n : ℕ) (es : List Session_event) (c : Core S) → finished ended n (session_to_end P ended n c es) ≡ false → session_to_end P ended n c es ≡ session_of P n c es
made_all P ended n [] c h = refl
made_all {S} P ended n (e ∷ es) c h = cond_both (finished ended n c) c (session_to_end P ended n (session_next_of P n c e) es) (λ (d : Core S). finished ended n d ≡ false → d ≡ session_of P n (session_next_of P n c e) es)
    (λ f g. absurd (true≢false (sym f ∙ g)))
    (λ f g. made_all P ended n es (session_next_of P n c e) g)
    h

pub four_or_end : {S : Type 0} (P : Ranks S) (ended : Rank S → Bool) (n : ℕ) (K : Core S → Type 0) → Keeps P n K → (c : Core S) (es : List Session_event) → 0 < n → K c → Prompt n c.protocol → AllSaved n c → AllByRecursion Peaceful es → 4 ≤ sweeps_in es → finished ended n (session_to_end P ended n c es) ≡ false → c.protocol.wave.line < (session_to_end P ended n c es).protocol.wave.line
four_or_end {S} P ended n K keeps c es some kept prompt all calm four goes = subst (λ (d : Core S). c.protocol.wave.line < d.protocol.wave.line) (sym (made_all P ended n es c goes)) (past_four P n K keeps c es some kept prompt all calm four)
