-- A sweep takes a wave in which every rank has saved from one stage to the next, so four of them commit.
use Rattle.std.proofs.Common.{◌≡◌, ℕ, zero, suc, ◌+◌, ◌<◌, ◌≤◌, Bool, true, false, not, List, [], ◌∷◌, ◌++◌, Some, None, Option, sym, refl, ap, ◌∙◌, subst, ⊎_elim, arith}
use Rattle.std.specs.Prelude.{◌&&◌, ◌==◌, length, IfSome, is_some}
use Rattle.std.proofs.lemmas.Bool.{and_from, and_right, eq-eqb, false_from_ne_true, true_from_ne_false, not_from_false, cases_lt, false≢true, true≢false}
use Rattle.std.proofs.lemmas.List.{append_assoc}
use Rattle.std.specs.List.{AllByRecursion}
use Rattle.mpi_words.specs.declared.control.Control.{Control}
use Rattle.core_laws.specs.Protocol.{Packet, Protocol}
use Rattle.core_laws.specs.Process.{Ranks}
use Rattle.core_laws.specs.Quiet.{Event, Turn, Deliver, Handle, Begin_wave}
use Rattle.core_laws.specs.Handling.{is_told, all_below}
use Rattle.core_laws.specs.Core.{Core, step_of, steps_of}
use Rattle.core_laws.specs.CoreEvents.{Single, Sweep, Kill, Session_event, Core_does, Restart, session_of, session_next_of, below, times, row_events, pair_events, sweep_events}
use Rattle.core_laws.specs.Invariant.{PairKept, UpKept, Invariant, In, Out, in_of, out_of, bit, on_channel, counts_on, readies_on, stoppeds_on}
use Rattle.core_laws.specs.Kept.{Tells}
use Rattle.core_laws.specs.Prompt.{kind, Prompt}
use Rattle.core_laws.specs.Sweeps.{of_epoch, Keeps, AllSaved, InWave, Stage, Waits, Past, Staged, Peaceful, with_sweep, sweeps_in, Track, Tracked, Goes_on, Over, with_handle, with_deliver, handles_in, delivers_in}
use Rattle.core_laws.proofs.Changes.{at_set_pair, at_set_pair_both, set_pair-here}
use Rattle.core_laws.proofs.PairMoves.{arrived_late}
use Rattle.core_laws.proofs.QueuesBehind.{behind-all, counts-behind, readies-behind, stoppeds-behind, packets-behind}
use Rattle.core_laws.proofs.PromptKept.{prompt_step, prompt_steps}
use Rattle.core_laws.proofs.SweepTracks.{track_step, track_steps, line_step, line_steps, step_killed, steps_killed}

-- One event keeps the stage.
least_handle : (e : Event) (k : ℕ → ℕ → ℕ) (s r : ℕ) → k s r ≤ with_handle e k s r
least_handle (Turn a) k s r = omega arith
least_handle Begin_wave k s r = omega arith
least_handle (Deliver a b) k s r = omega arith
least_handle (Handle a b) k s r = at_set_pair (λ t. k s r ≤ t) k a b (suc (k a b)) s r (λ e d. subst (λ z. z ≤ suc (k a b)) (sym (ap (λ z. k z r) e ∙ ap (k a) d)) (omega arith)) (omega arith)

least_deliver : (e : Event) (k : ℕ → ℕ → ℕ) (s r : ℕ) → k s r ≤ with_deliver e k s r
least_deliver (Turn a) k s r = omega arith
least_deliver Begin_wave k s r = omega arith
least_deliver (Handle a b) k s r = omega arith
least_deliver (Deliver a b) k s r = at_set_pair (λ t. k s r ≤ t) k a b (suc (k a b)) s r (λ e d. subst (λ z. z ≤ suc (k a b)) (sym (ap (λ z. k z r) e ∙ ap (k a) d)) (omega arith)) (omega arith)

stage_tracked : {S : Type 0} (n i L : ℕ) (k d : ℕ → ℕ → ℕ) (c : Core S) → ((r : ℕ) → r < n → c.killed r ≡ false) → Tracked n i L k d c.protocol → Stage n i L c
stage_tracked n i L k d c alive (Goes_on t) = Waits t.wave alive
stage_tracked n i L k d c alive (Over t) = Past t

pub stage_step : {S : Type 0} (P : Ranks S) (n i L : ℕ) (c : Core S) (e : Event) → Invariant n c.protocol → Tells n c.one c.protocol → Stage n i L c → Stage n i L (step_of P n c e)
stage_step P n i L c e inv tells (Past h) = Past (omega (arith, h, (line_step P n c e).0))
stage_step P n i L c e inv tells (Waits h alive) = let k = λ (s r : ℕ). length (c.protocol.control s r) in let d = λ (s r : ℕ). length (c.protocol.channel s r) in
    stage_tracked n i L k d (step_of P n c e) (λ r b. ap (λ f. f r) (step_killed P n c e) ∙ alive r b) (track_step P n i L k d c e inv tells alive (record {
      wave = h;
      controls = λ s r a b. behind-all (kind i) (with_handle e k s r) (c.protocol.control s r) (least_handle e k s r);
      packets = λ s r a b. behind-all (of_epoch L) (with_deliver e d s r) (c.protocol.channel s r) (least_deliver e d s r);
    }))

-- What has been taken when nothing is to be taken yet.
some_told : (t : Option ℕ) (k : ℕ) → bit (is_some t) ≡ 1 → IfSome t (λ j. j ≡ k) → is_told t k ≡ true
some_told None k e h = absurd (omega (arith, e))
some_told (Some j) k e h = eq-eqb j k h

-- what all told has arrived
told_all : (L : ℕ) (o : Out) (i : In) (q : List Packet) (c : List Control) → o.epoch ≡ suc L → i.epoch ≡ suc L → i.was_ready ≡ false → counts_on c ≡ 0 → on_channel L q ≡ 0 → PairKept L o i q c → is_told i.told i.old ≡ true
told_all L o i q c from at fresh none_a none_b h = some_told i.told i.old
    (omega (arith, h.told_once from, none_a, ap bit (and_right (i.epoch == suc L) i.was_ready fresh)))
    (subst (λ k. IfSome i.told (λ j. j ≡ k)) (omega (arith, arrived_late i L (omega arith), none_b)) (h.told from))

pub all_below-from : (n : ℕ) (f : ℕ → Bool) → ((x : ℕ) → x < n → f x ≡ true) → all_below n f ≡ true
all_below-from zero f h = refl
all_below-from (suc n) f h = and_from (f n) (all_below n f) (h n (omega arith)) (all_below-from n f (λ x b. h x (omega arith)))

abbrev None_left : ℕ → ℕ → ℕ → Protocol → Type 0
None_left n i L p = Track n i L (λ s r. 0) (λ s r. 0) p

-- the first sweep: every rank has been ready
all_ready : (n : ℕ) (p : Protocol) → Invariant n p → Prompt n p → None_left n 0 p.wave.line p → (r : ℕ) → r < n → (p.layer r).was_ready ≡ true
all_ready n p inv prompt h r b = true_from_ne_false (p.layer r).was_ready (λ e. absurd (false≢true (sym (prompt.due r b) ∙
    and_from (p.layer r).logging (not (p.layer r).was_ready && all_below n (λ x. is_told ((p.layer r).told x) ((p.layer r).old x))) (logs e)
    (and_from (not (p.layer r).was_ready) (all_below n (λ x. is_told ((p.layer r).told x) ((p.layer r).old x))) (not_from_false (p.layer r).was_ready e)
    (all_below-from n (λ x. is_told ((p.layer r).told x) ((p.layer r).old x)) (λ x a. told_all p.wave.line (out_of (p.layer x) r) (in_of (p.layer r) x) (p.channel x r) (p.control x r) (h.wave.saved x a) (h.wave.saved r b) e
    (sym (counts-behind (p.control x r)) ∙ h.controls x r a b)
    (sym (packets-behind p.wave.line (p.channel x r)) ∙ h.packets x r a b)
    (inv.kept.pair x r a b)))))))
  where
    logs : (p.layer r).was_ready ≡ false → (p.layer r).logging ≡ true
    logs e = true_from_ne_false (p.layer r).logging (λ d. true≢false (sym ((inv.kept.rank r b).all_ready ((inv.kept.rank r b).stopped (h.wave.saved r b) d)).1 ∙ e))

-- what isn't on the channel any more is noted
bit_true : (t : Bool) → bit t ≡ 1 → t ≡ true
bit_true true e = refl
bit_true false e = absurd (omega (arith, e))

noted_ready : (L : ℕ) (ready stopped : Bool) (epoch : ℕ) (logging was_ready : Bool) (c : List Control) → epoch ≡ suc L → was_ready ≡ true → readies_on c ≡ 0 → UpKept L ready stopped epoch logging was_ready c → ready ≡ true
noted_ready L ready stopped epoch logging was_ready c at was none h = bit_true ready (omega (arith, h.readies, none, ap bit (and_from (epoch == suc L) was_ready (eq-eqb epoch (suc L) at) was)))

noted_stopped : (L : ℕ) (ready stopped : Bool) (epoch : ℕ) (logging was_ready : Bool) (c : List Control) → epoch ≡ suc L → logging ≡ false → stoppeds_on c ≡ 0 → UpKept L ready stopped epoch logging was_ready c → stopped ≡ true
noted_stopped L ready stopped epoch logging was_ready c at was none h = bit_true stopped (omega (arith, h.stoppeds, none, ap bit (and_from (epoch == suc L) (not logging) (eq-eqb epoch (suc L) at) (not_from_false logging was))))

-- the second: Stop was told
all_told : (n : ℕ) (p : Protocol) → 0 < n → Invariant n p → Prompt n p → None_left n 1 p.wave.line p → p.wave.stop_told ≡ true
all_told n p some inv prompt h = prompt.noted (all_below-from n p.wave.ready (λ r b. noted_ready p.wave.line (p.wave.ready r) (p.wave.stopped r) (p.layer r).epoch (p.layer r).logging (p.layer r).was_ready (p.control r 0)
    (h.wave.saved r b) (h.wave.ready (omega arith) r b) (sym (readies-behind (p.control r 0)) ∙ h.controls r 0 b some) (inv.kept.up r b)))

-- the third: every rank has stopped
all_stopped : (n : ℕ) (p : Protocol) → 0 < n → Prompt n p → None_left n 2 p.wave.line p → (r : ℕ) → r < n → (p.layer r).logging ≡ false
all_stopped n p some prompt h r b = false_from_ne_true (p.layer r).logging (λ e. absurd (omega (arith, prompt.stop (h.wave.told (omega arith)) r b e, h.controls 0 r some b)))

-- the fourth: the line is committed
all_over : (n : ℕ) (p : Protocol) → 0 < n → Invariant n p → Prompt n p → None_left n 3 p.wave.line p → ⊥
all_over n p some inv prompt h = absurd (false≢true (sym prompt.stopped ∙ all_below-from n p.wave.stopped (λ r b. noted_stopped p.wave.line (p.wave.ready r) (p.wave.stopped r) (p.layer r).epoch (p.layer r).logging (p.layer r).was_ready (p.control r 0)
    (h.wave.saved r b) (h.wave.stopped (omega arith) r b) (sym (stoppeds-behind (p.control r 0)) ∙ h.controls r 0 b some) (inv.kept.up r b))))

advance_at : (n i : ℕ) (p : Protocol) → 0 < n → Invariant n p → Prompt n p → None_left n i p.wave.line p → InWave n (suc i) p.wave.line p.layer p.wave
advance_at n zero p some inv prompt h = record { line = refl; way = h.wave.way; saved = h.wave.saved; ready = λ e. all_ready n p inv prompt h; told = λ e. absurd (omega arith); stopped = λ e. absurd (omega arith); most = omega arith }
advance_at n (suc zero) p some inv prompt h = record { line = refl; way = h.wave.way; saved = h.wave.saved; ready = λ e. h.wave.ready (omega arith); told = λ e. all_told n p some inv prompt h; stopped = λ e. absurd (omega arith); most = omega arith }
advance_at n (suc (suc zero)) p some inv prompt h = record { line = refl; way = h.wave.way; saved = h.wave.saved; ready = λ e. h.wave.ready (omega arith); told = λ e. h.wave.told (omega arith); stopped = λ e. all_stopped n p some prompt h; most = omega arith }
advance_at n (suc (suc (suc zero))) p some inv prompt h = absurd (all_over n p some inv prompt h)
advance_at n (suc (suc (suc (suc i)))) p some inv prompt h = absurd (omega (arith, h.wave.most))

advance : {S : Type 0} (n i L : ℕ) (c : Core S) → 0 < n → ((r : ℕ) → r < n → c.killed r ≡ false) → Invariant n c.protocol → Prompt n c.protocol → Tracked n i L (λ s r. 0) (λ s r. 0) c.protocol → Stage n (suc i) L c
advance n i L c some alive inv prompt (Over h) = Past h
advance n i L c some alive inv prompt (Goes_on h) = Waits (subst (λ M. None_left n i M c.protocol → InWave n (suc i) M c.protocol.layer c.protocol.wave) h.wave.line (advance_at n i c.protocol some inv prompt) h) alive

-- A list of events that takes, of each pair, all that its channels hold: the stage goes on by one.
abbrev pub Covers : ℕ → Protocol → List Event → Type 0
Covers n p es = (s r : ℕ) → s < n → r < n → (length (p.control s r) ≤ handles_in es s r) × (length (p.channel s r) ≤ delivers_in es s r)

keeps_steps : {S : Type 0} (P : Ranks S) (n : ℕ) (K : Core S → Type 0) → Keeps P n K → (es : List Event) (c : Core S) → K c → K (steps_of P n c es)
keeps_steps P n K keeps [] c kept = kept
keeps_steps P n K keeps (e ∷ es) c kept = keeps_steps P n K keeps es (step_of P n c e) (keeps.step c e kept)

stage_covered : {S : Type 0} (P : Ranks S) (n i L : ℕ) (K : Core S → Type 0) → Keeps P n K → (es : List Event) (c : Core S) → 0 < n → Covers n c.protocol es → K c → Prompt n c.protocol → Stage n i L c → Stage n (suc i) L (steps_of P n c es)
stage_covered P n i L K keeps es c some covers kept prompt (Past h) = Past (omega (arith, h, line_steps P n es c))
stage_covered P n i L K keeps es c some covers kept prompt (Waits h alive) = advance n i L (steps_of P n c es) some (λ r b. ap (λ f. f r) (steps_killed P n es c) ∙ alive r b) (keeps.invariant (steps_of P n c es) (keeps_steps P n K keeps es c kept)) (prompt_steps P n K keeps es c some kept prompt)
    (track_steps P n i L K keeps es c kept alive (record {
      wave = h;
      controls = λ s r a b. behind-all (kind i) (handles_in es s r) (c.protocol.control s r) (covers s r a b).0;
      packets = λ s r a b. behind-all (of_epoch L) (delivers_in es s r) (c.protocol.channel s r) (covers s r a b).1;
    }))

-- The events of a sweep are such a list.
handles-append : (xs ys : List Event) (s r : ℕ) → handles_in (xs ++ ys) s r ≡ handles_in xs s r + handles_in ys s r
handles-append [] ys s r = omega arith
handles-append (Turn a ∷ xs) ys s r = handles-append xs ys s r
handles-append (Begin_wave ∷ xs) ys s r = handles-append xs ys s r
handles-append (Deliver a b ∷ xs) ys s r = handles-append xs ys s r
handles-append (Handle a b ∷ xs) ys s r = at_set_pair_both (λ t u. t ≡ u + handles_in ys s r) (handles_in (xs ++ ys)) (handles_in xs) a b (suc (handles_in (xs ++ ys) a b)) (suc (handles_in xs a b)) s r
    (λ e d. subst (λ z. suc (handles_in (xs ++ ys) a b) ≡ suc (handles_in xs a b) + handles_in ys z r) (sym e) (subst (λ z. suc (handles_in (xs ++ ys) a b) ≡ suc (handles_in xs a b) + handles_in ys a z) (sym d) (omega (arith, handles-append xs ys a b))))
    (handles-append xs ys s r)

delivers-append : (xs ys : List Event) (s r : ℕ) → delivers_in (xs ++ ys) s r ≡ delivers_in xs s r + delivers_in ys s r
delivers-append [] ys s r = omega arith
delivers-append (Turn a ∷ xs) ys s r = delivers-append xs ys s r
delivers-append (Begin_wave ∷ xs) ys s r = delivers-append xs ys s r
delivers-append (Handle a b ∷ xs) ys s r = delivers-append xs ys s r
delivers-append (Deliver a b ∷ xs) ys s r = at_set_pair_both (λ t u. t ≡ u + delivers_in ys s r) (delivers_in (xs ++ ys)) (delivers_in xs) a b (suc (delivers_in (xs ++ ys) a b)) (suc (delivers_in xs a b)) s r
    (λ e d. subst (λ z. suc (delivers_in (xs ++ ys) a b) ≡ suc (delivers_in xs a b) + delivers_in ys z r) (sym e) (subst (λ z. suc (delivers_in (xs ++ ys) a b) ≡ suc (delivers_in xs a b) + delivers_in ys a z) (sym d) (omega (arith, delivers-append xs ys a b))))
    (delivers-append xs ys s r)

handles-times : (k a b : ℕ) → k ≤ handles_in (times k (Handle a b)) a b
handles-times zero a b = omega arith
handles-times (suc k) a b = subst (λ t. suc k ≤ t) (sym (set_pair-here (handles_in (times k (Handle a b))) a b (suc (handles_in (times k (Handle a b)) a b)))) (omega (arith, handles-times k a b))

delivers-times : (k a b : ℕ) → k ≤ delivers_in (times k (Deliver a b)) a b
delivers-times zero a b = omega arith
delivers-times (suc k) a b = subst (λ t. suc k ≤ t) (sym (set_pair-here (delivers_in (times k (Deliver a b))) a b (suc (delivers_in (times k (Deliver a b)) a b)))) (omega (arith, delivers-times k a b))

pub row-append : (e : ℕ → Event) (count : ℕ → ℕ) (xs ys : List ℕ) → row_events e count (xs ++ ys) ≡ row_events e count xs ++ row_events e count ys
row-append e count [] ys = refl
row-append e count (x ∷ xs) ys = ap (λ l. times (count x) (e x) ++ l) (row-append e count xs ys) ∙ sym (append_assoc (times (count x) (e x)) (row_events e count xs) (row_events e count ys))

pub pair-append : (n : ℕ) (e : ℕ → ℕ → Event) (count : ℕ → ℕ → ℕ) (xs ys : List ℕ) → pair_events n e count (xs ++ ys) ≡ pair_events n e count xs ++ pair_events n e count ys
pair-append n e count [] ys = refl
pair-append n e count (x ∷ xs) ys = ap (λ l. row_events (e x) (count x) (below n) ++ l) (pair-append n e count xs ys) ∙ sym (append_assoc (row_events (e x) (count x) (below n)) (pair_events n e count xs) (pair_events n e count ys))

-- each part of a sum of lists has no more than the sum
record Sums (f : List Event → ℕ) : Type 0 where
  none : f [] ≡ 0
  both : (xs ys : List Event) → f (xs ++ ys) ≡ f xs + f ys

in_row : (f : List Event → ℕ) → Sums f → (e : ℕ → Event) (count : ℕ → ℕ) (m x : ℕ) → x < m → f (times (count x) (e x)) ≤ f (row_events e count (below m))
in_row f sums e count zero x b = absurd (omega arith)
in_row f sums e count (suc m) x b = ⊎_elim
    (λ d. omega (arith, in_row f sums e count m x d, ap f (row-append e count (below m) (m ∷ [])), sums.both (row_events e count (below m)) (row_events e count (m ∷ []))))
    (λ d. let at : m ≡ x = omega arith in subst (λ z. f (times (count z) (e z)) ≤ f (row_events e count (below (suc m)))) at
    (omega (arith, ap f (row-append e count (below m) (m ∷ [])), sums.both (row_events e count (below m)) (row_events e count (m ∷ [])), sums.both (times (count m) (e m)) [])))
    (cases_lt x m)

in_pairs : (f : List Event → ℕ) → Sums f → (n : ℕ) (e : ℕ → ℕ → Event) (count : ℕ → ℕ → ℕ) (m x : ℕ) → x < m → f (row_events (e x) (count x) (below n)) ≤ f (pair_events n e count (below m))
in_pairs f sums n e count zero x b = absurd (omega arith)
in_pairs f sums n e count (suc m) x b = ⊎_elim
    (λ d. omega (arith, in_pairs f sums n e count m x d, ap f (pair-append n e count (below m) (m ∷ [])), sums.both (pair_events n e count (below m)) (pair_events n e count (m ∷ []))))
    (λ d. let at : m ≡ x = omega arith in subst (λ z. f (row_events (e z) (count z) (below n)) ≤ f (pair_events n e count (below (suc m)))) at
    (omega (arith, ap f (pair-append n e count (below m) (m ∷ [])), sums.both (pair_events n e count (below m)) (pair_events n e count (m ∷ [])), sums.both (row_events (e m) (count m) (below n)) [])))
    (cases_lt x m)

abbrev control_events : ℕ → Protocol → List Event
control_events n p = pair_events n Handle (λ s r. length (p.control s r)) (below n)

abbrev message_events : ℕ → Protocol → List Event
message_events n p = pair_events n Deliver (λ s r. length (p.channel s r)) (below n)

sweep_covers : (n : ℕ) (p : Protocol) → Covers n p (sweep_events n p)
sweep_covers n p s r a b = (
  omega (
    arith,
    handles-append (control_events n p) (message_events n p) s r,
    handles-times (length (p.control s r)) s r,
    in_row handles sums_handles (Handle s) (λ y. length (p.control s y)) n r b,
    in_pairs handles sums_handles n Handle (λ x y. length (p.control x y)) n s a,
  ),
  omega (
    arith,
    delivers-append (control_events n p) (message_events n p) s r,
    delivers-times (length (p.channel s r)) s r,
    in_row delivers sums_delivers (Deliver s) (λ y. length (p.channel s y)) n r b,
    in_pairs delivers sums_delivers n Deliver (λ x y. length (p.channel x y)) n s a,
  ),
)
  where
    handles : List Event → ℕ
    handles es = handles_in es s r

    delivers : List Event → ℕ
    delivers es = delivers_in es s r

    sums_handles : Sums handles
    sums_handles = record { none = refl; both = λ xs ys. handles-append xs ys s r }

    sums_delivers : Sums delivers
    sums_delivers = record { none = refl; both = λ xs ys. delivers-append xs ys s r }

-- Each event of a session without Kill and Restart keeps the stage, and a sweep takes it on.
pub keeps_next : {S : Type 0} (P : Ranks S) (n : ℕ) (K : Core S → Type 0) → Keeps P n K → (c : Core S) (e : Session_event) → Peaceful e → K c → K (session_next_of P n c e)
keeps_next P n K keeps c (Core_does (Single e)) calm kept = keeps.step c e kept
keeps_next P n K keeps c (Core_does Sweep) calm kept = keeps_steps P n K keeps (sweep_events n c.protocol) c kept
keeps_next P n K keeps c (Core_does (Kill r)) calm kept = absurd calm
keeps_next P n K keeps c Restart calm kept = absurd calm

pub staged_next : {S : Type 0} (P : Ranks S) (n i L : ℕ) (K : Core S → Type 0) → Keeps P n K → (c : Core S) (e : Session_event) → 0 < n → Peaceful e → Staged n i L K c → Staged n (with_sweep e i) L K (session_next_of P n c e)
staged_next P n i L K keeps c (Core_does (Single e)) some calm h = let inv = keeps.invariant c h.kept in record { kept = keeps.step c e h.kept; prompt = prompt_step P n c e some inv h.prompt; stage = stage_step P n i L c e inv (keeps.tells c h.kept) h.stage }
staged_next P n i L K keeps c (Core_does Sweep) some calm h = let es = sweep_events n c.protocol in
    record { kept = keeps_steps P n K keeps es c h.kept; prompt = prompt_steps P n K keeps es c some h.kept h.prompt; stage = stage_covered P n i L K keeps es c some (sweep_covers n c.protocol) h.kept h.prompt h.stage }
staged_next P n i L K keeps c (Core_does (Kill r)) some calm h = absurd calm
staged_next P n i L K keeps c Restart some calm h = absurd calm

sweeps_shift : (e : Session_event) (k i : ℕ) → k + with_sweep e i ≡ with_sweep e k + i
sweeps_shift (Core_does (Single e)) k i = refl
sweeps_shift (Core_does Sweep) k i = omega arith
sweeps_shift (Core_does (Kill r)) k i = refl
sweeps_shift Restart k i = refl

pub staged_session : {S : Type 0} (P : Ranks S) (n i L : ℕ) (K : Core S → Type 0) → Keeps P n K → (es : List Session_event) (c : Core S) → 0 < n → AllByRecursion Peaceful es → Staged n i L K c → Staged n (sweeps_in es + i) L K (session_of P n c es)
staged_session {S} P n i L K keeps [] c some calm h = let same : i ≡ 0 + i = omega arith in subst (λ j. Staged n j L K c) same h
staged_session {S} P n i L K keeps (e ∷ es) c some calm h = subst (λ j. Staged n j L K (session_of P n (session_next_of P n c e) es)) (sweeps_shift e (sweeps_in es) i)
    (staged_session P n (with_sweep e i) L K keeps es (session_next_of P n c e) some calm.1 (staged_next P n i L K keeps c e some calm.0 h))

pub staged_first : {S : Type 0} (n : ℕ) (K : Core S → Type 0) (c : Core S) → K c → Prompt n c.protocol → AllSaved n c → Staged n 0 c.protocol.wave.line K c
staged_first n K c kept prompt all = record { kept = kept; prompt = prompt; stage = Waits (record { line = refl; way = all.way; saved = all.saved; ready = λ e. absurd (omega arith); told = λ e. absurd (omega arith); stopped = λ e. absurd (omega arith); most = omega arith }) all.alive }

pub staged_last : {S : Type 0} (n i L : ℕ) (K : Core S → Type 0) (c : Core S) → 4 ≤ i → Staged n i L K c → L < c.protocol.wave.line
staged_last {S} n i L K c e h = go h.stage
  where
    go : Stage n i L c → L < c.protocol.wave.line
    go (Past q) = q
    go (Waits q alive) = absurd (omega (arith, q.most))
