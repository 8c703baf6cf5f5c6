-- A turn of the plain job is a turn of the rank alone, and then at most one operation.
use Rattle.std.proofs.Common.{◌≡◌, ℕ, Bool, true, false, List, Option, Some, None, refl, sym, ap, ◌∙◌, subst}
use Rattle.std.specs.Prelude.{slice_get, slice_set}
use Rattle.std.proofs.lemmas.List.{set-set}
use Rattle.std.proofs.lemmas.Option.{slice_get_within}
use Rattle.mpi_words.specs.declared.operation.Op.{Op}
use Rattle.mpi_words.specs.declared.operation.Op.TheVariants as op
use Rattle.mpi_words.specs.declared.operation.End.{End}
use Rattle.mpi_queues.specs.Pairs.{Queues, Received}
use Rattle.c_kernel.specs.declared.program.Function.{Function}
use Rattle.c_memory.specs.Memory.{is_full}
use Rattle.c_meaning.specs.State.{State, Outcome}
use Rattle.c_meaning.specs.State as state
use Rattle.c_meaning.specs.Step.{step, begins}
use Rattle.plain_job.specs.Job.{Runs, Rank, Job, outcome, with_rank, receives, wanted, operates, after, stepped}
use Rattle.plain_job.specs.Turn.{lowest, begins_next, Steps, turn_limit, IsTurn}
use Rattle.plain_job.specs.Turn as job_turn
use Rattle.plain_job.proofs.Idle.{put_same}
use Rattle.plain_job.proofs.LastSteps.{begun_goes as no_last}
use Rattle.runs.specs.Turn.{Act, Goes, Asks, Ends, is_last, Turned, pauses, begins_one, goes, stops}
use Rattle.plain_runs.specs.Laws.{step_act, turn_step, comes_to, IsTurnAlone}
use Rattle.plain_runs.proofs.Slots.{get_set}

-- ---- steps

record WentTo (o : Outcome) : Type 0 where
  began : Bool
  next : State
  is : o ≡ state.Goes began next

not_last : (o : Outcome) → job_turn.is_last o ≡ false → WentTo o
not_last (state.Goes b t) h = record { began = b; next = t; is = refl }
not_last (state.Asks q t) h = absurd cc
not_last (state.Ends e) h = absurd cc

begun_goes : (functions : List Function) (s : State) → begins s ≡ true → WentTo (step functions is_full s)
begun_goes functions s h = not_last (step functions is_full s) (no_last functions (Runs s) h)

went_act : (o : Outcome) (w : WentTo o) → step_act o ≡ Goes w.next
went_act o w = ap step_act w.is

same_goes : (a b : State) → (x : Act State Op End) → x ≡ Goes a → x ≡ Goes b → a ≡ b
same_goes a b x g h = cc

last_act : (o : Outcome) → is_last (step_act o) ≡ job_turn.is_last o
last_act (state.Goes b t) = refl
last_act (state.Asks q t) = refl
last_act (state.Ends e) = refl

-- ---- the job after a step

comes_of : (job : Job) (k : ℕ) (r : Rank) (o : Outcome) → after lowest job k r o ≡ comes_to job k r (step_act o)
comes_of job k r (state.Goes b t) = refl
comes_of job k r (state.Asks q t) = refl
comes_of job k r (state.Ends e) = refl

abbrev at_state : Rank → State → Rank
at_state r t = record r { standing = Runs t }

stepped_is : (functions : List Function) (job : Job) (k : ℕ) (r : Rank) (s : State) → r.standing ≡ Runs s → stepped functions lowest job k r ≡ comes_to job k r (turn_step functions s)
stepped_is functions job k r s e = ap (λ x. after lowest job k r (outcome functions lowest x)) e ∙ comes_of job k r (step functions is_full s)

stepped_goes : (functions : List Function) (job : Job) (k : ℕ) (r : Rank) (s t : State) → r.standing ≡ Runs s → turn_step functions s ≡ Goes t → stepped functions lowest job k r ≡ with_rank job k (at_state r t)
stepped_goes functions job k r s t e h = stepped_is functions job k r s e ∙ ap (comes_to job k r) h

-- a rank that was put back doesn't show
abbrev job_of : List Rank → Queues → Job
job_of ranks queues = record { ranks = ranks; queues = queues }

twice : (job : Job) (k : ℕ) (u v : Rank) (queues : Queues) → job_of (slice_set (slice_set job.ranks k u) k v) queues ≡ job_of (slice_set job.ranks k v) queues
twice job k u v queues = ap (λ ranks. job_of ranks queues) (set-set job.ranks k u v)

receives_over : (job : Job) (k : ℕ) (u r : Rank) (t : State) (o : Op) (s : State) (x : Option Received) → receives (with_rank job k u) k (at_state r t) o s x ≡ receives job k r o s x
receives_over job k u r t o s None = twice job k u _ _
receives_over job k u r t o s (Some x) = twice job k u _ _

operates_over : (job : Job) (k : ℕ) (u r : Rank) (t : State) (o : Op) (s : State) → operates lowest (with_rank job k u) k (at_state r t) o s ≡ operates lowest job k r o s
operates_over job k u r t (op.Send to m) s = twice job k u _ _
operates_over job k u r t (op.Receive ps) s = receives_over job k u r t (op.Receive ps) s (wanted lowest job.queues k ps)
operates_over job k u r t (op.Output text) s = twice job k u _ _
operates_over job k u r t op.Mark s = twice job k u _ _

comes_over : (job : Job) (k : ℕ) (u r : Rank) (t : State) (a : Act State Op End) → comes_to (with_rank job k u) k (at_state r t) a ≡ comes_to job k r a
comes_over job k u r t (Goes s) = twice job k u _ _
comes_over job k u r t (Asks o s) = operates_over job k u r t o s
comes_over job k u r t (Ends e) = twice job k u _ _

comes_stays : (job : Job) (k : ℕ) (r : Rank) (s : State) → slice_get job.ranks k ≡ Some r → r.standing ≡ Runs s → comes_to job k r (Goes s) ≡ job
comes_stays job k r s h e = ap (λ x. with_rank job k (record r { standing = x })) (sym e) ∙ ap (λ ranks. record { ranks = ranks; queues = job.queues }) (put_same job.ranks k r h)

-- what is known before a step that goes on, and after it
record Step (functions : List Function) (job : Job) (k : ℕ) (r : Rank) (s t : State) : Type 0 where
  here : slice_get job.ranks k ≡ Some r
  runs : r.standing ≡ Runs s
  step : turn_step functions s ≡ Goes t

there : (functions : List Function) (job : Job) (k : ℕ) (r : Rank) (s t : State) → Step functions job k r s t → slice_get (stepped functions lowest job k r).ranks k ≡ Some (at_state r t)
there functions job k r s t h = ap (λ (j : Job). slice_get j.ranks k) (stepped_goes functions job k r s t h.runs h.step) ∙ get_set job.ranks k (at_state r t) (slice_get_within job.ranks k r h.here)

comes_on : (functions : List Function) (job : Job) (k : ℕ) (r : Rank) (s t : State) (a : Act State Op End) → Step functions job k r s t → comes_to (stepped functions lowest job k r) k (at_state r t) a ≡ comes_to job k r a
comes_on functions job k r s t a h = ap (λ j. comes_to j k (at_state r t) a) (stepped_goes functions job k r s t h.runs h.step) ∙ comes_over job k (at_state r t) r t a

-- ---- by the job, and by the rank alone

one_rank : (job : Job) (k : ℕ) (r t : Rank) → slice_get job.ranks k ≡ Some r → slice_get job.ranks k ≡ Some t → t ≡ r
one_rank job k r t g h = cc

begins_of : (r t : Rank) (s : State) (b : Bool) → t ≡ r → r.standing ≡ Runs s → begins_next t.standing ≡ b → begins s ≡ b
begins_of r t s b same e h = sym (ap (λ (x : Rank). begins_next x.standing) same ∙ ap begins_next e) ∙ h

last_of : (functions : List Function) (r t : Rank) (s : State) (b : Bool) → t ≡ r → r.standing ≡ Runs s → job_turn.is_last (outcome functions lowest t.standing) ≡ b → job_turn.is_last (step functions is_full s) ≡ b
last_of functions r t s b same e h = sym (ap (λ (x : Rank). job_turn.is_last (outcome functions lowest x.standing)) same ∙ ap (λ x. job_turn.is_last (outcome functions lowest x)) e) ∙ h

abbrev Alone : List Function → ℕ → ℕ → Job → Job → Type 0
Alone functions k n job last = (r : Rank) (s : State) → slice_get job.ranks k ≡ Some r → r.standing ≡ Runs s → (a : Act State Op End) × Turned (turn_step functions) begins n s a × (last ≡ comes_to job k r a)

alone_more : (functions : List Function) (k n m : ℕ) (job last : Job) (r t : Rank) (s : State) (w : WentTo (step functions is_full s)) → slice_get job.ranks k ≡ Some r → r.standing ≡ Runs s → t ≡ r → Alone functions k m (stepped functions lowest job k t) last
    → ((a : Act State Op End) → turn_step functions s ≡ Goes w.next → Turned (turn_step functions) begins m w.next a → Turned (turn_step functions) begins n s a)
    → (a : Act State Op End) × Turned (turn_step functions) begins n s a × (last ≡ comes_to job k r a)
alone_more functions k n m job last r t s w h e same rec make =
    let went : turn_step functions s ≡ Goes w.next = went_act (step functions is_full s) w in
    let known : Step functions job k r s w.next = record { here = h; runs = e; step = went } in
    let rest = subst (λ x. Alone functions k m (stepped functions lowest job k x) last) same rec (at_state r w.next) w.next (there functions job k r s w.next known) refl in
    (rest.0, make rest.0 went rest.1, rest.2 ∙ comes_on functions job k r s w.next rest.0 known)

alone_steps : (functions : List Function) (k n : ℕ) (job last : Job) → Steps functions k n job last → Alone functions k n job last
alone_steps functions k n job _ (job_turn.absent _ _ g) r s h e = absurd cc
alone_steps functions k n job _ (job_turn.pauses _ _ t g z b) r s h e = (Goes s, pauses n s z (begins_of r t s true (one_rank job k r t h g) e b), sym (comes_stays job k r s h e))
alone_steps functions k n job last (job_turn.begins_one _ m _ _ t g f b rest) r s h e =
    let same = one_rank job k r t h g in
    let begun = begins_of r t s true same e b in
    alone_more functions k n m job last r t s (begun_goes functions s begun) h e same (alone_steps functions k m (stepped functions lowest job k t) last rest) (λ a went more. begins_one n m s _ a f begun went more)
alone_steps functions k n job last (job_turn.goes _ _ _ t g b l rest) r s h e =
    let same = one_rank job k r t h g in
    alone_more functions k n n job last r t s (not_last (step functions is_full s) (last_of functions r t s false same e l)) h e same (alone_steps functions k n (stepped functions lowest job k t) last rest) (λ a went more. goes n s _ a (begins_of r t s false same e b) went more)
alone_steps functions k n job _ (job_turn.stops _ _ t g b l) r s h e =
    let same = one_rank job k r t h g in
    (turn_step functions s, stops n s (begins_of r t s false same e b) (last_act (step functions is_full s) ∙ last_of functions r t s true same e l), ap (stepped functions lowest job k) same ∙ stepped_is functions job k r s e)

abbrev ByJob : List Function → ℕ → ℕ → State → Act State Op End → Type 0
ByJob functions k n s a = (job : Job) (r : Rank) → slice_get job.ranks k ≡ Some r → r.standing ≡ Runs s → Steps functions k n job (comes_to job k r a)

job_more : (functions : List Function) (k n m : ℕ) (s t : State) (a : Act State Op End) → turn_step functions s ≡ Goes t → ByJob functions k m t a
    → ((job : Job) (r : Rank) (last : Job) → slice_get job.ranks k ≡ Some r → r.standing ≡ Runs s → Steps functions k m (stepped functions lowest job k r) last → Steps functions k n job last) → ByJob functions k n s a
job_more functions k n m s t a went rec make job r h e =
    let known : Step functions job k r s t = record { here = h; runs = e; step = went } in
    subst (Steps functions k n job) (comes_on functions job k r s t a known) (make job r _ h e (rec (stepped functions lowest job k r) (at_state r t) (there functions job k r s t known) refl))

goes_not_last : (o : Outcome) (t : State) → step_act o ≡ Goes t → job_turn.is_last o ≡ false
goes_not_last o t h = sym (last_act o) ∙ ap is_last h

job_steps : (functions : List Function) (k n : ℕ) (s : State) (a : Act State Op End) → Turned (turn_step functions) begins n s a → ByJob functions k n s a
job_steps functions k n s _ (pauses _ _ z b) = λ job r h e. subst (Steps functions k n job) (sym (comes_stays job k r s h e)) (job_turn.pauses n job r h z (ap begins_next e ∙ b))
job_steps functions k n s a (begins_one _ m _ t _ f b went more) = job_more functions k n m s t a went (job_steps functions k m t a more) (λ job r last h e rest. job_turn.begins_one n m job last r h f (ap begins_next e ∙ b) rest)
job_steps functions k n s a (goes _ _ t _ b went more) = job_more functions k n n s t a went (job_steps functions k n t a more)
    (λ job r last h e rest. job_turn.goes n job last r h (ap begins_next e ∙ b) (ap (λ x. job_turn.is_last (outcome functions lowest x)) e ∙ goes_not_last (step functions is_full s) t went) rest)
job_steps functions k n s _ (stops _ _ b l) = λ job r h e. subst (Steps functions k n job) (stepped_is functions job k r s e)
    (job_turn.stops n job r h (ap begins_next e ∙ b) (ap (λ x. job_turn.is_last (outcome functions lowest x)) e ∙ sym (last_act (step functions is_full s)) ∙ l))

pub turn_alone : IsTurnAlone
turn_alone functions job last k r s h e = record {
  alone = λ t. alone_steps functions k turn_limit job last t r s h e;
  turns = λ t. subst (IsTurn functions job k) (sym t.2) (job_steps functions k turn_limit s t.0 t.1 job r h e);
}
