-- A turn of a rank without a step to make changes nothing.
use Rattle.std.proofs.Common.{◌≡◌, ℕ, true, false, List, Option, Some, None, is_some, refl, sym, ap, ◌∙◌, subst}
use Rattle.std.specs.Prelude.{slice_get, slice_set}
use Rattle.std.proofs.lemmas.List.{set-get_or}
use Rattle.std.proofs.lemmas.Option.{get_or_from_slice_get}
use Rattle.mpi_words.specs.declared.operation.Op.{Op}
use Rattle.mpi_words.specs.declared.operation.Op.TheVariants as op
use Rattle.mpi_queues.specs.Pairs.{Received}
use Rattle.c_kernel.specs.declared.program.Function.{Function}
use Rattle.mpi_effects.specs.declared.requests.Request.{Request}
use Rattle.c_memory.specs.Memory.{is_full}
use Rattle.c_meaning.specs.State.{State, Asks}
use Rattle.c_meaning.specs.Step.{step_in, begins_in}
use Rattle.plain_job.specs.Job.{Standing, Runs, Ended, Rank, Job, outcome, with_rank, receives, wanted, operates, after, stepped}
use Rattle.plain_job.specs.Turn.{lowest, begins_next, is_last, Steps, absent, stops, IsTurn, turn_limit, is_possible, can_answer, can_step, has_step}
use Rattle.plain_job.proofs.Runs.{steps_same}

-- putting back what stands there changes nothing
pub put_same : {A : Type 0} (xs : List A) (k : ℕ) (x : A) → slice_get xs k ≡ Some x → slice_set xs k x ≡ xs
put_same xs k x h = ap (slice_set xs k) (sym (get_or_from_slice_get xs k x x h)) ∙ set-get_or xs k x

asked_begins : (job : Job) (k : ℕ) (s : State) (asked : Option Request) → can_answer job k asked ≡ false → elim asked [ None ↦ begins_in s.calls | Some q ↦ false ] ≡ false
asked_begins job k s None h = absurd cc
asked_begins job k s (Some q) h = refl

idle_begins : (job : Job) (k : ℕ) (x : Standing) → can_step job k x ≡ false → begins_next x ≡ false
idle_begins job k (Runs s) h = asked_begins job k s s.asked h
idle_begins job k (Ended e) h = refl

asked_last : (functions : List Function) (job : Job) (k : ℕ) (s : State) (asked : Option Request) → can_answer job k asked ≡ false → is_last (elim asked [ None ↦ step_in functions is_full s s.calls | Some q ↦ Asks q.operation s ]) ≡ true
asked_last functions job k s None h = absurd cc
asked_last functions job k s (Some q) h = refl

idle_last : (functions : List Function) (job : Job) (k : ℕ) (x : Standing) → can_step job k x ≡ false → is_last (outcome functions lowest x) ≡ true
idle_last functions job k (Runs s) h = asked_last functions job k s s.asked h
idle_last functions job k (Ended e) h = refl

received_stays : (job : Job) (k : ℕ) (r : Rank) (o : Op) (s : State) (x : Option Received) → is_some x ≡ false → receives job k r o s x ≡ with_rank job k (record r { standing = Runs s })
received_stays job k r o s None h = refl
received_stays job k r o s (Some x) h = absurd cc

operation_stays : (job : Job) (k : ℕ) (r : Rank) (o : Op) (s : State) → is_possible job k o ≡ false → operates lowest job k r o s ≡ with_rank job k (record r { standing = Runs s })
operation_stays job k r (op.Send to message) s h = absurd cc
operation_stays job k r (op.Receive ps) s h = received_stays job k r (op.Receive ps) s (wanted lowest job.queues k ps) h
operation_stays job k r (op.Output text) s h = absurd cc
operation_stays job k r op.Mark s h = absurd cc

asked_stays : (functions : List Function) (job : Job) (k : ℕ) (r : Rank) (s : State) (asked : Option Request) → can_answer job k asked ≡ false → after lowest job k r (elim asked [ None ↦ step_in functions is_full s s.calls | Some q ↦ Asks q.operation s ]) ≡ with_rank job k (record r { standing = Runs s })
asked_stays functions job k r s None h = absurd cc
asked_stays functions job k r s (Some q) h = operation_stays job k r q.operation s h

standing_stays : (functions : List Function) (job : Job) (k : ℕ) (r : Rank) (x : Standing) → can_step job k x ≡ false → after lowest job k r (outcome functions lowest x) ≡ with_rank job k (record r { standing = x })
standing_stays functions job k r (Runs s) h = asked_stays functions job k r s s.asked h
standing_stays functions job k r (Ended e) h = refl

idle_stays : (functions : List Function) (job : Job) (k : ℕ) (r : Rank) → slice_get job.ranks k ≡ Some r → can_step job k r.standing ≡ false → stepped functions lowest job k r ≡ job
idle_stays functions job k r g h = standing_stays functions job k r r.standing h ∙ ap (λ ranks. record job { ranks = ranks }) (put_same job.ranks k r g)

-- the steps of a turn of a rank that has none to make
pub idle_rank : (functions : List Function) (n : ℕ) (job : Job) (k : ℕ) (r : Rank) → slice_get job.ranks k ≡ Some r → can_step job k r.standing ≡ false → Steps functions k n job job
idle_rank functions n job k r g h = subst (Steps functions k n job) (idle_stays functions job k r g h) (stops n job r g (idle_begins job k r.standing h) (idle_last functions job k r.standing h))

idle_by : (functions : List Function) (n : ℕ) (job : Job) (k : ℕ) (o : Option Rank) → slice_get job.ranks k ≡ o → elim o [ None ↦ false | Some r ↦ can_step job k r.standing ] ≡ false → Steps functions k n job job
idle_by functions n job k None g h = absent n job g
idle_by functions n job k (Some r) g h = idle_rank functions n job k r g h

-- a turn of it changes nothing
pub turn_idle : (functions : List Function) (job : Job) (k : ℕ) (after : Job) → has_step job k ≡ false → IsTurn functions job k after → after ≡ job
turn_idle functions job k after h g = steps_same functions k turn_limit job after job g (idle_by functions turn_limit job k (slice_get job.ranks k) refl h)
