-- What a turn takes of serials and operations.
use Rattle.std.proofs.Common.{◌≡◌, ℕ, suc, ◌+◌, ◌*◌, ◌<◌, ◌≤◌, Bool, true, false, if◌then◌else◌, List, length, Option, Some, None, ap, ◌∙◌, subst, arith}
use Rattle.std.specs.Prelude.{slice_get, slice_set}
use Rattle.std.proofs.lemmas.List.{length-set, get_or-set_same}
use Rattle.std.proofs.lemmas.Option.{slice_get-get_or, slice_get_within}
use Rattle.mpi_words.specs.declared.operation.Op.{Op}
use Rattle.mpi_words.specs.declared.operation.Op.TheVariants as op
use Rattle.mpi_words.specs.declared.operation.Reply.{Reply}
use Rattle.mpi_words.specs.declared.operation.Reply.TheVariants.{Done, Got}
use Rattle.mpi_queues.specs.Pairs.{Received}
use Rattle.c_kernel.specs.Regular.{AreRegular}
use Rattle.c_kernel.specs.declared.program.Function.{Function}
use Rattle.c_memory.specs.Memory.{is_full}
use Rattle.c_meaning.specs.State.{State, Outcome, Goes, Asks, Ends}
use Rattle.plain_job.specs.Job.{Standing, Runs, Ended, Rank, Job, Choice, outcome, completed, with_rank, receives, wanted, operates, after, stepped}
use Rattle.plain_job.specs.Serials.{IsWithin, StaysWithin}
use Rattle.plain_job.specs.Turn.{lowest, begins_next, is_last, Steps, absent, pauses, begins_one, goes, stops}
use Rattle.plain_job.proofs.LastSteps.{begun_goes}
use Rattle.plain_job.proofs.StepSerials.{Keeps, step_keeps, answered_keeps}

-- ---- the k-th rank

pub stands_there : (ranks : List Rank) (k : ℕ) (r : Rank) → k < length ranks → slice_get (slice_set ranks k r) k ≡ Some r
stands_there ranks k r within = slice_get-get_or (slice_set ranks k r) k r (omega (arith, within, length-set ranks k r)) ∙ ap Some (get_or-set_same ranks k r r within)

same_there : {A : Type 0} (o : Option A) (a b : A) → o ≡ Some a → o ≡ Some b → a ≡ b
same_there None a b h g = absurd cc
same_there (Some x) a b h g = cc

-- it has completed at most so many operations, and its serials stay within a limit until a statement begins
pub record IsAt (ops limit : ℕ) (job : Job) (k : ℕ) : Type 0 where
  pub rank : Rank
  pub stands : slice_get job.ranks k ≡ Some rank
  pub few : rank.ops ≤ ops
  pub serials : StaysWithin limit rank.standing

pub more_within : (low high : ℕ) (x : Standing) → low ≤ high → StaysWithin low x → StaysWithin high x
more_within low high (Runs s) l h = record { fit = h.fit; serials = (let m = h.serials in omega (arith, l, m)) }
more_within low high (Ended e) l h = tt

pub more_at : (ops limit more most : ℕ) (job : Job) (k : ℕ) → ops ≤ more → limit ≤ most → IsAt ops limit job k → IsAt more most job k
more_at ops limit more most job k a b h = record { rank = h.rank; stands = h.stands; few = (let o = h.few in omega (arith, a, o)); serials = more_within limit most h.rank.standing b h.serials }

-- ---- a step

put_at : (ops limit : ℕ) (job : Job) (k : ℕ) (r : Rank) → k < length job.ranks → r.ops ≤ ops → StaysWithin limit r.standing → IsAt ops limit (with_rank job k r) k
put_at ops limit job k r within few h = record { rank = r; stands = stands_there job.ranks k r within; few = few; serials = h }

receives_at : (limit : ℕ) (job : Job) (k : ℕ) (r : Rank) (o : Op) (s : State) (x : Option Received) → k < length job.ranks → IsWithin limit s → IsAt (suc r.ops) limit (receives job k r o s x) k
receives_at limit job k r o s None within h = put_at (suc r.ops) limit job k (record r { standing = Runs s }) within (omega arith) h
receives_at limit job k r o s (Some x) within h =
    let next = completed r o s (Got x.source x.message) in
    record { rank = next; stands = stands_there job.ranks k next within; few = omega arith; serials = answered_keeps limit s (Got x.source x.message) h }

completed_at : (limit : ℕ) (job : Job) (k : ℕ) (r : Rank) (o : Op) (s : State) (reply : Reply) → k < length job.ranks → IsWithin limit s → IsAt (suc r.ops) limit (with_rank job k (completed r o s reply)) k
completed_at limit job k r o s reply within h = put_at (suc r.ops) limit job k (completed r o s reply) within (omega arith) (answered_keeps limit s reply h)

operates_at : (limit : ℕ) (choice : Choice) (job : Job) (k : ℕ) (r : Rank) (o : Op) (s : State) → k < length job.ranks → IsWithin limit s → IsAt (suc r.ops) limit (operates choice job k r o s) k
operates_at limit choice job k r (op.Send to message) s within h =
    let a = completed_at limit job k r (op.Send to message) s Done within h in
    record { rank = a.rank; stands = a.stands; few = a.few; serials = a.serials }
operates_at limit choice job k r (op.Receive ps) s within h = receives_at limit job k r (op.Receive ps) s (wanted choice job.queues k ps) within h
operates_at limit choice job k r (op.Output text) s within h = completed_at limit job k r (op.Output text) s Done within h
operates_at limit choice job k r op.Mark s within h = completed_at limit job k r op.Mark s Done within h

after_at : (limit : ℕ) (choice : Choice) (job : Job) (k : ℕ) (r : Rank) (o : Outcome) → k < length job.ranks → Keeps limit o → IsAt (suc r.ops) limit (after choice job k r o) k
after_at limit choice job k r (Goes began s) within h = put_at (suc r.ops) limit job k (record r { standing = Runs s }) within (omega arith) h
after_at limit choice job k r (Asks o s) within h = operates_at limit choice job k r o s within h
after_at limit choice job k r (Ends e) within h = put_at (suc r.ops) limit job k (record r { standing = Ended e }) within (omega arith) h

-- where it isn't the last, it completes no operation
goes_at : (limit : ℕ) (choice : Choice) (job : Job) (k : ℕ) (r : Rank) (o : Outcome) → is_last o ≡ false → k < length job.ranks → Keeps limit o → IsAt r.ops limit (after choice job k r o) k
goes_at limit choice job k r (Goes began s) l within h = put_at r.ops limit job k (record r { standing = Runs s }) within (omega arith) h
goes_at limit choice job k r (Asks o s) l within h = absurd cc
goes_at limit choice job k r (Ends e) l within h = absurd cc

standing_keeps : (limit : ℕ) (functions : List Function) (x : Standing) → AreRegular functions → StaysWithin limit x → Keeps (limit + (if begins_next x then 8192 else 0)) (outcome functions lowest x)
standing_keeps limit functions (Runs s) r h = step_keeps limit functions is_full s r h
standing_keeps limit functions (Ended e) r h = tt

step_within : (limit : ℕ) (functions : List Function) (x : Standing) (b : Bool) → AreRegular functions → begins_next x ≡ b → StaysWithin limit x → Keeps (limit + (if b then 8192 else 0)) (outcome functions lowest x)
step_within limit functions x b r e h = subst (λ t. Keeps (limit + (if t then 8192 else 0)) (outcome functions lowest x)) e (standing_keeps limit functions x r h)

-- ---- a turn

-- what is known of the rank there
pub rank_at : (ops limit : ℕ) (job : Job) (k : ℕ) (r : Rank) → slice_get job.ranks k ≡ Some r → IsAt ops limit job k → (r.ops ≤ ops) × StaysWithin limit r.standing
rank_at ops limit job k r e h = subst (λ x. (x.ops ≤ ops) × StaysWithin limit x.standing) (same_there (slice_get job.ranks k) h.rank r h.stands e) (h.few, h.serials)

pub begun_at : (ops limit : ℕ) (functions : List Function) (job : Job) (k : ℕ) (r : Rank) → AreRegular functions → slice_get job.ranks k ≡ Some r → begins_next r.standing ≡ true → IsAt ops limit job k → IsAt ops (limit + 8192) (stepped functions lowest job k r) k
begun_at ops limit functions job k r regular e b h =
    let known = rank_at ops limit job k r e h in
    let few = known.0 in
    more_at r.ops (limit + 8192) ops (limit + 8192) (stepped functions lowest job k r) k few (omega arith)
    (goes_at (limit + 8192) lowest job k r (outcome functions lowest r.standing) (begun_goes functions r.standing b) (slice_get_within job.ranks k r e) (step_within limit functions r.standing true regular b known.1))

pub gone_at : (ops limit : ℕ) (functions : List Function) (job : Job) (k : ℕ) (r : Rank) → AreRegular functions → slice_get job.ranks k ≡ Some r → begins_next r.standing ≡ false → is_last (outcome functions lowest r.standing) ≡ false → IsAt ops limit job k → IsAt ops limit (stepped functions lowest job k r) k
gone_at ops limit functions job k r regular e b l h =
    let known = rank_at ops limit job k r e h in
    let few = known.0 in
    more_at r.ops (limit + 0) ops limit (stepped functions lowest job k r) k few (omega arith)
    (goes_at (limit + 0) lowest job k r (outcome functions lowest r.standing) l (slice_get_within job.ranks k r e) (step_within limit functions r.standing false regular b known.1))

stopped_at : (ops limit : ℕ) (functions : List Function) (job : Job) (k : ℕ) (r : Rank) → AreRegular functions → slice_get job.ranks k ≡ Some r → begins_next r.standing ≡ false → IsAt ops limit job k → IsAt (suc ops) limit (stepped functions lowest job k r) k
stopped_at ops limit functions job k r regular e b h =
    let known = rank_at ops limit job k r e h in
    let few = known.0 in
    more_at (suc r.ops) (limit + 0) (suc ops) limit (stepped functions lowest job k r) k (omega (arith, few)) (omega arith)
    (after_at (limit + 0) lowest job k r (outcome functions lowest r.standing) (slice_get_within job.ranks k r e) (step_within limit functions r.standing false regular b known.1))

pub steps_at : (functions : List Function) (k n ops limit : ℕ) (job last : Job) → AreRegular functions → Steps functions k n job last → IsAt ops limit job k → IsAt (suc ops) (limit + n * 8192) last k
steps_at functions k n ops limit job _ regular (absent _ _ e) h = more_at ops limit (suc ops) (limit + n * 8192) job k (omega arith) (omega arith) h
steps_at functions k n ops limit job _ regular (pauses _ _ r e z b) h = more_at ops limit (suc ops) (limit + n * 8192) job k (omega arith) (omega arith) h
steps_at functions k n ops limit job last regular (begins_one _ m _ _ r e f b rest) h =
    let next : Job = stepped functions lowest job k r in
    more_at (suc ops) (limit + 8192 + m * 8192) (suc ops) (limit + n * 8192) last k (omega arith) (omega (arith, f))
    (steps_at functions k m ops (limit + 8192) next last regular rest (begun_at ops limit functions job k r regular e b h))
steps_at functions k n ops limit job last regular (goes _ _ _ r e b l rest) h =
    steps_at functions k n ops limit (stepped functions lowest job k r) last regular rest (gone_at ops limit functions job k r regular e b l h)
steps_at functions k n ops limit job _ regular (stops _ _ r e b l) h =
    more_at (suc ops) limit (suc ops) (limit + n * 8192) (stepped functions lowest job k r) k (omega arith) (omega arith) (stopped_at ops limit functions job k r regular e b h)
