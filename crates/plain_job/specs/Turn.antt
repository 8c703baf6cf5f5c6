-- Turns of the plain job.
use Rattle.std.specs.Prelude.{◌≡◌, ℕ, suc, Bool, true, false, List, [], ◌∷◌, Option, Some, None, is_some, slice_get}
use Rattle.mpi_words.specs.declared.operation.Op.{Op}
use Rattle.mpi_words.specs.declared.operation.Op.TheVariants as op
use Rattle.mpi_queues.specs.Pairs.{taken}
use Rattle.c_kernel.specs.declared.program.Function.{Function}
use Rattle.mpi_effects.specs.declared.requests.Request.{Request}
use Rattle.c_meaning.specs.State.{Outcome, Goes, Asks, Ends}
use Rattle.c_memory.specs.Memory.{is_full}
use Rattle.c_meaning.specs.Step.{begins}
use Rattle.plain_job.specs.Job.{Standing, Runs, Ended, Rank, Job, Choice, outcome, stepped, wanted}

-- in a turn malloc gives NULL only where the heap is full, and a receive takes from the lowest source that has a match
abbrev pub lowest : Choice
lowest = record { refuses = is_full; takes = taken }

-- whether the next step of a rank begins a statement
abbrev pub begins_next : Standing → Bool
begins_next (Runs s) = begins s
begins_next (Ended e) = false

-- an operation, done or waited for, or an end is the last step of a turn
abbrev pub is_last : Outcome → Bool
is_last (Goes began s) = false
is_last (Asks o s) = true
is_last (Ends e) = true

-- steps of the k-th rank, in which at most n statements begin, up to an operation that is completed or waits, its end, or a statement that may not begin any more
pub data Steps (functions : List Function) (k : ℕ) : ℕ → Job → Job → Type 0 where
  -- there is no such rank
  absent : (n : ℕ) (job : Job) → slice_get job.ranks k ≡ None → Steps functions k n job job
  -- no more statement may begin
  pauses : (n : ℕ) (job : Job) (r : Rank) → slice_get job.ranks k ≡ Some r → n ≡ 0 → begins_next r.standing ≡ true → Steps functions k n job job
  -- one begins
  begins_one : (n m : ℕ) (job after : Job) (r : Rank) → slice_get job.ranks k ≡ Some r → n ≡ suc m → begins_next r.standing ≡ true → Steps functions k m (stepped functions lowest job k r) after → Steps functions k n job after
  -- a step that begins none
  goes : (n : ℕ) (job after : Job) (r : Rank) → slice_get job.ranks k ≡ Some r → begins_next r.standing ≡ false → is_last (outcome functions lowest r.standing) ≡ false → Steps functions k n (stepped functions lowest job k r) after → Steps functions k n job after
  -- the last step
  stops : (n : ℕ) (job : Job) (r : Rank) → slice_get job.ranks k ≡ Some r → begins_next r.standing ≡ false → is_last (outcome functions lowest r.standing) ≡ true → Steps functions k n job (stepped functions lowest job k r)

-- how many statements may begin in a turn
abbrev pub turn_limit : ℕ
turn_limit = 4096

-- whether a rank has a step to make: it hasn't ended, and doesn't wait in a receive that finds no match
abbrev pub is_possible : Job → ℕ → Op → Bool
is_possible job k (op.Send to message) = true
is_possible job k (op.Receive ps) = is_some (wanted lowest job.queues k ps)
is_possible job k (op.Output text) = true
is_possible job k op.Mark = true

abbrev pub can_answer : Job → ℕ → Option Request → Bool
can_answer job k None = true
can_answer job k (Some q) = is_possible job k q.operation

abbrev pub can_step : Job → ℕ → Standing → Bool
can_step job k (Runs s) = can_answer job k s.asked
can_step job k (Ended e) = false

abbrev pub has_step : Job → ℕ → Bool
has_step job k = elim (slice_get job.ranks k) [ None ↦ false | Some r ↦ can_step job k r.standing ]

-- a turn of the k-th rank. One that has ended stays as it is
abbrev pub IsTurn : List Function → Job → ℕ → Job → Type 0
IsTurn functions job k after = Steps functions k turn_limit job after

-- turns of these ranks, one after the other
abbrev pub AreTurns : List Function → Job → List ℕ → Job → Type 0
AreTurns functions job [] after = after ≡ job
AreTurns functions job (k ∷ ks) after = (mid : Job) × IsTurn functions job k mid × AreTurns functions mid ks after
