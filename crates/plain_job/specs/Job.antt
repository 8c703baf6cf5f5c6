-- The plain job: N ranks and the messages between them, without checkpoints, and its failure-free runs.
use Rattle.std.specs.Prelude.{◌≡◌, ℕ, suc, Bool, List, [], ◌∷◌, ◌++◌, map, Option, Some, None, slice_get, slice_set}
use Rattle.std.specs.List.{range_with_len}
use Rattle.mpi_words.specs.declared.operation.Op.{Op}
use Rattle.mpi_words.specs.declared.operation.Op.TheVariants as op
use Rattle.mpi_words.specs.declared.operation.End.{End}
use Rattle.mpi_words.specs.declared.operation.Reply.{Reply}
use Rattle.mpi_words.specs.declared.operation.Reply.TheVariants.{Done, Got}
use Rattle.mpi_words.specs.declared.pattern.Pattern.{Pattern}
use Rattle.mpi_queues.specs.Pairs.{Queues, none_sent, sent, Received, taken_from}
use Rattle.c_kernel.specs.declared.program.Function.{Function}
use Rattle.c_kernel.specs.declared.program.Program.{Program}
use Rattle.c_memory.specs.Memory.{Memory}
use Rattle.c_meaning.specs.State.{State, Outcome, Goes, Asks, Ends}
use Rattle.c_meaning.specs.Step.{start, step, answered}

-- how a rank stands: its program is in a state, or has ended
pub data Standing : Type 0 where
  Runs : State → Standing
  Ended : End → Standing

-- a rank: how it stands, what it has printed, and how many operations it has completed
pub record Rank : Type 0 where
  pub standing : Standing
  pub output : List ℕ
  pub ops : ℕ

-- a rank that begins, the k-th of n
abbrev pub first : Program → ℕ → ℕ → Rank
first p n k = record { standing = Runs (start p k n); output = []; ops = 0 }

-- how a rank has ended
abbrev pub end_of : Standing → Option End
end_of (Runs s) = None
end_of (Ended e) = Some e

-- the ranks, and the messages that were sent and not taken
pub record Job : Type 0 where
  pub ranks : List Rank
  pub queues : Queues

abbrev pub start_job : Program → ℕ → Job
start_job p n = record { ranks = map (first p n) (range_with_len 0 n); queues = none_sent n }

-- ---- a step of a rank

-- what is left open in it: where malloc may give NULL, whether it does; and what a receive takes
pub record Choice : Type 0 where
  pub refuses : Memory → ℕ → Bool
  pub takes : Queues → ℕ → Pattern → Option Received

-- what its program does. A rank that has ended stays so
abbrev pub outcome : List Function → Choice → Standing → Outcome
outcome functions choice (Runs s) = step functions choice.refuses s
outcome functions choice (Ended e) = Ends e

-- what an operation prints
abbrev pub text_of : Op → List ℕ
text_of (op.Send to message) = []
text_of (op.Receive patterns) = []
text_of (op.Output text) = text
text_of op.Mark = []

-- how a rank stands after an outcome
abbrev pub standing_of : Outcome → Standing
standing_of (Goes began s) = Runs s
standing_of (Asks o s) = Runs s
standing_of (Ends e) = Ended e

-- its operation is completed by a reply
abbrev pub completed : Rank → Op → State → Reply → Rank
completed r o s reply = record { standing = standing_of (answered s reply); output = r.output ++ text_of o; ops = suc r.ops }

abbrev pub with_rank : Job → ℕ → Rank → Job
with_rank job k r = record job { ranks = slice_set job.ranks k r }

-- a receive takes a message, or waits where there is none
abbrev pub receives : Job → ℕ → Rank → Op → State → Option Received → Job
receives job k r o s None = with_rank job k (record r { standing = Runs s })
receives job k r o s (Some x) = record (with_rank job k (completed r o s (Got x.source x.message))) { queues = x.queues }

-- by the first of these patterns; a program's receive has one
abbrev pub wanted : Choice → Queues → ℕ → List Pattern → Option Received
wanted choice queues k [] = None
wanted choice queues k (p ∷ ps) = choice.takes queues k p

abbrev pub operates : Choice → Job → ℕ → Rank → Op → State → Job
operates choice job k r (op.Send to message) s = record (with_rank job k (completed r (op.Send to message) s Done)) { queues = sent job.queues k to message }
operates choice job k r (op.Receive ps) s = receives job k r (op.Receive ps) s (wanted choice job.queues k ps)
operates choice job k r (op.Output text) s = with_rank job k (completed r (op.Output text) s Done)
operates choice job k r op.Mark s = with_rank job k (completed r op.Mark s Done)

-- the step with its operation
abbrev pub after : Choice → Job → ℕ → Rank → Outcome → Job
after choice job k r (Goes began s) = with_rank job k (record r { standing = Runs s })
after choice job k r (Asks o s) = operates choice job k r o s
after choice job k r (Ends e) = with_rank job k (record r { standing = Ended e })

abbrev pub stepped : List Function → Choice → Job → ℕ → Rank → Job
stepped functions choice job k r = after choice job k r (outcome functions choice r.standing)

-- of the k-th rank, if there is one
abbrev pub step_of : List Function → Choice → Job → ℕ → Job
step_of functions choice job k = elim (slice_get job.ranks k) [ None ↦ job | Some r ↦ stepped functions choice job k r ]

-- ---- runs

-- a move is a step of one rank, in which malloc gives NULL, where it may, or doesn't, and a receive takes from a source's list
pub record Move : Type 0 where
  pub rank : ℕ
  pub refuses : Bool
  pub source : ℕ

abbrev pub choice_of : Move → Choice
choice_of a = record { refuses = λ m n. a.refuses; takes = λ queues k p. taken_from queues k p a.source }

-- the job after a move
abbrev pub move : List Function → Job → Move → Job
move functions job a = step_of functions (choice_of a) job a.rank

-- a run is a list of moves
abbrev pub run : List Function → Job → List Move → Job
run functions job [] = job
run functions job (a ∷ moves) = run functions (move functions job a) moves

-- a failure-free run of the program on so many ranks leads there
pub record IsReached (p : Program) (n : ℕ) (job : Job) : Type 0 where
  pub moves : List Move
  pub leads : run p.functions (start_job p n) moves ≡ job

-- what a job's k-th rank has printed, how many operations it has completed, and how it has ended
abbrev pub output_at : Job → ℕ → List ℕ
output_at job k = elim (slice_get job.ranks k) [ None ↦ [] | Some r ↦ r.output ]

abbrev pub ops_at : Job → ℕ → ℕ
ops_at job k = elim (slice_get job.ranks k) [ None ↦ 0 | Some r ↦ r.ops ]

abbrev pub end_at : Job → ℕ → Option End
end_at job k = elim (slice_get job.ranks k) [ None ↦ None | Some r ↦ end_of r.standing ]
