-- What holds of the plain job and of its runs.
use Rattle.std.specs.Prelude.{◌≡◌, ℕ, ◌<◌, Bool, List, length, Some, slice_get}
use Rattle.mpi_words.specs.declared.message.Message.{Message}
use Rattle.mpi_words.specs.declared.operation.Op.{Op}
use Rattle.mpi_words.specs.declared.operation.End.{End}
use Rattle.mpi_queues.specs.Pairs.{IsSquare, queue}
use Rattle.c_kernel.specs.declared.program.Function.{Function}
use Rattle.c_kernel.specs.declared.program.Program.{Program}
use Rattle.c_memory.specs.Memory.{is_full}
use Rattle.c_meaning.specs.State.{State, Outcome}
use Rattle.c_meaning.specs.State as state
use Rattle.c_meaning.specs.Step.{step, begins}
use Rattle.plain_job.specs.Job.{Standing, Runs, Ended, Rank, Job, with_rank, operates, IsReached, output_at, end_at}
use Rattle.plain_job.specs.Turn.{lowest, turn_limit, IsTurn}
use Rattle.runs.specs.Job as runs
use Rattle.runs.specs.Job.{Want, Process, Quiet, Event, quiet_start}
use Rattle.runs.specs.Plain.{Fellow, Plain, Move, plain_run, plain_start}
use Rattle.runs.specs.Turn.{Act, Goes, Asks, Ends, Turned}
use Rattle.runs.specs.Fine.{Stepper, Fine, At, Asking, Over, machine}
use Rattle.runs.specs.Coarse.{AreNext}
use Rattle.plain_runs.specs.Source.{want_of, act_of, code_of, stepper, source_of}

-- ---- a turn of the plain job is a turn of the rank alone, and then at most one operation

abbrev pub step_act : Outcome → Act State Op End
step_act (state.Goes began s) = Goes s
step_act (state.Asks o s) = Asks o s
step_act (state.Ends e) = Ends e

-- where the choices are those of a turn
abbrev pub turn_step : List Function → State → Act State Op End
turn_step functions s = step_act (step functions is_full s)

-- the job after what a turn of its k-th rank came to, which was r
abbrev pub comes_to : Job → ℕ → Rank → Act State Op End → Job
comes_to job k r (Goes s) = with_rank job k (record r { standing = Runs s })
comes_to job k r (Asks o s) = operates lowest job k r o s
comes_to job k r (Ends e) = with_rank job k (record r { standing = Ended e })

abbrev pub HasTurned : List Function → Job → ℕ → Rank → State → Job → Type 0
HasTurned functions job k r s after = (a : Act State Op End) × Turned (turn_step functions) begins turn_limit s a × (after ≡ comes_to job k r a)

pub record TurnIsTurned (functions : List Function) (job : Job) (k : ℕ) (r : Rank) (s : State) (after : Job) : Type 0 where
  pub alone : IsTurn functions job k after → HasTurned functions job k r s after
  pub turns : HasTurned functions job k r s after → IsTurn functions job k after

abbrev pub IsTurnAlone : Type 0
IsTurnAlone = (functions : List Function) (job after : Job) (k : ℕ) (r : Rank) (s : State) → slice_get job.ranks k ≡ Some r → r.standing ≡ Runs s → TurnIsTurned functions job k r s after

-- ---- plain runs of the source, and failure-free runs of the program

-- a rank of the process stands where a rank of the job stands; where it asks already, the other may not have made the step that asks
abbrev pub Stands : List Function → Fine State Message End → Standing → Type 0
Stands functions (At s) x = x ≡ Runs s
Stands functions (Asking w s) x = (o : Op) × (before : State) × (refused : Bool) × (w ≡ want_of o) × (x ≡ Runs before) × (step functions (λ m cells. refused) before ≡ state.Asks o s)
Stands functions (Over e) x = x ≡ Ended e

pub record ShowsRank (functions : List Function) (f : Fellow (Fine State Message End)) (job : Job) (k : ℕ) : Type 0 where
  pub rank : Rank
  pub is : slice_get job.ranks k ≡ Some rank
  pub stands : Stands functions f.machine rank.standing
  pub output : f.output ≡ rank.output

pub record Shows (functions : List Function) (n : ℕ) (p : Plain (Fine State Message End) Message) (job : Job) : Type 0 where
  pub count : length job.ranks ≡ n
  pub square : IsSquare n job.queues
  pub ranks : (k : ℕ) → k < n → ShowsRank functions (p.rank k) job k
  pub queues : (from to : ℕ) → to < n → p.queue from to ≡ queue job.queues from to

-- each plain run of the source shows a failure-free run of the program
abbrev pub IsShown : Type 0
IsShown = (p : Program) (n : ℕ) (moves : List Move) → (job : Job) × IsReached p n job × Shows p.functions n (plain_run (source_of p n) n (plain_start (source_of p n)) moves) job

-- and each failure-free run of the program is shown by a plain run of the source
abbrev pub IsShownBack : Type 0
IsShownBack = (p : Program) (n : ℕ) (job : Job) → IsReached p n job → (moves : List Move) × Shows p.functions n (plain_run (source_of p n) n (plain_start (source_of p n)) moves) job

-- ---- quiet runs

-- the outputs and the ends of a quiet state are those of the job
pub record HasRun {T X : Type 0} (P : Process T X) (n : ℕ) (q : Quiet T X) (job : Job) : Type 0 where
  pub output : (r : ℕ) → r < n → output_at job r ≡ (q.rank r).output
  pub ends : (r : ℕ) (e : End) → r < n → P.want (q.rank r).machine ≡ runs.Ended (code_of e) → end_at job r ≡ Some e

abbrev pub QuietIsReached : {T X E : Type 0} → Stepper T X E → (T → Bool) → ℕ → Program → ℕ → Type 0
QuietIsReached {T} {X} {E} P begins limit p n = (es : List Event) (q : Quiet (Fine T X E) X) → AreNext P begins limit n (quiet_start (machine P)) es q → (job : Job) × IsReached p n job × HasRun (machine P) n q job

-- the source as a machine, with the choices of a turn
abbrev pub turning : Program → ℕ → Stepper State Message End
turning p n = record (stepper p n) { step = λ pick s. act_of (step p.functions is_full s) }

-- a quiet run of the source itself
abbrev pub IsSourceReached : Type 0
IsSourceReached = (begins : State → Bool) (limit : ℕ) (p : Program) (n : ℕ) → QuietIsReached (turning p n) begins limit p n
