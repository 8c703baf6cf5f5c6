-- A rank of a job: a machine that runs, and how it ended.
use Rattle.std.specs.Prelude.{◌≡◌, ℕ, ◌+◌, ◌<◌, ◌≤◌, max, List, [], ◌∷◌, length, Option, Some, None, option_map, slice_get}
use Rattle.mpi_words.specs.declared.operation.Op.{Op}
use Rattle.mpi_words.specs.declared.operation.Op.TheVariants.{Send, Receive, Output, Mark}
use Rattle.mpi_words.specs.declared.operation.Reply.{Reply}
use Rattle.mpi_words.specs.declared.operation.End.{End}
use Rattle.image_text.specs.declared.state.RankState.{RankState}
use Rattle.core_laws.specs.Process.{Wants, Ended}
use Rattle.core_laws.specs.Pausing.{Stepped, Paused, Asks}
use Rattle.runs.specs.Turn.{Act}
use Rattle.runs.specs.Turn as turn
use Rattle.c_kernel.specs.declared.program.Program.{Program}
use Rattle.c_kernel.specs.Regular.{IsRegular}
use Rattle.mpi_effects.specs.declared.requests.Request.{Request}
use Rattle.flat_code.specs.declared.code.Code.{Code}
use Rattle.flat_code.specs.declared.code.FlatFunction.{FlatFunction}
use Rattle.flat_code.specs.declared.code.Instr.TheVariants as instr
use Rattle.flat_code.specs.Machine.{Frame, Machine, Outcome, answered, code_at, start}
use Rattle.flat_code.specs.Machine as outcome
use Rattle.ccift_lower.specs.Lowered.{lowered}
use Rattle.ccift_pass.specs.Passed.{passed}
use Rattle.rank_machine.specs.Placing.{Placing, Standing}
use Rattle.rank_machine.specs.Saving.{state_of}
use Rattle.rank_machine.specs.Turning.{turned_in, most_steps}
use Rattle.turn_bounds.specs.Objects.{HasObjects}
use Rattle.turn_bounds.specs.Settled.{IsSettled}
use Rattle.turn_bounds.specs.Spaced.{IsSpaced, HasCells}

pub data Rank : Type 0 where
  Runs : Standing → Rank
  -- how it ended, how many ranks there are, and how many bytes it has put out
  Over : End → ℕ → ℕ → Rank
  -- there was no memory for it
  Lost : Rank

-- ---- its beginning

-- the code of a program whose statements each do little at once, and whose objects have cells
pub record IsCompiled (c : Code) : Type 0 where
  pub program : Program
  pub regular : IsRegular program
  pub objects : HasObjects program
  pub code : c ≡ passed (lowered program)

abbrev pub begun : Code → ℕ → ℕ → Rank
begun c rank ranks = Runs (record { functions = c.functions; placing = record { machine = start c rank ranks; stack = []; heap = [] }; end = None; left = None; begun = 0 })

-- ---- turns and answers

abbrev pub ends : Standing → End → Rank
ends s e = Over e s.placing.machine.seat.ranks s.placing.machine.printed

abbrev pub came_to : Standing → Act Placing Op End → Stepped Rank
came_to s (turn.Goes p) = record { machine = Runs (record s { placing = p }); stop = Paused }
came_to s (turn.Asks o p) = record { machine = Runs (record s { placing = p }); stop = Asks (Wants o) }
came_to s (turn.Ends e) = record { machine = ends s e; stop = Asks Ended }

abbrev pub turned : ℕ → Rank → Stepped Rank
turned limit (Runs s) = came_to s (turned_in s.functions most_steps limit s.placing)
turned limit (Over e ranks bytes) = record { machine = Over e ranks bytes; stop = Asks Ended }
turned limit Lost = record { machine = Lost; stop = Paused }

abbrev pub replied : Standing → Outcome → Rank
replied s (outcome.Goes began m) = Runs (record s { placing = record (s.placing) { machine = m } })
replied s (outcome.Asks o m) = Runs (record s { placing = record (s.placing) { machine = m } })
replied s (outcome.Ends e) = ends s e

abbrev pub answered_by : Rank → Reply → Rank
answered_by (Runs s) reply = replied s (answered s.placing.machine reply)
answered_by (Over e ranks bytes) reply = Over e ranks bytes
answered_by Lost reply = Lost

-- ---- what is told of it

abbrev pub operation_of : Option Request → Option Op
operation_of asked = option_map (λ q. q.operation) asked

abbrev pub pending : Rank → Option Op
pending (Runs s) = operation_of s.placing.machine.asked
pending (Over e ranks bytes) = None
pending Lost = None

abbrev pub ended : Rank → Option End
ended (Runs s) = None
ended (Over e ranks bytes) = Some e
ended Lost = None

abbrev pub among : Rank → ℕ
among (Runs s) = s.placing.machine.seat.ranks
among (Over e ranks bytes) = ranks
among Lost = 0

abbrev pub bytes : Rank → ℕ
bytes (Runs s) = s.placing.machine.printed
bytes (Over e ranks out) = out
bytes Lost = 0

abbrev pub serial : Rank → ℕ
serial (Runs s) = max s.placing.machine.memory.next s.begun
serial (Over e ranks bytes) = 0
serial Lost = 0

-- ---- marks

-- a call whose last instruction was a mark
pub record IsPastMark (functions : List FlatFunction) (top : Frame) : Type 0 where
  pub site : ℕ
  pub place : ℕ
  pub after : top.place ≡ place + 1
  pub mark : slice_get (code_at functions top.function) place ≡ Some (instr.Mark site)

abbrev pub ArePastMark : List FlatFunction → List Frame → Type 0
ArePastMark functions [] = ⊥
ArePastMark functions (top ∷ below) = IsPastMark functions top

abbrev pub IsMarked : Rank → Type 0
IsMarked (Runs s) = (s.placing.machine.asked ≡ None) × ArePastMark s.functions s.placing.machine.frames
IsMarked (Over e ranks bytes) = ⊥
IsMarked Lost = ⊥

abbrev pub nothing_saved : RankState
nothing_saved = record { output = 0; serial = 0; phase = 0; calls = 0; sites = []; variables = []; objects = [] }

-- what is saved of one that runs
abbrev pub saved : Rank → RankState
saved (Runs s) = state_of s
saved (Over e ranks bytes) = nothing_saved
saved Lost = nothing_saved

-- ---- what is true of each

-- what a machine may wait for
abbrev pub IsWanted : List FlatFunction → Machine → Op → Type 0
IsWanted functions m (Send to message) = to < m.seat.ranks
IsWanted functions m (Receive patterns) = 0 < length patterns
IsWanted functions m (Output text) = m.printed + length text ≤ 1048576
IsWanted functions m Mark = ArePastMark functions m.frames

abbrev pub Waits : List FlatFunction → Machine → Option Request → Type 0
Waits functions m None = Unit {0}
Waits functions m (Some q) = IsWanted functions m q.operation

pub record MayRun (s : Standing) : Type 0 where
  pub spaced : IsSpaced s.functions
  pub cells : HasCells s.functions
  pub settled : IsSettled s.functions s.placing
  pub end : s.end ≡ None
  pub left : s.left ≡ None
  pub waits : Waits s.functions s.placing.machine s.placing.machine.asked

abbrev pub IsSound : Rank → Type 0
IsSound (Runs s) = MayRun s
IsSound (Over e ranks bytes) = Unit {0}
IsSound Lost = Unit {0}
