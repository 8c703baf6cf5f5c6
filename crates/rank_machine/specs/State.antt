-- What a machine that runs stands for.
use Rattle.std.specs.Prelude.{ℕ, Bool, true, false, List, ◌∷◌, drop, map, reverse, Option, Some, None, Result}
use Rattle.mpi_words.specs.declared.operation.End.{End}
use Rattle.flat_code.specs.declared.code.FlatFunction.{FlatFunction}
use Rattle.flat_code.specs.declared.code.Instr.{Instr}
use Rattle.flat_code.specs.declared.code.Instr.TheVariants.{Zero, Set, Malloc, Free, Mark, Print, Mpi}
use Rattle.flat_code.specs.Machine.{Machine, Outcome, Goes, Asks, Ends, acts, returned, with_ok}
use Rattle.flat_code.specs.Machine as machine
use Rattle.flat_code.specs.Placed as placed
use Rattle.flat_code.specs.Restart.{Restarting}
use Rattle.flat_code.specs.Placed.{none_fits}
use Rattle.rank_machine.specs.Blocks.{blocks_of}
use Rattle.rank_machine.specs.Layout.{Layout, laid_by}
use Rattle.rank_machine.specs.declared.frame.Frame.{Frame}
use Rattle.rank_machine.specs.declared.parts.Parts.{Parts}
use Rattle.rank_machine.specs.declared.parts.Change.{Change}
use Rattle.rank_machine.specs.declared.parts.Change.TheVariants as change
use Rattle.rank_machine.specs.declared.reenter.Reentry.{Reentry}
use Rattle.rank_machine.specs.declared.reenter.Reentry.TheVariants as reentry

abbrev pub frame_of : Frame → machine.Frame
frame_of f = record { function = f.function; place = f.place; variables = f.variables }

-- the last is the newest, which comes first
abbrev pub frames_of : List Frame → List machine.Frame
frames_of frames = map frame_of (reverse frames)

abbrev pub heap_of : Parts → List placed.Block
heap_of parts = parts.world.memory.blocks

abbrev pub laid_of : Parts → Layout
laid_of parts = record { stack = blocks_of parts.described; heap = heap_of parts }

abbrev pub machine_of : Parts → List machine.Frame → Machine
machine_of parts frames = record {
  frames = frames;
  sites = reverse parts.sites.sites;
  described = reverse (map (λ d. d.serial) parts.described);
  memory = parts.world.memory.memory;
  seat = parts.world.requests.seat;
  phase = parts.world.requests.phase;
  printed = parts.world.requests.printed;
  asked = parts.world.requests.asked;
}

-- with the newest call
abbrev pub machine_with : Parts → Frame → List machine.Frame → Machine
machine_with parts frame below = machine_of parts (frame_of frame ∷ below)

-- with an operation that waits for its reply
abbrev pub waiting : Machine → Outcome
waiting m = elim m.asked [ None ↦ Goes false m | Some q ↦ Asks q.operation m ]

-- what a change of the newest call says, with the machine after it
abbrev pub outcome_by : List FlatFunction → Change → Parts → Frame → List machine.Frame → Outcome
outcome_by functions (change.Goes began) parts frame below = Goes began (machine_with parts frame below)
outcome_by functions change.Asks parts frame below = waiting (machine_with parts frame below)
outcome_by functions (change.Ends end) parts frame below = Ends end
outcome_by functions (change.Enters e) parts frame below = Goes false (machine_of parts (frame_of e ∷ frame_of frame ∷ below))
outcome_by functions (change.Returns v) parts frame below = returned functions (machine_with parts frame below) (frame_of frame) below v

-- what is done in the newest call
abbrev pub in_call : {A : Type 0} → (Machine → machine.Frame → List machine.Frame → A) → Parts → Frame → List machine.Frame → A
in_call go parts frame below = go (machine_with parts frame below) (frame_of frame) below

-- what an instruction does in the newest call, and to the stack and the heap
abbrev pub does : List FlatFunction → Parts → Frame → List machine.Frame → Option Instr → Outcome
does functions parts frame below x = acts functions (none_fits (heap_of parts)) (machine_with parts frame below) (frame_of frame) below x

abbrev pub laid_by_next : Parts → Frame → Option Instr → Layout
laid_by_next parts frame x = laid_by parts.world.memory.memory (frame_of frame) (laid_of parts) x

-- whether an instruction changes memory or asks for an operation, without a call
abbrev pub works : Instr → Bool
works (Zero k) = true
works (Set place value) = true
works (Malloc place bytes each) = true
works (Free e) = true
works (Mark site) = true
works (Print format arguments) = true
works (Mpi call) = true
works _ = false

-- what a result that comes back to a call says, with the machine after it
abbrev pub goes_back : {A : Type 0} → Result A ℕ → Parts → Frame → List machine.Frame → Outcome
goes_back did parts frame below = with_ok did (λ done. Goes false (machine_with parts frame below))

-- what is said of a reply, with the machine after it
abbrev pub answer_of : Option End → Machine → Outcome
answer_of None m = Goes false m
answer_of (Some end) m = Ends end

-- whether the machine goes on
abbrev pub is_on : Change → Bool
is_on (change.Ends end) = false
is_on _ = true

-- the sites that the position stack has yet to name
abbrev pub left_of : Parts → List ℕ
left_of parts = drop parts.sites.replayed parts.sites.sites

-- what an instruction of restart mode says, with the machine after it
abbrev pub again_by : Reentry → Parts → Frame → List machine.Frame → Option Restarting
again_by reentry.Nothing parts frame below = None
again_by reentry.Jumps parts frame below = Some (record { machine = machine_with parts frame below; left = left_of parts })
again_by (reentry.Enters e) parts frame below = Some (record { machine = machine_of parts (frame_of e ∷ frame_of frame ∷ below); left = left_of parts })

-- whether there was one
abbrev pub is_again : Reentry → Bool
is_again reentry.Nothing = false
is_again _ = true
