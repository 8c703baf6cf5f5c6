-- What a program that runs stands for.
use Rattle.std.specs.Prelude.{◌≡◌, Bool, true, false, Option, Some, None, is_some}
use Rattle.mpi_words.specs.declared.operation.Op.{Op}
use Rattle.mpi_words.specs.declared.operation.End.{End}
use Rattle.mpi_words.specs.declared.operation.Want.{Want}
use Rattle.runs.specs.Turn.{Act}
use Rattle.runs.specs.Turn as turn
use Rattle.flat_code.specs.Machine.{Machine, Outcome, Goes, Ends}
use Rattle.flat_code.specs.Restart.{Restarting}
use Rattle.rank_machine.specs.declared.running.Running.{Running}
use Rattle.rank_machine.specs.declared.running.Step.{Step}
use Rattle.rank_machine.specs.declared.running.Step.TheVariants.{Local, Wants, Ended}
use Rattle.rank_machine.specs.Placing.{Placing, act_of}
use Rattle.rank_machine.specs.Blocks.{blocks_of}
use Rattle.rank_machine.specs.State.{frames_of, heap_of, left_of, machine_of, waiting}

abbrev pub state_of : Running → Machine
state_of run = machine_of run.parts (frames_of run.frames.items)

abbrev pub placing_of : Running → Placing
placing_of run = record { machine = state_of run; stack = blocks_of run.parts.described; heap = heap_of run.parts }

-- in restart mode
abbrev pub again_of : Running → Restarting
again_of run = record { machine = state_of run; left = left_of run.parts }

-- what the answer of a step says, with the machine after it
abbrev pub outcome_of : Step → Machine → Outcome
outcome_of (Local began) m = Goes began m
outcome_of Wants m = waiting m
outcome_of (Ended end) m = Ends end

-- whether the machine goes on
abbrev pub goes_on : Step → Bool
goes_on (Ended end) = false
goes_on _ = true

-- the same as a step of a turn, with the machine after it
abbrev pub waits : Placing → Act Placing Op End
waits p = elim p.machine.asked [ None ↦ turn.Goes p | Some q ↦ turn.Asks q.operation p ]

abbrev pub act_by : Step → Placing → Act Placing Op End
act_by (Local began) p = turn.Goes p
act_by Wants p = waits p
act_by (Ended end) p = turn.Ends end

-- what is wanted after a step, if a turn ends there
abbrev pub came_to : Option Want → Placing → Act Placing Op End
came_to None p = turn.Goes p
came_to (Some w) p = act_of w p

abbrev pub IsWanted : Option Want → Step → Placing → Type 0
IsWanted want did p = (came_to want p ≡ act_by did p) × (is_some want ≡ turn.is_last (act_by did p))
