-- A machine with the places of its variables and of the objects of malloc, which gives NULL exactly where no place fits.
use Rattle.std.specs.Prelude.{ℕ, Bool, true, false, List, [], ◌∷◌, Option, Some, None}
use Rattle.mpi_words.specs.declared.operation.Op.{Op}
use Rattle.mpi_words.specs.declared.operation.End.{End}
use Rattle.mpi_words.specs.declared.operation.Want.{Want}
use Rattle.mpi_words.specs.declared.operation.Want.TheVariants as want
use Rattle.runs.specs.Turn.{Act, Goes, Asks, Ends, Turned}
use Rattle.flat_code.specs.declared.code.FlatFunction.{FlatFunction}
use Rattle.flat_code.specs.declared.code.Instr.{Instr}
use Rattle.flat_code.specs.declared.code.Instr.TheVariants.{Step}
use Rattle.flat_code.specs.Machine.{Frame, Machine, Outcome, instr_at, step}
use Rattle.flat_code.specs.Machine as outcome
use Rattle.flat_code.specs.Placed.{Block, none_fits}
use Rattle.rank_machine.specs.Layout.{Layout, laid_by}

-- the blocks of the variables that have descriptors, from the bottom, and those of the heap by ascending places
pub record Placing : Type 0 where
  pub machine : Machine
  pub stack : List Block
  pub heap : List Block

abbrev pub laid : Placing → Layout
laid p = record { stack = p.stack; heap = p.heap }

-- a machine in its code: how it ended where it has, in restart mode the sites that its position stack has yet to name, and how many collective calls it began
pub record Standing : Type 0 where
  pub functions : List FlatFunction
  pub placing : Placing
  pub end : Option End
  pub left : Option (List ℕ)
  pub begun : ℕ

-- where they stand after the next instruction
abbrev pub laid_in : List FlatFunction → Machine → Layout → List Frame → Layout
laid_in functions m l [] = l
laid_in functions m l (top ∷ below) = laid_by m.memory top l (instr_at functions top)

-- and after a step: an operation that waits changes nothing
abbrev pub laid_after : List FlatFunction → Placing → Layout
laid_after functions p = elim p.machine.asked [ None ↦ laid_in functions p.machine (laid p) p.machine.frames | Some q ↦ laid p ]

abbrev pub placed : Layout → Outcome → Act Placing Op End
placed l (outcome.Goes began m) = Goes (record { machine = m; stack = l.stack; heap = l.heap })
placed l (outcome.Asks o m) = Asks o (record { machine = m; stack = l.stack; heap = l.heap })
placed l (outcome.Ends e) = Ends e

-- one step
abbrev pub stepped : List FlatFunction → Placing → Act Placing Op End
stepped functions p = placed (laid_after functions p) (step functions (none_fits p.heap) p.machine)

-- whether it begins a statement
abbrev pub is_step : Option Instr → Bool
is_step (Some Step) = true
is_step _ = false

abbrev pub begins_in : List FlatFunction → List Frame → Bool
begins_in functions [] = false
begins_in functions (top ∷ below) = is_step (instr_at functions top)

abbrev pub begins : List FlatFunction → Placing → Bool
begins functions p = elim p.machine.asked [ None ↦ begins_in functions p.machine.frames | Some q ↦ false ]

-- what a turn came to, with the machine after it
abbrev pub act_of : Want → Placing → Act Placing Op End
act_of want.Paused p = Goes p
act_of (want.Wants o) p = Asks o p
act_of (want.Ended e) p = Ends e

abbrev pub end_in : Want → Option End
end_in want.Paused = None
end_in (want.Wants o) = None
end_in (want.Ended e) = Some e

-- the end that an answer leads to, or that was there before
abbrev pub end_by : Option End → Option End → Option End
end_by None before = before
end_by (Some e) before = Some e

-- a turn in which so many statements may begin comes to this
abbrev pub Turns : List FlatFunction → ℕ → Placing → Act Placing Op End → Type 0
Turns functions limit p a = Turned (stepped functions) (begins functions) limit p a

abbrev pub IsTurn : List FlatFunction → ℕ → Placing → Want → Placing → Type 0
IsTurn functions limit p w q = Turns functions limit p (act_of w q)
