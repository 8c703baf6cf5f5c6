-- The state of a rank's program.
use Rattle.std.specs.Prelude.{ℕ, Bool, List, [], ◌∷◌, Option}
use Rattle.mpi_words.specs.declared.operation.Op.{Op}
use Rattle.mpi_words.specs.declared.operation.End.{End}
use Rattle.c_kernel.specs.declared.program.Stmt.{Stmt}
use Rattle.c_kernel.specs.declared.program.Action.{Action}
use Rattle.c_kernel.specs.declared.program.Target.{Target}
use Rattle.c_memory.specs.Memory.{Memory}
use Rattle.mpi_effects.specs.declared.seat.Seat.{Seat}
use Rattle.mpi_effects.specs.declared.seat.Phase.{Phase}
use Rattle.mpi_effects.specs.declared.requests.Request.{Request}
use Rattle.c_values.specs.declared.value.Variables.{Variables}

-- what follows in a function
pub data Item : Type 0 where
  -- its body, which hasn't begun
  Body : List Stmt → Item
  -- statements that haven't begun
  Rest : List Stmt → Item
  -- a statement that has begun
  Begun : Stmt → Item
  -- what is left to do at once
  Acting : List Action → Item
  -- the result of a call goes here
  Awaiting : Option Target → Item
  -- a loop whose test comes next
  Testing : Stmt → Item
  -- a loop whose last clause comes next, and then its test
  Stepping : Stmt → Item

-- a call that is under way
pub record Call : Type 0 where
  pub todo : List Item
  pub variables : Variables

-- the calls, the newest first; memory; the rank's seat among the ranks; the phase of its use of MPI; how many bytes were printed; an operation that waits for its reply
pub record State : Type 0 where
  pub calls : List Call
  pub memory : Memory
  pub seat : Seat
  pub phase : Phase
  pub printed : ℕ
  pub asked : Option Request

-- one step: a new state, where a statement may have begun; an operation, with the state that waits for its reply; an end
pub data Outcome : Type 0 where
  Goes : Bool → State → Outcome
  Asks : Op → State → Outcome
  Ends : End → Outcome

-- what follows the loop that a break leaves (C99 6.8.6.3)
abbrev pub after_loop : List Item → List Item
after_loop [] = []
after_loop (Body ss ∷ todo) = after_loop todo
after_loop (Rest ss ∷ todo) = after_loop todo
after_loop (Begun x ∷ todo) = after_loop todo
after_loop (Acting actions ∷ todo) = after_loop todo
after_loop (Awaiting t ∷ todo) = after_loop todo
after_loop (Testing x ∷ todo) = todo
after_loop (Stepping x ∷ todo) = todo

-- the same with the loop, which goes on (C99 6.8.6.2)
abbrev pub to_loop : List Item → List Item
to_loop [] = []
to_loop (Body ss ∷ todo) = to_loop todo
to_loop (Rest ss ∷ todo) = to_loop todo
to_loop (Begun x ∷ todo) = to_loop todo
to_loop (Acting actions ∷ todo) = to_loop todo
to_loop (Awaiting t ∷ todo) = to_loop todo
to_loop (Testing x ∷ todo) = Testing x ∷ todo
to_loop (Stepping x ∷ todo) = Stepping x ∷ todo
