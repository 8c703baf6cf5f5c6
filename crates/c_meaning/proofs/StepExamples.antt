-- Steps of small programs, in main, whose one variable x holds 7.
use Rattle.std.proofs.Common.{◌≡◌, ℕ, pos, negsuc, true, false, List, [], ◌∷◌, Some, None, refl}
use Rattle.std.specs.Fmt.{digits}
use Rattle.std.specs.Int.{int_wrap}
use Rattle.mpi_words.specs.declared.operation.Op.TheVariants as op
use Rattle.mpi_words.specs.declared.operation.End.TheVariants.{Exit, Fault}
use Rattle.mpi_words.specs.declared.operation.Reply.TheVariants.{Done}
use Rattle.c_kernel.specs.declared.types.Base.TheVariants as base
use Rattle.c_kernel.specs.declared.types.IntegerType.TheVariants.{Int}
use Rattle.c_kernel.specs.declared.program.Program.{Program}
use Rattle.c_kernel.specs.declared.program.Piece.TheVariants.{Byte, Decimal, LongDecimal, Character}
use Rattle.c_kernel.specs.declared.program.Action.TheVariants as action
use Rattle.c_kernel.specs.declared.program.Expr.TheOpen.{Expr-F}
use Rattle.c_kernel.specs.declared.program.Expr.TheViews.{roll-Expr}
use Rattle.c_kernel.specs.declared.program.Stmt.{Stmt}
use Rattle.c_kernel.specs.declared.program.Stmt.TheOpen.{Stmt-F}
use Rattle.c_kernel.specs.declared.program.Stmt.TheViews.{roll-Stmt}
use Rattle.mpi_effects.specs.declared.seat.Seat.{Seat}
use Rattle.mpi_effects.specs.declared.seat.Phase.TheVariants.{Before, Inside}
use Rattle.c_memory.specs.Memory.{number, null, pointer, is_full}
use Rattle.c_values.specs.Value.{value_of}
use Rattle.c_values.specs.Text.{printed}
use Rattle.c_meaning.specs.State.{Item, Body, Rest, Begun, Testing, Stepping, State, Outcome, Goes, Asks, Ends}
use Rattle.c_meaning.specs.State as state
use Rattle.c_meaning.specs.Step.{step, branch, does, acts, tests, answered, start}
use Rattle.mpi_effects.specs.Requests.{plain_request}
use Rattle.c_values.proofs.Nodes.{value_roll}
use Rattle.c_values.proofs.ValueExamples.{figure, place, loaded, address, one, seven}

abbrev pub seat : Seat
seat = record { rank = 2; ranks = 4; any_source = false }

abbrev pub main_with : List Item → state.Call
main_with todo = record { todo = todo; variables = one }

abbrev pub in_main : List Item → State
in_main todo = record { calls = main_with todo ∷ []; memory = seven; seat = seat; phase = Inside; printed = 5; asked = None }

abbrev pub holding : ℕ → List Item → State
holding n todo = record { calls = main_with todo ∷ []; memory = record { variables = record { serial = 4; cells = number (pos n) ∷ [] } ∷ []; heap = []; next = 5; calls = 1; asked = 0 }; seat = seat; phase = Inside; printed = 5; asked = None }

-- a statement that has begun, with what follows
abbrev pub done : Stmt-F Stmt → List Item → Outcome
done x todo = does [] (in_main todo) (main_with todo) [] todo (roll-Stmt x) x

leave : Stmt
leave = roll-Stmt Stmt-F.Break

begins : step [] is_full (in_main (Body (leave ∷ []) ∷ [])) ≡ Goes true (in_main (Rest (leave ∷ []) ∷ []))
begins = refl

next : step [] is_full (in_main (Rest (leave ∷ []) ∷ [])) ≡ Goes true (in_main (Begun leave ∷ Rest [] ∷ []))
next = refl

no_more : step [] is_full (in_main (Rest [] ∷ Body [] ∷ [])) ≡ Goes false (in_main (Body [] ∷ []))
no_more = refl

no_room : step [] is_full (record { calls = []; memory = seven; seat = seat; phase = Inside; printed = 0; asked = None }) ≡ Ends (Fault 108)
no_room = refl

-- main's end
ended : step [] is_full (in_main []) ≡ Ends (Exit (pos 0))
unfolding int_wrap
ended = refl

-- return 3;
returned : done (Stmt-F.Return (Some (figure 3))) [] ≡ Ends (Exit (pos 3))
unfolding int_wrap
returned = simp (value_roll, value_of) refl

-- x = 3;
assigned : acts [] is_full (in_main []) (main_with []) [] [] (action.Set (place 0) (figure 3)) ≡ Goes false (holding 3 [])
unfolding int_wrap
assigned = simp (value_roll, value_of) refl

-- x becomes 0, and the number of no variable changes nothing
zeroed : acts [] is_full (in_main []) (main_with []) [] [] (action.Zero 0) ≡ Goes false (holding 0 [])
zeroed = refl

no_variable : acts [] is_full (in_main []) (main_with []) [] [] (action.Zero 1) ≡ Goes false (in_main [])
no_variable = refl

-- if (0) .. else if (x) break; else ..
second_arm : done (Stmt-F.If (record { test = figure 0; body = [] } ∷ record { test = loaded (place 0); body = leave ∷ [] } ∷ []) []) [] ≡ Goes false (in_main (Rest (leave ∷ []) ∷ []))
unfolding int_wrap
second_arm = simp (value_roll, value_of, branch) refl

-- while (x) break;
turn : tests (in_main []) (main_with []) [] [] leave (Stmt-F.While (loaded (place 0)) (leave ∷ [])) ≡ Goes false (in_main (Rest (leave ∷ []) ∷ Testing leave ∷ []))
unfolding int_wrap
turn = simp (value_roll, value_of) refl

-- break and continue, in a loop in a block
broken : done Stmt-F.Break (Rest [] ∷ Testing leave ∷ Rest [] ∷ []) ≡ Goes false (in_main (Rest [] ∷ []))
broken = refl

continued : done Stmt-F.Continue (Rest [] ∷ Stepping leave ∷ []) ≡ Goes false (in_main (Stepping leave ∷ []))
continued = refl

-- printf("%d\n", x);
output : done (Stmt-F.Print (Decimal ∷ Byte 10 ∷ []) (loaded (place 0) ∷ [])) [] ≡ Asks (op.Output (55 ∷ 10 ∷ [])) (record { calls = main_with [] ∷ []; memory = seven; seat = seat; phase = Inside; printed = 5; asked = Some (plain_request (op.Output (55 ∷ 10 ∷ []))) })
unfolding int_wrap digits
output = simp (value_roll, value_of) refl

-- what is printed for -12, for the char -1 and for 321 by %c
texts : printed (LongDecimal ∷ Character ∷ Character ∷ []) (number (negsuc 11) ∷ number (negsuc 0) ∷ number (pos 321) ∷ []) ≡ 45 ∷ 49 ∷ 50 ∷ 255 ∷ 65 ∷ []
unfolding digits
texts = refl

-- an operation waits for its reply, and then counts
waits : step [] is_full (record { calls = []; memory = seven; seat = seat; phase = Inside; printed = 5; asked = Some (plain_request op.Mark) }) ≡ Asks op.Mark (record { calls = []; memory = seven; seat = seat; phase = Inside; printed = 5; asked = Some (plain_request op.Mark) })
waits = refl

counted : answered (record { calls = []; memory = seven; seat = seat; phase = Inside; printed = 5; asked = Some (plain_request (op.Output (55 ∷ 10 ∷ []))) }) Done ≡ Goes false (record { calls = []; memory = seven; seat = seat; phase = Inside; printed = 7; asked = None })
counted = refl

-- x = malloc(5) of objects of two cells and four bytes, and free
allocates : acts [] is_full (in_main []) (main_with []) [] [] (action.Malloc (place 0) (figure 5) (record { cells = 2; size = 4 })) ≡ Goes false (record {
  calls = main_with [] ∷ [];
  memory = record {
    variables = record { serial = 4; cells = pointer 5 (pos 0) ∷ [] } ∷ [];
    heap = record { serial = 5; cells = null ∷ null ∷ [] } ∷ [];
    next = 6;
    calls = 1;
    asked = 2;
  };
  seat = seat;
  phase = Inside;
  printed = 5;
  asked = None;
})
unfolding int_wrap
allocates = simp (value_roll, value_of) refl

refused : acts [] is_full (in_main []) (main_with []) [] [] (action.Malloc (place 0) (figure 3) (record { cells = 2; size = 4 })) ≡ Goes false (holding 0 [])
unfolding int_wrap
refused = simp (value_roll, value_of) refl

frees_null : done (Stmt-F.Free (roll-Expr Expr-F.Null)) [] ≡ Goes false (in_main [])
frees_null = simp (value_roll, value_of) refl

frees_a_variable : done (Stmt-F.Free (address (place 0))) [] ≡ Ends (Fault 104)
frees_a_variable = simp (value_roll, value_of) refl

-- int main(void) { int x[2]; .. }
program : Program
program = record {
  structs = [];
  functions = record {
    name = [];
    result = record { base = base.Integer Int; stars = 0 };
    parameters = 0;
    variables = record { element = record { base = base.Integer Int; stars = 0 }; sizes = 2 ∷ []; cells = 2 } ∷ [];
    body = leave ∷ [];
  } ∷ [];
  main = 0;
  any_source = true;
}

started : start program 2 4 ≡ record {
  calls = record { todo = Body (leave ∷ []) ∷ []; variables = record { first = 1; count = 1 } } ∷ [];
  memory = record { variables = record { serial = 1; cells = null ∷ null ∷ [] } ∷ []; heap = []; next = 2; calls = 1; asked = 0 };
  seat = record { rank = 2; ranks = 4; any_source = true };
  phase = Before;
  printed = 0;
  asked = None;
}
unfolding program
started = refl
