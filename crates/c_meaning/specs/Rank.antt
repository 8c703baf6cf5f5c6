-- What a rank stands for.
use Rattle.std.specs.Prelude.{List}
use Rattle.c_kernel.specs.declared.program.Function.{Function}
use Rattle.c_meaning.specs.declared.rank.Rank.{Rank}
use Rattle.c_meaning.specs.State.{State}
use Rattle.c_meaning.specs.Running as running

abbrev pub functions_of : Rank → List Function
functions_of rank = rank.program.value.functions

abbrev pub state_of : Rank → State
state_of rank = running.state_of (functions_of rank) rank.running
