-- How a rank stands.
use Rattle.std.specs.Prelude.{Bool, true, false, Option, Some, None}
use Rattle.mpi_words.specs.declared.operation.End.{End}
use Rattle.job_core.specs.declared.view.Life.{Life}
use Rattle.job_core.specs.declared.view.Life.TheVariants.{Running, Ended, Killed}

-- by whether it is killed and how it has ended
abbrev pub life_of : Bool → Option End → Life
life_of true end = Killed
life_of false None = Running
life_of false (Some end) = Ended end
