-- What a rank in code stands for.
use Rattle.rank_image.specs.declared.process.State.{State}
use Rattle.rank_image.specs.declared.process.State.TheVariants as state
use Rattle.rank_image.specs.Rank.{Rank, Runs, Over, Lost}

abbrev pub rank_of : State → Rank
rank_of (state.Runs machine) = Runs machine
rank_of (state.Over e ranks bytes) = Over e ranks bytes
rank_of state.Lost = Lost
