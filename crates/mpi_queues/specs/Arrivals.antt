-- A rank's mailbox: messages with their sources, in order of arrival.
use Rattle.std.specs.Prelude.{ℕ, suc, Bool, ◌==◌, if◌then◌else◌, List, [], ◌∷◌, length, remove, position, Option, Some, None}
use Rattle.mpi_words.specs.declared.message.Message.{Message}
use Rattle.mpi_words.specs.declared.pattern.Pattern.{Pattern}
use Rattle.mpi_words.specs.Matching.{matches}
use Rattle.mpi_queues.specs.Firsts.{Taken, after_one}

-- the source and its message
abbrev pub Arrival : Type 0
Arrival = ℕ × Message

abbrev pub fits : Pattern → Arrival → Bool
fits p a = matches p a.0 a.1

-- Which patterns are open when the one at a place has got an arrival, or None where that is the last of all
abbrev pub still_open : List Pattern → Option ℕ → Option (List Pattern)
still_open ps None = Some ps
still_open ps (Some at) = if suc at == length ps then None else Some (remove ps at)

-- an arrival goes to the first open pattern that it fits
abbrev pub open_after : List Pattern → Arrival → Option (List Pattern)
open_after ps a = still_open ps (position (λ p. fits p a) ps)

-- the arrival that the last of these patterns has, where they are given in order
abbrev pub given : List Pattern → List Arrival → Option (Taken Arrival)
given ps [] = None
given ps (a ∷ rest) = elim (open_after ps a) [ None ↦ Some (record { taken = a; others = rest }) | Some open_then ↦ after_one a (given open_then rest) ]
