-- What holds of channels and mailboxes.
use Rattle.std.specs.Prelude.{◌≡◌, ◌≢◌, ℕ, ◌<◌, ◌==◌, ◌&&◌, if◌then◌else◌, List, [], ◌∷◌, ◌++◌, length, map, Option, Some, None}
use Rattle.mpi_words.specs.declared.message.Message.{Message}
use Rattle.mpi_words.specs.declared.pattern.Pattern.{Pattern}
use Rattle.mpi_queues.specs.Firsts.{Taken, take_first}
use Rattle.mpi_queues.specs.Pairs.{Queues, IsSquare, none_sent, queue, put_queue, Received, taken_from, taken}
use Rattle.mpi_queues.specs.Arrivals.{Arrival, fits, given}
use Rattle.mpi_queues.specs.Order.{Use, arrivals_of, gifts, all_given}

-- the numbers of receivers and senders never change
pub record StaysSquare : Type 0 where
  pub begins : (n : ℕ) → IsSquare n (none_sent n)
  pub stays : (n : ℕ) (q : Queues) (from to : ℕ) (list : List Message) → IsSquare n q → IsSquare n (put_queue q from to list)

-- a list that is put for one pair stands there, and other pairs keep theirs
abbrev pub IsPairAlone : Type 0
IsPairAlone = (n : ℕ) (q : Queues) (from to other_from other_to : ℕ) (list : List Message) → IsSquare n q → from < n → to < n → queue (put_queue q from to list) other_from other_to ≡ (if other_to == to && other_from == from then list else queue q other_from other_to)

-- a receive takes from one source what that source gives it, where all lower ones give nothing, or no source gives anything
abbrev pub TakesLowest : Queues → ℕ → Pattern → Option Received → Type 0
TakesLowest q to p None = (from : ℕ) → from < length q → taken_from q to p from ≡ None
TakesLowest q to p (Some r) = (r.source < length q) × (taken_from q to p r.source ≡ Some r) × ((from : ℕ) → from < r.source → taken_from q to p from ≡ None)

abbrev pub IsLowest : Type 0
IsLowest = (q : Queues) (to : ℕ) (p : Pattern) → TakesLowest q to p (taken q to p)

-- a receive that names its source takes nothing from another
abbrev pub IsNamed : Type 0
IsNamed = (q : Queues) (to named from : ℕ) (p : Pattern) → p.source ≡ Some named → from ≢ named → taken_from q to p from ≡ None

-- for a single pattern the mailbox gives the first arrival that it fits
abbrev pub IsFirstMatch : Type 0
IsFirstMatch = (p : Pattern) (arrivals : List Arrival) → given (p ∷ []) arrivals ≡ take_first (fits p) arrivals

-- what arrives later doesn't change what is given
abbrev pub IsGivenForGood : Type 0
IsGivenForGood = (ps : List Pattern) (arrivals later : List Arrival) (t : Taken Arrival) → given ps arrivals ≡ Some t → given ps (arrivals ++ later) ≡ Some (record { taken = t.taken; others = t.others ++ later })

-- takes that gave something give the same where all messages have arrived before
abbrev pub IsGivenAtTheEnd : Type 0
IsGivenAtTheEnd = (box : List Arrival) (uses : List Use) → all_given (box ++ arrivals_of uses) (map (λ g. g.patterns) (gifts box uses)) ≡ Some (map (λ g. g.arrival) (gifts box uses))

-- what takes give depends on the order of arrivals alone, and not on when they are made
abbrev pub IsByOrderAlone : Type 0
IsByOrderAlone = (uses others : List Use) → arrivals_of uses ≡ arrivals_of others → map (λ g. g.patterns) (gifts [] uses) ≡ map (λ g. g.patterns) (gifts [] others) → map (λ g. g.arrival) (gifts [] uses) ≡ map (λ g. g.arrival) (gifts [] others)
