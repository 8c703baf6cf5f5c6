-- A mailbox while messages arrive and are taken.
use Rattle.std.specs.Prelude.{List, [], ◌∷◌, ◌++◌, Option, Some, None, option_map}
use Rattle.mpi_words.specs.declared.pattern.Pattern.{Pattern}
use Rattle.mpi_queues.specs.Arrivals.{Arrival, given}

-- what is done with a mailbox
pub data Use : Type 0 where
  Arrive : Arrival → Use
  Take : List Pattern → Use

-- what arrives
abbrev pub arrivals_of : List Use → List Arrival
arrivals_of [] = []
arrivals_of (Arrive a ∷ uses) = a ∷ arrivals_of uses
arrivals_of (Take ps ∷ uses) = arrivals_of uses

-- a take that gave something, and what it gave
pub record Gift : Type 0 where
  pub patterns : List Pattern
  pub arrival : Arrival

-- the takes that give something. Another changes nothing
abbrev pub gifts : List Arrival → List Use → List Gift
gifts box [] = []
gifts box (Arrive a ∷ uses) = gifts (box ++ a ∷ []) uses
gifts box (Take ps ∷ uses) = elim (given ps box) [ None ↦ gifts box uses | Some t ↦ record { patterns = ps; arrival = t.taken } ∷ gifts t.others uses ]

-- what takes give one after the other, or None where one gives nothing
abbrev pub all_given : List Arrival → List (List Pattern) → Option (List Arrival)
all_given box [] = Some []
all_given box (ps ∷ rest) = elim (given ps box) [ None ↦ None | Some t ↦ option_map (λ as_well. t.taken ∷ as_well) (all_given t.others rest) ]
