-- One list of messages for each ordered pair of ranks.
use Rattle.std.specs.Prelude.{◌≡◌, ℕ, ◌<◌, List, [], ◌∷◌, ◌++◌, length, replicate, slice_index_or, slice_set, Option, option_map}
use Rattle.std.specs.List.{range_with_len}
use Rattle.mpi_words.specs.declared.message.Message.{Message}
use Rattle.mpi_words.specs.declared.pattern.Pattern.{Pattern}
use Rattle.mpi_words.specs.Matching.{matches}
use Rattle.mpi_queues.specs.Firsts.{Taken, take_first, first_answer}

-- the lists, by receiver and then by sender
abbrev pub Queues : Type 0
Queues = List (List (List Message))

-- so many ranks, which have sent nothing
abbrev pub none_sent : ℕ → Queues
none_sent n = replicate n (replicate n [])

-- so many receivers, each with as many senders
pub record IsSquare (n : ℕ) (q : Queues) : Type 0 where
  pub receivers : length q ≡ n
  pub senders : (to : ℕ) → to < n → length (slice_index_or q to []) ≡ n

-- what a rank has sent to a rank and wasn't taken, in order of sending
abbrev pub queue : Queues → ℕ → ℕ → List Message
queue q from to = slice_index_or (slice_index_or q to []) from []

-- another list for one pair
abbrev pub put_queue : Queues → ℕ → ℕ → List Message → Queues
put_queue q from to list = slice_set q to (slice_set (slice_index_or q to []) from list)

-- a send appends
abbrev pub sent : Queues → ℕ → ℕ → Message → Queues
sent q from to m = put_queue q from to (queue q from to ++ m ∷ [])

-- a message that was taken, the rank that sent it, and the lists without it
pub record Received : Type 0 where
  pub source : ℕ
  pub message : Message
  pub queues : Queues

abbrev pub received : Queues → ℕ → ℕ → Taken Message → Received
received q from to t = record { source = from; message = t.taken; queues = put_queue q from to t.others }

-- the first match of what a rank has sent to a rank
abbrev pub taken_from : Queues → ℕ → Pattern → ℕ → Option Received
taken_from q to p from = option_map (received q from to) (take_first (matches p from) (queue q from to))

-- the first match of the lowest source that has one
abbrev pub taken : Queues → ℕ → Pattern → Option Received
taken q to p = first_answer (taken_from q to p) (range_with_len 0 (length q))
