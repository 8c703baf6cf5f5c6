-- Ranks as processes, and one turn of a rank.
use Rattle.std.specs.Prelude.{ℕ, Bool, true, false, List, [], ◌∷◌, ◌++◌, Option, Some, None}
use Rattle.mpi_words.specs.declared.message.Message.{Message}
use Rattle.mpi_words.specs.declared.operation.Op.{Op}
use Rattle.mpi_words.specs.declared.operation.Op.TheVariants.{Send, Receive, Output, Mark}
use Rattle.mpi_words.specs.declared.operation.Reply.{Reply}
use Rattle.mpi_words.specs.declared.operation.Reply.TheVariants.{Done, Got}
use Rattle.mpi_queues.specs.Firsts.{Taken}
use Rattle.mpi_queues.specs.Arrivals.{Arrival, given}

-- what a rank wants next
pub data Want : Type 0 where
  Wants : Op → Want
  Ended : Want

-- A deterministic rank, by its states.
pub record Process (S : Type 0) : Type 0 where
  pub begin : ℕ → S
  pub want : S → Want
  pub answer : S → Reply → S

-- one rank with its mailbox and its output
pub record Rank (S : Type 0) : Type 0 where
  pub machine : S
  pub mail : List Arrival
  pub output : List ℕ

-- what a turn did beside its change of the rank
pub data Did : Type 0 where
  Nothing : Did
  Sent : ℕ → Message → Did
  Local : Did
  Marked : Did

pub record Turned (S : Type 0) : Type 0 where
  pub rank : Rank S
  pub did : Did

-- a receive, and any operation, by how the rank's machine takes an answer
abbrev pub received : {S : Type 0} → (S → Reply → S) → Rank S → Option (Taken Arrival) → Turned S
received answer k None = record { rank = k; did = Nothing }
received answer k (Some t) = record { rank = record { machine = answer k.machine (Got t.taken.0 t.taken.1); mail = t.others; output = k.output }; did = Local }

abbrev pub acted : {S : Type 0} → (S → Reply → S) → Rank S → Want → Turned S
acted answer k (Wants (Send to m)) = record { rank = record k { machine = answer k.machine Done }; did = Sent to m }
acted answer k (Wants (Receive patterns)) = received answer k (given patterns k.mail)
acted answer k (Wants (Output bytes)) = record { rank = record k { machine = answer k.machine Done; output = k.output ++ bytes }; did = Local }
acted answer k (Wants Mark) = record { rank = record k { machine = answer k.machine Done }; did = Marked }
acted answer k Ended = record { rank = k; did = Nothing }

-- one turn of one rank
unfoldable pub turn : {S : Type 0} → Process S → Rank S → Turned S
turn P k = acted P.answer k (P.want k.machine)

-- where ranks begin, and their turns: all that a job has of its ranks
pub record Ranks (S : Type 0) : Type 0 where
  pub begin : ℕ → S
  pub turn_of : Rank S → Turned S

abbrev pub ranks : {S : Type 0} → Process S → Ranks S
ranks P = record { begin = P.begin; turn_of = turn P }

abbrev pub arrive : {S : Type 0} → Rank S → ℕ → Message → Rank S
arrive k s m = record k { mail = k.mail ++ (s, m) ∷ [] }

-- whether a turn made an operation
abbrev pub is_operation : Did → Bool
is_operation Nothing = false
is_operation (Sent to m) = true
is_operation Local = true
is_operation Marked = true
