-- Steps of a rank that waits for a reply, as rank 0 of three.
use Rattle.std.proofs.Common.{◌≡◌, ℕ, pos, Bool, true, false, List, [], ◌∷◌, Option, Some, None, refl}
use Rattle.c3_base.specs.declared.cell.Cell.{Cell}
use Rattle.mpi_words.specs.declared.message.Datatype.{Datatype}
use Rattle.mpi_words.specs.declared.message.Datatype.TheVariants.{Int, Long}
use Rattle.mpi_words.specs.declared.message.Message.{Message}
use Rattle.mpi_words.specs.declared.operation.Op.{Op}
use Rattle.mpi_words.specs.declared.operation.Op.TheVariants as op
use Rattle.mpi_words.specs.declared.operation.End.TheVariants.{Exit, Fault}
use Rattle.mpi_queues.specs.Pairs.{Queues}
use Rattle.mpi_effects.specs.declared.requests.Request.{Request}
use Rattle.mpi_effects.specs.declared.seat.Phase.TheVariants.{Inside}
use Rattle.c_memory.specs.Memory.{number}
use Rattle.c_meaning.specs.State.{State}
use Rattle.plain_job.specs.Job.{Runs, Ended, Rank, Job, step_of, move}
use Rattle.plain_job.specs.Turn.{lowest, has_step}

-- ---- what stands in them

abbrev pub message : Datatype → ℕ → Message
message kind n = record { context = 0; tag = pos 5; kind = kind; items = pos n ∷ [] }

-- one variable, with this cell
abbrev pub state : Cell → Option Request → State
state c asked = record {
  calls = [];
  memory = record { variables = record { serial = 1; cells = c ∷ [] } ∷ []; heap = []; next = 2; calls = 1; asked = 0 };
  seat = record { rank = 0; ranks = 3; any_source = true };
  phase = Inside;
  printed = 0;
  asked = asked;
}

-- three operations were completed
abbrev pub asking : Request → Rank
asking q = record { standing = Runs (state (number (pos 0)) (Some q)); output = 65 ∷ []; ops = 3 }

-- a fourth is, after which the variable has this value
abbrev pub answered : ℕ → Rank
answered n = record { standing = Runs (state (number (pos n)) None); output = 65 ∷ []; ops = 4 }

abbrev pub other : Rank
other = record { standing = Ended (Exit (pos 0)); output = []; ops = 0 }

abbrev pub job_of : Rank → Queues → Job
job_of r queues = record { ranks = r ∷ other ∷ other ∷ []; queues = queues }

-- what ranks 1 and 2 have sent to rank 0, and it to rank 1
abbrev pub with_messages : List Message → List Message → List Message → Queues
with_messages from_one from_two to_one = ([] ∷ from_one ∷ from_two ∷ []) ∷ (to_one ∷ [] ∷ [] ∷ []) ∷ ([] ∷ [] ∷ [] ∷ []) ∷ []

-- an int from any rank goes to the variable
abbrev pub receive : Request
receive = record {
  operation = op.Receive (record { source = None; context = 0; tag = Some (pos 5) } ∷ []);
  receipt = Some (record { buffer = record { serial = 1; place = pos 0 }; count = 1; kind = Int; status = None });
}

abbrev pub plain : Op → Request
plain o = record { operation = o; receipt = None }

abbrev pub next : Rank → Queues → Job
next r queues = step_of [] lowest (job_of r queues) 0

-- ---- operations

sent : next (asking (plain (op.Send 1 (message Int 8)))) (with_messages [] [] (message Int 7 ∷ [])) ≡ job_of (answered 0) (with_messages [] [] (message Int 7 ∷ message Int 8 ∷ []))
sent = refl

sent_nowhere : next (asking (plain (op.Send 3 (message Int 8)))) (with_messages [] [] []) ≡ job_of (answered 0) (with_messages [] [] [])
sent_nowhere = refl

printed : next (asking (plain (op.Output (66 ∷ 67 ∷ [])))) (with_messages [] [] []) ≡ job_of (record (record (answered 0) { output = 65 ∷ 66 ∷ 67 ∷ [] }) { standing = Runs (record (state (number (pos 0)) None) { printed = 2 }) }) (with_messages [] [] [])
printed = refl

marked : next (asking (plain op.Mark)) (with_messages [] [] []) ≡ job_of (answered 0) (with_messages [] [] [])
marked = refl

-- ---- a receive

-- from the lowest source, the first that it has sent
lowest_first : next (asking receive) (with_messages (message Int 7 ∷ message Int 8 ∷ []) (message Int 9 ∷ []) []) ≡ job_of (answered 7) (with_messages (message Int 8 ∷ []) (message Int 9 ∷ []) [])
lowest_first = refl

only_the_other : next (asking receive) (with_messages [] (message Int 9 ∷ []) []) ≡ job_of (answered 9) (with_messages [] [] [])
only_the_other = refl

-- it waits and counts nothing
waits : next (asking receive) (with_messages [] [] (message Int 7 ∷ [])) ≡ job_of (asking receive) (with_messages [] [] (message Int 7 ∷ []))
waits = refl

-- another datatype: it has taken the message, and is the rank's end
other_datatype : next (asking receive) (with_messages (message Long 7 ∷ []) [] []) ≡ job_of (record (answered 0) { standing = Ended (Fault 112) }) (with_messages [] [] [])
other_datatype = refl

-- a move of a run may take from any source, and waits where that has none
from_two : move [] (job_of (asking receive) (with_messages (message Int 7 ∷ []) (message Int 9 ∷ []) [])) (record { rank = 0; refuses = false; source = 2 }) ≡ job_of (answered 9) (with_messages (message Int 7 ∷ []) [] [])
from_two = refl

from_none : move [] (job_of (asking receive) (with_messages (message Int 7 ∷ []) [] [])) (record { rank = 0; refuses = false; source = 2 }) ≡ job_of (asking receive) (with_messages (message Int 7 ∷ []) [] [])
from_none = refl

-- ---- whether there is a step to make

abbrev pub possible : Rank → List Message → Bool
possible r from_one = has_step (job_of r (with_messages from_one [] [])) 0

no_match : possible (asking receive) [] ≡ false
no_match = refl

a_match : possible (asking receive) (message Long 7 ∷ []) ≡ true
a_match = refl

no_operation : possible (answered 0) [] ≡ true
no_operation = refl

ended : possible other [] ≡ false
ended = refl

no_rank : has_step (job_of (answered 0) (with_messages [] [] [])) 3 ≡ false
no_rank = refl
