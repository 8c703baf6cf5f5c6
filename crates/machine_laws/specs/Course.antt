-- What is done with a machine: turns, and an answer to each operation that one comes to.
use Rattle.std.specs.Prelude.{◌≡◌, ℕ, false, List, [], ◌∷◌}
use Rattle.mpi_words.specs.declared.operation.Op.{Op}
use Rattle.mpi_words.specs.declared.operation.End.{End}
use Rattle.mpi_words.specs.declared.operation.Reply.{Reply}
use Rattle.runs.specs.Turn.{Goes, Asks, Ends}
use Rattle.flat_code.specs.declared.code.FlatFunction.{FlatFunction}
use Rattle.flat_code.specs.Machine.{Machine, answered}
use Rattle.flat_code.specs.Machine as outcome
use Rattle.rank_machine.specs.Placing.{Placing, Turns}

-- with the operations that were answered, and their replies
pub data Course (functions : List FlatFunction) : Placing → List (Op × Reply) → Placing → Type 0 where
  stands : (p : Placing) → Course functions p [] p
  pauses : (p mid q : Placing) (asked : List (Op × Reply)) (limit : ℕ) → Turns functions limit p (Goes mid) → Course functions mid asked q → Course functions p asked q
  answers : (p mid q : Placing) (next : Machine) (asked : List (Op × Reply)) (limit : ℕ) (o : Op) (reply : Reply) →
      Turns functions limit p (Asks o mid) → answered mid.machine reply ≡ outcome.Goes false next → Course functions (record mid { machine = next }) asked q → Course functions p ((o, reply) ∷ asked) q

-- how it ends: by a turn, or by an answer
pub data Ended (functions : List FlatFunction) : Placing → List (Op × Reply) → End → Type 0 where
  by_turn : (p : Placing) (limit : ℕ) (e : End) → Turns functions limit p (Ends e) → Ended functions p [] e
  by_answer : (p mid : Placing) (limit : ℕ) (o : Op) (reply : Reply) (e : End) → Turns functions limit p (Asks o mid) → answered mid.machine reply ≡ outcome.Ends e → Ended functions p ((o, reply) ∷ []) e
