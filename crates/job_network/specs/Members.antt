-- When a rank in code stands for one of the definition, and what its turn comes to.
use Rattle.std.specs.Prelude.{◌≡◌, ℕ, suc, pred, ◌+◌, ◌<◌, Bool, true, false, List, [], ◌∷◌, ◌++◌, Option, if◌then◌else◌}
use Rattle.mpi_words.specs.declared.operation.End.{End}
use Rattle.mpi_words.specs.declared.operation.Reply.{Reply}
use Rattle.mpi_words.specs.declared.operation.Op.{Op}
use Rattle.late_logs.specs.declared.entry.Entry.{Entry}
use Rattle.late_logs.specs.declared.entry.Entry.TheVariants.{Late, Intra}
use Rattle.job_network.specs.Wants.{bytes_of}
use Rattle.core_laws.specs.Process.{Did, Turned, Want, Nothing, Sent, Local, Marked, is_operation}
use Rattle.core_laws.specs.Pausing.{Stepped, Stepping, Asks}
use Rattle.core_laws.specs.Replay.{Replaying}
use Rattle.core_laws.specs.Core.{one_turned}
use Rattle.core_laws.specs.CoreTies.{Running, IsRunning}
use Rattle.job_network.specs.declared.member.Member.{Member}
use Rattle.job_network.specs.declared.member.Did.{Did as Done}
use Rattle.job_network.specs.declared.member.Did.TheVariants as done

-- The definition's rank of a process, by where it begins, its turns, its answers, and that a want comes again.
abbrev pub stepping_of : {S : Type 0} → (ℕ → S) → (turned : ℕ → S → Stepped S) → (S → Reply → S) → ((limit : ℕ) (s : S) (w : Want) → (turned limit s).stop ≡ Asks w → turned limit (turned limit s).machine ≡ turned limit s) → Stepping S
stepping_of begin turned answered again = record { begin = begin; step = turned 4096; answer = answered; again = again 4096 }

abbrev pub running_of : {S : Type 0} → Member S → Running S
running_of m = record { machine = m.machine; mail = m.mail; bytes = m.bytes; ops = m.ops; log = m.log; left = m.left }

-- one of n ranks that stands for v, by how its machine has ended, what it has put out, and how many ranks it knows of
pub record IsMember {S : Type 0} (ended : S → Option End) (bytes among : S → ℕ) (n : ℕ) (m : Member S) (v : Replaying S) : Type 0 where
  pub running : IsRunning (running_of m) v
  pub end : m.end ≡ ended m.machine
  pub out : bytes m.machine ≡ m.bytes
  pub ranks : among m.machine ≡ n

abbrev pub did_of : Done → Did
did_of done.Nothing = Nothing
did_of (done.Sent to message) = Sent to message
did_of (done.Printed text) = Local
did_of done.Took = Local
did_of done.Marked = Marked

abbrev pub printed_by : Done → List ℕ
printed_by done.Nothing = []
printed_by (done.Sent to message) = []
printed_by (done.Printed text) = text
printed_by done.Took = []
printed_by done.Marked = []

abbrev pub GoesTo : ℕ → Done → Type 0
GoesTo n done.Nothing = Unit {0}
GoesTo n (done.Sent to message) = to < n
GoesTo n (done.Printed text) = Unit {0}
GoesTo n done.Took = Unit {0}
GoesTo n done.Marked = Unit {0}

-- a rank that did a mark stands just past it
abbrev pub AtMark : {S : Type 0} → (S → Type 0) → S → Done → Type 0
AtMark marked s done.Nothing = Unit {0}
AtMark marked s (done.Sent to message) = Unit {0}
AtMark marked s (done.Printed text) = Unit {0}
AtMark marked s done.Took = Unit {0}
AtMark marked s done.Marked = marked s

-- the member after a turn t from the rank v, that had made so many operations
pub record MakesTurn {S : Type 0} (ended : S → Option End) (bytes among : S → ℕ) (n before : ℕ) (m : Member S) (made : Done) (v : Replaying S) (t : Turned S) : Type 0 where
  pub did : did_of made ≡ t.did
  pub printed : v.rank.output ++ printed_by made ≡ t.rank.output
  pub goes : GoesTo n made
  pub ops : m.ops ≡ (if is_operation t.did then suc before else before)
  pub member : IsMember ended bytes among n m (one_turned v t)

-- a member whose machine was answered
pub record IsCompleted {S : Type 0} (answered : S → Reply → S) (ended : S → Option End) (bytes among : S → ℕ) (pending : S → Option Op) (reply : Reply) (old new : Member S) : Type 0 where
  pub machine : new.machine ≡ answered old.machine reply
  pub mail : new.mail ≡ old.mail
  pub same : new.bytes ≡ old.bytes
  pub ops : new.ops ≡ suc old.ops
  pub log : new.log ≡ old.log
  pub left : new.left ≡ pred old.left
  pub end : new.end ≡ ended new.machine
  pub out : bytes new.machine ≡ bytes old.machine + bytes_of (pending old.machine)
  pub ranks : among new.machine ≡ among old.machine

-- whether a log goes on with a late entry
abbrev pub begins_late : List Entry → Bool
begins_late [] = false
begins_late (Late source message ∷ log) = true
begins_late (Intra source ∷ log) = false
