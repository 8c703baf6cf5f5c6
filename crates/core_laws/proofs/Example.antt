-- Two ranks, a wave, and a restart, computed.
use Rattle.std.specs.Prelude.{ℕ, zero, suc, ℤ, pos, List, [], ◌∷◌, ◌++◌, None}
use Rattle.mpi_words.specs.declared.message.Message.{Message}
use Rattle.mpi_words.specs.declared.message.Datatype.TheVariants.{Int}
use Rattle.mpi_words.specs.declared.pattern.Pattern.{Pattern}
use Rattle.mpi_words.specs.declared.operation.Op.TheVariants.{Send, Receive, Mark}
use Rattle.mpi_words.specs.declared.operation.Reply.{Reply}
use Rattle.mpi_words.specs.declared.operation.Reply.TheVariants.{Done, Got}
use Rattle.core_laws.specs.Process.{Ranks, Process, Want, Wants, Ended}
use Rattle.core_laws.specs.Quiet.{Turn, Deliver, Begin_wave}
use Rattle.core_laws.specs.Effects.{Effect, Writes, Saves, Logs, Commits, effects_of}
use Rattle.core_laws.specs.Core.{Core}
use Rattle.core_laws.specs.CoreEvents.{Core_event, next_of, Single, Sweep, Kill, Session_event, Core_does, Restart}

-- a rank by its number, what is left of its operations, and what it got
pub record Two : Type 0 where
  pub left : List Want
  pub got : List ℤ

abbrev pub any : Pattern
any = record { source = None; context = 0; tag = None }

abbrev pub letter : ℕ → Message
letter k = record { context = 0; tag = pos k; kind = Int; items = [] }

abbrev pub program : ℕ → List Want
program zero = Wants (Send 1 (letter 7)) ∷ Wants Mark ∷ Wants (Receive (any ∷ [])) ∷ Wants Mark ∷ []
program (suc r) = Wants Mark ∷ Wants (Receive (any ∷ [])) ∷ Wants (Send 0 (letter 8)) ∷ []

abbrev pub foremost : List Want → Want
foremost [] = Ended
foremost (w ∷ l) = w

abbrev pub others : List Want → List Want
others [] = []
others (w ∷ l) = l

abbrev pub heard : List ℤ → Reply → List ℤ
heard l Done = l
heard l (Got s m) = l ++ m.tag ∷ []

abbrev pub two : Process Two
two = record {
  begin = λ r. record { left = program r; got = [] };
  want = λ k. foremost k.left;
  answer = λ k a. record { left = others k.left; got = heard k.got a };
}

abbrev pub does : Core_event → Session_event
does e = Core_does e

-- Both save. The letter comes late and is logged, and the answer to it comes within the wave. The four sweeps commit line 1.
abbrev pub wave_events : List Session_event
wave_events = does (Single Begin_wave) ∷ does Sweep ∷ does (Single (Turn 0)) ∷ does (Single (Turn 0)) ∷ does (Single (Turn 1)) ∷ does (Single (Deliver 0 1)) ∷ does (Single (Turn 1)) ∷ does (Single (Turn 1)) ∷ does (Single (Deliver 1 0)) ∷ does Sweep ∷ does Sweep ∷ does Sweep ∷ does Sweep ∷ []

-- Rank 1 is killed, and all restart from the line.
abbrev pub restart_events : List Session_event
restart_events = wave_events ++ does (Single (Turn 0)) ∷ does (Kill 1) ∷ Restart ∷ []

-- A wave has no effect while they restore; they replay; then one has.
abbrev pub replay_events : List Session_event
replay_events = restart_events ++ does (Single Begin_wave) ∷ does (Single (Turn 0)) ∷ does (Single (Turn 1)) ∷ does (Single (Turn 1)) ∷ does (Single (Deliver 1 0)) ∷ does Sweep ∷ does (Single Begin_wave) ∷ []

-- wave, sweep, two turns of rank 0, one of rank 1, and then three sweeps or four
abbrev pub plain_events : List Core_event
plain_events = Single Begin_wave ∷ Sweep ∷ Single (Turn 0) ∷ Single (Turn 0) ∷ Single (Turn 1) ∷ Sweep ∷ Sweep ∷ Sweep ∷ []

abbrev pub all_effects : {S : Type 0} → Ranks S → ℕ → Core S → List Core_event → List (Effect S)
all_effects P n c [] = []
all_effects P n c (e ∷ es) = effects_of P n c e ++ all_effects P n (next_of P n c e) es

-- which effect, and of which rank or line
abbrev pub kinds : {S : Type 0} → List (Effect S) → List (ℕ × ℕ)
kinds [] = []
kinds (Writes r bytes ∷ l) = (0, r) ∷ kinds l
kinds (Saves r k early ∷ l) = (1, r) ∷ kinds l
kinds (Logs r log ops ∷ l) = (2, r) ∷ kinds l
kinds (Commits n ∷ l) = (3, n) ∷ kinds l
