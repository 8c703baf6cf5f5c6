-- Ranks that pause: a turn may end before the rank wants an operation.
use Rattle.std.specs.Prelude.{◌≡◌, ℕ, zero, suc}
use Rattle.mpi_words.specs.declared.operation.Reply.{Reply}
use Rattle.core_laws.specs.Process.{Process, Ranks, Want, Ended, Rank, Nothing, Turned, acted}

-- where a turn of the machine stops
pub data Stop_at : Type 0 where
  Paused : Stop_at
  Asks : Want → Stop_at

-- the machine after a step, and where it stopped
pub record Stepped (S : Type 0) : Type 0 where
  pub machine : S
  pub stop : Stop_at

-- A deterministic rank by its steps: each ends in a pause or in what the rank wants.
pub record Stepping (S : Type 0) : Type 0 where
  pub begin : ℕ → S
  pub step : S → Stepped S
  pub answer : S → Reply → S
  -- a machine that wants something wants it again, and stays
  pub again : (s : S) (w : Want) → (step s).stop ≡ Asks w → step (step s).machine ≡ step s

-- a turn that stops there
abbrev pub stopped_at : {S : Type 0} → Stepping S → Rank S → Stop_at → Turned S
stopped_at P k Paused = record { rank = k; did = Nothing }
stopped_at P k (Asks w) = acted P.answer k w

abbrev pub with_machine : {S : Type 0} → Rank S → S → Rank S
with_machine k m = record { machine = m; mail = k.mail; output = k.output }

-- one turn of one rank: local steps, and at most one operation
abbrev pub step_turn : {S : Type 0} → Stepping S → Rank S → Turned S
step_turn P k = stopped_at P (with_machine k (P.step k.machine).machine) (P.step k.machine).stop

abbrev pub stepping : {S : Type 0} → Stepping S → Ranks S
stepping P = record { begin = P.begin; turn_of = step_turn P }

-- The process that has no pauses: a turn goes on to what the rank wants, through at most b pauses.
abbrev pub settle : {S : Type 0} → Stepped S → Stop_at → Stepped S → Stepped S
settle s Paused t = t
settle s (Asks w) t = s

abbrev pub settled : {S : Type 0} → Stepping S → ℕ → S → Stepped S
settled P zero m = P.step m
settled P (suc b) m = settle (P.step m) (P.step m).stop (settled P b (P.step m).machine)

abbrev pub wanted : Stop_at → Want
wanted Paused = Ended
wanted (Asks w) = w

abbrev pub without_pauses : {S : Type 0} → ℕ → Stepping S → Process S
without_pauses b P = record { begin = P.begin; want = λ m. wanted (settled P b m).stop; answer = λ m a. P.answer (settled P b m).machine a }
