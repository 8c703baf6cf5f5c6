-- A replay that ends: some list of turns and deliveries leads to a state in which no rank restores.
use Rattle.std.specs.Prelude.{◌≡◌, ℕ, suc, ◌<◌, true, List, [], ◌∷◌}
use Rattle.late_logs.specs.declared.entry.Entry.{Entry}
use Rattle.late_logs.specs.declared.entry.Entry.TheVariants.{Intra as Intra_entry}
use Rattle.mpi_words.specs.declared.message.Message.{Message}
use Rattle.core_laws.specs.Process.{Process, turn, is_operation}
use Rattle.core_laws.specs.Quiet.{Event, Turn, Deliver}
use Rattle.core_laws.specs.Replay.{Back, back_next}

abbrev pub IsDone : {S : Type 0} → ℕ → Back S → Type 0
IsDone n b = (r : ℕ) → r < n → ((b.one r).log ≡ []) × ((b.one r).left ≡ 0)

-- a message that a delivery brings, and the log after its entry
pub record Delivery {S : Type 0} (b : Back S) (s r : ℕ) (log : List Entry) : Type 0 where
  pub message : Message
  pub rest : List Message
  pub has : b.channel s r ≡ message ∷ rest

-- an event of a restoring rank that has an effect
pub data Helps {S : Type 0} (P : Process S) (n : ℕ) (b : Back S) : Event → Type 0 where
  Turn_helps : {r : ℕ} → r < n → (j : ℕ) → (b.one r).left ≡ suc j → is_operation (turn P (b.one r).rank).did ≡ true → Helps P n b (Turn r)
  Delivery_helps : {s r : ℕ} → s < n → r < n → (log : List Entry) → (b.one r).log ≡ Intra_entry s ∷ log → Delivery b s r log → Helps P n b (Deliver s r)

abbrev pub Plan : {S : Type 0} → Process S → ℕ → Back S → List Event → Type 0
Plan P n b [] = IsDone n b
Plan P n b (e ∷ es) = Helps P n b e × Plan P n (back_next P n b e) es

abbrev pub HasPlan : {S : Type 0} → Process S → ℕ → Back S → Type 0
HasPlan P n b = (es : List Event) × Plan P n b es
