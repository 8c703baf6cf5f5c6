-- What is done at once, and never left for later.
use Rattle.std.specs.Prelude.{◌≡◌, ℕ, zero, suc, ◌+◌, ◌<◌, ◌≤◌, true, false, List, [], ◌∷◌, ◌==◌}
use Rattle.mpi_words.specs.declared.control.Control.{Control}
use Rattle.mpi_words.specs.declared.control.Control.TheVariants.{Request, Count, Ready, Stop, Stopped, Restored}
use Rattle.core_laws.specs.Protocol.{Protocol}
use Rattle.core_laws.specs.Invariant.{bit}
use Rattle.core_laws.specs.Handling.{all_below, ready_due}

-- the sum of f over what stands behind the first k
abbrev pub behind : {X : Type 0} → (X → ℕ) → ℕ → List X → ℕ
behind f k [] = 0
behind f zero (x ∷ q) = f x + behind f zero q
behind f (suc k) (x ∷ q) = behind f k q

-- one for a control for which stage i waits
abbrev pub kind : ℕ → Control → ℕ
kind i (Request l) = 0
kind i (Count l k) = bit (i == 0)
kind i (Ready l) = bit (i == 1)
kind i (Stop l) = bit (i == 2)
kind i (Stopped l) = bit (i == 3)
kind i Restored = 0

abbrev pub stops_on : List Control → ℕ
stops_on c = behind (kind 2) 0 c

-- No rank's Ready is due, and rank 0 has answered what it noted.
pub record Prompt (n : ℕ) (p : Protocol) : Type 0 where
  pub due : (r : ℕ) → r < n → ready_due n (p.layer r) ≡ false
  -- where all are noted ready, Stop was told
  pub noted : all_below n p.wave.ready ≡ true → p.wave.stop_told ≡ true
  -- where Stop was told and a rank logs yet, a Stop is on its channel
  pub stop : p.wave.stop_told ≡ true → (r : ℕ) → r < n → (p.layer r).logging ≡ true → 1 ≤ stops_on (p.control 0 r)
  -- not all are noted stopped, since then the line is committed
  pub stopped : all_below n p.wave.stopped ≡ false
