-- What is true of the protocol of every job, and bounds its counters.
use Rattle.std.specs.Prelude.{◌≡◌, ℕ, ◌+◌, ◌<◌, ◌≤◌, ◌^◌, true, length}
use Rattle.core_laws.specs.Protocol.{Protocol}
use Rattle.core_laws.specs.Invariant.{Invariant}

-- No count of one rank's messages to another passes this, nor do all that came in three epochs and are on their way.
pub record Counted (n most : ℕ) (p : Protocol) : Type 0 where
  pub sent : (s r : ℕ) → s < n → r < n → (p.layer s).sent r ≤ most
  pub come : (s r : ℕ) → s < n → r < n → (p.layer r).got s + (p.layer r).old s + (p.layer r).early s + length (p.channel s r) ≤ most

-- after so many events since the beginning or a restart, which has counts of at most 2^31
pub record Sound (n events : ℕ) (p : Protocol) : Type 0 where
  pub kept : Invariant n p
  pub last : p.wave.under_way ≡ true → p.wave.line < 65535
  pub counted : Counted n (2 ^ 31 + events) p
