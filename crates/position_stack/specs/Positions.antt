-- The sites of a machine's calls and of its mark.
use Rattle.std.specs.Prelude.{ℕ, List}

-- the sites, the bottom first, and how many of them a replay has given
pub record Positions : Type 0 where
  pub sites : List ℕ
  pub replayed : ℕ
