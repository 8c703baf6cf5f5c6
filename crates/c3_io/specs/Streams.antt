-- All that a source has left, and what a sink was given, where they tell.
use Rattle.std.specs.Prelude.{◌≡◌, ℕ, ◌≤◌, ◌<◌, List, length, drop, Option, Some, IfSome}

-- these are all the bytes that were left, where they are told
abbrev pub AreAll : Option (List ℕ) → List ℕ → Type 0
AreAll left bytes = IfSome left (λ all. bytes ≡ all)

-- a source that tells what is left has given so many bytes from its front
abbrev pub Took : Option (List ℕ) → Option (List ℕ) → ℕ → Type 0
Took old new count = IfSome old (λ before. (count ≤ length before) × (new ≡ Some (drop count before)))

-- there were more bytes than that; where they are told, these are all of them
abbrev pub HasMoreThan : ℕ → Option (List ℕ) → Type 0
HasMoreThan limit left = (bytes : List ℕ) × AreAll left bytes × (limit < length bytes)

-- what contracts see of a source over a reader, or a sink over a writer
pub record Counted (T : Type 0) : Type 0 where
  pub stream : T
  pub faults : ℕ
