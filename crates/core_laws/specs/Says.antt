-- The lines that controls to rank 0 name.
use Rattle.std.specs.Prelude.{◌≡◌, ℕ, suc, ◌<◌}
use Rattle.std.specs.List.{AllByRecursion}
use Rattle.mpi_words.specs.declared.control.Control.{Control}
use Rattle.mpi_words.specs.declared.control.Control.TheVariants.{Request, Count, Ready, Stop, Stopped, Restored}
use Rattle.core_laws.specs.Protocol.{Protocol}

-- a Ready or Stopped that names this line
abbrev pub OfLine : ℕ → Control → Type 0
OfLine line (Ready l) = l ≡ line
OfLine line (Stopped l) = l ≡ line
OfLine line (Request l) = Unit {0}
OfLine line (Count l k) = Unit {0}
OfLine line (Stop l) = Unit {0}
OfLine line Restored = Unit {0}

-- each Ready and each Stopped that is on its way to rank 0 names the line of the wave under way
abbrev pub Says : ℕ → Protocol → Type 0
Says n p = (r : ℕ) → r < n → AllByRecursion (OfLine (suc p.wave.line)) (p.control r 0)
