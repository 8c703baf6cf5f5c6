-- The pick that makes a choice.
use Rattle.std.proofs.Common.{◌≡◌, ℕ, Bool, true, false, refl}
use Rattle.plain_runs.specs.Source.{refuses}

abbrev pub pick_for : Bool → ℕ
pick_for true = 1
pick_for false = 0

pub pick_back : (b : Bool) → refuses (pick_for b) ≡ b
pick_back true = refl
pick_back false = refl
