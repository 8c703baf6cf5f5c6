-- A turn as a function of the state that it begins in.
use Rattle.std.specs.Prelude.{◌≡◌, ℕ, zero, suc, refl, Bool, true, false, List, Option, Some, None}
use Rattle.mpi_words.specs.declared.operation.Op.{Op}
use Rattle.mpi_words.specs.declared.operation.End.{End}
use Rattle.mpi_words.specs.declared.operation.Want.{Want}
use Rattle.runs.specs.Turn.{Act, Goes, Asks, Ends}
use Rattle.flat_code.specs.declared.code.FlatFunction.{FlatFunction}
use Rattle.rank_machine.specs.Placing.{Placing, act_of, begins, stepped}

-- from a state that a step led to the turn goes on; else it is over
abbrev pub then_on : Act Placing Op End → (Placing → Act Placing Op End) → Act Placing Op End
then_on (Goes p) on = on p
then_on (Asks o p) on = Asks o p
then_on (Ends e) on = Ends e

-- The next step, by whether it begins a statement and how many still may: how many may after it. It pauses before one too many
abbrev pub where_allowed : Bool → ℕ → Placing → (ℕ → Act Placing Op End) → Act Placing Op End
where_allowed false limit p on = on limit
where_allowed true zero p on = Goes p
where_allowed true (suc limit) p on = on limit

-- a turn of at most so many steps in which so many statements may begin
abbrev pub turned_in : List FlatFunction → ℕ → ℕ → Placing → Act Placing Op End
turned_in functions zero limit p = Goes p
turned_in functions (suc steps) limit p = where_allowed (begins functions p) limit p (λ left. then_on (stepped functions p) (turned_in functions steps left))

-- so many steps no turn makes
unfoldable pub most_steps : ℕ
most_steps = 18446744073709551615

-- a turn that goes on with so many steps, or has come to what is wanted
abbrev pub gone_on : List FlatFunction → ℕ → ℕ → Option Want → Placing → Act Placing Op End
gone_on functions steps limit None p = turned_in functions steps limit p
gone_on functions steps limit (Some w) p = act_of w p

pub most_is : most_steps ≡ suc 18446744073709551614
unfolding most_steps
most_is = refl
