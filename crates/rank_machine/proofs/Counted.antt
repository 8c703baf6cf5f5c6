-- Steps of a turn as a function.
use Rattle.std.proofs.Common.{◌≡◌, ℕ, zero, suc, ◌+◌, ◌-◌, ◌<◌, Bool, true, false, List, Option, Some, None, is_some, refl, sym, ap, ◌∙◌, subst, arith}
use Rattle.mpi_words.specs.declared.operation.Op.{Op}
use Rattle.mpi_words.specs.declared.operation.End.{End}
use Rattle.mpi_words.specs.declared.operation.Want.{Want}
use Rattle.mpi_words.specs.declared.operation.Want.TheVariants as want
use Rattle.runs.specs.Turn.{Act, Goes, is_last}
use Rattle.flat_code.specs.declared.code.FlatFunction.{FlatFunction}
use Rattle.rank_machine.specs.declared.running.Step.{Step}
use Rattle.rank_machine.specs.Placing.{Placing, act_of, begins, stepped}
use Rattle.rank_machine.specs.Running.{came_to}
use Rattle.rank_machine.specs.Turning.{then_on, where_allowed, turned_in, most_steps, most_is, gone_on}
use Rattle.rank_machine.proofs.Turns.{Stepped, begun_goes, one_step}

-- after a step that was the last, or wasn't
gone_by : (functions : List FlatFunction) (k n : ℕ) (q : Placing) (want : Option Want) (a : Act Placing Op End) → came_to want q ≡ a → is_some want ≡ is_last (came_to want q) → then_on a (turned_in functions k n) ≡ gone_on functions k n want q
gone_by functions k n q None a e l = ap (λ (x : Act Placing Op End). then_on x (turned_in functions k n)) (sym e)
gone_by functions k n q (Some want.Paused) a e l = absurd cc
gone_by functions k n q (Some (want.Wants o)) a e l = ap (λ (x : Act Placing Op End). then_on x (turned_in functions k n)) (sym e)
gone_by functions k n q (Some (want.Ended o)) a e l = ap (λ (x : Act Placing Op End). then_on x (turned_in functions k n)) (sym e)

gone : (functions : List FlatFunction) (k n : ℕ) (p q : Placing) (did : Step) (want : Option Want) → Stepped functions p q did want → then_on (stepped functions p) (turned_in functions k n) ≡ gone_on functions k n want q
gone functions k n p q did want s = gone_by functions k n q want (stepped functions p) (s.wanted.0 ∙ one_step functions p q did want s) (s.wanted.1 ∙ ap is_last (sym s.wanted.0))

-- a step that begins no statement
pub went_on : (functions : List FlatFunction) (n : ℕ) (p q : Placing) (did : Step) (want : Option Want) → begins functions p ≡ false → Stepped functions p q did want → (k : ℕ) → turned_in functions (suc k) n p ≡ gone_on functions k n want q
went_on functions n p q did want b s k =
    ap (λ t. where_allowed t n p (λ left. then_on (stepped functions p) (turned_in functions k left))) b ∙ gone functions k n p q did want s

-- one that begins a statement
pub began_on : (functions : List FlatFunction) (n m : ℕ) (p q : Placing) (did : Step) (want : Option Want) → n ≡ suc m → begins functions p ≡ true → Stepped functions p q did want → (k : ℕ) → turned_in functions (suc k) n p ≡ gone_on functions k m want q
began_on functions n m p q did want f b s k =
    ap (λ l. turned_in functions (suc k) l p) f
    ∙ ap (λ t. where_allowed t (suc m) p (λ left. then_on (stepped functions p) (turned_in functions k left))) b
    ∙ gone functions k m p q did want s

-- none may begin
pub paused_on : (functions : List FlatFunction) (n : ℕ) (p : Placing) → n ≡ 0 → begins functions p ≡ true → (k : ℕ) → turned_in functions (suc k) n p ≡ Goes p
paused_on functions n p z b k =
    ap (λ l. turned_in functions (suc k) l p) z
    ∙ ap (λ t. where_allowed t 0 p (λ left. then_on (stepped functions p) (turned_in functions k left))) b

-- ---- how many steps are left

one_of : (counter : ℕ) → counter < 18446744073709551615 → most_steps - counter ≡ suc (most_steps - (counter + 1))
one_of counter less = omega (arith, less, most_is)

-- one step more of a turn that has made so many
pub one_more : (functions : List FlatFunction) (limit left counter : ℕ) (start p : Placing) (a : ℕ → Act Placing Op End) → counter < 18446744073709551615 → turned_in functions most_steps limit start ≡ turned_in functions (most_steps - counter) left p → ((steps : ℕ) → turned_in functions (suc steps) left p ≡ a steps) →
    turned_in functions most_steps limit start ≡ a (most_steps - (counter + 1))
one_more functions limit left counter start p a less before step =
    before ∙ ap (λ k. turned_in functions k left p) (one_of counter less) ∙ step (most_steps - (counter + 1))
