-- Steps of a turn.
use Rattle.std.proofs.Common.{◌≡◌, ℕ, suc, Bool, true, false, List, [], ◌∷◌, Option, Some, None, is_some, refl, sym, ap, ◌∙◌, subst}
use Rattle.std.specs.Prelude.{MatchOption}
use Rattle.c_memory.specs.Memory.{Memory}
use Rattle.mpi_words.specs.declared.operation.Op.{Op}
use Rattle.mpi_words.specs.declared.operation.End.{End}
use Rattle.mpi_words.specs.declared.operation.Want.{Want}
use Rattle.mpi_words.specs.declared.operation.Want.TheVariants as want
use Rattle.mpi_effects.specs.declared.requests.Request.{Request}
use Rattle.runs.specs.Turn.{Act, Goes, Asks, is_last, pauses, begins_one, goes, stops}
use Rattle.flat_code.specs.declared.code.FlatFunction.{FlatFunction}
use Rattle.flat_code.specs.declared.code.Instr.{Instr}
use Rattle.flat_code.specs.declared.code.Instr.TheVariants as instr
use Rattle.flat_code.specs.Machine.{Frame, Machine, acts, instr_at, step, step_in}
use Rattle.flat_code.specs.Machine as outcome
use Rattle.flat_code.specs.Placed.{none_fits}
use Rattle.rank_machine.specs.Layout.{Layout}
use Rattle.rank_machine.specs.declared.running.Step.{Step}
use Rattle.rank_machine.specs.declared.running.Step.TheVariants.{Local, Wants, Ended}
use Rattle.rank_machine.specs.Placing.{Placing, laid, laid_after, placed, stepped, is_step, begins_in, begins, Turns, IsTurn}
use Rattle.rank_machine.specs.Running.{outcome_of, goes_on, act_by, came_to, IsWanted}

-- ---- a step that begins a statement isn't the last

act_goes : (functions : List FlatFunction) (refuses : Memory → ℕ → Bool) (m : Machine) (l : Layout) (top : Frame) (below : List Frame) (x : Option Instr) → is_step x ≡ true → is_last (placed l (acts functions refuses m top below x)) ≡ false
act_goes functions refuses m l top below None h = absurd cc
act_goes functions refuses m l top below (Some instr.Step) h = refl
act_goes functions refuses m l top below (Some (instr.Zero k)) h = absurd cc
act_goes functions refuses m l top below (Some (instr.Set place value)) h = absurd cc
act_goes functions refuses m l top below (Some (instr.Call into f arguments)) h = absurd cc
act_goes functions refuses m l top below (Some (instr.Malloc place bytes each)) h = absurd cc
act_goes functions refuses m l top below (Some (instr.Free e)) h = absurd cc
act_goes functions refuses m l top below (Some (instr.Goto to)) h = absurd cc
act_goes functions refuses m l top below (Some (instr.Unless e to)) h = absurd cc
act_goes functions refuses m l top below (Some (instr.Return e)) h = absurd cc
act_goes functions refuses m l top below (Some (instr.Mark site)) h = absurd cc
act_goes functions refuses m l top below (Some (instr.Push site)) h = absurd cc
act_goes functions refuses m l top below (Some instr.Pop) h = absurd cc
act_goes functions refuses m l top below (Some instr.Leave) h = absurd cc
act_goes functions refuses m l top below (Some (instr.Enter variables sites)) h = absurd cc
act_goes functions refuses m l top below (Some (instr.Print format arguments)) h = absurd cc
act_goes functions refuses m l top below (Some (instr.Mpi call)) h = absurd cc

newest_goes : (functions : List FlatFunction) (refuses : Memory → ℕ → Bool) (m : Machine) (l : Layout) (frames : List Frame) → begins_in functions frames ≡ true → is_last (placed l (step_in functions refuses m frames)) ≡ false
newest_goes functions refuses m l [] h = absurd cc
newest_goes functions refuses m l (top ∷ below) h = act_goes functions refuses m l top below (instr_at functions top) h

asked_goes : (functions : List FlatFunction) (refuses : Memory → ℕ → Bool) (m : Machine) (l : Layout) (asked : Option Request) → elim asked [ None ↦ begins_in functions m.frames | Some q ↦ false ] ≡ true → is_last (placed l (elim asked [ None ↦ step_in functions refuses m m.frames | Some q ↦ outcome.Asks q.operation m ])) ≡ false
asked_goes functions refuses m l None h = newest_goes functions refuses m l m.frames h
asked_goes functions refuses m l (Some q) h = absurd cc

pub begun_goes : (functions : List FlatFunction) (p : Placing) → begins functions p ≡ true → is_last (stepped functions p) ≡ false
begun_goes functions p h = asked_goes functions (none_fits p.heap) p.machine (laid_after functions p) p.machine.asked h

-- ---- a step with what it leaves where

waited : (p : Placing) (asked : Option Request) → elim asked [ None ↦ Goes p | Some q ↦ Asks q.operation p ] ≡ placed (laid p) (elim asked [ None ↦ outcome.Goes false p.machine | Some q ↦ outcome.Asks q.operation p.machine ])
waited p None = refl
waited p (Some q) = refl

by_outcome : (did : Step) (q : Placing) → act_by did q ≡ placed (laid q) (outcome_of did q.machine)
by_outcome (Local began) q = refl
by_outcome Wants q = waited q q.machine.asked
by_outcome (Ended end) q = refl

ended_anyhow : (l other : Layout) (did : Step) (q : Placing) → goes_on did ≡ false → placed l (outcome_of did q.machine) ≡ placed other (outcome_of did q.machine)
ended_anyhow l other (Local began) q h = absurd cc
ended_anyhow l other Wants q h = absurd cc
ended_anyhow l other (Ended end) q h = refl

laid_if : (l other : Layout) (did : Step) (q : Placing) (on : Bool) → goes_on did ≡ on → (on ≡ true → l ≡ other) → placed l (outcome_of did q.machine) ≡ placed other (outcome_of did q.machine)
laid_if l other did q true e h = ap (λ (x : Layout). placed x (outcome_of did q.machine)) (h refl)
laid_if l other did q false e h = ended_anyhow l other did q e

-- what a step did, and what a turn makes of it
pub record Stepped (functions : List FlatFunction) (p q : Placing) (did : Step) (want : Option Want) : Type 0 where
  pub outcome : outcome_of did q.machine ≡ step functions (none_fits p.heap) p.machine
  pub laid : goes_on did ≡ true → laid q ≡ laid_after functions p
  pub wanted : IsWanted want did q

pub one_step : (functions : List FlatFunction) (p q : Placing) (did : Step) (want : Option Want) → Stepped functions p q did want → act_by did q ≡ stepped functions p
one_step functions p q did want s = by_outcome did q ∙ laid_if (laid q) (laid_after functions p) did q (goes_on did) refl s.laid ∙ ap (placed (laid_after functions p)) s.outcome

-- a turn that goes on, or has come to an end
abbrev pub GoesOn : List FlatFunction → ℕ → ℕ → Placing → Placing → Option Want → Type 0
GoesOn functions left less p q want = MatchOption want
    ((a : Act Placing Op End) → Turns functions less q a → Turns functions left p a)
    (λ w. IsTurn functions left p w q)

-- a step that begins none
went_by : (functions : List FlatFunction) (n : ℕ) (p q : Placing) (want : Option Want) → begins functions p ≡ false → came_to want q ≡ stepped functions p → is_some want ≡ is_last (stepped functions p) → GoesOn functions n n p q want
went_by functions n p q None b e l = λ a t. goes n p q a b (sym e) t
went_by functions n p q (Some w) b e l = subst (λ (a : Act Placing Op End). Turns functions n p a) (sym e) (stops n p b (sym l))

pub went : (functions : List FlatFunction) (n : ℕ) (p q : Placing) (did : Step) (want : Option Want) → begins functions p ≡ false → Stepped functions p q did want → GoesOn functions n n p q want
went functions n p q did want b s =
    let e = one_step functions p q did want s in
    went_by functions n p q want b (s.wanted.0 ∙ e) (s.wanted.1 ∙ ap is_last e)

-- one that begins a statement
began_by : (functions : List FlatFunction) (n m : ℕ) (p q : Placing) (want : Option Want) → n ≡ suc m → begins functions p ≡ true → came_to want q ≡ stepped functions p → is_some want ≡ false → GoesOn functions n m p q want
began_by functions n m p q None f b e l = λ a t. begins_one n m p q a f b (sym e) t
began_by functions n m p q (Some w) f b e l = absurd cc

pub began : (functions : List FlatFunction) (n m : ℕ) (p q : Placing) (did : Step) (want : Option Want) → n ≡ suc m → begins functions p ≡ true → Stepped functions p q did want → GoesOn functions n m p q want
began functions n m p q did want f b s =
    let e = one_step functions p q did want s in
    began_by functions n m p q want f b (s.wanted.0 ∙ e) (s.wanted.1 ∙ ap is_last e ∙ begun_goes functions p b)

-- none may begin
pub paused : (functions : List FlatFunction) (n : ℕ) (p : Placing) → n ≡ 0 → begins functions p ≡ true → IsTurn functions n p want.Paused p
paused functions n p z b = pauses n p z b
