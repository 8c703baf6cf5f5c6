-- A rank that wants something wants it again, and stays.
use Rattle.std.proofs.Common.{◌≡◌, ℕ, zero, suc, Bool, true, false, Option, Some, None, List, refl, sym, ap, ◌∙◌, subst}
use Rattle.mpi_words.specs.declared.operation.Op.{Op}
use Rattle.mpi_words.specs.declared.operation.End.{End}
use Rattle.core_laws.specs.Process as asks
use Rattle.core_laws.specs.Pausing.{Stepped, Paused, Asks}
use Rattle.mpi_effects.specs.declared.requests.Request.{Request}
use Rattle.flat_code.specs.declared.code.FlatFunction.{FlatFunction}
use Rattle.flat_code.specs.Machine.{Outcome, step_in}
use Rattle.flat_code.specs.Machine as outcome
use Rattle.flat_code.specs.Placed.{none_fits}
use Rattle.runs.specs.Turn.{Act}
use Rattle.runs.specs.Turn as turn
use Rattle.rank_machine.specs.Layout.{Layout}
use Rattle.rank_machine.specs.Placing.{Placing, Standing, begins, begins_in, laid, laid_after, laid_in, placed, stepped}
use Rattle.rank_machine.specs.Turning.{turned_in, most_steps, most_is, then_on, where_allowed}
use Rattle.rank_image.specs.Rank.{Rank, Runs, Over, Lost, came_to, ends, turned, ended}
use Rattle.rank_image.specs.Asking.{HasAsked, Comes, newest_comes}

-- ---- where a step or a turn asks, its operation waits

abbrev pub Has : Act Placing Op End → Type 0
Has (turn.Goes q) = Unit {0}
Has (turn.Asks o q) = HasAsked q.machine o
Has (turn.Ends e) = Unit {0}

place_has : (functions : List FlatFunction) (p : Placing) (l : Layout) (x : Outcome) → Comes functions p.machine x → Has (placed l x)
place_has functions p l (outcome.Goes began n) h = tt
place_has functions p l (outcome.Asks o n) h = h.1
place_has functions p l (outcome.Ends e) h = tt

step_has_by : (functions : List FlatFunction) (p : Placing) (l : Layout) (asked : Option Request) → p.machine.asked ≡ asked → Has (placed l (elim asked [ None ↦ step_in functions (none_fits p.heap) p.machine p.machine.frames | Some q ↦ outcome.Asks q.operation p.machine ]))
step_has_by functions p l None e = place_has functions p l (step_in functions (none_fits p.heap) p.machine p.machine.frames) (newest_comes functions (none_fits p.heap) p.machine p.machine.frames)
step_has_by functions p l (Some q) e = record { request = q; asked = e; operation = refl }

step_has : (functions : List FlatFunction) (p : Placing) → Has (stepped functions p)
step_has functions p = step_has_by functions p (laid_after functions p) p.machine.asked refl

then_has : (a : Act Placing Op End) (on : Placing → Act Placing Op End) → Has a → ((q : Placing) → Has (on q)) → Has (then_on a on)
then_has (turn.Goes p) on h rest = rest p
then_has (turn.Asks o p) on h rest = h
then_has (turn.Ends e) on h rest = tt

allowed_has : (t : Bool) (limit : ℕ) (p : Placing) (on : ℕ → Act Placing Op End) → ((left : ℕ) → Has (on left)) → Has (where_allowed t limit p on)
allowed_has false limit p on h = h limit
allowed_has true zero p on h = tt
allowed_has true (suc limit) p on h = h limit

turn_has : (functions : List FlatFunction) (steps limit : ℕ) (p : Placing) → Has (turned_in functions steps limit p)
turn_has functions zero limit p = tt
turn_has functions (suc steps) limit p = allowed_has (begins functions p) limit p (λ left. then_on (stepped functions p) (turned_in functions steps left)) (λ left. then_has (stepped functions p) (turned_in functions steps left) (step_has functions p) (turn_has functions steps left))

-- ---- and is wanted again

none_begins : (functions : List FlatFunction) (q : Placing) (r : Request) → q.machine.asked ≡ Some r → begins functions q ≡ false
none_begins functions q r e = ap (λ (asked : Option Request). elim asked [ None ↦ begins_in functions q.machine.frames | Some x ↦ false ]) e

asks_so : (functions : List FlatFunction) (q : Placing) (r : Request) → q.machine.asked ≡ Some r → stepped functions q ≡ turn.Asks r.operation q
asks_so functions q r e = ap (λ (asked : Option Request). placed (elim asked [ None ↦ laid_in functions q.machine (laid q) q.machine.frames | Some x ↦ laid q ]) (elim asked [ None ↦ step_in functions (none_fits q.heap) q.machine q.machine.frames | Some x ↦ outcome.Asks x.operation q.machine ])) e

once_more : (functions : List FlatFunction) (steps limit : ℕ) (q : Placing) (o : Op) → HasAsked q.machine o → turned_in functions (suc steps) limit q ≡ turn.Asks o q
once_more functions steps limit q o h =
    ap (λ t. where_allowed t limit q (λ left. then_on (stepped functions q) (turned_in functions steps left))) (none_begins functions q h.request h.asked)
    ∙ ap (λ (a : Act Placing Op End). then_on a (turned_in functions steps limit)) (asks_so functions q h.request h.asked)
    ∙ ap (λ (x : Op). turn.Asks x q) h.operation

at_once : (functions : List FlatFunction) (limit : ℕ) (q : Placing) (o : Op) → HasAsked q.machine o → turned_in functions most_steps limit q ≡ turn.Asks o q
at_once functions limit q o h = subst (λ steps. turned_in functions steps limit q ≡ turn.Asks o q) (sym most_is) (once_more functions 18446744073709551614 limit q o h)

stays : (s : Standing) (limit : ℕ) (a : Act Placing Op End) (w : asks.Want) → Has a → (came_to s a).stop ≡ Asks w → turned limit (came_to s a).machine ≡ came_to s a
stays s limit (turn.Goes p) w h e = absurd cc
stays s limit (turn.Asks o p) w h e = ap (λ (a : Act Placing Op End). came_to (record s { placing = p }) a) (at_once s.functions limit p o h)
stays s limit (turn.Ends x) w h e = refl

pub again : (limit : ℕ) (p : Rank) (w : asks.Want) → (turned limit p).stop ≡ Asks w → turned limit (turned limit p).machine ≡ turned limit p
again limit (Runs s) w e = stays s limit (turned_in s.functions most_steps limit s.placing) w (turn_has s.functions most_steps limit s.placing) e
again limit (Over x ranks bytes) w e = refl
again limit Lost w e = absurd cc

-- one that has ended stays
pub rests : (limit : ℕ) (p : Rank) (end : End) → ended p ≡ Some end → turned limit p ≡ record { machine = p; stop = Asks asks.Ended }
rests limit (Runs s) end e = absurd cc
rests limit (Over x ranks bytes) end e = refl
rests limit Lost end e = absurd cc
