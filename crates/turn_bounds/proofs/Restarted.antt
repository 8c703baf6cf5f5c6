-- Restart mode leaves a machine settled, and so does what comes back at its mark.
use Rattle.std.proofs.Common.{◌≡◌, ℕ, zero, suc, ◌≤◌, List, [], ◌∷◌, length, map, drop, Option, Some, None, Result, Ok, Err, refl, sym, ap, subst, arith}
use Rattle.std.specs.List.{All}
use Rattle.c_memory.specs.Memory.{Memory, enter}
use Rattle.image_text.specs.declared.object.SavedObject.{SavedObject}
use Rattle.image_text.specs.declared.state.RankState.{RankState}
use Rattle.flat_code.specs.declared.code.Code.{Code}
use Rattle.flat_code.specs.declared.code.FlatFunction.{FlatFunction}
use Rattle.flat_code.specs.declared.code.Site.{Site}
use Rattle.flat_code.specs.declared.code.Instr.{Instr}
use Rattle.flat_code.specs.declared.code.Instr.TheVariants.{Step, Zero, Set, Call, Malloc, Free, Goto, Unless, Return, Mark, Push, Pop, Leave, Enter, Print, Mpi}
use Rattle.flat_code.specs.Machine.{Frame, Machine, instr_at, lengths_in}
use Rattle.flat_code.specs.Placed.{Block}
use Rattle.flat_code.specs.Restart.{Restarting, place_named, jumps, reenters, enters_again, reacts, reenter_in, reenter, passed_mark, numbered, newest_serials, put_back}
use Rattle.rank_machine.specs.Layout.{Layout, laid_by}
use Rattle.rank_machine.specs.Placing.{Placing, laid, laid_in}
use Rattle.rank_machine.specs.Saving.{block_of, saved_by}
use Rattle.rank_machine.specs.WellFormed.{IsWellFormed}
use Rattle.turn_bounds.specs.Spaced.{HaveCells}
use Rattle.turn_bounds.specs.Settled.{is_call, length_of, AreWaiting, AreSettled, IsSettled, below}
use Rattle.turn_bounds.proofs.Alike.{AskedOk, entered_asked}

-- ---- an instruction of restart mode

abbrev StillSettled : List FlatFunction → Layout → Option Restarting → Type 0
StillSettled functions l None = Unit {0}
StillSettled functions l (Some r) = AreSettled functions r.machine.memory.asked l.heap (below r.machine.frames)

jumps_kept : (functions : List FlatFunction) (l : Layout) (m : Machine) (top : Frame) (frames : List Frame) (left : List ℕ) (named : Option ℕ) → AreSettled functions m.memory.asked l.heap frames → StillSettled functions l (jumps m top frames left named)
jumps_kept functions l m top frames left None s = tt
jumps_kept functions l m top frames left (Some place) s = s

again_kept : (functions : List FlatFunction) (l : Layout) (m : Machine) (top : Frame) (frames : List Frame) (left : List ℕ) (sites : List Site) → AreSettled functions m.memory.asked l.heap frames → StillSettled functions l (enters_again m top frames left sites)
again_kept functions l m top frames [] sites s = tt
again_kept functions l m top frames (site ∷ left) sites s = jumps_kept functions l m top frames left (place_named sites site) s

reenters_kept : (functions : List FlatFunction) (l : Layout) (m : Machine) (left : List ℕ) (f : ℕ) (r : Result Memory ℕ) → AskedOk m.memory r → AreSettled functions m.memory.asked l.heap m.frames → StillSettled functions l (reenters functions m left f r)
reenters_kept functions l m left f (Err code) k s = tt
reenters_kept functions l m left f (Ok memory) k s = subst (λ (n : ℕ). AreSettled functions n l.heap m.frames) (sym k) s

reacts_kept : (functions : List FlatFunction) (l : Layout) (m : Machine) (top : Frame) (frames : List Frame) (left : List ℕ) (x : Option Instr) → m.frames ≡ top ∷ frames → instr_at functions top ≡ x → AreSettled functions m.memory.asked l.heap frames → StillSettled functions (laid_by m.memory top l x) (reacts functions m top frames left x)
reacts_kept functions l m top frames left None w e s = tt
reacts_kept functions l m top frames left (Some Step) w e s = tt
reacts_kept functions l m top frames left (Some (Zero k)) w e s = tt
reacts_kept functions l m top frames left (Some (Set place value)) w e s = tt
reacts_kept functions l m top frames left (Some (Call into f arguments)) w e s =
    let waits : AreWaiting functions (top ∷ frames) = (ap is_call e, s.waiting) in
    let here : AreSettled functions m.memory.asked l.heap (top ∷ frames) = record { within = s.within; asked = s.asked; cells = s.cells; waiting = waits } in
    reenters_kept functions l m left f (enter m.memory (lengths_in functions f)) (entered_asked m.memory (lengths_in functions f)) (subst (λ (fs : List Frame). AreSettled functions m.memory.asked l.heap fs) (sym w) here)
reacts_kept functions l m top frames left (Some (Malloc place bytes each)) w e s = tt
reacts_kept functions l m top frames left (Some (Free p)) w e s = tt
reacts_kept functions l m top frames left (Some (Goto to)) w e s = tt
reacts_kept functions l m top frames left (Some (Unless test to)) w e s = tt
reacts_kept functions l m top frames left (Some (Return x)) w e s = tt
reacts_kept functions l m top frames left (Some (Mark site)) w e s = tt
reacts_kept functions l m top frames left (Some (Push site)) w e s = tt
reacts_kept functions l m top frames left (Some Pop) w e s = tt
reacts_kept functions l m top frames left (Some Leave) w e s = tt
reacts_kept functions l m top frames left (Some (Enter variables sites)) w e s = again_kept functions l m top frames left sites s
reacts_kept functions l m top frames left (Some (Print format arguments)) w e s = tt
reacts_kept functions l m top frames left (Some (Mpi call)) w e s = tt

newest_kept : (functions : List FlatFunction) (l : Layout) (m : Machine) (left : List ℕ) (frames : List Frame) → m.frames ≡ frames → AreSettled functions m.memory.asked l.heap (below frames) → StillSettled functions (laid_in functions m l frames) (reenter_in functions m left frames)
newest_kept functions l m left [] w s = tt
newest_kept functions l m left (top ∷ frames) w s = reacts_kept functions l m top frames left (instr_at functions top) w refl s

pub reenter_kept : (functions : List FlatFunction) (p q : Placing) (left more : List ℕ) → IsSettled functions p → reenter functions (record { machine = p.machine; left = left }) ≡ Some (record { machine = q.machine; left = more }) → laid q ≡ laid_in functions p.machine (laid p) p.machine.frames → IsSettled functions q
reenter_kept functions p q left more s e h =
    let k = newest_kept functions (laid p) p.machine left p.machine.frames refl s in
    let r : StillSettled functions (laid_in functions p.machine (laid p) p.machine.frames) (Some (record { machine = q.machine; left = more })) = subst (StillSettled functions (laid_in functions p.machine (laid p) p.machine.frames)) e k in
    subst (λ (l : Layout). AreSettled functions q.machine.memory.asked l.heap (below q.machine.frames)) (sym h) r

-- ---- the mark

numbered_waiting : (functions : List FlatFunction) (serials : List ℕ) (frames : List Frame) → AreWaiting functions frames → AreWaiting functions (numbered serials frames)
numbered_waiting functions serials [] h = tt
numbered_waiting functions serials (f ∷ frames) h = (h.0, numbered_waiting functions (drop f.variables.count serials) frames h.1)

marked_waiting : (functions : List FlatFunction) (serials : List ℕ) (frames : List Frame) → AreWaiting functions (below frames) → AreWaiting functions (below (passed_mark (numbered serials frames)))
marked_waiting functions serials [] h = tt
marked_waiting functions serials (top ∷ frames) h = numbered_waiting functions (drop top.variables.count serials) frames h

saved_cells : (os : List SavedObject) → All (λ o. 1 ≤ length o.cells) os → HaveCells (map length_of (map block_of os))
saved_cells [] h = tt
saved_cells (o ∷ os) h = (h zero o (omega arith), saved_cells os (λ k d l. h (suc k) d (omega (arith, l))))

pub back_settled : (functions : List FlatFunction) (c : Code) (p q : Placing) (left : List ℕ) (s : RankState) → IsSettled functions p → IsWellFormed c s → q.machine ≡ put_back (saved_by s) (record { machine = p.machine; left = left }) → q.heap ≡ map block_of s.objects → IsSettled functions q
back_settled functions c p q left s h f e b =
    let saved = saved_by s in
    let done : AreSettled functions 65536 (map block_of s.objects) (below (put_back saved (record { machine = p.machine; left = left })).frames) = record {
      within = f.apart;
      asked = f.apart;
      cells = saved_cells s.objects f.cells;
      waiting = marked_waiting functions (newest_serials saved.variables) p.machine.frames h.waiting;
    } in
    let there = subst (λ (m : Machine). AreSettled functions m.memory.asked (map block_of s.objects) (below m.frames)) (sym e) done in
    subst (λ (bs : List Block). AreSettled functions q.machine.memory.asked bs (below q.machine.frames)) (sym b) there
