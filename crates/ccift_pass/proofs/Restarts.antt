-- Restart mode comes back to the mark that its sites lead to, and to no other.
use Rattle.std.proofs.Common.{◌≡◌, ℕ, zero, suc, ◌+◌, ◌*◌, ◌≤◌, List, [], ◌∷◌, ◌++◌, map, reverse, length, Option, Some, None, Bool, true, false, Result, Ok, Err, refl, sym, ap, ◌∙◌, subst, arith}
use Rattle.std.specs.Prelude.{nat_lt, if◌then◌else◌}
use Rattle.std.proofs.lemmas.Bool.Decides.{nat_tests}
use Rattle.c_kernel.specs.declared.program.Expr.{Expr}
use Rattle.c_kernel.specs.declared.program.Target.{Target}
use Rattle.mpi_effects.specs.declared.seat.Phase.TheVariants.{Before}
use Rattle.c_values.specs.declared.value.Variables.{Variables}
use Rattle.c_values.specs.Variables.{variables_from}
use Rattle.c_memory.specs.Memory.{Memory, total, used, empty, add_variables}
use Rattle.c_memory.proofs.Enters.{added_used}
use Rattle.flat_code.specs.declared.code.Code.{Code}
use Rattle.flat_code.specs.declared.code.FlatFunction.{FlatFunction}
use Rattle.flat_code.specs.declared.code.Instr.TheVariants.{Call, Mark}
use Rattle.flat_code.specs.Machine.{Frame, Machine, lengths_in, descriptors, seat_of}
use Rattle.flat_code.specs.Restart.{Restarting, restarting, jumps, reenters, reacts, reenter_in, reenter, Reenters, instr_here, IsAtMark, Stage, instr_on, IsPlaceOf, HasRoom, LeadsAt, to_mark, by_call}
use Rattle.ccift_pass.proofs.Calls.{Sized, added_calls}
use Rattle.ccift_pass.specs.Stages.{stage}
use Rattle.ccift_pass.proofs.Leads.{onto}

-- a machine with other calls
abbrev pub with_calls : Machine → List Frame → Memory → List ℕ → Machine
with_calls m frames memory described = record m { frames = frames; memory = memory; described = described }

abbrev frame : ℕ → ℕ → Variables → Frame
frame f p v = record { function = f; place = p; variables = v }

-- where restart mode comes to
pub record Back (functions : List FlatFunction) (base : Machine) (from : Restarting) (sites : List ℕ) (stages : List Stage) : Type 0 where
  pub frames : List Frame
  pub memory : Memory
  pub described : List ℕ
  pub turns : ℕ
  pub count : turns + 1 ≡ 2 * length sites
  pub runs : Reenters functions turns from (record { machine = with_calls base frames memory described; left = [] })
  pub site : ℕ
  pub mark : instr_here functions frames ≡ Some (Mark site)
  pub by_stages : map stage frames ≡ stages
  pub sized : Sized functions frames
  pub calls : memory.calls ≡ length frames

module _ (functions : List FlatFunction) (base : Machine) where
  abbrev at : ℕ → ℕ → Variables → List Frame → Memory → List ℕ → List ℕ → Restarting
  at f p v below memory described left = record { machine = with_calls base (frame f p v ∷ below) memory described; left = left }

  -- the first instruction goes to the place of the next site
  enters : (s : Stage) (v : Variables) (below : List Frame) (memory : Memory) (described : List ℕ) (site : ℕ) (left : List ℕ) → IsPlaceOf functions site s →
      reenter functions (at s.function 0 v below memory described (site ∷ left)) ≡ Some (at s.function s.place v below memory (descriptors v ++ described) left)
  enters s v below memory described site left is =
      let m = with_calls base (frame s.function 0 v ∷ below) memory described in
      ap (reacts functions m (frame s.function 0 v) below (site ∷ left)) is.enter
      ∙ ap (jumps m (frame s.function 0 v) below left) is.named

  entered_by : (m : Machine) (left : List ℕ) (g : ℕ) (t : Bool) (memory : Memory) → t ≡ false →
      reenters functions m left g (if t then Err 108 else Ok memory) ≡ reenters functions m left g (Ok memory)
  entered_by m left g t memory e = ap (λ b. reenters functions m left g (if b then Err 108 else Ok memory)) e

  abbrev entered_memory : Memory → ℕ → Memory
  entered_memory memory g = add_variables (record memory { calls = memory.calls + 1 }) (lengths_in functions g)

  abbrev new_variables : Memory → ℕ → Variables
  new_variables memory g = variables_from memory.next (length (lengths_in functions g))

  -- a Call enters its function
  calls_on : (s : Stage) (v : Variables) (below : List Frame) (memory : Memory) (described : List ℕ) (left : List ℕ) (into : Option Target) (g : ℕ) (arguments : List Expr) → instr_on functions s ≡ Some (Call into g arguments) → HasRoom functions (used memory) g →
      reenter functions (at s.function s.place v below memory described left) ≡ Some (at g 0 (new_variables memory g) (frame s.function s.place v ∷ below) (entered_memory memory g) described left)
  calls_on s v below memory described left into g arguments e room =
      let m = with_calls base (frame s.function s.place v ∷ below) memory described in
      let fits : nat_lt 8192 (used memory + 1 + total (lengths_in functions g)) ≡ false = grind (arith, nat_tests, room) in
      ap (reacts functions m (frame s.function s.place v) below left) e
      ∙ entered_by m left g (nat_lt 8192 (used memory + 1 + total (lengths_in functions g))) (entered_memory memory g) fits

  room_of : (u f : ℕ) (sites : List ℕ) (stages : List Stage) → LeadsAt functions u f sites stages → HasRoom functions u f
  room_of _ _ _ _ (to_mark u site n s room is e) = room
  room_of _ _ _ _ (by_call u site g s into arguments sites stages room is e rest) = room

  entered_used : (memory : Memory) (g : ℕ) → used (entered_memory memory g) ≡ used memory + 1 + total (lengths_in functions g)
  entered_used memory g = let e = added_used (record memory { calls = memory.calls + 1 }) (lengths_in functions g) in omega (arith, e)

  pub comes : (u f : ℕ) (sites : List ℕ) (stages : List Stage) → LeadsAt functions u f sites stages →
      (first : ℕ) (below : List Frame) (memory : Memory) (described : List ℕ) → used memory ≡ u + 1 + total (lengths_in functions f) → memory.calls ≡ suc (length below) → Sized functions below →
      Back functions base (at f 0 (variables_from first (length (lengths_in functions f))) below memory described sites) sites (onto stages (map stage below))
  comes _ _ _ _ (to_mark u site n s room is e) first below memory described here calls sized =
      let v = variables_from first (length (lengths_in functions s.function)) in
      let there = at s.function s.place v below memory (descriptors v ++ described) [] in
      record {
        frames = frame s.function s.place v ∷ below;
        memory = memory;
        described = descriptors v ++ described;
        turns = 1;
        count = refl;
        runs = (there, enters s v below memory described site [] is, refl);
        site = n;
        mark = e;
        by_stages = refl;
        sized = ((first, refl), sized);
        calls = calls;
      }
  comes _ _ _ _ (by_call u site g s into arguments sites stages room is e rest) first below memory described here calls sized =
      let v = variables_from first (length (lengths_in functions s.function)) in
      let there = at s.function s.place v below memory (descriptors v ++ described) sites in
      let fits : HasRoom functions (used memory) g = subst (λ k. HasRoom functions k g) (sym here) (room_of _ g sites stages rest) in
      let in_used = entered_used memory g in
      let in_calls = added_calls (lengths_in functions g) (record memory { calls = memory.calls + 1 }) in
      let inner = comes _ g sites stages rest memory.next (frame s.function s.place v ∷ below) (entered_memory memory g) (descriptors v ++ described)
      (omega (arith, in_used, here)) (omega (arith, in_calls, calls)) ((first, refl), sized) in
      let entered = at g 0 (new_variables memory g) (frame s.function s.place v ∷ below) (entered_memory memory g) (descriptors v ++ described) sites in
      record {
        frames = inner.frames;
        memory = inner.memory;
        described = inner.described;
        turns = suc (suc inner.turns);
        count = let c = inner.count in omega (arith, c);
        runs = (there, enters s v below memory described site sites is, (entered, calls_on s v below memory (descriptors v ++ described) sites into g arguments e fits, inner.runs));
        site = inner.site;
        mark = inner.mark;
        by_stages = inner.by_stages;
        sized = inner.sized;
        calls = inner.calls;
      }

-- ---- not before

some_same : (r t : Restarting) → ◌≡◌ {A = Option Restarting} (Some r) (Some t) → r ≡ t
some_same r t e = cc e

stops_in : (functions : List FlatFunction) (m : Machine) (left : List ℕ) (frames : List Frame) (site : ℕ) → instr_here functions frames ≡ Some (Mark site) → reenter_in functions m left frames ≡ None
stops_in functions m left [] site e = refl
stops_in functions m left (top ∷ below) site e = ap (reacts functions m top below left) e

pub at_most : (functions : List FlatFunction) (k n : ℕ) (r t u : Restarting) → Reenters functions k r t → IsAtMark functions t.machine → Reenters functions n r u → n ≤ k
at_most functions zero zero r t u here mark runs = omega arith
at_most functions zero (suc n) r t u here mark runs =
    let stops : reenter functions r ≡ None = subst (λ x. reenter functions x ≡ None) (sym here) (stops_in functions t.machine t.left t.machine.frames mark.site mark.mark) in
    let no : ◌≡◌ {A = Option Restarting} None (Some runs.0) = sym stops ∙ runs.1 in
    absurd (cc no)
at_most functions (suc k) zero r t u here mark runs = omega arith
at_most functions (suc k) (suc n) r t u here mark runs =
    let same : here.0 ≡ runs.0 = some_same here.0 runs.0 (sym here.1 ∙ runs.1) in
    let rest : n ≤ k = at_most functions k n here.0 t u here.2 mark (subst (λ x. Reenters functions n x u) (sym same) runs.2) in
    omega (arith, rest)

-- ---- from the start

abbrev pub began : Code → ℕ → ℕ → List ℕ → Machine
began c rank ranks sites = record {
  frames = frame c.main 0 (variables_from 1 (length (lengths_in c.functions c.main))) ∷ [];
  sites = reverse sites;
  described = [];
  memory = add_variables (record empty { calls = 1 }) (lengths_in c.functions c.main);
  seat = seat_of c rank ranks;
  phase = Before;
  printed = 0;
  asked = None;
}

abbrev unless_full : Bool → Memory → Result Memory ℕ
unless_full t m = if t then Err 108 else Ok m

start_by : (c : Code) (rank ranks : ℕ) (sites : List ℕ) (t : Bool) → t ≡ false →
    ◌≡◌ {A = Restarting} (record {
      machine = record (elim (unless_full t (began c rank ranks sites).memory) [
        | Err code ↦ record { frames = []; sites = []; described = []; memory = empty; seat = seat_of c rank ranks; phase = Before; printed = 0; asked = None }
        | Ok m ↦ record { frames = (began c rank ranks sites).frames; sites = []; described = []; memory = m; seat = seat_of c rank ranks; phase = Before; printed = 0; asked = None }
      ]) { sites = reverse sites };
      left = sites;
    }) (record { machine = began c rank ranks sites; left = sites })
start_by c rank ranks sites true e = absurd (cc e)
start_by c rank ranks sites false e = refl

pub begins : (c : Code) (rank ranks : ℕ) (sites : List ℕ) → HasRoom c.functions 0 c.main → restarting c rank ranks sites ≡ record { machine = began c rank ranks sites; left = sites }
begins c rank ranks sites room =
    let fits : nat_lt 8192 (used empty + 1 + total (lengths_in c.functions c.main)) ≡ false = grind (arith, nat_tests, room) in
    start_by c rank ranks sites (nat_lt 8192 (used empty + 1 + total (lengths_in c.functions c.main))) fits

pub comes_from_start : (c : Code) (rank ranks : ℕ) (sites : List ℕ) (stages : List Stage) → LeadsAt c.functions 0 c.main sites stages → Back c.functions (began c rank ranks sites) (restarting c rank ranks sites) sites (onto stages [])
comes_from_start c rank ranks sites stages leads =
    let base = began c rank ranks sites in
    let is = begins c rank ranks sites (room_of c.functions base 0 c.main sites stages leads) in
    let u = added_used (record empty { calls = 1 }) (lengths_in c.functions c.main) in
    let calls = added_calls (lengths_in c.functions c.main) (record empty { calls = 1 }) in
    subst (λ r. Back c.functions base r sites (onto stages [])) (sym is)
    (comes c.functions base 0 c.main sites stages leads 1 [] base.memory [] (omega (arith, u)) (omega (arith, calls)) tt)
