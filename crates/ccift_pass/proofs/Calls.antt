-- The calls under way have their variables in memory, and each stands at the Call of the one above it.
use Rattle.std.proofs.Common.{◌≡◌, ℕ, zero, suc, ◌+◌, ◌-◌, ◌≤◌, List, [], ◌∷◌, ◌++◌, length, take, Option, Some, None, Bool, true, false, Result, Ok, Err, refl, sym, ap, ◌∙◌, subst, arith}
use Rattle.std.specs.Prelude.{pos, nat_lt, nat_eq, if◌then◌else◌}
use Rattle.std.proofs.lemmas.Bool.Decides.{nat_tests}
use Rattle.std.proofs.Math.Seq.{take-append_seam}
use Rattle.std.proofs.lemmas.List.{length-append, length-replicate, map-append}
use Rattle.c3_base.specs.declared.cell.Cell.{Cell}
use Rattle.mpi_words.specs.declared.operation.Op.{Op}
use Rattle.mpi_words.specs.declared.operation.Reply.{Reply}
use Rattle.mpi_words.specs.declared.operation.Reply.TheVariants as reply
use Rattle.c_kernel.specs.declared.program.Expr.{Expr}
use Rattle.c_kernel.specs.declared.program.Place.{Place}
use Rattle.c_kernel.specs.declared.program.Target.{Target}
use Rattle.mpi_effects.specs.declared.seat.Seat.{Seat}
use Rattle.mpi_effects.specs.declared.seat.Phase.{Phase}
use Rattle.mpi_effects.specs.declared.seat.Phase.TheVariants.{Before}
use Rattle.mpi_effects.specs.declared.requests.Request.{Request}
use Rattle.mpi_effects.specs.declared.requests.Receipt.{Receipt}
use Rattle.c_values.specs.Variables.{variables_from}
use Rattle.c_memory.specs.Memory.{Memory, Object, null, fresh, total, number, cells_in, used, add_variable, add_variables, leave, free, store, zeroed, with_arguments, malloc, cells_asked, empty}
use Rattle.c_values.specs.Value.{is_false, read_of, variable_of, place_of, value_of, values_of}
use Rattle.c_values.specs.Text.{printed}
use Rattle.mpi_effects.specs.Mpi.{Effect, effect, received}
use Rattle.mpi_effects.specs.Requests.{receipt_of}
use Rattle.flat_code.specs.declared.code.Code.{Code}
use Rattle.flat_code.specs.declared.code.FlatFunction.{FlatFunction}
use Rattle.flat_code.specs.declared.code.Instr.{Instr}
use Rattle.flat_code.specs.declared.code.Instr.TheVariants.{Step, Zero, Set, Call, Malloc, Free, Goto, Unless, Return, Mark, Push, Pop, Leave, Enter, Print, Mpi}
use Rattle.flat_code.specs.Machine.{Frame, Machine, Outcome, Goes, Asks, Ends, lengths_in, instr_at, target_in, step, step_in, acts, with_ok, goes_with, stores, awaited, comes_back, returned, comes_to, answered, taken_in, finished, start, seat_of}
use Rattle.ccift_lower.specs.Runs.{Ran, stayed, went, did}
use Rattle.ccift_pass.proofs.Keeps.{Extent, extent, extents, Keeps, kept, KeepsOk, keeps_arguments, keeps_zeroed, keeps_store, keeps_malloc, keeps_free, keeps_received, EffectKeeps, keeps_effect}

-- variables of such lengths, with their serials from a first one on
abbrev pub laid : ℕ → List ℕ → List Extent
laid first [] = []
laid first (n ∷ ns) = record { serial = first; length = n } ∷ laid (first + 1) ns

abbrev pub extents_of : List FlatFunction → List Frame → List Extent
extents_of functions [] = []
extents_of functions (top ∷ below) = extents_of functions below ++ laid top.variables.first (lengths_in functions top.function)

-- the stack's cells that calls take
abbrev pub taken : List FlatFunction → List Frame → ℕ
taken functions [] = 0
taken functions (top ∷ below) = taken functions below + 1 + total (lengths_in functions top.function)

-- each call has as many variables as its function
abbrev pub Sized : List FlatFunction → List Frame → Type 0
Sized functions [] = Unit {0}
Sized functions (top ∷ below) = ((first : ℕ) × (top.variables ≡ variables_from first (length (lengths_in functions top.function)))) × Sized functions below

-- main is the oldest call, and each waits at a Call of the function above
abbrev pub CalledBy : List FlatFunction → ℕ → ℕ → List Frame → Type 0
CalledBy functions main f [] = f ≡ main
CalledBy functions main f (caller ∷ below) = (into : Option Target) × (arguments : List Expr) × (instr_at functions caller ≡ Some (Call into f arguments)) × CalledBy functions main caller.function below

abbrev pub Called : List FlatFunction → ℕ → List Frame → Type 0
Called functions main [] = Unit {0}
Called functions main (top ∷ below) = CalledBy functions main top.function below

pub record Framed (functions : List FlatFunction) (main : ℕ) (frames : List Frame) (m : Memory) : Type 0 where
  pub variables : extents m.variables ≡ extents_of functions frames
  pub calls : m.calls ≡ length frames
  pub room : taken functions frames ≤ 8192
  pub sized : Sized functions frames
  pub called : Called functions main frames

-- ---- extents

abbrev total_of : List Extent → ℕ
total_of [] = 0
total_of (e ∷ es) = e.length + total_of es

total_append : (a b : List Extent) → total_of (a ++ b) ≡ total_of a + total_of b
total_append [] b = omega arith
total_append (e ∷ a) b = let h = total_append a b in omega (arith, h)

total_laid : (first : ℕ) (ns : List ℕ) → total_of (laid first ns) ≡ total ns
total_laid first [] = refl
total_laid first (n ∷ ns) = ap (λ k. n + k) (total_laid (first + 1) ns)

length_laid : (first : ℕ) (ns : List ℕ) → length (laid first ns) ≡ length ns
length_laid first [] = refl
length_laid first (n ∷ ns) = let h = length_laid (first + 1) ns in omega (arith, h)

total_cells : (os : List Object) → cells_in os ≡ total_of (extents os)
total_cells [] = refl
total_cells (o ∷ os) = ap (λ k. length o.cells + k) (total_cells os)

total_frames : (functions : List FlatFunction) (frames : List Frame) → length frames + total_of (extents_of functions frames) ≡ taken functions frames
total_frames functions [] = refl
total_frames functions (top ∷ below) =
    let h = total_frames functions below in
    let a = total_append (extents_of functions below) (laid top.variables.first (lengths_in functions top.function)) in
    let l = total_laid top.variables.first (lengths_in functions top.function) in
    omega (arith, h, a, l)

used_taken : (functions : List FlatFunction) (main : ℕ) (frames : List Frame) (m : Memory) → Framed functions main frames m → used m ≡ taken functions frames
used_taken functions main frames m h =
    let c = total_cells m.variables in
    let e = ap total_of h.variables in
    let t = total_frames functions frames in
    let n = h.calls in
    omega (arith, c, e, t, n)

length_extents : (os : List Object) → length os ≡ length (extents os)
length_extents [] = refl
length_extents (o ∷ os) = let h = length_extents os in omega (arith, h)

take_extents : (n : ℕ) (os : List Object) → extents (take n os) ≡ take n (extents os)
take_extents zero os = refl
take_extents (suc n) [] = refl
take_extents (suc n) (o ∷ os) = ap (λ l. extent o ∷ l) (take_extents n os)

-- ---- calls that begin and end

append_assoc_one : (a : List Extent) (e : Extent) (b : List Extent) → (a ++ e ∷ []) ++ b ≡ a ++ (e ∷ b)
append_assoc_one [] e b = refl
append_assoc_one (x ∷ a) e b = ap (λ l. x ∷ l) (append_assoc_one a e b)

added : (ns : List ℕ) (m : Memory) → extents (add_variables m ns).variables ≡ extents m.variables ++ laid m.next ns
added [] m = sym (append_nil (extents m.variables))
  where
    append_nil : (l : List Extent) → l ++ [] ≡ l
    append_nil [] = refl
    append_nil (x ∷ l) = ap (λ k. x ∷ k) (append_nil l)
added (n ∷ ns) m =
    let one : extents (m.variables ++ fresh m.next n ∷ []) ≡ extents m.variables ++ record { serial = m.next; length = n } ∷ [] =
    map-append extent m.variables (fresh m.next n ∷ []) ∙ ap (λ k. extents m.variables ++ record { serial = m.next; length = k } ∷ []) (length-replicate n null) in
    added ns (add_variable m n) ∙ ap (λ l. l ++ laid (m.next + 1) ns) one ∙ append_assoc_one (extents m.variables) (record { serial = m.next; length = n }) (laid (m.next + 1) ns)

pub added_calls : (ns : List ℕ) (m : Memory) → (add_variables m ns).calls ≡ m.calls
added_calls [] m = refl
added_calls (n ∷ ns) m = added_calls ns (add_variable m n)

laid_first : (first : ℕ) (ns : List ℕ) → laid first ns ≡ laid (variables_from first (length ns)).first ns
laid_first first [] = refl
laid_first first (n ∷ ns) =
    let some : nat_eq (suc (length ns)) 0 ≡ false = grind (arith, nat_tests) in
    ap (λ t. laid (if t then 0 else first) (n ∷ ns)) (sym some)

abbrev new_frame : List FlatFunction → ℕ → ℕ → Frame
new_frame functions f first = record { function = f; place = 0; variables = variables_from first (length (lengths_in functions f)) }

module _ (functions : List FlatFunction) (main : ℕ) where
  begun : (f : ℕ) (frames : List Frame) (m : Memory) → Framed functions main frames m → used m + 1 + total (lengths_in functions f) ≤ 8192 → CalledBy functions main f frames →
      Framed functions main (new_frame functions f m.next ∷ frames) (add_variables (record m { calls = m.calls + 1 }) (lengths_in functions f))
  begun f frames m h room called = record {
    variables = added (lengths_in functions f) (record m { calls = m.calls + 1 }) ∙ ap (λ l. l ++ laid m.next (lengths_in functions f)) h.variables ∙ ap (λ l. extents_of functions frames ++ l) (laid_first m.next (lengths_in functions f));
    calls = let c = added_calls (lengths_in functions f) (record m { calls = m.calls + 1 }) in let d = h.calls in omega (arith, c, d);
    room = let u = used_taken functions main frames m h in omega (arith, u, room);
    sized = ((m.next, refl), h.sized);
    called = called;
  }

  -- memory that keeps, and calls of which the newest stands elsewhere
  goes_on : (top : Frame) (below : List Frame) (m n : Memory) (place : ℕ) → Keeps m n → Framed functions main (top ∷ below) m → Framed functions main (record top { place = place } ∷ below) n
  goes_on top below m n place k h = record {
    variables = k.extents ∙ h.variables;
    calls = k.calls ∙ h.calls;
    room = h.room;
    sized = h.sized;
    called = h.called;
  }

  same_frames : (frames : List Frame) (m n : Memory) → Keeps m n → Framed functions main frames m → Framed functions main frames n
  same_frames frames m n k h = record {
    variables = k.extents ∙ h.variables;
    calls = k.calls ∙ h.calls;
    room = h.room;
    sized = h.sized;
    called = h.called;
  }

  below_called : (f : ℕ) (frames : List Frame) → CalledBy functions main f frames → Called functions main frames
  below_called f [] h = tt
  below_called f (caller ∷ below) h = h.3

  left_count : (top : Frame) (below : List Frame) (m : Memory) → Framed functions main (top ∷ below) m → length m.variables - top.variables.count ≡ length (extents_of functions below)
  left_count top below m h =
      let a = length_extents m.variables ∙ ap length h.variables ∙ length-append (extents_of functions below) (laid top.variables.first (lengths_in functions top.function)) in
      let l = length_laid top.variables.first (lengths_in functions top.function) in
      let s = ap (λ v. v.count) h.sized.0.1 in
      omega (arith, a, l, s)

  ended : (top : Frame) (below : List Frame) (m : Memory) → Framed functions main (top ∷ below) m → Framed functions main below (leave m top.variables.count)
  ended top below m h = record {
    variables = take_extents (length m.variables - top.variables.count) m.variables
        ∙ ap (λ k. take k (extents m.variables)) (left_count top below m h)
        ∙ ap (take (length (extents_of functions below))) h.variables
        ∙ take-append_seam (extents_of functions below) (laid top.variables.first (lengths_in functions top.function));
    calls = let c = h.calls in omega (arith, c);
    room = let r = h.room in omega (arith, r);
    sized = h.sized.1;
    called = below_called top.function below h.called;
  }

pub record Sound (functions : List FlatFunction) (main : ℕ) (seat : Seat) (m : Machine) : Type 0 where
  pub framed : Framed functions main m.frames m.memory
  pub seats : m.seat ≡ seat

-- of the machine that goes on or asks
abbrev pub Holds : (Machine → Type 0) → Outcome → Type 0
Holds P (Goes b m) = P m
Holds P (Asks o m) = P m
Holds P (Ends e) = Unit {0}

holds_ok : (P : Machine → Type 0) {A : Type 0} (x : Result A ℕ) (g : A → Outcome) → ((a : A) → Holds P (g a)) → Holds P (with_ok x g)
holds_ok P (Err code) g h = tt
holds_ok P (Ok a) g h = h a

holds_kept : (P : Machine → Type 0) (m : Memory) (x : Result Memory ℕ) (g : Memory → Outcome) → KeepsOk m x → ((n : Memory) → Keeps m n → Holds P (g n)) → Holds P (with_ok x g)
holds_kept P m (Err code) g k h = tt
holds_kept P m (Ok n) g k h = h n k

holds_if : (P : Machine → Type 0) (t : Bool) (a b : Outcome) → Holds P a → Holds P b → Holds P (if t then a else b)
holds_if P true a b h k = h
holds_if P false a b h k = k

-- ---- what an instruction comes to

module _ (functions : List FlatFunction) (main : ℕ) (seat : Seat) where
  abbrev S : Machine → Type 0
  S = Sound functions main seat

  abbrev F : List Frame → Memory → Type 0
  F = Framed functions main

  holds_stores : (m : Machine) (top : Frame) (below : List Frame) (next : ℕ) (place : Place Expr) (v : Cell) → F (top ∷ below) m.memory → m.seat ≡ seat → Holds S (stores m top below next place v)
  holds_stores m top below next place v h e =
      holds_ok S (place_of place top.variables m.memory) _ (λ p.
      holds_kept S m.memory (store m.memory p v) (goes_with m top below next) (keeps_store m.memory p v) (λ n k.
      record { framed = goes_on functions main top below m.memory n next k h; seats = e }))

  holds_awaited : (m : Machine) (caller : Frame) (below : List Frame) (into : Option Target) (v : Cell) → F (caller ∷ below) m.memory → m.seat ≡ seat → Holds S (awaited m caller below into v)
  holds_awaited m caller below None v h e = record { framed = goes_on functions main caller below m.memory m.memory (caller.place + 1) (kept m.memory) h; seats = e }
  holds_awaited m caller below (Some t) v h e = holds_stores m caller below (caller.place + 1) t.place (read_of t.kind v) h e

  holds_back : (m : Machine) (frames : List Frame) (v : Cell) → F frames m.memory → m.seat ≡ seat → Holds S (comes_back functions m frames v)
  holds_back m [] v h e = tt
  holds_back m (caller ∷ below) v h e = holds_awaited m caller below (target_in (instr_at functions caller)) v h e

  holds_returned : (m : Machine) (top : Frame) (below : List Frame) (v : Cell) → F (top ∷ below) m.memory → m.seat ≡ seat → Holds S (returned functions m top below v)
  holds_returned m top below v h e = holds_back (record m { frames = below; memory = leave m.memory top.variables.count }) below v (ended functions main top below m.memory h) e

  entered : (m : Machine) (frames : List Frame) (f : ℕ) (vs : List Cell) (t : Bool) → nat_lt 8192 (used m.memory + 1 + total (lengths_in functions f)) ≡ t → F frames m.memory → CalledBy functions main f frames → m.seat ≡ seat →
      Holds S (with_ok (if t then Err 108 else Ok (add_variables (record m.memory { calls = m.memory.calls + 1 }) (lengths_in functions f))) (λ memory. Goes false (record m {
        frames = new_frame functions f m.memory.next ∷ frames;
        memory = with_arguments memory m.memory.next vs;
      })))
  entered m frames f vs true t h called e = tt
  entered m frames f vs false t h called e =
      let room : used m.memory + 1 + total (lengths_in functions f) ≤ 8192 = grind (arith, nat_tests, t) in
      let memory = add_variables (record m.memory { calls = m.memory.calls + 1 }) (lengths_in functions f) in
      record { framed = same_frames functions main (new_frame functions f m.memory.next ∷ frames) memory (with_arguments memory m.memory.next vs) (keeps_arguments memory m.memory.next vs) (begun functions main f frames m.memory h room called); seats = e }

  holds_come_to : (m : Machine) (top : Frame) (below : List Frame) (next : ℕ) (memory : Memory) (phase : Phase) (r : Option Request) → Keeps m.memory memory → F (top ∷ below) m.memory → m.seat ≡ seat →
      Holds S (comes_to m top below next (record { memory = memory; phase = phase; request = r }))
  holds_come_to m top below next memory phase None k h e = record { framed = goes_on functions main top below m.memory memory next k h; seats = e }
  holds_come_to m top below next memory phase (Some q) k h e = record { framed = goes_on functions main top below m.memory memory next k h; seats = e }

  holds_effect : (m : Machine) (top : Frame) (below : List Frame) (next : ℕ) (x : Result Effect ℕ) → EffectKeeps m.memory x → F (top ∷ below) m.memory → m.seat ≡ seat → Holds S (with_ok x (comes_to m top below next))
  holds_effect m top below next (Err code) k h e = tt
  holds_effect m top below next (Ok f) k h e = holds_come_to m top below next f.memory f.phase f.request k h e

  module _ (r : Memory → ℕ → Bool) (m : Machine) (top : Frame) (below : List Frame) (h : F (top ∷ below) m.memory) (e : m.seat ≡ seat) where
    moved : (place : ℕ) → F (record top { place = place } ∷ below) m.memory
    moved place = goes_on functions main top below m.memory m.memory place (kept m.memory) h

    holds_acts : (i : Option Instr) → instr_at functions top ≡ i → Holds S (acts functions r m top below i)
    holds_acts None at = tt
    holds_acts (Some Step) at = record { framed = moved (top.place + 1); seats = e }
    holds_acts (Some (Zero k)) at = record { framed = goes_on functions main top below m.memory (zeroed m.memory (variable_of k top.variables).serial) (top.place + 1) (keeps_zeroed m.memory (variable_of k top.variables).serial) h; seats = e }
    holds_acts (Some (Set place value)) at = holds_ok S (value_of value top.variables m.memory) _ (λ v. holds_stores m top below (top.place + 1) place v h e)
    holds_acts (Some (Call into f arguments)) at =
        holds_ok S (values_of arguments top.variables m.memory) _ (λ vs.
        entered m (top ∷ below) f vs (nat_lt 8192 (used m.memory + 1 + total (lengths_in functions f))) refl h (into, arguments, at, h.called) e)
    holds_acts (Some (Malloc place bytes each)) at =
        holds_ok S (value_of bytes top.variables m.memory) _ (λ n.
        let asked = cells_asked n.word each in
        let given = malloc r m.memory asked in
        holds_stores (record m { memory = given.0 }) top below (top.place + 1) place given.1 (same_frames functions main (top ∷ below) m.memory given.0 (keeps_malloc r m.memory asked) h) e)
    holds_acts (Some (Free x)) at =
        holds_ok S (value_of x top.variables m.memory) _ (λ p.
        holds_kept S m.memory (free m.memory p) (goes_with m top below (top.place + 1)) (keeps_free m.memory p) (λ n k. record { framed = goes_on functions main top below m.memory n (top.place + 1) k h; seats = e }))
    holds_acts (Some (Goto to)) at = record { framed = moved to; seats = e }
    holds_acts (Some (Unless x to)) at = holds_ok S (value_of x top.variables m.memory) _ (λ c. record { framed = moved (if is_false c then to else top.place + 1); seats = e })
    holds_acts (Some (Return None)) at = holds_returned m top below (number (pos 0)) h e
    holds_acts (Some (Return (Some x))) at = holds_ok S (value_of x top.variables m.memory) _ (λ v. holds_returned m top below v h e)
    holds_acts (Some (Mark site)) at = record { framed = moved (top.place + 1); seats = e }
    holds_acts (Some (Push site)) at = record { framed = moved (top.place + 1); seats = e }
    holds_acts (Some Pop) at = record { framed = moved (top.place + 1); seats = e }
    holds_acts (Some Leave) at = record { framed = moved (top.place + 1); seats = e }
    holds_acts (Some (Enter variables sites)) at = record { framed = moved (top.place + 1); seats = e }
    holds_acts (Some (Print format arguments)) at =
        holds_ok S (values_of arguments top.variables m.memory) _ (λ vs.
        holds_if S (nat_lt 1048576 (m.printed + length (printed format vs))) _ _ tt (record { framed = moved (top.place + 1); seats = e }))
    holds_acts (Some (Mpi call)) at =
        holds_ok S (values_of call.arguments top.variables m.memory) _ (λ vs.
        holds_effect m top below (top.place + 1) (effect m.seat m.phase m.memory call.function vs) (keeps_effect m.seat m.phase m.memory call.function vs) h e)

  holds_in : (r : Memory → ℕ → Bool) (m : Machine) (frames : List Frame) → F frames m.memory → m.seat ≡ seat → Holds S (step_in functions r m frames)
  holds_in r m [] h e = tt
  holds_in r m (top ∷ below) h e = holds_acts r m top below h e (instr_at functions top) refl

  holds_asked : (r : Memory → ℕ → Bool) (m : Machine) (asked : Option Request) → S m → Holds S (elim asked [ None ↦ step_in functions r m m.frames | Some q ↦ Asks q.operation m ])
  holds_asked r m None h = holds_in r m m.frames h.framed h.seats
  holds_asked r m (Some q) h = h

  holds_step : (r : Memory → ℕ → Bool) (m : Machine) → S m → Holds S (step functions r m)
  holds_step r m h = holds_asked r m m.asked h

  holds_taken : (m : Machine) (a : Option Receipt) (b : Reply) → S m → Holds S (taken_in m a b)
  holds_taken m None b h = h
  holds_taken m (Some a) reply.Done h = h
  holds_taken m (Some a) (reply.Got source message) h = holds_kept S m.memory (received a m.memory source message) _ (keeps_received a m.memory source message) (λ n k. record { framed = same_frames functions main m.frames m.memory n k h.framed; seats = h.seats })

  holds_answered : (m : Machine) (a : Reply) → S m → Holds S (answered m a)
  holds_answered m a h = holds_taken (finished m) (receipt_of m.asked) a (record { framed = h.framed; seats = h.seats })

  -- whatever is run, it stays so
  pub stays_sound : (m n : Machine) (asked : List (Op × Reply)) → Ran functions m asked n → S m → S n
  stays_sound _ _ _ (stayed m) h = h
  stays_sound _ _ _ (went m mid n asked r b e run) h = stays_sound mid n asked run (subst (Holds S) e (holds_step r m h))
  stays_sound _ _ _ (did m mid next n asked r o a b e f run) h =
      stays_sound next n asked run (subst (Holds S) f (holds_answered mid a (subst (Holds S) e (holds_step r m h))))

abbrev unless_full : Bool → Memory → Result Memory ℕ
unless_full t m = if t then Err 108 else Ok m

start_by : (c : Code) (seat : Seat) (phase : Phase) (t : Bool) → nat_lt 8192 (used empty + 1 + total (lengths_in c.functions c.main)) ≡ t →
    Sound c.functions c.main seat (elim (unless_full t (add_variables (record empty { calls = 1 }) (lengths_in c.functions c.main))) [
      | Err code ↦ record { frames = []; sites = []; described = []; memory = empty; seat = seat; phase = phase; printed = 0; asked = None }
      | Ok m ↦ record { frames = new_frame c.functions c.main 1 ∷ []; sites = []; described = []; memory = m; seat = seat; phase = phase; printed = 0; asked = None }
    ])
start_by c seat phase true e = record { framed = record { variables = refl; calls = refl; room = omega arith; sized = tt; called = tt }; seats = refl }
start_by c seat phase false e =
    let room : used empty + 1 + total (lengths_in c.functions c.main) ≤ 8192 = grind (arith, nat_tests, e) in
    let nothing : Framed c.functions c.main [] empty = record { variables = refl; calls = refl; room = omega arith; sized = tt; called = tt } in
    record { framed = begun c.functions c.main c.main [] empty nothing room refl; seats = refl }

pub starts_sound : (c : Code) (rank ranks : ℕ) → Sound c.functions c.main (seat_of c rank ranks) (start c rank ranks)
starts_sound c rank ranks = start_by c (seat_of c rank ranks) Before (nat_lt 8192 (used empty + 1 + total (lengths_in c.functions c.main))) refl
