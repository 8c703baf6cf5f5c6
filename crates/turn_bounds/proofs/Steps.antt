-- What one step takes: serials are paid by the Steps before them.
use Rattle.std.proofs.Common.{◌≡◌, ℕ, zero, suc, ◌<◌, ◌+◌, ◌*◌, ◌≤◌, pos, Bool, true, false, if◌then◌else◌, List, [], ◌∷◌, length, Option, Some, None, Result, Ok, Err, refl, sym, ap, ◌∙◌, subst, arith}
use Rattle.std.specs.Prelude.{ℤ, negsuc, ◌&&◌, nat_lt, slice_get, ◌/◌}
use Rattle.std.proofs.lemmas.Bool.Decides.{nat_tests}
use Rattle.std.proofs.lemmas.Nat.{mul-le}
use Rattle.std.proofs.Math.Nat.{div-zero}
use Rattle.c3_base.specs.declared.cell.Cell.{Cell}
use Rattle.mpi_words.specs.declared.operation.Op.{Op}
use Rattle.mpi_words.specs.declared.operation.Op.TheVariants as op
use Rattle.mpi_words.specs.declared.operation.End.{End}
use Rattle.mpi_words.specs.declared.operation.End.TheVariants as end
use Rattle.c_kernel.specs.declared.types.Extent.{Extent}
use Rattle.c_kernel.specs.declared.program.Expr.{Expr}
use Rattle.c_kernel.specs.declared.program.Place.{Place}
use Rattle.c_kernel.specs.declared.program.Target.{Target}
use Rattle.mpi_effects.specs.declared.requests.Request.{Request}
use Rattle.mpi_effects.specs.Mpi.{Effect, effect}
use Rattle.mpi_effects.specs.Requests.{plain_request}
use Rattle.c_memory.specs.Memory.{Memory, number, null, pointer, store, zeroed, enter, leave, free, with_arguments, cells_asked, grant, refuse, may_refuse, asked_with}
use Rattle.c_values.specs.Value.{is_false, read_of, variable_of, place_of, value_of, values_of}
use Rattle.c_values.specs.Variables.{variables_from}
use Rattle.c_values.specs.Text.{printed}
use Rattle.runs.specs.Turn.{Act}
use Rattle.flat_code.specs.declared.code.FlatFunction.{FlatFunction}
use Rattle.flat_code.specs.declared.code.Instr.{Instr}
use Rattle.flat_code.specs.declared.code.Instr.TheVariants.{Step, Zero, Set, Call, Malloc, Free, Goto, Unless, Return, Mark, Push, Pop, Leave, Enter, Print, Mpi}
use Rattle.flat_code.specs.Machine.{Frame, Machine, Outcome, Goes, Asks, code_at, lengths_in, instr_at, with_ok, goes_to, goes_with, asks, enters, stores, awaited, target_in, comes_back, returned, allocates, prints, comes_to, calls_mpi, descriptors, acts, step_in}
use Rattle.flat_code.specs.Machine as outcome
use Rattle.flat_code.specs.Placed.{Block, first_fit, none_fits, placed_at, allocated, insert_block, without_block}
use Rattle.flat_code.specs.Restart.{instr_here}
use Rattle.rank_machine.specs.Layout.{Layout, laid_by}
use Rattle.rank_machine.specs.Placing.{Placing, laid, laid_in, placed, stepped, is_step, begins_in, begins}
use Rattle.turn_bounds.proofs.Apart.{block_at}
use Rattle.turn_bounds.specs.Spaced.{is_head, is_free, IsSpaced, HasCells}
use Rattle.turn_bounds.specs.Settled.{is_call, AreWaiting, AreSettled, IsSettled, After, below, next_serial}
use Rattle.turn_bounds.proofs.Alike.{Alike, AlikeOk, AlikeEffect, EnteredOk, arguments_alike, store_alike, free_alike, entered, effect_alike}
use Rattle.turn_bounds.proofs.Rooms.{room, granted, granted_room, must_refuse, refused, freed, freed_room}

-- what may be taken before the next Step without a block that stays: a call, and the room that a Free makes
abbrev pub credit : Option Instr → ℕ
credit x = if is_head x then 0 else if is_free x then 8192 else 8191

abbrev pub potential : List FlatFunction → Placing → ℕ
potential functions p = next_serial p + (room p.heap + credit (instr_here functions p.machine.frames))

abbrev pub Bounded : List FlatFunction → ℕ → Act Placing Op End → Type 0
Bounded functions most a = After (λ q. IsSettled functions q × (potential functions q ≤ most)) a

credit_by : (b f : Bool) → (if b then 0 else if f then 8192 else 8191) ≤ 8192
credit_by true f = omega arith
credit_by false true = omega arith
credit_by false false = omega arith

pub credit_most : (x : Option Instr) → credit x ≤ 8192
credit_most x = credit_by (is_head x) (is_free x)

low_by : (b f : Bool) → f ≡ false → (if b then 0 else if f then 8192 else 8191) ≤ 8191
low_by true f e = omega arith
low_by false true e = absurd cc
low_by false false e = omega arith

credit_low : (x : Option Instr) → is_free x ≡ false → credit x ≤ 8191
credit_low x e = low_by (is_head x) (is_free x) e

none_by : (b f : Bool) → b ≡ true → ◌≡◌ {A = ℕ} (if b then 0 else if f then 8192 else 8191) 0
none_by true f e = refl
none_by false f e = absurd cc

credit_none : (x : Option Instr) → is_head x ≡ true → credit x ≡ 0
credit_none x e = none_by (is_head x) (is_free x) e

-- sums, on plain numbers
sum_same : (next room c n : ℕ) → c ≤ 8191 → n ≡ next → n + (room + c) ≤ next + (room + 8191) + 0
sum_same next room c n l e = omega (arith, l, e)

sum_none : (next room c n : ℕ) → c ≡ 0 → n ≤ next + 8191 → n + (room + c) ≤ next + (room + 8191) + 0
sum_none next room c n l e = omega (arith, l, e)

sum_freed : (next room less c n : ℕ) → c ≤ 8191 → n ≡ next → less ≤ room + 1 → n + (less + c) ≤ next + (room + 8192) + 0
sum_freed next room less c n l e f = omega (arith, l, e, f)

sum_given : (next room less c : ℕ) → c ≤ 8191 → less + 1 ≡ room → next + 1 + (less + c) ≤ next + (room + 8191) + 0
sum_given next room less c l e = omega (arith, l, e)

sum_step : (next room c : ℕ) → c ≤ 8192 → next + (room + c) ≤ next + (room + 0) + 8192
sum_step next room c l = omega (arith, l)

sum_enter : (next room c : ℕ) → c ≡ 0 → next + (room + c) ≤ next + (room + 0) + 0
sum_enter next room c e = omega (arith, e)

-- an object that malloc is asked for has a cell
has_size : (k size : ℕ) → 1 ≤ k / size → 0 < size
has_size k zero l = let z : k / 0 ≡ 0 = div-zero k in absurd (omega (arith, l, z))
has_size k (suc size) l = omega arith

asked_by : (q each n : ℕ) (t : Bool) → nat_lt 0 q ≡ t → (1 ≤ q → 1 ≤ each) → (if t then Some (q * each) else None) ≡ Some n → 1 ≤ n
asked_by q each n true e some h =
    let a : q * each ≡ n = cc in
    let b : 1 ≤ q = grind (arith, nat_tests, e) in
    let l : 1 * 1 ≤ q * each = mul-le 1 1 q each b (some b) in
    omega (arith, a, l)
asked_by q each n false e some h = absurd cc

asked_some : (bytes : ℤ) (each : Extent) (n : ℕ) → (0 < each.size → 1 ≤ each.cells) → cells_asked bytes each ≡ Some n → 1 ≤ n
asked_some (negsuc k) each n some h = absurd cc
asked_some (pos k) each n some h = asked_by (k / each.size) each.cells n (nat_lt 0 (k / each.size)) refl (λ l. some (has_size k each.size l)) h

module _ (functions : List FlatFunction) (spaced : IsSpaced functions) (cells : HasCells functions) where
  abbrev Taken : ℕ → Layout → Outcome → Type 0
  Taken most l o = Bounded functions most (placed l o)

  -- where a call stands next
  abbrev credit_at : Frame → ℕ → ℕ
  credit_at top q = credit (slice_get (code_at functions top.function) q)

  not_free : (f : Frame) (t : Bool) → is_free (slice_get (code_at functions f.function) (f.place + 1)) ≡ t → (instr_at functions f ≡ Some Step → ⊥) → t ≡ false
  not_free f true e h = absurd (h ((spaced f.function).freed f.place e))
  not_free f false e h = refl

  next_low : (f : Frame) → (instr_at functions f ≡ Some Step → ⊥) → credit_at f (f.place + 1) ≤ 8191
  next_low f h = credit_low (slice_get (code_at functions f.function) (f.place + 1)) (not_free f (is_free (slice_get (code_at functions f.function) (f.place + 1))) refl h)

  -- ---- results

  ok_taken : {A : Type 0} (most : ℕ) (l : Layout) (r : Result A ℕ) (go : A → Outcome) → ((v : A) → Taken most l (go v)) → Taken most l (with_ok r go)
  ok_taken most l (Err code) go h = tt
  ok_taken most l (Ok v) go h = h v

  memory_taken : (most : ℕ) (l : Layout) (m : Memory) (r : Result Memory ℕ) (go : Memory → Outcome) → AlikeOk m r → ((n : Memory) → Alike m n → Taken most l (go n)) → Taken most l (with_ok r go)
  memory_taken most l m (Err code) go k h = tt
  memory_taken most l m (Ok n) go k h = h n k

  effect_taken : (most : ℕ) (l : Layout) (m : Memory) (r : Result Effect ℕ) (go : Effect → Outcome) → AlikeEffect m r → ((e : Effect) → Alike m e.memory → Taken most l (go e)) → Taken most l (with_ok r go)
  effect_taken most l m (Err code) go k h = tt
  effect_taken most l m (Ok e) go k h = h e k

  still : (m n : Memory) (heap : List Block) (frames : List Frame) → Alike m n → AreSettled functions m.asked heap frames → AreSettled functions n.asked heap frames
  still m n heap frames a s = subst (λ (k : ℕ). AreSettled functions k heap frames) (sym a.1) s

  with_taken : (most : ℕ) (l : Layout) (m : Machine) (top : Frame) (frames : List Frame) (q : ℕ) (n : Memory) → AreSettled functions m.memory.asked l.heap frames → Alike m.memory n → m.memory.next + (room l.heap + credit_at top q) ≤ most → Taken most l (goes_with m top frames q n)
  with_taken most l m top frames q n s a h =
      let e = a.0 in
      (still m.memory n l.heap frames a s, omega (arith, e, h))

  stores_taken : (most : ℕ) (l : Layout) (m : Machine) (top : Frame) (frames : List Frame) (q : ℕ) (place : Place Expr) (v : Cell) → AreSettled functions m.memory.asked l.heap frames → m.memory.next + (room l.heap + credit_at top q) ≤ most → Taken most l (stores m top frames q place v)
  stores_taken most l m top frames q place v s h =
      ok_taken most l (place_of place top.variables m.memory) (λ p. with_ok (store m.memory p v) (goes_with m top frames q)) (λ p.
      memory_taken most l m.memory (store m.memory p v) (goes_with m top frames q) (store_alike m.memory p v) (λ n a. with_taken most l m top frames q n s a h))

  -- ---- a call begins

  enters_taken : (most : ℕ) (l : Layout) (m : Machine) (frames : List Frame) (f : ℕ) (vs : List Cell) → AreSettled functions m.memory.asked l.heap frames → m.memory.next + (room l.heap + 8191) + 0 ≡ most → (r : Result Memory ℕ) → EnteredOk m.memory r →
      Taken most l (with_ok r (λ memory. Goes false (record m { frames = record { function = f; place = 0; variables = variables_from m.memory.next (length (lengths_in functions f)) } ∷ frames; memory = with_arguments memory m.memory.next vs })))
  enters_taken most l m frames f vs s e (Err code) k = tt
  enters_taken most l m frames f vs s e (Ok n) k =
      let a = arguments_alike n m.memory.next vs in
      let z = with_arguments n m.memory.next vs in
      let c = credit_none (slice_get (code_at functions f) 0) (spaced f).head in
      let first = a.0 in
      let b = k.0 in
      let few : z.next ≤ m.memory.next + 8191 = omega (arith, first, b) in (
        subst (λ (j : ℕ). AreSettled functions j l.heap frames) (sym (a.1 ∙ k.1)) s,
        subst (λ (j : ℕ). z.next + (room l.heap + credit (slice_get (code_at functions f) 0)) ≤ j) e (sum_none m.memory.next (room l.heap) (credit (slice_get (code_at functions f) 0)) z.next c few),
      )

  -- ---- a call ends

  waits_there : (f : Frame) → is_call (instr_at functions f) ≡ true → instr_at functions f ≡ Some Step → ⊥
  waits_there f c e = let no : true ≡ false = sym c ∙ ap is_call e in absurd cc

  awaited_taken : (most : ℕ) (l : Layout) (m : Machine) (caller : Frame) (frames : List Frame) (into : Option Target) (v : Cell) → AreSettled functions m.memory.asked l.heap frames → m.memory.next + (room l.heap + credit_at caller (caller.place + 1)) ≤ most → Taken most l (awaited m caller frames into v)
  awaited_taken most l m caller frames None v s h = (s, h)
  awaited_taken most l m caller frames (Some t) v s h = stores_taken most l m caller frames (caller.place + 1) t.place (read_of t.kind v) s h

  back_taken : (most : ℕ) (l : Layout) (m : Machine) (frames : List Frame) (v : Cell) → AreSettled functions m.memory.asked l.heap frames → m.memory.next + (room l.heap + 8191) + 0 ≡ most → Taken most l (comes_back functions m frames v)
  back_taken most l m [] v s e = tt
  back_taken most l m (caller ∷ frames) v s e =
      let w : AreWaiting functions (caller ∷ frames) = s.waiting in
      let low = next_low caller (waits_there caller w.0) in
      let h : m.memory.next + (room l.heap + credit_at caller (caller.place + 1)) ≤ most = omega (arith, low, e) in
      awaited_taken most l m caller frames (target_in (instr_at functions caller)) v (record { within = s.within; asked = s.asked; cells = s.cells; waiting = w.1 }) h

  -- ---- malloc and free

  abbrev given : Bool → Bool → Memory → ℕ → Memory × Cell
  given t full m n = if t && full then (refuse m n, null) else (grant m n, pointer m.next (pos 0))

  abbrev is_full : Option ℕ → Bool
  is_full fit = elim fit [ None ↦ true | Some at ↦ false ]

  abbrev with_heap : Layout → List Block → Layout
  with_heap l heap = record { stack = l.stack; heap = heap }

  refused_taken : (most : ℕ) (l : Layout) (m : Machine) (top : Frame) (frames : List Frame) (place : Place Expr) (n : ℕ) (t : Bool) → t ≡ true → AreSettled functions (asked_with m.memory.asked n) l.heap frames → m.memory.next + (room l.heap + credit_at top (top.place + 1)) ≤ most →
      Taken most l (stores (record m { memory = (given t true m.memory n).0 }) top frames (top.place + 1) place (given t true m.memory n).1)
  refused_taken most l m top frames place n true e s h = stores_taken most l (record m { memory = refuse m.memory n }) top frames (top.place + 1) place null s h
  refused_taken most l m top frames place n false e s h = absurd cc

  granted_taken : (most : ℕ) (l : Layout) (m : Machine) (top : Frame) (frames : List Frame) (place : Place Expr) (n : ℕ) (t : Bool) → AreSettled functions (asked_with m.memory.asked n) l.heap frames → m.memory.next + 1 + (room l.heap + credit_at top (top.place + 1)) ≤ most →
      Taken most l (stores (record m { memory = (given t false m.memory n).0 }) top frames (top.place + 1) place (given t false m.memory n).1)
  granted_taken most l m top frames place n true s h = stores_taken most l (record m { memory = grant m.memory n }) top frames (top.place + 1) place (pointer m.memory.next (pos 0)) s h
  granted_taken most l m top frames place n false s h = stores_taken most l (record m { memory = grant m.memory n }) top frames (top.place + 1) place (pointer m.memory.next (pos 0)) s h

  fit_taken : (most : ℕ) (l : Layout) (m : Machine) (top : Frame) (frames : List Frame) (place : Place Expr) (n : ℕ) → AreSettled functions m.memory.asked l.heap frames → 1 ≤ n → credit_at top (top.place + 1) ≤ 8191 → m.memory.next + (room l.heap + 8191) + 0 ≡ most → (fit : Option ℕ) → first_fit l.heap 0 n ≡ fit →
      Taken most (with_heap l (placed_at m.memory.next (Some n) l.heap fit)) (stores (record m { memory = (given (may_refuse m.memory n) (is_full fit) m.memory n).0 }) top frames (top.place + 1) place (given (may_refuse m.memory n) (is_full fit) m.memory n).1)
  fit_taken most l m top frames place n s some low e None f =
      let h : m.memory.next + (room l.heap + credit_at top (top.place + 1)) ≤ most = omega (arith, low, e) in
      refused_taken most (with_heap l l.heap) m top frames place n (may_refuse m.memory n) (must_refuse functions m.memory n l.heap frames s f) (refused functions m.memory.asked n l.heap frames s f) h
  fit_taken most l m top frames place n s some low e (Some at) f =
      let heap = insert_block (block_at m.memory.next at n) l.heap in
      let g = granted functions m.memory.asked m.memory.next n at l.heap frames s some f in
      let r = granted_room functions (asked_with m.memory.asked n) (block_at m.memory.next at n) l.heap frames g in
      let sum = sum_given m.memory.next (room l.heap) (room heap) (credit_at top (top.place + 1)) low r in
      granted_taken most (with_heap l heap) m top frames place n (may_refuse m.memory n) g (subst (λ (k : ℕ). m.memory.next + 1 + (room heap + credit_at top (top.place + 1)) ≤ k) e sum)

  asked_taken : (most : ℕ) (l : Layout) (m : Machine) (top : Frame) (frames : List Frame) (place : Place Expr) → AreSettled functions m.memory.asked l.heap frames → credit_at top (top.place + 1) ≤ 8191 → m.memory.next + (room l.heap + 8191) + 0 ≡ most → (asked : Option ℕ) → ((n : ℕ) → asked ≡ Some n → 1 ≤ n) →
      Taken most (with_heap l (allocated l.heap m.memory.next asked)) (allocates (none_fits l.heap) m top frames (top.place + 1) place asked)
  asked_taken most l m top frames place s low e None some = stores_taken most (with_heap l l.heap) m top frames (top.place + 1) place null s (omega (arith, low, e))
  asked_taken most l m top frames place s low e (Some n) some = fit_taken most l m top frames place n s (some n refl) low e (first_fit l.heap 0 n) refl

  malloc_taken : (most : ℕ) (l : Layout) (m : Machine) (top : Frame) (frames : List Frame) (place : Place Expr) (each : Extent) → AreSettled functions m.memory.asked l.heap frames → credit_at top (top.place + 1) ≤ 8191 → m.memory.next + (room l.heap + 8191) + 0 ≡ most → ((c : Cell) (n : ℕ) → cells_asked c.word each ≡ Some n → 1 ≤ n) → (r : Result Cell ℕ) →
      Taken most (with_heap l (elim r [ Err code ↦ l.heap | Ok c ↦ allocated l.heap m.memory.next (cells_asked c.word each) ])) (with_ok r (λ n. allocates (none_fits l.heap) m top frames (top.place + 1) place (cells_asked n.word each)))
  malloc_taken most l m top frames place each s low e some (Err code) = tt
  malloc_taken most l m top frames place each s low e some (Ok c) = asked_taken most l m top frames place s low e (cells_asked c.word each) (some c)

  free_taken : (most : ℕ) (l : Layout) (m : Machine) (top : Frame) (frames : List Frame) → AreSettled functions m.memory.asked l.heap frames → credit_at top (top.place + 1) ≤ 8191 → m.memory.next + (room l.heap + 8192) + 0 ≡ most → (r : Result Cell ℕ) →
      Taken most (with_heap l (elim r [ Err code ↦ l.heap | Ok c ↦ without_block l.heap c.serial ])) (with_ok r (λ p. with_ok (free m.memory p) (goes_with m top frames (top.place + 1))))
  free_taken most l m top frames s low e (Err code) = tt
  free_taken most l m top frames s low e (Ok c) =
      let heap = without_block l.heap c.serial in
      let f = freed_room l.heap c.serial in
      let h : m.memory.next + (room heap + credit_at top (top.place + 1)) ≤ most = omega (arith, f, low, e) in
      memory_taken most (with_heap l heap) m.memory (free m.memory c) (goes_with m top frames (top.place + 1)) (free_alike m.memory c) (λ n a. with_taken most (with_heap l heap) m top frames (top.place + 1) n (freed functions m.memory.asked c.serial l.heap frames s) a h)

  -- ---- one instruction

  -- what an instruction takes, as one that isn't a Step
  abbrev Most : Machine → Layout → Option Instr → ℕ
  Most m l x = m.memory.next + (room l.heap + credit x) + (if is_step x then 8192 else 0)

  on_taken : (l : Layout) (m : Machine) (top : Frame) (frames : List Frame) (n : Memory) → AreSettled functions m.memory.asked l.heap frames → Alike m.memory n → (instr_at functions top ≡ Some Step → ⊥) → Taken (m.memory.next + (room l.heap + 8191) + 0) l (goes_with m top frames (top.place + 1) n)
  on_taken l m top frames n s a h =
      let low = next_low top h in
      with_taken (m.memory.next + (room l.heap + 8191) + 0) l m top frames (top.place + 1) n s a (sum_same m.memory.next (room l.heap) (credit_at top (top.place + 1)) m.memory.next low refl)

  request_taken : (l : Layout) (m : Machine) (top : Frame) (frames : List Frame) (q : Option Request) (e : Effect) → AreSettled functions m.memory.asked l.heap frames → Alike m.memory e.memory → (instr_at functions top ≡ Some Step → ⊥) → Taken (m.memory.next + (room l.heap + 8191) + 0) l
      (elim q [
        | None ↦ Goes false (record m { frames = record top { place = top.place + 1 } ∷ frames; memory = e.memory; phase = e.phase })
        | Some q ↦ asks (record m { memory = e.memory; phase = e.phase }) top frames (top.place + 1) q
      ])
  request_taken l m top frames None e s a h = on_taken l m top frames e.memory s a h
  request_taken l m top frames (Some q) e s a h = on_taken l m top frames e.memory s a h

  prints_taken : (l : Layout) (m : Machine) (top : Frame) (frames : List Frame) (text : List ℕ) (t : Bool) → AreSettled functions m.memory.asked l.heap frames → (instr_at functions top ≡ Some Step → ⊥) → Taken (m.memory.next + (room l.heap + 8191) + 0) l (if t then outcome.Ends (end.Fault 109) else asks m top frames (top.place + 1) (plain_request (op.Output text)))
  prints_taken l m top frames text true s h = tt
  prints_taken l m top frames text false s h = on_taken l m top frames m.memory s (refl, refl) h

  branch_taken : (l : Layout) (m : Machine) (top : Frame) (frames : List Frame) (to : ℕ) (t : Bool) → AreSettled functions m.memory.asked l.heap frames → (instr_at functions top ≡ Some Step → ⊥) → credit_at top to ≤ 8191 → Taken (m.memory.next + (room l.heap + 8191) + 0) l (goes_to m top frames (if t then to else top.place + 1))
  branch_taken l m top frames to true s h low = (s, sum_same m.memory.next (room l.heap) (credit_at top to) m.memory.next low refl)
  branch_taken l m top frames to false s h low = on_taken l m top frames m.memory s (refl, refl) h

  -- not a Step, as it is another
  unlike : (f : Frame) (i : Instr) → instr_at functions f ≡ Some i → is_step (Some i) ≡ false → instr_at functions f ≡ Some Step → ⊥
  unlike f i e n h = let no : true ≡ false = ap is_step (sym h ∙ e) ∙ n in absurd cc

  acts_taken : (l : Layout) (m : Machine) (top : Frame) (frames : List Frame) (x : Option Instr) → AreSettled functions m.memory.asked l.heap frames → instr_at functions top ≡ x → Taken (Most m l x) (laid_by m.memory top l x) (acts functions (none_fits l.heap) m top frames x)
  acts_taken l m top frames None s e = tt
  acts_taken l m top frames (Some Step) s e = (s, sum_step m.memory.next (room l.heap) (credit_at top (top.place + 1)) (credit_most (slice_get (code_at functions top.function) (top.place + 1))))
  acts_taken l m top frames (Some (Zero k)) s e = on_taken l m top frames (zeroed m.memory (variable_of k top.variables).serial) s (refl, refl) (unlike top (Zero k) e refl)
  acts_taken l m top frames (Some (Set place value)) s e =
      let most = m.memory.next + (room l.heap + 8191) + 0 in
      let low = next_low top (unlike top (Set place value) e refl) in
      ok_taken most l (value_of value top.variables m.memory) (stores m top frames (top.place + 1) place) (λ v.
      stores_taken most l m top frames (top.place + 1) place v s (sum_same m.memory.next (room l.heap) (credit_at top (top.place + 1)) m.memory.next low refl))
  acts_taken l m top frames (Some (Call into f arguments)) s e =
      let most = m.memory.next + (room l.heap + 8191) + 0 in
      let waits : AreWaiting functions (top ∷ frames) = (ap is_call e, s.waiting) in
      let here : AreSettled functions m.memory.asked l.heap (top ∷ frames) = record { within = s.within; asked = s.asked; cells = s.cells; waiting = waits } in
      ok_taken most l (values_of arguments top.variables m.memory) (enters functions m (top ∷ frames) f) (λ vs.
      enters_taken most l m (top ∷ frames) f vs here refl (enter m.memory (lengths_in functions f)) (entered m.memory (lengths_in functions f) (cells.variables f)))
  acts_taken l m top frames (Some (Malloc place bytes each)) s e =
      let most = m.memory.next + (room l.heap + 8191) + 0 in
      malloc_taken most l m top frames place each s (next_low top (unlike top (Malloc place bytes each) e refl)) refl (λ c n. asked_some c.word each n (cells.objects top.function top.place place bytes each e)) (value_of bytes top.variables m.memory)
  acts_taken l m top frames (Some (Free p)) s e =
      free_taken (m.memory.next + (room l.heap + 8192) + 0) l m top frames s (next_low top (unlike top (Free p) e refl)) refl (value_of p top.variables m.memory)
  acts_taken l m top frames (Some (Goto to)) s e =
      let low = credit_low (slice_get (code_at functions top.function) to) ((spaced top.function).jumped top.place to e) in
      (s, sum_same m.memory.next (room l.heap) (credit_at top to) m.memory.next low refl)
  acts_taken l m top frames (Some (Unless test to)) s e =
      let low = credit_low (slice_get (code_at functions top.function) to) ((spaced top.function).branched top.place to test e) in
      ok_taken (m.memory.next + (room l.heap + 8191) + 0) l (value_of test top.variables m.memory) (λ c. goes_to m top frames (if is_false c then to else top.place + 1)) (λ c.
      branch_taken l m top frames to (is_false c) s (unlike top (Unless test to) e refl) low)
  acts_taken l m top frames (Some (Return None)) s e =
      back_taken (m.memory.next + (room l.heap + 8191) + 0) l (record m { frames = frames; memory = leave m.memory top.variables.count }) frames (number (pos 0)) s refl
  acts_taken l m top frames (Some (Return (Some x))) s e =
      ok_taken (m.memory.next + (room l.heap + 8191) + 0) l (value_of x top.variables m.memory) (returned functions m top frames) (λ v.
      back_taken (m.memory.next + (room l.heap + 8191) + 0) l (record m { frames = frames; memory = leave m.memory top.variables.count }) frames v s refl)
  acts_taken l m top frames (Some (Mark site)) s e = on_taken l m top frames m.memory s (refl, refl) (unlike top (Mark site) e refl)
  acts_taken l m top frames (Some (Push site)) s e = on_taken l m top frames m.memory s (refl, refl) (unlike top (Push site) e refl)
  acts_taken l m top frames (Some Pop) s e = on_taken l m top frames m.memory s (refl, refl) (unlike top Pop e refl)
  acts_taken l m top frames (Some Leave) s e = on_taken l m top frames m.memory s (refl, refl) (unlike top Leave e refl)
  acts_taken l m top frames (Some (Enter variables sites)) s e =
      let c : credit_at top (top.place + 1) ≡ 0 = ap credit ((spaced top.function).entered top.place variables sites e) in
      (s, sum_enter m.memory.next (room l.heap) (credit_at top (top.place + 1)) c)
  acts_taken l m top frames (Some (Print format arguments)) s e =
      ok_taken (m.memory.next + (room l.heap + 8191) + 0) l (values_of arguments top.variables m.memory) (λ vs. prints m top frames (top.place + 1) (printed format vs)) (λ vs.
      prints_taken l m top frames (printed format vs) (nat_lt 1048576 (m.printed + length (printed format vs))) s (unlike top (Print format arguments) e refl))
  acts_taken l m top frames (Some (Mpi call)) s e =
      let most = m.memory.next + (room l.heap + 8191) + 0 in
      ok_taken most l (values_of call.arguments top.variables m.memory) (λ vs. with_ok (effect m.seat m.phase m.memory call.function vs) (comes_to m top frames (top.place + 1))) (λ vs.
      effect_taken most l m.memory (effect m.seat m.phase m.memory call.function vs) (comes_to m top frames (top.place + 1)) (effect_alike m.seat m.phase m.memory call.function vs) (λ f a.
      request_taken l m top frames f.request f s a (unlike top (Mpi call) e refl)))

  -- ---- one step

  newest_taken : (l : Layout) (m : Machine) (frames : List Frame) → AreSettled functions m.memory.asked l.heap (below frames) → Taken (m.memory.next + (room l.heap + credit (instr_here functions frames)) + (if begins_in functions frames then 8192 else 0)) (laid_in functions m l frames) (step_in functions (none_fits l.heap) m frames)
  newest_taken l m [] s = tt
  newest_taken l m (top ∷ frames) s = acts_taken l m top frames (instr_at functions top) s refl

  asked_or_taken : (p : Placing) (q : Option Request) → IsSettled functions p → Taken (potential functions p + (if elim q [ None ↦ begins_in functions p.machine.frames | Some r ↦ false ] then 8192 else 0)) (elim q [ None ↦ laid_in functions p.machine (laid p) p.machine.frames | Some r ↦ laid p ]) (elim q [ None ↦ step_in functions (none_fits p.heap) p.machine p.machine.frames | Some r ↦ Asks r.operation p.machine ])
  asked_or_taken p None s = newest_taken (laid p) p.machine p.machine.frames s
  asked_or_taken p (Some q) s = (s, omega arith)

  pub step_taken : (p : Placing) → IsSettled functions p → Bounded functions (potential functions p + (if begins functions p then 8192 else 0)) (stepped functions p)
  step_taken p s = asked_or_taken p p.machine.asked s
