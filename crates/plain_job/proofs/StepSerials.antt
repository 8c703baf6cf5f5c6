-- A step takes serials within what is reserved, and a statement that begins reserves 8,192 more.
use Rattle.std.proofs.Common.{◌≡◌, ℕ, ◌+◌, ◌<◌, ◌≤◌, max, pos, Bool, true, false, if◌then◌else◌, nat_lt, List, [], ◌∷◌, length, get_or, map, Option, Some, None, Result, Ok, Err, refl, sym, subst, arith}
use Rattle.std.specs.Prelude.{slice_get}
use Rattle.std.specs.List.{list_all}
use Rattle.std.proofs.lemmas.List.{length-map}
use Rattle.std.proofs.lemmas.List.Elements.{All-get_or}
use Rattle.std.proofs.lemmas.List.Sums.{AllPass-from_list_all}
use Rattle.std.proofs.lemmas.Option.{get_or_from_slice_get, slice_get_within}
use Rattle.std.proofs.lemmas.Bool.Decides.{nat_tests}
use Rattle.c3_base.specs.declared.cell.Cell.{Cell}
use Rattle.c_kernel.specs.Regular.{has_cell, is_regular, is_regular_function}
use Rattle.c_kernel.specs.Regular as regular
use Rattle.c_kernel.specs.declared.types.ObjectType.{ObjectType}
use Rattle.c_kernel.specs.declared.program.Action.{Action}
use Rattle.c_kernel.specs.declared.program.Action.TheVariants.{Zero, Set, Call, Malloc}
use Rattle.c_kernel.specs.declared.program.Arm.{Arm}
use Rattle.c_kernel.specs.declared.program.Expr.{Expr}
use Rattle.c_kernel.specs.declared.program.Function.{Function}
use Rattle.c_kernel.specs.declared.program.MpiCall.{MpiCall}
use Rattle.c_kernel.specs.declared.program.Place.{Place}
use Rattle.c_kernel.specs.declared.program.Program.{Program}
use Rattle.c_kernel.specs.declared.program.Stmt.{Stmt, out-Stmt}
use Rattle.c_kernel.specs.declared.program.Stmt.TheOpen.{Stmt-F}
use Rattle.c_kernel.specs.declared.program.Stmt.TheOpen as stmt
use Rattle.mpi_effects.specs.declared.seat.Phase.TheVariants.{Before}
use Rattle.mpi_effects.specs.declared.requests.Request.{Request}
use Rattle.mpi_effects.specs.declared.requests.Receipt.{Receipt}
use Rattle.c_values.specs.declared.value.Variables.{Variables}
use Rattle.mpi_words.specs.declared.operation.Reply.{Reply}
use Rattle.mpi_words.specs.declared.operation.Reply.TheVariants as reply
use Rattle.c_memory.specs.Memory.{Memory, empty, number, total, enter, store, zeroed, free, leave, cells_asked, malloc, with_arguments}
use Rattle.mpi_effects.specs.Mpi.{Effect, effect, received}
use Rattle.c_values.specs.Text.{printed}
use Rattle.c_values.specs.Value.{is_false, read_of, variable_of, place_of, value_of, values_of}
use Rattle.c_meaning.specs.State.{Item, Body, Rest, Begun, Acting, Awaiting, Testing, Stepping, State, Outcome, Goes, Asks, Ends, after_loop, to_loop}
use Rattle.c_meaning.specs.State as state
use Rattle.c_meaning.specs.Step.{body_of, lengths_of, with_ok, goes_to, goes_with, asks, call_of, enters, stores, awaited, comes_back, returned, allocates, acts, branch, prints, comes_to, calls_mpi, does, turns, tests, steps, goes_on, step_in, begins_first, begins_in, begins, step, finished, taken_in, answered, seat_of, start}
use Rattle.mpi_effects.specs.Requests.{receipt_of}
use Rattle.plain_job.specs.Job.{standing_of}
use Rattle.plain_job.specs.Serials.{AreRegularItems, Fit, pending, pending_in, kept, kept_in, IsWithin, StaysWithin}
use Rattle.plain_job.proofs.RegularParts.{and_left, and_right, AllRegular, IsFull, ArmsRegular, HasParts, parts_of}
use Rattle.plain_job.proofs.Nexts.{LikeNext, LikeEffect, Enters, arguments_next, store_next, free_next, effect_next, received_next, enter_next, malloc_next}

-- ---- outcomes that stay within a limit

abbrev pub Keeps : ℕ → Outcome → Type 0
Keeps limit o = StaysWithin limit (standing_of o)

keeps_ok : {A : Type 0} (limit : ℕ) (r : Result A ℕ) (go : A → Outcome) → ((v : A) → Keeps limit (go v)) → Keeps limit (with_ok r go)
keeps_ok limit (Err code) go h = tt
keeps_ok limit (Ok v) go h = h v

keeps_next : (limit : ℕ) (m : Memory) (r : Result Memory ℕ) (go : Memory → Outcome) → LikeNext m r → ((n : Memory) → n.next ≡ m.next → Keeps limit (go n)) → Keeps limit (with_ok r go)
keeps_next limit m (Err code) go l h = tt
keeps_next limit m (Ok n) go l h = h n l

keeps_effect : (limit : ℕ) (m : Memory) (r : Result Effect ℕ) (go : Effect → Outcome) → LikeEffect m r → ((e : Effect) → e.memory.next ≡ m.next → Keeps limit (go e)) → Keeps limit (with_ok r go)
keeps_effect limit m (Err code) go l h = tt
keeps_effect limit m (Ok e) go l h = h e l

keeps_either : (limit : ℕ) (t : Bool) (a b : Outcome) → Keeps limit a → Keeps limit b → Keeps limit (if t then a else b)
keeps_either limit true a b h g = h
keeps_either limit false a b h g = g

kept_most : (todo : List Item) → kept todo ≤ 8192
kept_most [] = omega arith
kept_most (Body ss ∷ todo) = omega arith
kept_most (Rest [] ∷ todo) = omega arith
kept_most (Rest (x ∷ xs) ∷ todo) = omega arith
kept_most (Begun x ∷ todo) = omega arith
kept_most (Acting actions ∷ todo) = omega arith
kept_most (Awaiting t ∷ todo) = omega arith
kept_most (Testing x ∷ todo) = omega arith
kept_most (Stepping x ∷ todo) = omega arith

kept_within : (todo : List Item) (a limit : ℕ) → a + 8192 ≤ limit → a + kept todo ≤ limit
kept_within todo a limit h = let most = kept_most todo in omega (arith, most, h)

-- ---- the newest call, with those below it and what follows in it, before a step that begins no statement

-- what is known of them, within a limit
record Holds (limit next : ℕ) (top : state.Call) (below : List state.Call) (todo : List Item) : Type 0 where
  room : top.variables.count < 8192
  regular : AreRegularItems top.variables.count todo
  fit : Fit below
  serials : next + (pending todo + pending_in below) + 8192 ≤ limit

to_keeps : (limit : ℕ) (s : State) (top : state.Call) (below : List state.Call) (todo : List Item) → Holds limit s.memory.next top below todo → Keeps limit (goes_to s top below todo)
to_keeps limit s top below todo h = record { fit = (record { room = h.room; regular = h.regular }, h.fit); serials = kept_within todo (s.memory.next + (pending todo + pending_in below)) limit h.serials }

with_keeps : (limit : ℕ) (s : State) (top : state.Call) (below : List state.Call) (todo : List Item) (m : Memory) → m.next ≡ s.memory.next → Holds limit s.memory.next top below todo → Keeps limit (goes_with s top below todo m)
with_keeps limit s top below todo m e h = record {
  fit = (record { room = h.room; regular = h.regular }, h.fit);
  serials = kept_within todo (m.next + (pending todo + pending_in below)) limit (let l = h.serials in omega (arith, e, l));
}

asks_keeps : (limit : ℕ) (s : State) (top : state.Call) (below : List state.Call) (todo : List Item) (q : Request) → Holds limit s.memory.next top below todo → Keeps limit (asks s top below todo q)
asks_keeps limit s top below todo q h = record { fit = (record { room = h.room; regular = h.regular }, h.fit); serials = kept_within todo (s.memory.next + (pending todo + pending_in below)) limit h.serials }

stores_keeps : (limit : ℕ) (s : State) (top : state.Call) (below : List state.Call) (todo : List Item) (place : Place Expr) (v : Cell) → Holds limit s.memory.next top below todo → Keeps limit (stores s top below todo place v)
stores_keeps limit s top below todo place v h =
    keeps_ok limit (place_of place top.variables s.memory) _ (λ p.
    keeps_next limit s.memory (store s.memory p v) (goes_with s top below todo) (store_next s.memory p v) (λ n e. with_keeps limit s top below todo n e h))

-- ---- returns

awaited_keeps : (limit : ℕ) (s : State) (caller : state.Call) (below : List state.Call) (todo : List Item) (v : Cell) → Holds limit s.memory.next caller below todo → Keeps limit (awaited s caller below todo v)
awaited_keeps limit s caller below (Awaiting None ∷ todo) v h = to_keeps limit s caller below todo (record { room = h.room; regular = h.regular.1; fit = h.fit; serials = (let l = h.serials in omega (arith, l)) })
awaited_keeps limit s caller below (Awaiting (Some t) ∷ todo) v h = stores_keeps limit s caller below todo t.place (read_of t.kind v) (record { room = h.room; regular = h.regular.1; fit = h.fit; serials = (let l = h.serials in omega (arith, l)) })
awaited_keeps limit s caller below [] v h = to_keeps limit s caller below [] h
awaited_keeps limit s caller below (Body ss ∷ todo) v h = to_keeps limit s caller below (Body ss ∷ todo) h
awaited_keeps limit s caller below (Rest ss ∷ todo) v h = to_keeps limit s caller below (Rest ss ∷ todo) h
awaited_keeps limit s caller below (Begun x ∷ todo) v h = to_keeps limit s caller below (Begun x ∷ todo) h
awaited_keeps limit s caller below (Acting actions ∷ todo) v h = to_keeps limit s caller below (Acting actions ∷ todo) h
awaited_keeps limit s caller below (Testing x ∷ todo) v h = to_keeps limit s caller below (Testing x ∷ todo) h
awaited_keeps limit s caller below (Stepping x ∷ todo) v h = to_keeps limit s caller below (Stepping x ∷ todo) h

back_keeps : (limit : ℕ) (s : State) (below : List state.Call) (v : Cell) → Fit below → s.memory.next + pending_in below + 8192 ≤ limit → Keeps limit (comes_back s below v)
back_keeps limit s [] v f h = tt
back_keeps limit s (caller ∷ below) v f h = awaited_keeps limit s caller below caller.todo v (record { room = f.0.room; regular = f.0.regular; fit = f.1; serials = h })

returned_keeps : (limit : ℕ) (s : State) (top : state.Call) (below : List state.Call) (v : Cell) → Fit below → s.memory.next + pending_in below + 8192 ≤ limit → Keeps limit (returned s top below v)
returned_keeps limit s top below v f h = back_keeps limit (record s { calls = below; memory = leave s.memory top.variables.count }) below v f h

-- ---- calls

cells_at_least : (ts : List ObjectType) → list_all has_cell ts ≡ true → length ts ≤ total (map (λ t. t.cells) ts)
cells_at_least [] h = omega arith
cells_at_least (t ∷ ts) h =
    let first : nat_lt 0 t.cells ≡ true = and_left (has_cell t) (list_all has_cell ts) h in
    let one : 0 < t.cells = grind (arith, nat_tests, first) in
    let rest = cells_at_least ts (and_right (has_cell t) (list_all has_cell ts) h) in
    omega (arith, one, rest)

-- what holds of the body of a function and its variables
record IsCalled (body : List Stmt) (ns : List ℕ) : Type 0 where
  regular : AllRegular (length ns) body
  cells : length ns ≤ total ns

function_called : (g : Function) → is_regular_function g ≡ true → IsCalled g.body (map (λ t. t.cells) g.variables)
function_called g h = record {
  regular = subst (λ n. AllRegular n g.body) (sym (length-map g.variables (λ t. t.cells))) (and_right (list_all has_cell g.variables) (list_all (is_regular (length g.variables)) g.body) h);
  cells = subst (λ n. n ≤ total (map (λ t. t.cells) g.variables)) (sym (length-map g.variables (λ t. t.cells))) (cells_at_least g.variables (and_left (list_all has_cell g.variables) (list_all (is_regular (length g.variables)) g.body) h));
}

called_by : (o : Option Function) → ((g : Function) → o ≡ Some g → is_regular_function g ≡ true) → IsCalled (elim o [ None ↦ [] | Some g ↦ g.body ]) (elim o [ None ↦ [] | Some g ↦ map (λ t. t.cells) g.variables ])
called_by None h = record { regular = refl; cells = omega arith }
called_by (Some g) h = function_called g (h g refl)

regular_at : (functions : List Function) (f : ℕ) (g : Function) → regular.AreRegular functions → slice_get functions f ≡ Some g → is_regular_function g ≡ true
regular_at functions f g h e =
    let all = AllPass-from_list_all is_regular_function functions h in
    let found : is_regular_function (get_or functions f g) ≡ true = All-get_or (λ x. is_regular_function x ≡ true) functions f g (slice_get_within functions f g e) all in
    subst (λ x. is_regular_function x ≡ true) (get_or_from_slice_get functions f g g e) found

called_of : (functions : List Function) (f : ℕ) → regular.AreRegular functions → IsCalled (body_of functions f) (lengths_of functions f)
called_of functions f h = called_by (slice_get functions f) (λ g e. regular_at functions f g h e)

entered_keeps : (limit : ℕ) (functions : List Function) (s : State) (calls : List state.Call) (f : ℕ) (vs : List Cell) (r : Result Memory ℕ) → Enters s.memory (lengths_of functions f) r → IsCalled (body_of functions f) (lengths_of functions f) → Fit calls → s.memory.next + pending_in calls + 8191 ≤ limit → Keeps limit (with_ok r (λ m. Goes false (record s { calls = call_of functions f s.memory.next ∷ calls; memory = with_arguments m s.memory.next vs })))
entered_keeps limit functions s calls f vs (Err code) e c fit h = tt
entered_keeps limit functions s calls f vs (Ok m) e c fit h =
    let next = arguments_next m s.memory.next vs in
    let more = e.0 in
    let few = e.1 in
    let cells = c.cells in
    record {
      fit = (record { room = omega (arith, few, cells); regular = (c.regular, tt) }, fit);
      serials = omega (arith, next, more, few, cells, h);
    }

enters_keeps : (limit : ℕ) (functions : List Function) (s : State) (calls : List state.Call) (f : ℕ) (vs : List Cell) → regular.AreRegular functions → Fit calls → s.memory.next + pending_in calls + 8191 ≤ limit → Keeps limit (enters functions s calls f vs)
enters_keeps limit functions s calls f vs r fit h = entered_keeps limit functions s calls f vs (enter s.memory (lengths_of functions f)) (enter_next s.memory (lengths_of functions f)) (called_of functions f r) fit h

-- ---- actions

-- what holds before an action, which counts as one
record HoldsOne (limit next : ℕ) (top : state.Call) (below : List state.Call) (todo : List Item) : Type 0 where
  room : top.variables.count < 8192
  regular : AreRegularItems top.variables.count todo
  fit : Fit below
  serials : next + (1 + pending todo + pending_in below) + 8192 ≤ limit

without_one : (limit next : ℕ) (top : state.Call) (below : List state.Call) (todo : List Item) → HoldsOne limit next top below todo → Holds limit next top below todo
without_one limit next top below todo h = record { room = h.room; regular = h.regular; fit = h.fit; serials = (let l = h.serials in omega (arith, l)) }

allocates_keeps : (limit : ℕ) (refuses : Memory → ℕ → Bool) (s : State) (top : state.Call) (below : List state.Call) (todo : List Item) (place : Place Expr) (asked : Option ℕ) → HoldsOne limit s.memory.next top below todo → Keeps limit (allocates refuses s top below todo place asked)
allocates_keeps limit refuses s top below todo place asked h =
    let given = malloc refuses s.memory asked in
    let more = malloc_next refuses s.memory asked in
    let l = h.serials in
    stores_keeps limit (record s { memory = given.0 }) top below todo place given.1 (record { room = h.room; regular = h.regular; fit = h.fit; serials = omega (arith, more, l) })

acts_keeps : (limit : ℕ) (functions : List Function) (refuses : Memory → ℕ → Bool) (s : State) (top : state.Call) (below : List state.Call) (todo : List Item) (a : Action) → regular.AreRegular functions → HoldsOne limit s.memory.next top below todo → Keeps limit (acts functions refuses s top below todo a)
acts_keeps limit functions refuses s top below todo (Zero k) r h = with_keeps limit s top below todo (zeroed s.memory (variable_of k top.variables).serial) refl (without_one limit s.memory.next top below todo h)
acts_keeps limit functions refuses s top below todo (Set place value) r h =
    keeps_ok limit (value_of value top.variables s.memory) (stores s top below todo place) (λ v. stores_keeps limit s top below todo place v (without_one limit s.memory.next top below todo h))
acts_keeps limit functions refuses s top below todo (Call into f arguments) r h =
    let caller = record top { todo = Awaiting into ∷ todo } in
    let l = h.serials in
    keeps_ok limit (values_of arguments top.variables s.memory) (enters functions s (caller ∷ below) f) (λ vs.
    enters_keeps limit functions s (caller ∷ below) f vs r (record { room = h.room; regular = (tt, h.regular) }, h.fit) (omega (arith, l)))
acts_keeps limit functions refuses s top below todo (Malloc place bytes each) r h =
    keeps_ok limit (value_of bytes top.variables s.memory) _ (λ n. allocates_keeps limit refuses s top below todo place (cells_asked n.word each) h)

-- ---- what follows is other than it was

moves_keeps : (limit : ℕ) (s : State) (top : state.Call) (below : List state.Call) (todo next : List Item) → Holds limit s.memory.next top below todo → AreRegularItems top.variables.count next → pending next ≤ pending todo → Keeps limit (goes_to s top below next)
moves_keeps limit s top below todo next h r less = to_keeps limit s top below next (record { room = h.room; regular = r; fit = h.fit; serials = (let l = h.serials in omega (arith, l, less)) })

after_regular : (n : ℕ) (todo : List Item) → AreRegularItems n todo → AreRegularItems n (after_loop todo)
after_regular n [] h = tt
after_regular n (Body ss ∷ todo) h = after_regular n todo h.1
after_regular n (Rest ss ∷ todo) h = after_regular n todo h.1
after_regular n (Begun x ∷ todo) h = after_regular n todo h.1
after_regular n (Acting actions ∷ todo) h = after_regular n todo h.1
after_regular n (Awaiting t ∷ todo) h = after_regular n todo h.1
after_regular n (Testing x ∷ todo) h = h.1
after_regular n (Stepping x ∷ todo) h = h.1

after_pending : (todo : List Item) → pending (after_loop todo) ≤ pending todo
after_pending [] = omega arith
after_pending (Body ss ∷ todo) = let l = after_pending todo in omega (arith, l)
after_pending (Rest ss ∷ todo) = let l = after_pending todo in omega (arith, l)
after_pending (Begun x ∷ todo) = let l = after_pending todo in omega (arith, l)
after_pending (Acting actions ∷ todo) = let l = after_pending todo in omega (arith, l)
after_pending (Awaiting t ∷ todo) = let l = after_pending todo in omega (arith, l)
after_pending (Testing x ∷ todo) = omega arith
after_pending (Stepping x ∷ todo) = omega arith

to_regular : (n : ℕ) (todo : List Item) → AreRegularItems n todo → AreRegularItems n (to_loop todo)
to_regular n [] h = tt
to_regular n (Body ss ∷ todo) h = to_regular n todo h.1
to_regular n (Rest ss ∷ todo) h = to_regular n todo h.1
to_regular n (Begun x ∷ todo) h = to_regular n todo h.1
to_regular n (Acting actions ∷ todo) h = to_regular n todo h.1
to_regular n (Awaiting t ∷ todo) h = to_regular n todo h.1
to_regular n (Testing x ∷ todo) h = h
to_regular n (Stepping x ∷ todo) h = h

to_pending : (todo : List Item) → pending (to_loop todo) ≤ pending todo
to_pending [] = omega arith
to_pending (Body ss ∷ todo) = let l = to_pending todo in omega (arith, l)
to_pending (Rest ss ∷ todo) = let l = to_pending todo in omega (arith, l)
to_pending (Begun x ∷ todo) = let l = to_pending todo in omega (arith, l)
to_pending (Acting actions ∷ todo) = let l = to_pending todo in omega (arith, l)
to_pending (Awaiting t ∷ todo) = let l = to_pending todo in omega (arith, l)
to_pending (Testing x ∷ todo) = omega arith
to_pending (Stepping x ∷ todo) = omega arith

-- ---- statements that have begun

-- what holds before one, which counts as 8,191 actions
record HoldsBegun (limit next : ℕ) (top : state.Call) (below : List state.Call) (todo : List Item) : Type 0 where
  room : top.variables.count < 8192
  regular : AreRegularItems top.variables.count todo
  fit : Fit below
  serials : next + (8191 + pending todo + pending_in below) + 8192 ≤ limit

once_begun : (limit next : ℕ) (top : state.Call) (below : List state.Call) (todo : List Item) → HoldsBegun limit next top below todo → Holds limit next top below todo
once_begun limit next top below todo h = record { room = h.room; regular = h.regular; fit = h.fit; serials = (let l = h.serials in omega (arith, l)) }

begun_keeps : (limit : ℕ) (s : State) (top : state.Call) (below : List state.Call) (todo next : List Item) → HoldsBegun limit s.memory.next top below todo → AreRegularItems top.variables.count next → pending next ≤ 8191 + pending todo → Keeps limit (goes_to s top below next)
begun_keeps limit s top below todo next h r less = to_keeps limit s top below next (record { room = h.room; regular = r; fit = h.fit; serials = (let l = h.serials in omega (arith, l, less)) })

begun_returns : (limit : ℕ) (s : State) (top : state.Call) (below : List state.Call) (todo : List Item) (v : Cell) → HoldsBegun limit s.memory.next top below todo → Keeps limit (returned s top below v)
begun_returns limit s top below todo v h = returned_keeps limit s top below v h.fit (let l = h.serials in omega (arith, l))

taken_keeps : (limit : ℕ) (t : Bool) (taken : List Stmt) (others : Result (List Stmt) ℕ) (go : List Stmt → Outcome) → Keeps limit (go taken) → Keeps limit (with_ok others go) → Keeps limit (with_ok (if t then others else Ok taken) go)
taken_keeps limit true taken others go h g = g
taken_keeps limit false taken others go h g = h

arm_keeps : (limit : ℕ) (test : Result Cell ℕ) (taken : List Stmt) (others : Result (List Stmt) ℕ) (go : List Stmt → Outcome) → Keeps limit (go taken) → Keeps limit (with_ok others go) → Keeps limit (with_ok (elim test [ Err code ↦ Err code | Ok c ↦ if is_false c then others else Ok taken ]) go)
arm_keeps limit (Err code) taken others go h g = tt
arm_keeps limit (Ok c) taken others go h g = taken_keeps limit (is_false c) taken others go h g

branch_keeps : (limit n : ℕ) (arms : List (Arm Stmt)) (otherwise : List Stmt) (v : Variables) (m : Memory) (go : List Stmt → Outcome) → ArmsRegular n arms → AllRegular n otherwise → ((ss : List Stmt) → AllRegular n ss → Keeps limit (go ss)) → Keeps limit (with_ok (branch arms otherwise v m) go)
branch_keeps limit n [] otherwise v m go arm last h = h otherwise last
branch_keeps limit n (a ∷ arms) otherwise v m go arm last h =
    arm_keeps limit (value_of a.test v m) a.body (branch arms otherwise v m) go (h a.body arm.0) (branch_keeps limit n arms otherwise v m go arm.1 last h)

prints_keeps : (limit : ℕ) (s : State) (top : state.Call) (below : List state.Call) (todo : List Item) (text : List ℕ) → Holds limit s.memory.next top below todo → Keeps limit (prints s top below todo text)
prints_keeps limit s top below todo text h = keeps_either limit (nat_lt 1048576 (s.printed + length text)) _ _ tt (asks_keeps limit s top below todo _ h)

comes_by : (limit : ℕ) (s : State) (top : state.Call) (below : List state.Call) (todo : List Item) (e : Effect) (o : Option Request) → e.memory.next ≡ s.memory.next → Holds limit s.memory.next top below todo → Keeps limit (elim o [ None ↦ Goes false (record s { calls = record top { todo = todo } ∷ below; memory = e.memory; phase = e.phase }) | Some q ↦ asks (record s { memory = e.memory; phase = e.phase }) top below todo q ])
comes_by limit s top below todo e None same h = record {
  fit = (record { room = h.room; regular = h.regular }, h.fit);
  serials = kept_within todo (e.memory.next + (pending todo + pending_in below)) limit (let l = h.serials in omega (arith, same, l));
}
comes_by limit s top below todo e (Some q) same h = asks_keeps limit (record s { memory = e.memory; phase = e.phase }) top below todo q (record { room = h.room; regular = h.regular; fit = h.fit; serials = (let l = h.serials in omega (arith, same, l)) })

calls_keeps : (limit : ℕ) (s : State) (top : state.Call) (below : List state.Call) (todo : List Item) (call : MpiCall) → Holds limit s.memory.next top below todo → Keeps limit (calls_mpi s top below todo call)
calls_keeps limit s top below todo call h =
    keeps_ok limit (values_of call.arguments top.variables s.memory) _ (λ vs.
    keeps_effect limit s.memory (effect s.seat s.phase s.memory call.function vs) (comes_to s top below todo) (effect_next s.seat s.phase s.memory call.function vs) (λ e same. comes_by limit s top below todo e e.request same h))

few_pending : (n k : ℕ) → n < 8192 → k ≤ max 1 n → k ≤ 8191
few_pending n k h l = omega (arith, h, l)

does_keeps : (limit : ℕ) (functions : List Function) (s : State) (top : state.Call) (below : List state.Call) (todo : List Item) (x : Stmt) (y : Stmt-F Stmt) → is_regular top.variables.count x ≡ true → HasParts top.variables.count y → HoldsBegun limit s.memory.next top below todo → Keeps limit (does functions s top below todo x y)
does_keeps limit functions s top below todo x (stmt.Actions actions) r p h =
    let few = few_pending top.variables.count (length actions) h.room p in
    begun_keeps limit s top below todo (Acting actions ∷ todo) h (tt, h.regular) (omega (arith, few))
does_keeps limit functions s top below todo x (stmt.Block ss) r p h = begun_keeps limit s top below todo (Rest ss ∷ todo) h (p, h.regular) (omega arith)
does_keeps limit functions s top below todo x (stmt.If arms otherwise) r p h =
    branch_keeps limit top.variables.count arms otherwise top.variables s.memory _ p.0 p.1 (λ ss all. begun_keeps limit s top below todo (Rest ss ∷ todo) h (all, h.regular) (omega arith))
does_keeps limit functions s top below todo x (stmt.While e ss) r p h = begun_keeps limit s top below todo (Testing x ∷ todo) h (r, h.regular) (omega arith)
does_keeps limit functions s top below todo x (stmt.DoWhile ss e) r p h = begun_keeps limit s top below todo (Rest ss ∷ Testing x ∷ todo) h (p, (r, h.regular)) (omega arith)
does_keeps limit functions s top below todo x (stmt.For start e last ss) r p h =
    let few = few_pending top.variables.count (length start) h.room p.0 in
    begun_keeps limit s top below todo (Acting start ∷ Testing x ∷ todo) h (tt, (r, h.regular)) (omega (arith, few))
does_keeps limit functions s top below todo x stmt.Break r p h =
    let less = after_pending todo in
    begun_keeps limit s top below todo (after_loop todo) h (after_regular top.variables.count todo h.regular) (omega (arith, less))
does_keeps limit functions s top below todo x stmt.Continue r p h =
    let less = to_pending todo in
    begun_keeps limit s top below todo (to_loop todo) h (to_regular top.variables.count todo h.regular) (omega (arith, less))
does_keeps limit functions s top below todo x (stmt.Return None) r p h = begun_returns limit s top below todo (number (pos 0)) h
does_keeps limit functions s top below todo x (stmt.Return (Some e)) r p h = keeps_ok limit (value_of e top.variables s.memory) (returned s top below) (λ v. begun_returns limit s top below todo v h)
does_keeps limit functions s top below todo x (stmt.Print format arguments) r p h =
    keeps_ok limit (values_of arguments top.variables s.memory) _ (λ vs. prints_keeps limit s top below todo (printed format vs) (once_begun limit s.memory.next top below todo h))
does_keeps limit functions s top below todo x (stmt.Free e) r p h =
    keeps_ok limit (value_of e top.variables s.memory) _ (λ c.
    keeps_next limit s.memory (free s.memory c) (goes_with s top below todo) (free_next s.memory c) (λ n same. with_keeps limit s top below todo n same (once_begun limit s.memory.next top below todo h)))
does_keeps limit functions s top below todo x (stmt.Mpi call) r p h = calls_keeps limit s top below todo call (once_begun limit s.memory.next top below todo h)
does_keeps limit functions s top below todo x stmt.Mark r p h = asks_keeps limit s top below todo _ (once_begun limit s.memory.next top below todo h)

-- ---- loops

turned_keeps : (limit : ℕ) (s : State) (top : state.Call) (below : List state.Call) (todo inside : List Item) (t : Bool) → Keeps limit (goes_to s top below todo) → Keeps limit (goes_to s top below inside) → Keeps limit (goes_to s top below (if t then todo else inside))
turned_keeps limit s top below todo inside true h g = h
turned_keeps limit s top below todo inside false h g = g

turns_keeps : (limit : ℕ) (s : State) (top : state.Call) (below : List state.Call) (todo : List Item) (e : Expr) (inside : List Item) → Keeps limit (goes_to s top below todo) → Keeps limit (goes_to s top below inside) → Keeps limit (turns s top below todo e inside)
turns_keeps limit s top below todo e inside h g = keeps_ok limit (value_of e top.variables s.memory) _ (λ c. turned_keeps limit s top below todo inside (is_false c) h g)

-- a turn of a for, whose body begins a statement
body_keeps : (limit : ℕ) (s : State) (top : state.Call) (below : List state.Call) (todo : List Item) (x : Stmt) (ss : List Stmt) → is_regular top.variables.count x ≡ true → AllRegular top.variables.count ss → IsFull ss → Holds limit s.memory.next top below todo → Keeps limit (goes_to s top below (Rest ss ∷ Stepping x ∷ todo))
body_keeps limit s top below todo x [] r all full h = absurd full
body_keeps limit s top below todo x (y ∷ ys) r all full h = record { fit = (record { room = h.room; regular = (all, (r, h.regular)) }, h.fit); serials = (let l = h.serials in omega (arith, l)) }

tests_keeps : (limit : ℕ) (s : State) (top : state.Call) (below : List state.Call) (todo : List Item) (x : Stmt) (y : Stmt-F Stmt) → is_regular top.variables.count x ≡ true → HasParts top.variables.count y → Holds limit s.memory.next top below todo → Keeps limit (tests s top below todo x y)
tests_keeps limit s top below todo x (stmt.While e ss) r p h =
    turns_keeps limit s top below todo e _ (to_keeps limit s top below todo h) (moves_keeps limit s top below todo (Rest ss ∷ Testing x ∷ todo) h (p, (r, h.regular)) (omega arith))
tests_keeps limit s top below todo x (stmt.DoWhile ss e) r p h =
    turns_keeps limit s top below todo e _ (to_keeps limit s top below todo h) (moves_keeps limit s top below todo (Rest ss ∷ Testing x ∷ todo) h (p, (r, h.regular)) (omega arith))
tests_keeps limit s top below todo x (stmt.For start (Some e) last ss) r p h =
    turns_keeps limit s top below todo e _ (to_keeps limit s top below todo h) (body_keeps limit s top below todo x ss r p.2 p.3 h)
tests_keeps limit s top below todo x (stmt.For start None last ss) r p h = body_keeps limit s top below todo x ss r p.2 p.3 h
tests_keeps limit s top below todo x (stmt.Actions actions) r p h = to_keeps limit s top below todo h
tests_keeps limit s top below todo x (stmt.Block ss) r p h = to_keeps limit s top below todo h
tests_keeps limit s top below todo x (stmt.If arms otherwise) r p h = to_keeps limit s top below todo h
tests_keeps limit s top below todo x stmt.Break r p h = to_keeps limit s top below todo h
tests_keeps limit s top below todo x stmt.Continue r p h = to_keeps limit s top below todo h
tests_keeps limit s top below todo x (stmt.Return e) r p h = to_keeps limit s top below todo h
tests_keeps limit s top below todo x (stmt.Print format arguments) r p h = to_keeps limit s top below todo h
tests_keeps limit s top below todo x (stmt.Free e) r p h = to_keeps limit s top below todo h
tests_keeps limit s top below todo x (stmt.Mpi call) r p h = to_keeps limit s top below todo h
tests_keeps limit s top below todo x stmt.Mark r p h = to_keeps limit s top below todo h

-- the last clause of a for counts as one action
again_keeps : (limit : ℕ) (s : State) (top : state.Call) (below : List state.Call) (todo next : List Item) → HoldsOne limit s.memory.next top below todo → AreRegularItems top.variables.count next → pending next ≤ 1 + pending todo → Keeps limit (goes_to s top below next)
again_keeps limit s top below todo next h r less = to_keeps limit s top below next (record { room = h.room; regular = r; fit = h.fit; serials = (let l = h.serials in omega (arith, l, less)) })

steps_keeps : (limit : ℕ) (s : State) (top : state.Call) (below : List state.Call) (todo : List Item) (x : Stmt) (y : Stmt-F Stmt) → is_regular top.variables.count x ≡ true → HasParts top.variables.count y → HoldsOne limit s.memory.next top below todo → Keeps limit (steps s top below todo x y)
steps_keeps limit s top below todo x (stmt.For start e last ss) r p h =
    let one = p.1 in
    again_keeps limit s top below todo (Acting last ∷ Testing x ∷ todo) h (tt, (r, h.regular)) (omega (arith, one))
steps_keeps limit s top below todo x (stmt.While e ss) r p h = again_keeps limit s top below todo (Testing x ∷ todo) h (r, h.regular) (omega arith)
steps_keeps limit s top below todo x (stmt.DoWhile ss e) r p h = again_keeps limit s top below todo (Testing x ∷ todo) h (r, h.regular) (omega arith)
steps_keeps limit s top below todo x (stmt.Actions actions) r p h = again_keeps limit s top below todo (Testing x ∷ todo) h (r, h.regular) (omega arith)
steps_keeps limit s top below todo x (stmt.Block ss) r p h = again_keeps limit s top below todo (Testing x ∷ todo) h (r, h.regular) (omega arith)
steps_keeps limit s top below todo x (stmt.If arms otherwise) r p h = again_keeps limit s top below todo (Testing x ∷ todo) h (r, h.regular) (omega arith)
steps_keeps limit s top below todo x stmt.Break r p h = again_keeps limit s top below todo (Testing x ∷ todo) h (r, h.regular) (omega arith)
steps_keeps limit s top below todo x stmt.Continue r p h = again_keeps limit s top below todo (Testing x ∷ todo) h (r, h.regular) (omega arith)
steps_keeps limit s top below todo x (stmt.Return e) r p h = again_keeps limit s top below todo (Testing x ∷ todo) h (r, h.regular) (omega arith)
steps_keeps limit s top below todo x (stmt.Print format arguments) r p h = again_keeps limit s top below todo (Testing x ∷ todo) h (r, h.regular) (omega arith)
steps_keeps limit s top below todo x (stmt.Free e) r p h = again_keeps limit s top below todo (Testing x ∷ todo) h (r, h.regular) (omega arith)
steps_keeps limit s top below todo x (stmt.Mpi call) r p h = again_keeps limit s top below todo (Testing x ∷ todo) h (r, h.regular) (omega arith)
steps_keeps limit s top below todo x stmt.Mark r p h = again_keeps limit s top below todo (Testing x ∷ todo) h (r, h.regular) (omega arith)

-- ---- a step

-- what the first item's beginning gives
abbrev given : List Item → ℕ
given todo = if begins_first todo then 8192 else 0

first_keeps : (limit : ℕ) (functions : List Function) (refuses : Memory → ℕ → Bool) (s : State) (top : state.Call) (below : List state.Call) (todo : List Item) → regular.AreRegular functions → top.variables.count < 8192 → AreRegularItems top.variables.count todo → Fit below → s.memory.next + (pending todo + pending_in below) + kept todo ≤ limit → Keeps (limit + given todo) (goes_on functions refuses s top below todo)
first_keeps limit functions refuses s top below [] r n items fit h = returned_keeps (limit + 0) s top below (number (pos 0)) fit (omega (arith, h))
first_keeps limit functions refuses s top below (Body ss ∷ todo) r n items fit h = record {
  fit = (record { room = n; regular = items }, fit);
  serials = kept_within (Rest ss ∷ todo) (s.memory.next + (pending (Rest ss ∷ todo) + pending_in below)) (limit + 8192) (omega (arith, h));
}
first_keeps limit functions refuses s top below (Rest [] ∷ todo) r n items fit h = to_keeps (limit + 0) s top below todo (record { room = n; regular = items.1; fit = fit; serials = omega (arith, h) })
first_keeps limit functions refuses s top below (Rest (x ∷ xs) ∷ todo) r n items fit h =
    let count = top.variables.count in
    record {
      fit = (record { room = n; regular = (and_left (is_regular count x) (list_all (is_regular count) xs) items.0, (and_right (is_regular count x) (list_all (is_regular count) xs) items.0, items.1)) }, fit);
      serials = omega (arith, h);
    }
first_keeps limit functions refuses s top below (Begun x ∷ todo) r n items fit h =
    does_keeps (limit + 0) functions s top below todo x (out-Stmt x) items.0 (parts_of top.variables.count x items.0) (record { room = n; regular = items.1; fit = fit; serials = omega (arith, h) })
first_keeps limit functions refuses s top below (Acting [] ∷ todo) r n items fit h = to_keeps (limit + 0) s top below todo (record { room = n; regular = items.1; fit = fit; serials = omega (arith, h) })
first_keeps limit functions refuses s top below (Acting (a ∷ actions) ∷ todo) r n items fit h =
    acts_keeps (limit + 0) functions refuses s top below (Acting actions ∷ todo) a r (record { room = n; regular = (tt, items.1); fit = fit; serials = omega (arith, h) })
first_keeps limit functions refuses s top below (Awaiting t ∷ todo) r n items fit h = to_keeps (limit + 0) s top below todo (record { room = n; regular = items.1; fit = fit; serials = omega (arith, h) })
first_keeps limit functions refuses s top below (Testing x ∷ todo) r n items fit h =
    tests_keeps (limit + 0) s top below todo x (out-Stmt x) items.0 (parts_of top.variables.count x items.0) (record { room = n; regular = items.1; fit = fit; serials = omega (arith, h) })
first_keeps limit functions refuses s top below (Stepping x ∷ todo) r n items fit h =
    steps_keeps (limit + 0) s top below todo x (out-Stmt x) items.0 (parts_of top.variables.count x items.0) (record { room = n; regular = items.1; fit = fit; serials = omega (arith, h) })

newest_keeps : (limit : ℕ) (functions : List Function) (refuses : Memory → ℕ → Bool) (s : State) (calls : List state.Call) → regular.AreRegular functions → Fit calls → s.memory.next + pending_in calls + kept_in calls ≤ limit → Keeps (limit + (if begins_in calls then 8192 else 0)) (step_in functions refuses s calls)
newest_keeps limit functions refuses s [] r fit h = tt
newest_keeps limit functions refuses s (top ∷ below) r fit h = first_keeps limit functions refuses s top below top.todo r fit.0.room fit.0.regular fit.1 h

asked_keeps : (limit : ℕ) (functions : List Function) (refuses : Memory → ℕ → Bool) (s : State) (asked : Option Request) → regular.AreRegular functions → IsWithin limit s → Keeps (limit + (if elim asked [ None ↦ begins_in s.calls | Some q ↦ false ] then 8192 else 0)) (elim asked [ None ↦ step_in functions refuses s s.calls | Some q ↦ Asks q.operation s ])
asked_keeps limit functions refuses s None r h = newest_keeps limit functions refuses s s.calls r h.fit h.serials
asked_keeps limit functions refuses s (Some q) r h = record { fit = h.fit; serials = (let l = h.serials in omega (arith, l)) }

pub step_keeps : (limit : ℕ) (functions : List Function) (refuses : Memory → ℕ → Bool) (s : State) → regular.AreRegular functions → IsWithin limit s → Keeps (limit + (if begins s then 8192 else 0)) (step functions refuses s)
step_keeps limit functions refuses s r h = asked_keeps limit functions refuses s s.asked r h

-- ---- a reply

taken_by : (limit : ℕ) (s : State) (r : Result Memory ℕ) → LikeNext s.memory r → IsWithin limit s → Keeps limit (with_ok r (λ m. Goes false (record s { memory = m })))
taken_by limit s (Err code) same h = tt
taken_by limit s (Ok m) same h = record { fit = h.fit; serials = (let l = h.serials in omega (arith, same, l)) }

taken_keeps_in : (limit : ℕ) (s : State) (o : Option Receipt) (r : Reply) → IsWithin limit s → Keeps limit (taken_in s o r)
taken_keeps_in limit s None r h = h
taken_keeps_in limit s (Some q) (reply.Got source message) h = taken_by limit s (received q s.memory source message) (received_next q s.memory source message) h
taken_keeps_in limit s (Some q) reply.Done h = h

pub answered_keeps : (limit : ℕ) (s : State) (r : Reply) → IsWithin limit s → Keeps limit (answered s r)
answered_keeps limit s r h = taken_keeps_in limit (finished s) (receipt_of s.asked) r (record { fit = h.fit; serials = h.serials })

-- ---- the start

started_by : (p : Program) (rank ranks : ℕ) (r : Result Memory ℕ) → Enters empty (lengths_of p.functions p.main) r → IsCalled (body_of p.functions p.main) (lengths_of p.functions p.main) → IsWithin 8193 (elim r [
  | Err code ↦ record { calls = []; memory = empty; seat = seat_of p rank ranks; phase = Before; printed = 0; asked = None }
  | Ok m ↦ record { calls = call_of p.functions p.main 1 ∷ []; memory = m; seat = seat_of p rank ranks; phase = Before; printed = 0; asked = None }
])
started_by p rank ranks (Err code) e c = record { fit = tt; serials = omega arith }
started_by p rank ranks (Ok m) e c =
    let next = e.0 in
    let few = e.1 in
    let cells = c.cells in
    record { fit = (record { room = omega (arith, few, cells); regular = (c.regular, tt) }, tt); serials = omega (arith, next, few, cells) }

pub start_within : (p : Program) (rank ranks : ℕ) → regular.IsRegular p → IsWithin 8193 (start p rank ranks)
start_within p rank ranks r = started_by p rank ranks (enter empty (lengths_of p.functions p.main)) (enter_next empty (lengths_of p.functions p.main)) (called_of p.functions p.main r)
