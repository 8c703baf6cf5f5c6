-- The machine follows the program, one instruction at a time.
use Rattle.std.proofs.Common.{◌≡◌, ℕ, zero, suc, ◌+◌, List, [], ◌∷◌, map, length, Option, Some, None, Bool, true, false, Result, Ok, Err, refl, sym, ap, ◌∙◌, subst}
use Rattle.std.specs.Prelude.{pos, nat_lt, if◌then◌else◌, slice_get}
use Rattle.c3_base.specs.declared.cell.Cell.{Cell}
use Rattle.mpi_words.specs.declared.operation.Reply.{Reply}
use Rattle.mpi_words.specs.declared.operation.Reply.TheVariants as reply
use Rattle.mpi_words.specs.declared.message.Message.{Message}
use Rattle.mpi_words.specs.declared.operation.Op.TheVariants as op
use Rattle.c_kernel.specs.declared.program.Action.{Action}
use Rattle.c_kernel.specs.declared.program.Action.TheVariants as action
use Rattle.c_kernel.specs.declared.program.Arm.{Arm}
use Rattle.c_kernel.specs.declared.program.Expr.{Expr}
use Rattle.c_kernel.specs.declared.program.Function.{Function}
use Rattle.c_kernel.specs.declared.program.Place.{Place}
use Rattle.c_kernel.specs.declared.program.Target.{Target}
use Rattle.c_kernel.specs.declared.program.Stmt.{Stmt, out-Stmt}
use Rattle.c_kernel.specs.declared.program.Stmt.TheOpen.{Stmt-F}
use Rattle.c_kernel.specs.declared.program.Stmt.TheOpen as stmt
use Rattle.mpi_effects.specs.declared.seat.Seat.{Seat}
use Rattle.c_values.specs.Variables.{variables_from}
use Rattle.mpi_effects.specs.declared.seat.Phase.{Phase}
use Rattle.mpi_effects.specs.declared.requests.Request.{Request}
use Rattle.mpi_effects.specs.declared.requests.Receipt.{Receipt}
use Rattle.c_values.specs.declared.value.Variables.{Variables}
use Rattle.c_memory.specs.Memory.{Memory, number, store, enter, leave, free, zeroed, cells_asked, with_arguments, malloc}
use Rattle.c_values.specs.Value.{Found, is_false, read_of, variable_of, place_of, value_of, values_of}
use Rattle.c_values.specs.Text.{printed}
use Rattle.mpi_effects.specs.Mpi.{Effect, effect, received}
use Rattle.c_meaning.specs.State.{Item, Body, Rest, Begun, Acting, Awaiting, Testing, Stepping, State, after_loop, to_loop}
use Rattle.c_meaning.specs.State as state
use Rattle.c_meaning.specs.Step.{body_of, lengths_of, branch}
use Rattle.mpi_effects.specs.Requests.{receipt_of, bytes_asked, plain_request}
use Rattle.c_meaning.specs.Step as source
use Rattle.flat_code.specs.declared.code.FlatFunction.{FlatFunction}
use Rattle.flat_code.specs.declared.code.Instr.{Instr}
use Rattle.flat_code.specs.declared.code.Instr.TheVariants.{Step, Zero, Set, Call, Malloc, Free, Goto, Unless, Return, Mark, Print, Mpi}
use Rattle.flat_code.specs.Machine.{Frame, Machine, Outcome, Goes, Asks, Ends, code_at, lengths_in, instr_at, target_in, step, acts}
use Rattle.flat_code.specs.Machine as machine
use Rattle.ccift_lower.specs.Laid.{At, Acts, done, act, Laid, empty, cons, Chosen, otherwise, arm, Looped, while_loop, do_loop, for_loop, forever_loop, Formed}
use Rattle.ccift_lower.specs.Laid.{Leads}
use Rattle.ccift_lower.specs.Lowered.{instr_of}
use Rattle.ccift_lower.specs.Laid as laid
use Rattle.ccift_lower.specs.Stands.{result_of, EndsAt, Stands, jumps, ends, body, rest, begun, acting, testing, stepping, Wait, none, waits, World, state_in, machine_in, StandsFor, nowhere, stands, chooses}
use Rattle.ccift_lower.specs.Follows.{Compiled, Locals, here, further, Both, Followed, jumped, agreed}

-- ---- places

-- a break leads to where what follows the loop stands
after_stands : (code : List Instr) (todo : List Item) (p leave again : ℕ) → Stands code todo p leave again → (l : ℕ) × (a : ℕ) × Stands code (after_loop todo) leave l a
after_stands code _ _ _ _ (jumps todo p q leave again at st) = after_stands code todo q leave again st
after_stands code _ _ _ _ (ends p leave again e f g) = (leave, again, ends leave leave again f f g)
after_stands code _ _ _ _ (body ss todo p end leave again at laid st) = after_stands code todo end leave again st
after_stands code _ _ _ _ (rest ss todo p end leave again laid st) = after_stands code todo end leave again st
after_stands code _ _ _ _ (begun x todo p end leave again formed st) = after_stands code todo end leave again st
after_stands code _ _ _ _ (acting al todo p end leave again acts st) = after_stands code todo end leave again st
after_stands code _ _ _ _ (testing x todo p on end leave again looped st) = (leave, again, st)
after_stands code _ _ _ _ (stepping x todo p on end leave again looped st) = (leave, again, st)

-- a continue, to where the loop goes on
to_stands : (code : List Instr) (todo : List Item) (p leave again : ℕ) → Stands code todo p leave again → (l : ℕ) × (a : ℕ) × Stands code (to_loop todo) again l a
to_stands code _ _ _ _ (jumps todo p q leave again at st) = to_stands code todo q leave again st
to_stands code _ _ _ _ (ends p leave again e f g) = (leave, again, ends again leave again g f g)
to_stands code _ _ _ _ (body ss todo p end leave again at laid st) = to_stands code todo end leave again st
to_stands code _ _ _ _ (rest ss todo p end leave again laid st) = to_stands code todo end leave again st
to_stands code _ _ _ _ (begun x todo p end leave again formed st) = to_stands code todo end leave again st
to_stands code _ _ _ _ (acting al todo p end leave again acts st) = to_stands code todo end leave again st
to_stands code _ _ _ _ (testing x todo p on end leave again looped st) = (end, p, testing x todo p on end leave again looped st)
to_stands code _ _ _ _ (stepping x todo p on end leave again looped st) = (end, on, stepping x todo p on end leave again looped st)

-- jumps before
led : (code : List Instr) (todo : List Item) (p q leave again : ℕ) → Leads code p q → Stands code todo q leave again → Stands code todo p leave again
led code todo _ _ leave again (laid.here p) st = st
led code todo _ _ leave again (laid.jump p q r at onward) st = jumps todo p q leave again at (led code todo q r leave again onward st)

-- ---- how both go on

pub both_ok : (code : List FlatFunction) {A : Type 0} (x : Result A ℕ) (g : A → state.Outcome) (h : A → Outcome) → ((a : A) → Both code (g a) (h a)) → Both code (source.with_ok x g) (machine.with_ok x h)
both_ok code (Err c) g h both = refl
both_ok code (Ok a) g h both = both a

by_test : (code : List FlatFunction) (b : Bool) (f g : state.Outcome) (h k : Outcome) → Both code f h → Both code g k → Both code (if b then f else g) (if b then h else k)
by_test code true f g h k p q = p
by_test code false f g h k p q = q

-- one of two
chosen : {A : Type 0} (F : A → ℕ → Type 0) (b : Bool) (x y : A) (p q : ℕ) → F x p → F y q → F (if b then x else y) (if b then p else q)
chosen F true x y p q f g = f
chosen F false x y p q f g = g

-- a call, and its frame
abbrev call : List Item → Variables → state.Call
call todo v = record { todo = todo; variables = v }

abbrev frame : ℕ → ℕ → Variables → Frame
frame f p v = record { function = f; place = p; variables = v }

module _ (code : List FlatFunction) (f : ℕ) (v : Variables) (calls : List state.Call) (frames : List Frame) (below : Wait code calls frames) where
  moves : (w : World) (todo : List Item) (p leave again : ℕ) → Stands (code_at code f) todo p leave again → StandsFor code (state_in w (call todo v ∷ calls)) (machine_in w (frame f p v ∷ frames))
  moves w todo p leave again st = stands w todo f p leave again v calls frames st below

  both_stored : (w : World) (old : List Item) (at : ℕ) (others : List state.Call) (more : List Frame) (todo : List Item) (p leave again : ℕ) (place : Place Expr) (c : Cell) → Stands (code_at code f) todo p leave again →
      Both code (source.stores (state_in w others) (call old v) calls todo place c) (machine.stores (machine_in w more) (frame f at v) frames p place c)
  both_stored w old at others more todo p leave again place c st =
      both_ok code (place_of place v w.memory) _ _ (λ spot. both_ok code (store w.memory spot c) _ _ (λ m. (refl, moves (record w { memory = m }) todo p leave again st)))

  both_asked : (w : World) (old : List Item) (at : ℕ) (others : List state.Call) (more : List Frame) (todo : List Item) (p leave again : ℕ) (q : Request) → Stands (code_at code f) todo p leave again →
      Both code (source.asks (state_in w others) (call old v) calls todo q) (machine.asks (machine_in w more) (frame f at v) frames p q)
  both_asked w old at others more todo p leave again q st = (refl, q, refl, moves (record w { asked = Some q }) todo p leave again st)

  both_come_to : (w : World) (old : List Item) (at : ℕ) (others : List state.Call) (more : List Frame) (todo : List Item) (p leave again : ℕ) (memory : Memory) (phase : Phase) (q : Option Request) → Stands (code_at code f) todo p leave again →
      Both code (source.comes_to (state_in w others) (call old v) calls todo (record { memory = memory; phase = phase; request = q })) (machine.comes_to (machine_in w more) (frame f at v) frames p (record { memory = memory; phase = phase; request = q }))
  both_come_to w old at others more todo p leave again memory phase None st = (refl, moves (record w { memory = memory; phase = phase }) todo p leave again st)
  both_come_to w old at others more todo p leave again memory phase (Some q) st = both_asked (record w { memory = memory; phase = phase }) old at others more todo p leave again q st

  both_awaited : (w : World) (old : List Item) (at : ℕ) (others : List state.Call) (more : List Frame) (todo : List Item) (leave again : ℕ) (into : Option Target) (c : Cell) → Stands (code_at code f) todo (at + 1) leave again →
      Both code (source.awaited (state_in w others) (call old v) calls (Awaiting into ∷ todo) c) (machine.awaited (machine_in w more) (frame f at v) frames into c)
  both_awaited w old at others more todo leave again None c st = (refl, moves w todo (at + 1) leave again st)
  both_awaited w old at others more todo leave again (Some t) c st = both_stored w old at others more todo (at + 1) leave again t.place (read_of t.kind c) st

-- a result comes back
both_come_back : (code : List FlatFunction) (w : World) (others : List state.Call) (more : List Frame) (calls : List state.Call) (frames : List Frame) (c : Cell) → Wait code calls frames → Both code (source.comes_back (state_in w others) calls c) (machine.comes_back code (machine_in w more) frames c)
both_come_back code w others more _ _ c none = refl
both_come_back code w others more _ _ c (waits into g arguments todo f p leave again v calls frames at st below) =
    subst (λ i. Both code (source.awaited (state_in w others) (call (Awaiting into ∷ todo) v) calls (Awaiting into ∷ todo) c) (machine.awaited (machine_in w more) (frame f p v) frames (target_in i) c)) (sym at)
    (both_awaited code f v calls frames below w (Awaiting into ∷ todo) p others more todo leave again into c st)

-- a function is entered
both_entered : (functions : List Function) (code : List FlatFunction) (is : Compiled functions code) (w : World) (others : List state.Call) (more : List Frame) (calls : List state.Call) (frames : List Frame) (g : ℕ) (vs : List Cell) → Wait code calls frames →
    Both code (source.enters functions (state_in w others) calls g vs) (machine.enters code (machine_in w more) frames g vs)
both_entered functions code is w others more calls frames g vs below =
    subst (λ lengths. Both code (source.enters functions (state_in w others) calls g vs) (machine.with_ok (enter w.memory lengths) (λ memory. Goes false (record (machine_in w more) {
      frames = record { function = g; place = 0; variables = variables_from w.memory.next (length lengths) } ∷ frames;
      memory = with_arguments memory w.memory.next vs;
    })))) (is.lengths g)
    (both_ok code (enter w.memory (lengths_of functions g)) _ _ (λ m.
    let b = is.bodies g in
    (refl, stands (record w { memory = with_arguments m w.memory.next vs }) (Body (body_of functions g) ∷ []) g 0 b.0 b.1 (variables_from w.memory.next (length (lengths_of functions g))) calls frames b.2 below)))

-- a step of the program's own
after : (functions : List Function) (code : List FlatFunction) (r : Memory → ℕ → Bool) (s t : State) (m : Machine) → ((refuses : Memory → ℕ → Bool) → source.step functions refuses s ≡ state.Goes false t) → Followed functions code r t m → Followed functions code r s m
after functions code r s t m e (jumped u n run j st) = jumped u n (further s t u e run) j st
after functions code r s t m e (agreed u run b) = agreed u (further s t u e run) b

-- a return of a value or of nothing
returns : (code : List FlatFunction) (r : Memory → ℕ → Bool) (m : Machine) (top : Frame) (frames : List Frame) (e : Option Expr) → acts code r m top frames (Some (Return e)) ≡ machine.with_ok (result_of e top.variables m.memory) (machine.returned code m top frames)
returns code r m top frames None = refl
returns code r m top frames (Some e) = refl

does_return : (functions : List Function) (s : State) (top : state.Call) (calls : List state.Call) (todo : List Item) (x : Stmt) (e : Option Expr) → source.does functions s top calls todo x (stmt.Return e) ≡ source.with_ok (result_of e top.variables s.memory) (source.returned s top calls)
does_return functions s top calls todo x None = refl
does_return functions s top calls todo x (Some e) = refl

module _ (functions : List Function) (code : List FlatFunction) (is : Compiled functions code) (r : Memory → ℕ → Bool) (sites described : List ℕ) (memory : Memory) (seat : Seat) (phase : Phase) (out : ℕ) (f : ℕ) (v : Variables) (calls : List state.Call) (frames : List Frame) (below : Wait code calls frames) where
  abbrev w : World
  w = record { sites = sites; described = described; memory = memory; seat = seat; phase = phase; printed = out; asked = None }

  abbrev here_code : List Instr
  here_code = code_at code f

  abbrev program : List Item → State
  program todo = state_in w (call todo v ∷ calls)

  abbrev machine_here : ℕ → Machine
  machine_here p = machine_in w (frame f p v ∷ frames)

  -- the machine's step by an instruction
  abbrev acted : ℕ → Option Instr → Outcome
  acted p i = acts code r (machine_here p) (frame f p v) frames i

  abbrev Follows : List Item → ℕ → Type 0
  Follows todo p = Followed functions code r (program todo) (machine_here p)

  -- an instruction for the program's next step
  agrees : (todo : List Item) (p : ℕ) (i : Instr) → At here_code p i → Both code (source.step functions r (program todo)) (acted p (Some i)) → Follows todo p
  agrees todo p i at both = agreed (program todo) (here (program todo)) (subst (λ o. Both code (source.step functions r (program todo)) (acted p o)) (sym at) both)

  -- a jump
  jumps_here : (todo : List Item) (p q leave again : ℕ) → At here_code p (Goto q) → Stands here_code todo q leave again → Follows todo p
  jumps_here todo p q leave again at st = jumped (program todo) (machine_here q) (here (program todo)) (ap (acted p) at) (moves code f v calls frames below w todo q leave again st)

  on : (todo : List Item) (p leave again : ℕ) → Stands here_code todo p leave again → StandsFor code (program todo) (machine_here p)
  on todo p leave again st = moves code f v calls frames below w todo p leave again st

  -- a result comes back from here
  comes_back_here : (c : Cell) (others : List state.Call) (more : List Frame) → Both code (source.returned (state_in w others) (call [] v) calls c) (machine.returned code (machine_in w more) (frame f 0 v) frames c)
  comes_back_here c others more = both_come_back code (record w { memory = leave memory v.count }) calls frames calls frames c below

  -- ---- what is done at once

  both_acted : (a : Action) (todo : List Item) (p leave again : ℕ) (old : List Item) → Stands here_code todo (p + 1) leave again → At here_code p (instr_of a) → Both code (source.acts functions r (program old) (call old v) calls todo a) (acted p (Some (instr_of a)))
  both_acted (action.Zero k) todo p leave again old st at =
      (refl, moves code f v calls frames below (record w { memory = zeroed memory (variable_of k v).serial }) todo (p + 1) leave again st)
  both_acted (action.Set place value) todo p leave again old st at =
      both_ok code (value_of value v memory) _ _ (λ c. both_stored code f v calls frames below w old p [] [] todo (p + 1) leave again place c st)
  both_acted (action.Call into g arguments) todo p leave again old st at =
      both_ok code (values_of arguments v memory) _ _ (λ vs. both_entered functions code is w [] [] (call (Awaiting into ∷ todo) v ∷ calls) (frame f p v ∷ frames) g vs (waits into g arguments todo f p leave again v calls frames at st below))
  both_acted (action.Malloc place bytes each) todo p leave again old st at =
      both_ok code (value_of bytes v memory) _ _ (λ n. both_stored code f v calls frames below (record w { memory = (malloc r memory (cells_asked n.word each)).0 }) old p [] [] todo (p + 1) leave again place (malloc r memory (cells_asked n.word each)).1 st)

  acting_follows : (al : List Action) (todo : List Item) (p end leave again : ℕ) → Acts here_code al p end → Stands here_code todo end leave again → Follows todo end → Follows (Acting al ∷ todo) p
  acting_follows _ todo _ _ leave again (done p) st rec = after functions code r (program (Acting [] ∷ todo)) (program todo) (machine_here p) (λ refuses. refl) rec
  acting_follows _ todo _ _ leave again (act a al p end at others) st rec =
      agrees (Acting (a ∷ al) ∷ todo) p (instr_of a) at (both_acted a (Acting al ∷ todo) p leave again (Acting (a ∷ al) ∷ todo) (acting al todo (p + 1) end leave again others st) at)

  -- ---- statements that haven't begun

  rest_follows : (ss : List Stmt) (todo : List Item) (p end leave again : ℕ) → Laid here_code ss p end leave again → Stands here_code todo end leave again → Follows todo end → Follows (Rest ss ∷ todo) p
  rest_follows _ todo _ _ _ _ (empty p leave again) st rec = after functions code r (program (Rest [] ∷ todo)) (program todo) (machine_here p) (λ refuses. refl) rec
  rest_follows _ todo _ _ _ _ (cons x xs p mid end leave again at formed more) st rec =
      agrees (Rest (x ∷ xs) ∷ todo) p Step at (refl, on (Begun x ∷ Rest xs ∷ todo) (p + 1) leave again (begun x (Rest xs ∷ todo) (p + 1) mid leave again formed (rest xs todo mid end leave again more st)))

  -- ---- loops (the statement is given by one level of it)

  -- a local step, from one list of items to another
  goes_by : (old new : List Item) (p : ℕ) → ((refuses : Memory → ℕ → Bool) → source.step functions refuses (program old) ≡ state.Goes false (program new)) → Follows new p → Follows old p
  goes_by old new p e rec = after functions code r (program old) (program new) (machine_here p) e rec

  -- a turn of a loop
  turns : (x : Stmt) (l : Stmt-F Stmt) (todo inside : List Item) (e : Expr) (p end leave again inner_leave inner_again : ℕ) → out-Stmt x ≡ l → source.tests (program (Testing x ∷ todo)) (call (Testing x ∷ todo) v) calls todo x l ≡ source.turns (program (Testing x ∷ todo)) (call (Testing x ∷ todo) v) calls todo e inside →
      At here_code p (Unless e end) → Stands here_code todo end leave again → Stands here_code inside (p + 1) inner_leave inner_again → Follows (Testing x ∷ todo) p
  turns x l todo inside e p end leave again inner_leave inner_again same tests at st st_inside =
      agrees (Testing x ∷ todo) p (Unless e end) at
      (subst (λ o. Both code o (acted p (Some (Unless e end)))) (sym (ap (source.tests (program (Testing x ∷ todo)) (call (Testing x ∷ todo) v) calls todo x) same ∙ tests))
      (both_ok code (value_of e v memory) _ _ (λ c. (refl, chosen (λ t q. StandsFor code (program t) (machine_here q)) (is_false c) todo inside end (p + 1) (on todo end leave again st) (on inside (p + 1) inner_leave inner_again st_inside)))))

  testing_follows : (x : Stmt) (l : Stmt-F Stmt) (todo : List Item) (p step end leave again : ℕ) → out-Stmt x ≡ l → Looped here_code l p step end → Stands here_code todo end leave again → Follows (Testing x ∷ todo) p
  testing_follows x _ todo _ _ _ leave again same (while_loop e ss p mid end at laid back) st =
      let again_here = testing x todo p p end leave again (subst (λ z. Looped here_code z p p end) (sym same) (while_loop e ss p mid end at laid back)) st in
      turns x (stmt.While e ss) todo (Rest ss ∷ Testing x ∷ todo) e p end leave again end p same refl at st
      (rest ss (Testing x ∷ todo) (p + 1) mid end p laid (jumps (Testing x ∷ todo) mid p end p back again_here))
  testing_follows x _ todo _ _ _ leave again same (do_loop ss e p start end laid at back) st =
      let again_here = testing x todo p p end leave again (subst (λ z. Looped here_code z p p end) (sym same) (do_loop ss e p start end laid at back)) st in
      turns x (stmt.DoWhile ss e) todo (Rest ss ∷ Testing x ∷ todo) e p end leave again end p same refl at st
      (jumps (Rest ss ∷ Testing x ∷ todo) (p + 1) start end p back (rest ss (Testing x ∷ todo) start p end p laid again_here))
  testing_follows x _ todo _ _ _ leave again same (for_loop start last e ss p step back end at laid lasts jump) st =
      let looped = subst (λ z. Looped here_code z p step end) (sym same) (for_loop start last e ss p step back end at laid lasts jump) in
      turns x (stmt.For start (Some e) last ss) todo (Rest ss ∷ Stepping x ∷ todo) e p end leave again end step same refl at st
      (rest ss (Stepping x ∷ todo) (p + 1) step end step laid (stepping x todo p step end leave again looped st))
  testing_follows x _ todo _ _ _ leave again same (forever_loop start last ss p step back end laid lasts jump) st =
      let looped = subst (λ z. Looped here_code z p step end) (sym same) (forever_loop start last ss p step back end laid lasts jump) in
      let test = testing x todo p step end leave again looped st in
      goes_by (Testing x ∷ todo) (Rest ss ∷ Stepping x ∷ todo) p (λ refuses. ap (source.tests (program (Testing x ∷ todo)) (call (Testing x ∷ todo) v) calls todo x) same)
      (rest_follows ss (Stepping x ∷ todo) p step end step laid (stepping x todo p step end leave again looped st)
      (goes_by (Stepping x ∷ todo) (Acting last ∷ Testing x ∷ todo) step (λ refuses. ap (source.steps (program (Stepping x ∷ todo)) (call (Stepping x ∷ todo) v) calls todo x) same)
      (acting_follows last (Testing x ∷ todo) step back end p lasts (jumps (Testing x ∷ todo) back p end p jump test) (jumps_here (Testing x ∷ todo) back p end p jump test))))

  -- the last clause of a for
  stepping_follows : (x : Stmt) (l : Stmt-F Stmt) (todo : List Item) (p step end leave again : ℕ) → out-Stmt x ≡ l → Looped here_code l p step end → Stands here_code todo end leave again → Follows (Stepping x ∷ todo) step
  stepping_follows x _ todo _ _ _ leave again same (while_loop e ss p mid end at laid back) st =
      goes_by (Stepping x ∷ todo) (Testing x ∷ todo) p (λ refuses. ap (source.steps (program (Stepping x ∷ todo)) (call (Stepping x ∷ todo) v) calls todo x) same) (testing_follows x (stmt.While e ss) todo p p end leave again same (while_loop e ss p mid end at laid back) st)
  stepping_follows x _ todo _ _ _ leave again same (do_loop ss e p start end laid at back) st =
      goes_by (Stepping x ∷ todo) (Testing x ∷ todo) p (λ refuses. ap (source.steps (program (Stepping x ∷ todo)) (call (Stepping x ∷ todo) v) calls todo x) same) (testing_follows x (stmt.DoWhile ss e) todo p p end leave again same (do_loop ss e p start end laid at back) st)
  stepping_follows x _ todo _ _ _ leave again same (for_loop start last e ss p step back end at laid lasts jump) st =
      let test = testing x todo p step end leave again (subst (λ z. Looped here_code z p step end) (sym same) (for_loop start last e ss p step back end at laid lasts jump)) st in
      goes_by (Stepping x ∷ todo) (Acting last ∷ Testing x ∷ todo) step (λ refuses. ap (source.steps (program (Stepping x ∷ todo)) (call (Stepping x ∷ todo) v) calls todo x) same)
      (acting_follows last (Testing x ∷ todo) step back end p lasts (jumps (Testing x ∷ todo) back p end p jump test) (jumps_here (Testing x ∷ todo) back p end p jump test))
  stepping_follows x _ todo _ _ _ leave again same (forever_loop start last ss p step back end laid lasts jump) st =
      let test = testing x todo p step end leave again (subst (λ z. Looped here_code z p step end) (sym same) (forever_loop start last ss p step back end laid lasts jump)) st in
      goes_by (Stepping x ∷ todo) (Acting last ∷ Testing x ∷ todo) step (λ refuses. ap (source.steps (program (Stepping x ∷ todo)) (call (Stepping x ∷ todo) v) calls todo x) same)
      (acting_follows last (Testing x ∷ todo) step back end p lasts (jumps (Testing x ∷ todo) back p end p jump test) (jumps_here (Testing x ∷ todo) back p end p jump test))

  -- ---- an if, whose first tests gave 0

  -- what the program does with an if
  abbrev chooses_among : List Item → Stmt → Result (List Stmt) ℕ → state.Outcome
  chooses_among todo x b = source.with_ok b (λ ss. source.goes_to (program (Begun x ∷ todo)) (call (Begun x ∷ todo) v) calls (Rest ss ∷ todo))

  does_choice : (x : Stmt) (arms : List (Arm Stmt)) (ss : List Stmt) (b : Result (List Stmt) ℕ) (todo : List Item) → out-Stmt x ≡ stmt.If arms ss → branch arms ss v memory ≡ b → (refuses : Memory → ℕ → Bool) → source.step functions refuses (program (Begun x ∷ todo)) ≡ chooses_among todo x b
  does_choice x arms ss b todo same e refuses = ap (source.does functions (program (Begun x ∷ todo)) (call (Begun x ∷ todo) v) calls todo x) same ∙ ap (chooses_among todo x) e

  arm_follows : (x : Stmt) (arms left : List (Arm Stmt)) (a : Arm Stmt) (ss : List Stmt) (todo : List Item) (p mid next end leave again : ℕ) → out-Stmt x ≡ stmt.If arms ss → branch arms ss v memory ≡ branch (a ∷ left) ss v memory →
      At here_code p (Unless a.test next) → Laid here_code a.body (p + 1) mid leave again → Leads here_code mid end → Chosen here_code left ss next end leave again → Stands here_code todo end leave again →
      (c : Found) → value_of a.test v memory ≡ c → Follows (Begun x ∷ todo) p
  arm_follows x arms left a ss todo p mid next end leave again same e at laid leads others st (Err c) is_c =
      agrees (Begun x ∷ todo) p (Unless a.test next) at
      (subst (λ o. Both code o (acted p (Some (Unless a.test next)))) (sym (does_choice x arms ss (branch (a ∷ left) ss v memory) todo same e r))
      (subst (λ d. Both code (chooses_among todo x (elim d [ Err code ↦ Err code | Ok c ↦ if is_false c then branch left ss v memory else Ok a.body ])) (machine.with_ok d (λ c. machine.goes_to (machine_here p) (frame f p v) frames (if is_false c then next else p + 1)))) (sym is_c) refl))
  arm_follows x arms left a ss todo p mid next end leave again same e at laid leads others st (Ok c) is_c = by_truth (is_false c) refl
    where
      machine_goes : acted p (Some (Unless a.test next)) ≡ machine.goes_to (machine_here p) (frame f p v) frames (if is_false c then next else p + 1)
      machine_goes = ap (λ d. machine.with_ok d (λ c. machine.goes_to (machine_here p) (frame f p v) frames (if is_false c then next else p + 1))) is_c

      branch_is : branch arms ss v memory ≡ (if is_false c then branch left ss v memory else Ok a.body)
      branch_is = e ∙ ap (λ d. elim d [ Err code ↦ Err code | Ok c ↦ if is_false c then branch left ss v memory else Ok a.body ]) is_c

      by_truth : (b : Bool) → is_false c ≡ b → Follows (Begun x ∷ todo) p
      by_truth true t =
          jumped (program (Begun x ∷ todo)) (machine_here next) (here (program (Begun x ∷ todo)))
          (ap (acted p) at ∙ machine_goes ∙ ap (λ b. machine.goes_to (machine_here p) (frame f p v) frames (if b then next else p + 1)) t)
          (chooses w x arms left ss todo f next end leave again v calls frames refl same (branch_is ∙ ap (λ b. if b then branch left ss v memory else Ok a.body) t) others st below)
      by_truth false t =
          agrees (Begun x ∷ todo) p (Unless a.test next) at
          (subst (λ o. Both code o (acted p (Some (Unless a.test next)))) (sym (does_choice x arms ss (Ok a.body) todo same (branch_is ∙ ap (λ b. if b then branch left ss v memory else Ok a.body) t) r))
          (subst (λ o. Both code (chooses_among todo x (Ok a.body)) o) (sym (machine_goes ∙ ap (λ b. machine.goes_to (machine_here p) (frame f p v) frames (if b then next else p + 1)) t))
          (refl, on (Rest a.body ∷ todo) (p + 1) leave again (rest a.body todo (p + 1) mid leave again laid (led here_code todo mid end leave again leads st)))))

  choice_follows : (x : Stmt) (arms left : List (Arm Stmt)) (ss : List Stmt) (todo : List Item) (p end leave again : ℕ) → out-Stmt x ≡ stmt.If arms ss → branch arms ss v memory ≡ branch left ss v memory →
      Chosen here_code left ss p end leave again → Stands here_code todo end leave again → Follows todo end → Follows (Begun x ∷ todo) p
  choice_follows x arms _ _ todo _ _ _ _ same e (otherwise ss p end leave again laid) st rec =
      goes_by (Begun x ∷ todo) (Rest ss ∷ todo) p (does_choice x arms ss (Ok ss) todo same e) (rest_follows ss todo p end leave again laid st rec)
  choice_follows x arms _ _ todo _ _ _ _ same e (arm a left ss p mid next end leave again at laid leads others) st rec =
      arm_follows x arms left a ss todo p mid next end leave again same e at laid leads others st (value_of a.test v memory) refl

  -- ---- statements that have begun

  -- a statement, by one level of it
  abbrev does : List Item → Stmt → Stmt-F Stmt → state.Outcome
  does todo x l = source.does functions (program (Begun x ∷ todo)) (call (Begun x ∷ todo) v) calls todo x l

  agrees_by : (x : Stmt) (l : Stmt-F Stmt) (todo : List Item) (p : ℕ) (i : Instr) → out-Stmt x ≡ l → At here_code p i → Both code (does todo x l) (acted p (Some i)) → Follows (Begun x ∷ todo) p
  agrees_by x l todo p i same at both = agrees (Begun x ∷ todo) p i at (subst (λ z. Both code (does todo x z) (acted p (Some i))) (sym same) both)

  does_by : (x : Stmt) (l : Stmt-F Stmt) (todo new : List Item) (p : ℕ) → out-Stmt x ≡ l → does todo x l ≡ state.Goes false (program new) → Follows new p → Follows (Begun x ∷ todo) p
  does_by x l todo new p same e rec = goes_by (Begun x ∷ todo) new p (λ refuses. ap (does todo x) same ∙ e) rec

  begun_follows : (x : Stmt) (l : Stmt-F Stmt) (todo : List Item) (p end leave again : ℕ) → out-Stmt x ≡ l → Formed here_code l p end leave again → Stands here_code todo end leave again → Follows todo end → Follows (Begun x ∷ todo) p
  begun_follows x _ todo _ _ _ _ same (laid.actions al p end leave again list) st rec = does_by x (stmt.Actions al) todo (Acting al ∷ todo) p same refl (acting_follows al todo p end leave again list st rec)
  begun_follows x _ todo _ _ _ _ same (laid.block ss p end leave again laid) st rec = does_by x (stmt.Block ss) todo (Rest ss ∷ todo) p same refl (rest_follows ss todo p end leave again laid st rec)
  begun_follows x _ todo _ _ _ _ same (laid.choice arms ss p end leave again chosen) st rec = choice_follows x arms arms ss todo p end leave again same refl chosen st rec
  begun_follows x _ todo _ _ _ _ same (laid.while e ss p end leave again looped) st rec = does_by x (stmt.While e ss) todo (Testing x ∷ todo) p same refl (testing_follows x (stmt.While e ss) todo p p end leave again same looped st)
  begun_follows x _ todo _ _ _ _ same (laid.do_while ss e p test end leave again laid looped) st rec =
      does_by x (stmt.DoWhile ss e) todo (Rest ss ∷ Testing x ∷ todo) p same refl
      (rest_follows ss (Testing x ∷ todo) p test end test laid (testing x todo test test end leave again (subst (λ z. Looped here_code z test test end) (sym same) looped) st) (testing_follows x (stmt.DoWhile ss e) todo test test end leave again same looped st))
  begun_follows x _ todo _ _ _ _ same (laid.for start last e ss p test step end leave again starts looped) st rec =
      does_by x (stmt.For start e last ss) todo (Acting start ∷ Testing x ∷ todo) p same refl
      (acting_follows start (Testing x ∷ todo) p test end test starts (testing x todo test step end leave again (subst (λ z. Looped here_code z test step end) (sym same) looped) st) (testing_follows x (stmt.For start e last ss) todo test step end leave again same looped st))
  begun_follows x _ todo _ _ _ _ same (laid.break p end leave again at) st rec =
      let after = after_stands here_code todo end leave again st in
      agrees_by x stmt.Break todo p (Goto leave) same at (refl, on (after_loop todo) leave after.0 after.1 after.2)
  begun_follows x _ todo _ _ _ _ same (laid.continue p end leave again at) st rec =
      let to = to_stands here_code todo end leave again st in
      agrees_by x stmt.Continue todo p (Goto again) same at (refl, on (to_loop todo) again to.0 to.1 to.2)
  begun_follows x _ todo _ _ _ _ same (laid.return e p end leave again at) st rec =
      agrees_by x (stmt.Return e) todo p (Return e) same at
      (subst (λ o. Both code o (acted p (Some (Return e)))) (sym (does_return functions (program (Begun x ∷ todo)) (call (Begun x ∷ todo) v) calls todo x e))
      (subst (λ o. Both code (source.with_ok (result_of e v memory) (source.returned (program (Begun x ∷ todo)) (call (Begun x ∷ todo) v) calls)) o) (sym (returns code r (machine_here p) (frame f p v) frames e))
      (both_ok code (result_of e v memory) _ _ (λ c. comes_back_here c [] []))))
  begun_follows x _ todo _ _ _ _ same (laid.print format arguments p leave again at) st rec =
      agrees_by x (stmt.Print format arguments) todo p (Print format arguments) same at
      (both_ok code (values_of arguments v memory) _ _ (λ vs. by_test code (nat_lt 1048576 (out + length (printed format vs))) _ _ _ _ refl
      (both_asked code f v calls frames below w (Begun x ∷ todo) p [] [] todo (p + 1) leave again (plain_request (op.Output (printed format vs))) st)))
  begun_follows x _ todo _ _ _ _ same (laid.free e p leave again at) st rec =
      agrees_by x (stmt.Free e) todo p (Free e) same at
      (both_ok code (value_of e v memory) _ _ (λ c. both_ok code (free memory c) _ _ (λ m. (refl, moves code f v calls frames below (record w { memory = m }) todo (p + 1) leave again st))))
  begun_follows x _ todo _ _ _ _ same (laid.mpi request p leave again at) st rec =
      agrees_by x (stmt.Mpi request) todo p (Mpi request) same at
      (both_ok code (values_of request.arguments v memory) _ _ (λ vs. both_ok code (effect seat phase memory request.function vs) _ _ (λ e.
      both_come_to code f v calls frames below w (Begun x ∷ todo) p [] [] todo (p + 1) leave again e.memory e.phase e.request st)))
  begun_follows x _ todo _ _ _ _ same (laid.mark site p leave again at) st rec =
      agrees_by x stmt.Mark todo p (Mark site) same at (both_asked code f v calls frames below w (Begun x ∷ todo) p [] [] todo (p + 1) leave again (plain_request op.Mark) st)

  -- ---- what the program does next, and the machine with it

  ends_follow : (p : ℕ) → EndsAt here_code p → Follows [] p
  ends_follow p e =
      agrees [] p (Return e.end) e.at
      (subst (λ o. Both code (source.returned (program []) (call [] v) calls (number (pos 0))) o) (sym (returns code r (machine_here p) (frame f p v) frames e.end ∙ ap (λ c. machine.with_ok c (machine.returned code (machine_here p) (frame f p v) frames)) (e.zero v memory)))
      (comes_back_here (number (pos 0)) [] []))

  follows : (todo : List Item) (p leave again : ℕ) → Stands here_code todo p leave again → Follows todo p
  follows _ _ _ _ (jumps todo p q leave again at st) = jumps_here todo p q leave again at st
  follows _ _ _ _ (ends p leave again e l a) = ends_follow p e
  follows _ _ _ _ (body ss todo p end leave again at laid st) = agrees (Body ss ∷ todo) p Step at (refl, on (Rest ss ∷ todo) (p + 1) leave again (rest ss todo (p + 1) end leave again laid st))
  follows _ _ _ _ (rest ss todo p end leave again laid st) = rest_follows ss todo p end leave again laid st (follows todo end leave again st)
  follows _ _ _ _ (begun x todo p end leave again formed st) = begun_follows x (out-Stmt x) todo p end leave again refl formed st (follows todo end leave again st)
  follows _ _ _ _ (acting al todo p end leave again list st) = acting_follows al todo p end leave again list st (follows todo end leave again st)
  follows _ _ _ _ (testing x todo p step end leave again looped st) = testing_follows x (out-Stmt x) todo p step end leave again refl looped st
  follows _ _ _ _ (stepping x todo p step end leave again looped st) = stepping_follows x (out-Stmt x) todo p step end leave again refl looped st

-- ---- one instruction, wherever the machine stands for the program

followed_asked : (functions : List Function) (code : List FlatFunction) (r : Memory → ℕ → Bool) (s : State) (m : Machine) (q : Request) → s.asked ≡ Some q → m.asked ≡ Some q → StandsFor code s m → Followed functions code r s m
followed_asked functions code r s m q e d st =
    agreed s (here s)
    (subst (λ o. Both code (elim o [ None ↦ source.step_in functions r s s.calls | Some q ↦ state.Asks q.operation s ]) (step code r m)) (sym e)
    (subst (λ o. Both code (state.Asks q.operation s) (elim o [ None ↦ machine.step_in code r m m.frames | Some q ↦ Asks q.operation m ])) (sym d)
    (refl, q, e, st)))

stands_follow : (functions : List Function) (code : List FlatFunction) (is : Compiled functions code) (r : Memory → ℕ → Bool) (sites described : List ℕ) (memory : Memory) (seat : Seat) (phase : Phase) (out : ℕ) (asked : Option Request) (todo : List Item) (f p leave again : ℕ) (v : Variables) (calls : List state.Call) (frames : List Frame) →
    Stands (code_at code f) todo p leave again → Wait code calls frames →
    Followed functions code r (state_in (record { sites = sites; described = described; memory = memory; seat = seat; phase = phase; printed = out; asked = asked }) (call todo v ∷ calls)) (machine_in (record { sites = sites; described = described; memory = memory; seat = seat; phase = phase; printed = out; asked = asked }) (frame f p v ∷ frames))
stands_follow functions code is r sites described memory seat phase out None todo f p leave again v calls frames st below = follows functions code is r sites described memory seat phase out f v calls frames below todo p leave again st
stands_follow functions code is r sites described memory seat phase out (Some q) todo f p leave again v calls frames st below =
    followed_asked functions code r _ _ q refl refl (stands (record { sites = sites; described = described; memory = memory; seat = seat; phase = phase; printed = out; asked = Some q }) todo f p leave again v calls frames st below)

nowhere_follows : (functions : List Function) (code : List FlatFunction) (r : Memory → ℕ → Bool) (sites described : List ℕ) (memory : Memory) (seat : Seat) (phase : Phase) (out : ℕ) (asked : Option Request) →
    Followed functions code r (state_in (record { sites = sites; described = described; memory = memory; seat = seat; phase = phase; printed = out; asked = asked }) []) (machine_in (record { sites = sites; described = described; memory = memory; seat = seat; phase = phase; printed = out; asked = asked }) [])
nowhere_follows functions code r sites described memory seat phase out None = agreed _ (here _) refl
nowhere_follows functions code r sites described memory seat phase out (Some q) = followed_asked functions code r _ _ q refl refl (nowhere (record { sites = sites; described = described; memory = memory; seat = seat; phase = phase; printed = out; asked = Some q }))

pub followed : (functions : List Function) (code : List FlatFunction) → Compiled functions code → (r : Memory → ℕ → Bool) (s : State) (m : Machine) → StandsFor code s m → Followed functions code r s m
followed functions code is r _ _ (nowhere w) = nowhere_follows functions code r w.sites w.described w.memory w.seat w.phase w.printed w.asked
followed functions code is r _ _ (stands w todo f p leave again v calls frames st below) = stands_follow functions code is r w.sites w.described w.memory w.seat w.phase w.printed w.asked todo f p leave again v calls frames st below
followed functions code is r _ _ (chooses w x arms left ss todo f p end leave again v calls frames unasked same e chosen st below) =
    subst (λ asked. Followed functions code r (state_in (record w { asked = asked }) (call (Begun x ∷ todo) v ∷ calls)) (machine_in (record w { asked = asked }) (frame f p v ∷ frames))) (sym unasked)
    (choice_follows functions code is r w.sites w.described w.memory w.seat w.phase w.printed f v calls frames below x arms left ss todo p end leave again same e chosen st
    (follows functions code is r w.sites w.described w.memory w.seat w.phase w.printed f v calls frames below todo end leave again st))
