-- A state that waits for a reply asks again, whatever malloc's choice is.
use Rattle.std.proofs.Common.{◌≡◌, ℕ, ◌+◌, Bool, true, false, if◌then◌else◌, List, [], ◌∷◌, Option, Some, None, Result, Ok, Err, nat_lt, length, refl, ap, ◌∙◌, subst}
use Rattle.c3_base.specs.declared.cell.Cell.{Cell}
use Rattle.mpi_words.specs.declared.operation.Op.{Op}
use Rattle.mpi_words.specs.declared.operation.End.TheVariants.{Fault}
use Rattle.c_kernel.specs.declared.program.Function.{Function}
use Rattle.c_kernel.specs.declared.program.Expr.{Expr}
use Rattle.c_kernel.specs.declared.program.Place.{Place}
use Rattle.c_kernel.specs.declared.program.Action.{Action}
use Rattle.c_kernel.specs.declared.program.Action.TheVariants.{Zero, Set, Call, Malloc}
use Rattle.c_kernel.specs.declared.program.Stmt.{Stmt, out-Stmt}
use Rattle.c_kernel.specs.declared.program.Stmt.TheOpen.{Stmt-F}
use Rattle.c_kernel.specs.declared.program.Stmt.TheOpen as stmt
use Rattle.mpi_effects.specs.declared.requests.Request.{Request}
use Rattle.c_memory.specs.Memory.{Memory, store, free, enter, leave, cells_asked, malloc}
use Rattle.c_values.specs.Value.{place_of, value_of, values_of}
use Rattle.c_values.specs.Text.{printed}
use Rattle.mpi_words.specs.declared.operation.Op.TheVariants as op
use Rattle.mpi_effects.specs.Mpi.{Effect, effect}
use Rattle.c_meaning.specs.State.{Item, Body, Rest, Begun, Acting, Awaiting, Testing, Stepping, State, Outcome, Goes, Asks, Ends}
use Rattle.c_meaning.specs.State as state
use Rattle.mpi_effects.specs.Requests.{plain_request}
use Rattle.c_meaning.specs.Step.{with_ok, asks, branch, lengths_of, stores, awaited, comes_back, returned, allocates, acts, does, tests, steps, goes_on, step_in, step}

abbrev AsksIt : Outcome → Type 0
AsksIt (Goes b s) = true ≡ true
AsksIt (Asks o s) = (q : Request) × (s.asked ≡ Some q) × (q.operation ≡ o)
AsksIt (Ends e) = true ≡ true

ok_asks : {A : Type 0} (r : Result A ℕ) (go : A → Outcome) → ((v : A) → AsksIt (go v)) → AsksIt (with_ok r go)
ok_asks (Err code) go h = refl
ok_asks (Ok v) go h = h v

stores_asks : (s : State) (top : state.Call) (below : List state.Call) (todo : List Item) (place : Place Expr) (v : Cell) → AsksIt (stores s top below todo place v)
stores_asks s top below todo place v = ok_asks (place_of place top.variables s.memory) _ (λ p. ok_asks (store s.memory p v) _ (λ m. refl))

awaited_asks : (s : State) (caller : state.Call) (below : List state.Call) (todo : List Item) (v : Cell) → AsksIt (awaited s caller below todo v)
awaited_asks s caller below [] v = refl
awaited_asks s caller below (Body ss ∷ todo) v = refl
awaited_asks s caller below (Rest ss ∷ todo) v = refl
awaited_asks s caller below (Begun x ∷ todo) v = refl
awaited_asks s caller below (Acting actions ∷ todo) v = refl
awaited_asks s caller below (Awaiting None ∷ todo) v = refl
awaited_asks s caller below (Awaiting (Some t) ∷ todo) v = stores_asks s caller below todo t.place _
awaited_asks s caller below (Testing x ∷ todo) v = refl
awaited_asks s caller below (Stepping x ∷ todo) v = refl

back_asks : (s : State) (calls : List state.Call) (v : Cell) → AsksIt (comes_back s calls v)
back_asks s [] v = refl
back_asks s (caller ∷ below) v = awaited_asks s caller below caller.todo v

returned_asks : (s : State) (top : state.Call) (below : List state.Call) (v : Cell) → AsksIt (returned s top below v)
returned_asks s top below v = back_asks (record s { calls = below; memory = leave s.memory top.variables.count }) below v

allocates_asks : (f : Memory → ℕ → Bool) (s : State) (top : state.Call) (below : List state.Call) (todo : List Item) (place : Place Expr) (asked : Option ℕ) → AsksIt (allocates f s top below todo place asked)
allocates_asks f s top below todo place asked = let given = malloc f s.memory asked in stores_asks (record s { memory = given.0 }) top below todo place given.1

acts_asks : (functions : List Function) (f : Memory → ℕ → Bool) (s : State) (top : state.Call) (below : List state.Call) (todo : List Item) (a : Action) → AsksIt (acts functions f s top below todo a)
acts_asks functions f s top below todo (Zero k) = refl
acts_asks functions f s top below todo (Set place value) = ok_asks (value_of value top.variables s.memory) _ (λ v. stores_asks s top below todo place v)
acts_asks functions f s top below todo (Call into g arguments) = ok_asks (values_of arguments top.variables s.memory) _ (λ vs. ok_asks (enter s.memory (lengths_of functions g)) _ (λ m. refl))
acts_asks functions f s top below todo (Malloc place bytes each) = ok_asks (value_of bytes top.variables s.memory) _ (λ n. allocates_asks f s top below todo place (cells_asked n.word each))

prints_asks : (s : State) (top : state.Call) (below : List state.Call) (todo : List Item) (q : Request) (b : Bool) → AsksIt (if b then Ends (Fault 109) else asks s top below todo q)
prints_asks s top below todo q true = refl
prints_asks s top below todo q false = (q, refl, refl)

comes_asks : (s : State) (top : state.Call) (below : List state.Call) (todo : List Item) (e : Effect) (request : Option Request) → AsksIt (elim request [
  | None ↦ Goes false (record s { calls = record top { todo = todo } ∷ below; memory = e.memory; phase = e.phase })
  | Some q ↦ asks (record s { memory = e.memory; phase = e.phase }) top below todo q
])
comes_asks s top below todo e None = refl
comes_asks s top below todo e (Some q) = (q, refl, refl)

does_asks : (functions : List Function) (s : State) (top : state.Call) (below : List state.Call) (todo : List Item) (x : Stmt) (y : Stmt-F Stmt) → AsksIt (does functions s top below todo x y)
does_asks functions s top below todo x (stmt.Actions actions) = refl
does_asks functions s top below todo x (stmt.Block ss) = refl
does_asks functions s top below todo x (stmt.If arms otherwise) = ok_asks (branch arms otherwise top.variables s.memory) _ (λ ss. refl)
does_asks functions s top below todo x (stmt.While e ss) = refl
does_asks functions s top below todo x (stmt.DoWhile ss e) = refl
does_asks functions s top below todo x (stmt.For start e last ss) = refl
does_asks functions s top below todo x stmt.Break = refl
does_asks functions s top below todo x stmt.Continue = refl
does_asks functions s top below todo x (stmt.Return None) = returned_asks s top below _
does_asks functions s top below todo x (stmt.Return (Some e)) = ok_asks (value_of e top.variables s.memory) _ (λ v. returned_asks s top below v)
does_asks functions s top below todo x (stmt.Print format arguments) = ok_asks (values_of arguments top.variables s.memory) _ (λ vs. prints_asks s top below todo (plain_request (op.Output (printed format vs))) (nat_lt 1048576 (s.printed + length (printed format vs))))
does_asks functions s top below todo x (stmt.Free e) = ok_asks (value_of e top.variables s.memory) _ (λ p. ok_asks (free s.memory p) _ (λ m. refl))
does_asks functions s top below todo x (stmt.Mpi call) = ok_asks (values_of call.arguments top.variables s.memory) _ (λ vs. ok_asks (effect s.seat s.phase s.memory call.function vs) _ (λ e. comes_asks s top below todo e e.request))
does_asks functions s top below todo x stmt.Mark = (plain_request op.Mark, refl, refl)

tests_asks : (s : State) (top : state.Call) (below : List state.Call) (todo : List Item) (x : Stmt) (y : Stmt-F Stmt) → AsksIt (tests s top below todo x y)
tests_asks s top below todo x (stmt.Actions actions) = refl
tests_asks s top below todo x (stmt.Block ss) = refl
tests_asks s top below todo x (stmt.If arms otherwise) = refl
tests_asks s top below todo x (stmt.While e ss) = ok_asks (value_of e top.variables s.memory) _ (λ c. refl)
tests_asks s top below todo x (stmt.DoWhile ss e) = ok_asks (value_of e top.variables s.memory) _ (λ c. refl)
tests_asks s top below todo x (stmt.For start (Some e) last ss) = ok_asks (value_of e top.variables s.memory) _ (λ c. refl)
tests_asks s top below todo x (stmt.For start None last ss) = refl
tests_asks s top below todo x stmt.Break = refl
tests_asks s top below todo x stmt.Continue = refl
tests_asks s top below todo x (stmt.Return e) = refl
tests_asks s top below todo x (stmt.Print format arguments) = refl
tests_asks s top below todo x (stmt.Free e) = refl
tests_asks s top below todo x (stmt.Mpi call) = refl
tests_asks s top below todo x stmt.Mark = refl

steps_asks : (s : State) (top : state.Call) (below : List state.Call) (todo : List Item) (x : Stmt) (y : Stmt-F Stmt) → AsksIt (steps s top below todo x y)
steps_asks s top below todo x (stmt.Actions actions) = refl
steps_asks s top below todo x (stmt.Block ss) = refl
steps_asks s top below todo x (stmt.If arms otherwise) = refl
steps_asks s top below todo x (stmt.While e ss) = refl
steps_asks s top below todo x (stmt.DoWhile ss e) = refl
steps_asks s top below todo x (stmt.For start e last ss) = refl
steps_asks s top below todo x stmt.Break = refl
steps_asks s top below todo x stmt.Continue = refl
steps_asks s top below todo x (stmt.Return e) = refl
steps_asks s top below todo x (stmt.Print format arguments) = refl
steps_asks s top below todo x (stmt.Free e) = refl
steps_asks s top below todo x (stmt.Mpi call) = refl
steps_asks s top below todo x stmt.Mark = refl

first_asks : (functions : List Function) (f : Memory → ℕ → Bool) (s : State) (top : state.Call) (below : List state.Call) (todo : List Item) → AsksIt (goes_on functions f s top below todo)
first_asks functions f s top below [] = returned_asks s top below _
first_asks functions f s top below (Body ss ∷ todo) = refl
first_asks functions f s top below (Rest [] ∷ todo) = refl
first_asks functions f s top below (Rest (x ∷ xs) ∷ todo) = refl
first_asks functions f s top below (Begun x ∷ todo) = does_asks functions s top below todo x (out-Stmt x)
first_asks functions f s top below (Acting [] ∷ todo) = refl
first_asks functions f s top below (Acting (a ∷ actions) ∷ todo) = acts_asks functions f s top below (Acting actions ∷ todo) a
first_asks functions f s top below (Awaiting t ∷ todo) = refl
first_asks functions f s top below (Testing x ∷ todo) = tests_asks s top below todo x (out-Stmt x)
first_asks functions f s top below (Stepping x ∷ todo) = steps_asks s top below todo x (out-Stmt x)

newest_asks : (functions : List Function) (f : Memory → ℕ → Bool) (s : State) (calls : List state.Call) → AsksIt (step_in functions f s calls)
newest_asks functions f s [] = refl
newest_asks functions f s (top ∷ below) = first_asks functions f s top below top.todo

asked_asks : (functions : List Function) (f : Memory → ℕ → Bool) (s : State) (asked : Option Request) → s.asked ≡ asked → AsksIt (elim asked [ None ↦ step_in functions f s s.calls | Some q ↦ Asks q.operation s ])
asked_asks functions f s None e = newest_asks functions f s s.calls
asked_asks functions f s (Some q) e = (q, e, refl)

-- it asks again
pub asks_again : (functions : List Function) (f g : Memory → ℕ → Bool) (s t : State) (o : Op) → step functions f s ≡ Asks o t → step functions g t ≡ Asks o t
asks_again functions f g s t o e =
    let a = subst AsksIt e (asked_asks functions f s s.asked refl) in
    ap (λ z. elim z [ None ↦ step_in functions g t t.calls | Some q ↦ Asks q.operation t ]) a.1 ∙ ap (λ z. Asks z t) a.2

-- ---- whatever the choice

abbrev AsksNot : Outcome → Type 0
AsksNot x = (o : Op) (t : State) → x ≡ Asks o t → ⊥

ok_not : {A : Type 0} (r : Result A ℕ) (go : A → Outcome) → ((v : A) → AsksNot (go v)) → AsksNot (with_ok r go)
ok_not (Err code) go h o t e = cc
ok_not (Ok v) go h o t e = h v o t e

stores_not : (s : State) (top : state.Call) (below : List state.Call) (todo : List Item) (place : Place Expr) (v : Cell) → AsksNot (stores s top below todo place v)
stores_not s top below todo place v = ok_not (place_of place top.variables s.memory) _ (λ p. ok_not (store s.memory p v) _ (λ m o t e. cc))

allocates_not : (f : Memory → ℕ → Bool) (s : State) (top : state.Call) (below : List state.Call) (todo : List Item) (place : Place Expr) (asked : Option ℕ) → AsksNot (allocates f s top below todo place asked)
allocates_not f s top below todo place asked = let given = malloc f s.memory asked in stores_not (record s { memory = given.0 }) top below todo place given.1

abbrev Same : Outcome → Outcome → Type 0
Same x y = (o : Op) (t : State) → x ≡ Asks o t → y ≡ Asks o t

acts_same : (functions : List Function) (f g : Memory → ℕ → Bool) (s : State) (top : state.Call) (below : List state.Call) (todo : List Item) (a : Action) → Same (acts functions f s top below todo a) (acts functions g s top below todo a)
acts_same functions f g s top below todo (Zero k) o t e = e
acts_same functions f g s top below todo (Set place value) o t e = e
acts_same functions f g s top below todo (Call into h arguments) o t e = e
acts_same functions f g s top below todo (Malloc place bytes each) o t e = absurd (ok_not (value_of bytes top.variables s.memory) _ (λ n. allocates_not f s top below todo place (cells_asked n.word each)) o t e)

first_same : (functions : List Function) (f g : Memory → ℕ → Bool) (s : State) (top : state.Call) (below : List state.Call) (todo : List Item) → Same (goes_on functions f s top below todo) (goes_on functions g s top below todo)
first_same functions f g s top below [] o t e = e
first_same functions f g s top below (Body ss ∷ todo) o t e = e
first_same functions f g s top below (Rest [] ∷ todo) o t e = e
first_same functions f g s top below (Rest (x ∷ xs) ∷ todo) o t e = e
first_same functions f g s top below (Begun x ∷ todo) o t e = e
first_same functions f g s top below (Acting [] ∷ todo) o t e = e
first_same functions f g s top below (Acting (a ∷ actions) ∷ todo) o t e = acts_same functions f g s top below (Acting actions ∷ todo) a o t e
first_same functions f g s top below (Awaiting x ∷ todo) o t e = e
first_same functions f g s top below (Testing x ∷ todo) o t e = e
first_same functions f g s top below (Stepping x ∷ todo) o t e = e

newest_same : (functions : List Function) (f g : Memory → ℕ → Bool) (s : State) (calls : List state.Call) → Same (step_in functions f s calls) (step_in functions g s calls)
newest_same functions f g s [] o t e = e
newest_same functions f g s (top ∷ below) o t e = first_same functions f g s top below top.todo o t e

asked_same : (functions : List Function) (f g : Memory → ℕ → Bool) (s : State) (asked : Option Request) → Same (elim asked [ None ↦ step_in functions f s s.calls | Some q ↦ Asks q.operation s ]) (elim asked [ None ↦ step_in functions g s s.calls | Some q ↦ Asks q.operation s ])
asked_same functions f g s None o t e = newest_same functions f g s s.calls o t e
asked_same functions f g s (Some q) o t e = e

-- what is asked doesn't depend on malloc's choice
pub asks_same : (functions : List Function) (f g : Memory → ℕ → Bool) (s t : State) (o : Op) → step functions f s ≡ Asks o t → step functions g s ≡ Asks o t
asks_same functions f g s t o e = asked_same functions f g s s.asked o t e
