-- What a machine asks for, and what its steps leave as it was.
use Rattle.std.proofs.Common.{◌≡◌, ◌+◌, ◌<◌, ◌≤◌, ℕ, zero, suc, Bool, true, false, List, [], ◌∷◌, length, Option, Some, None, Result, Ok, Err, refl, sym, ap, ◌∙◌, subst, arith}
use Rattle.std.specs.Prelude.{ℤ, pos, negsuc, ◌-ℤ◌, unsigned_abs, ◌||◌, ◌&&◌, nat_lt, if◌then◌else◌, map, slice_get, option_map, unwrap_or}
use Rattle.std.proofs.lemmas.Bool.Decides.{nat_tests}
use Rattle.c3_base.specs.declared.cell.Cell.{Cell}
use Rattle.mpi_words.specs.declared.message.Datatype.{Datatype}
use Rattle.mpi_words.specs.declared.operation.Op.{Op}
use Rattle.mpi_words.specs.declared.operation.Op.TheVariants as op
use Rattle.mpi_words.specs.declared.operation.End.{End}
use Rattle.mpi_words.specs.declared.operation.End.TheVariants.{Exit, Fault}
use Rattle.c_kernel.specs.declared.program.Expr.{Expr}
use Rattle.c_kernel.specs.declared.program.Place.{Place}
use Rattle.c_kernel.specs.declared.program.Target.{Target}
use Rattle.c_kernel.specs.declared.program.MpiCall.{MpiCall}
use Rattle.c_kernel.specs.declared.program.MpiFunction.{MpiFunction}
use Rattle.c_kernel.specs.declared.program.MpiFunction.TheVariants as function
use Rattle.c_memory.specs.declared.spot.Spot.{Spot}
use Rattle.c_memory.specs.Memory.{Memory, enter, free, leave, load, load_all, number, null, spot_of, put, store, malloc, cells_asked, with_arguments}
use Rattle.c_values.specs.Value.{is_false, is_zero, read_of, place_of, then_with, value_of, values_of}
use Rattle.c_values.specs.Variables.{variables_from}
use Rattle.c_values.specs.Text.{printed}
use Rattle.mpi_effects.specs.declared.seat.Seat.{Seat}
use Rattle.mpi_effects.specs.declared.seat.Phase.{Phase}
use Rattle.mpi_effects.specs.declared.requests.Request.{Request}
use Rattle.mpi_effects.specs.Mpi.{Effect, require, leaves, requests, writes, send, sending, receive, receiving, waits, no_message, tested_status, put_status, status_cells, status_word, code_of, counted, get_count, argument, called, effect, is_any, is_count, is_tag, is_below, is_destination, is_source, is_proc_null, is_due}
use Rattle.mpi_effects.specs.Requests.{plain_request}
use Rattle.flat_code.specs.declared.code.FlatFunction.{FlatFunction}
use Rattle.flat_code.specs.declared.code.Instr.{Instr}
use Rattle.flat_code.specs.declared.code.Instr.TheVariants as instr
use Rattle.flat_code.specs.Machine.{Frame, Machine, Outcome, Goes, Asks, Ends, with_ok, goes_to, goes_with, enters, stores, awaited, target_in, comes_back, returned, allocates, prints, comes_to, calls_mpi, acts, instr_at, lengths_in, step, step_in}
use Rattle.flat_code.specs.Placed.{none_fits}
use Rattle.runs.specs.Turn.{Act, Turned, pauses, begins_one, goes, stops}
use Rattle.runs.specs.Turn as turn
use Rattle.rank_machine.specs.Layout.{Layout}
use Rattle.rank_machine.specs.Placing.{Placing, begins, begins_in, laid, laid_after, placed, stepped}
use Rattle.rank_image.specs.Rank.{IsWanted, Waits}

-- ---- calls of MPI

-- what a call may ask for
abbrev pub FitsCall : Seat → Op → Type 0
FitsCall seat (op.Send to message) = to < seat.ranks
FitsCall seat (op.Receive patterns) = 0 < length patterns
FitsCall seat (op.Output text) = ⊥
FitsCall seat op.Mark = ⊥

abbrev pub FitsRequest : Seat → Option Request → Type 0
FitsRequest seat None = Unit {0}
FitsRequest seat (Some q) = FitsCall seat q.operation

abbrev pub FitsEffect : Seat → Result Effect ℕ → Type 0
FitsEffect seat (Err code) = Unit {0}
FitsEffect seat (Ok e) = FitsRequest seat e.request

required : (seat : Seat) (t : Bool) (code : ℕ) (next : Result Effect ℕ) → (t ≡ true → FitsEffect seat next) → FitsEffect seat (require t code next)
required seat false code next h = tt
required seat true code next h = h refl

thens : {A : Type 0} (seat : Seat) (r : Result A ℕ) (go : A → Result Effect ℕ) → ((v : A) → FitsEffect seat (go v)) → FitsEffect seat (then_with r go)
thens seat (Err code) go h = tt
thens seat (Ok v) go h = h v

either : (seat : Seat) (t : Bool) (a b : Result Effect ℕ) → FitsEffect seat a → (t ≡ false → FitsEffect seat b) → FitsEffect seat (if t then a else b)
either seat true a b h k = h
either seat false a b h k = k refl

no_null : (a b : Bool) → (a || b) ≡ true → b ≡ false → a ≡ true
no_null true b h f = refl
no_null false b h f = absurd (let no : true ≡ false = sym h ∙ f in cc)

is_rank : (seat : Seat) (to : ℤ) → is_destination seat to ≡ true → is_proc_null to ≡ false → unsigned_abs to < seat.ranks
is_rank seat (pos k) h f = let less : nat_lt k seat.ranks ≡ true = no_null (nat_lt k seat.ranks) (is_proc_null (pos k)) h f in grind (arith, nat_tests, less)
is_rank seat (negsuc k) h f = absurd (let no : true ≡ false = sym h ∙ f in cc)

sends : (seat : Seat) (m : Memory) (kind : Datatype) (buffer : Cell) (count to tag : ℤ) → FitsEffect seat (send seat m kind buffer count to tag)
sends seat m kind buffer count to tag =
    let go : Result Effect ℕ = then_with (load_all m (spot_of buffer) (unsigned_abs count)) (λ cells. requests m (sending kind to tag cells)) in
    let last : Result Effect ℕ = if is_proc_null to then leaves m else go in
    required seat (is_count count) 116 (require (is_destination seat to) 113 (require (is_tag tag) 114 last)) (λ _.
    required seat (is_destination seat to) 113 (require (is_tag tag) 114 last) (λ there.
    required seat (is_tag tag) 114 last (λ _.
    either seat (is_proc_null to) (leaves m) go tt (λ some.
    thens seat (load_all m (spot_of buffer) (unsigned_abs count)) (λ cells. requests m (sending kind to tag cells)) (λ cells. is_rank seat to there some)))))

one : 0 < 1
one = omega arith

receives : (seat : Seat) (m : Memory) (kind : Datatype) (buffer : Cell) (count from tag : ℤ) (status : Option Cell) → FitsEffect seat (receive seat m kind buffer count from tag status)
receives seat m kind buffer count from tag status =
    let at : Option Spot = option_map spot_of status in
    let go : Result Effect ℕ = waits m kind (spot_of buffer) (unsigned_abs count) from tag at in
    let last : Result Effect ℕ = if is_proc_null from then no_message m at else go in
    required seat (is_count count) 116 (require (is_source seat from) 113 (require (is_tag tag || is_any tag) 114 last)) (λ _.
    required seat (is_source seat from) 113 (require (is_tag tag || is_any tag) 114 last) (λ _.
    required seat (is_tag tag || is_any tag) 114 last (λ _.
    either seat (is_proc_null from) (no_message m at) go
    (thens seat (tested_status m at) (λ old. leaves (put_status m at (status_cells (negsuc 1) (negsuc 0) 0 0))) (λ old. tt))
    (λ _. thens seat (load_all m (spot_of buffer) (unsigned_abs count)) (λ old. then_with (tested_status m at) (λ older. requests m (receiving kind (spot_of buffer) (unsigned_abs count) from tag at))) (λ old.
    thens seat (tested_status m at) (λ older. requests m (receiving kind (spot_of buffer) (unsigned_abs count) from tag at)) (λ older. one))))))

counts : (seat : Seat) (m : Memory) (kind : Datatype) (status p : Cell) → FitsEffect seat (get_count m kind status p)
counts seat m kind status p =
    thens seat (load_all m (spot_of status) 4) (λ cells. then_with (load m (spot_of p)) (λ old. counted m kind p cells)) (λ cells.
    thens seat (load m (spot_of p)) (λ old. counted m kind p cells) (λ old.
    required seat (is_zero (status_word cells 3) || is_zero (status_word cells 3 -ℤ pos (code_of kind))) 112 (leaves (put m (spot_of p) (number (status_word cells 2)))) (λ _. tt)))

calls : (seat : Seat) (m : Memory) (f : MpiFunction) (vs : List Cell) → FitsEffect seat (called seat m f vs)
calls seat m function.Init vs = tt
calls seat m function.Finalize vs = tt
calls seat m function.CommRank vs = thens seat (store m (spot_of (argument vs 0)) (number (pos seat.rank))) leaves (λ n. tt)
calls seat m function.CommSize vs = thens seat (store m (spot_of (argument vs 0)) (number (pos seat.ranks))) leaves (λ n. tt)
calls seat m (function.Send kind) vs = sends seat m kind (argument vs 0) (argument vs 1).word (argument vs 2).word (argument vs 3).word
calls seat m (function.Recv kind) vs = receives seat m kind (argument vs 0) (argument vs 1).word (argument vs 2).word (argument vs 3).word (slice_get vs 4)
calls seat m (function.GetCount kind) vs = counts seat m kind (argument vs 0) (argument vs 1)

pub effect_fits : (seat : Seat) (phase : Phase) (m : Memory) (f : MpiFunction) (vs : List Cell) → FitsEffect seat (effect seat phase m f vs)
effect_fits seat phase m f vs = required seat (is_due phase f) 117 (called seat m f vs) (λ _. calls seat m f vs)

-- ---- one instruction

-- the same rank, with as many bytes put out
pub record IsLike (m n : Machine) : Type 0 where
  pub seat : n.seat ≡ m.seat
  pub printed : n.printed ≡ m.printed

-- an operation waits
pub record HasAsked (m : Machine) (o : Op) : Type 0 where
  pub request : Request
  pub asked : m.asked ≡ Some request
  pub operation : request.operation ≡ o

abbrev pub Comes : List FlatFunction → Machine → Outcome → Type 0
Comes functions m (Goes began n) = IsLike m n × (n.asked ≡ m.asked)
Comes functions m (Asks o n) = IsLike m n × HasAsked n o × IsWanted functions n o
Comes functions m (Ends e) = Unit {0}

module _ (functions : List FlatFunction) (m : Machine) where
  oks : {A : Type 0} (r : Result A ℕ) (go : A → Outcome) → ((v : A) → Comes functions m (go v)) → Comes functions m (with_ok r go)
  oks (Err code) go h = tt
  oks (Ok v) go h = h v

  moved : (top : Frame) (below : List Frame) (place : ℕ) → Comes functions m (goes_to m top below place)
  moved top below place = (record { seat = refl; printed = refl }, refl)

  changed : (top : Frame) (below : List Frame) (place : ℕ) (memory : Memory) → Comes functions m (goes_with m top below place memory)
  changed top below place memory = (record { seat = refl; printed = refl }, refl)

  stored : (top : Frame) (below : List Frame) (next : ℕ) (place : Place Expr) (v : Cell) → Comes functions m (stores m top below next place v)
  stored top below next place v =
      oks (place_of place top.variables m.memory) (λ p. with_ok (store m.memory p v) (goes_with m top below next)) (λ p.
      oks (store m.memory p v) (goes_with m top below next) (changed top below next))

  came : (caller : Frame) (below : List Frame) (into : Option Target) (v : Cell) → Comes functions m (awaited m caller below into v)
  came caller below None v = moved caller below (caller.place + 1)
  came caller below (Some t) v = stored caller below (caller.place + 1) t.place (read_of t.kind v)

  back : (frames : List Frame) (v : Cell) → Comes functions m (comes_back functions m frames v)
  back [] v = tt
  back (caller ∷ below) v = came caller below (target_in (instr_at functions caller)) v

  wanted_call : (n : Machine) (o : Op) → n.seat ≡ m.seat → FitsCall m.seat o → IsWanted functions n o
  wanted_call n (op.Send to message) e h = subst (λ (s : Seat). to < s.ranks) (sym e) h
  wanted_call n (op.Receive patterns) e h = h
  wanted_call n (op.Output text) e h = absurd h
  wanted_call n op.Mark e h = absurd h

  requested : (top : Frame) (below : List Frame) (next : ℕ) (e : Effect) (q : Option Request) → FitsRequest m.seat q → Comes functions m (comes_to m top below next (record e { request = q }))
  requested top below next e None h = (record { seat = refl; printed = refl }, refl)
  requested top below next e (Some q) h = (record { seat = refl; printed = refl }, record { request = q; asked = refl; operation = refl }, wanted_call (record m { frames = record top { place = next } ∷ below; memory = e.memory; phase = e.phase; asked = Some q }) q.operation refl h)

  effected : (top : Frame) (below : List Frame) (next : ℕ) (r : Result Effect ℕ) → FitsEffect m.seat r → Comes functions m (with_ok r (comes_to m top below next))
  effected top below next (Err code) h = tt
  effected top below next (Ok e) h = requested top below next e e.request h

  put_out : (top : Frame) (below : List Frame) (next : ℕ) (text : List ℕ) (t : Bool) → nat_lt 1048576 (m.printed + length text) ≡ t → Comes functions m (if t then Ends (Fault 109) else Asks (op.Output text) (record m { frames = record top { place = next } ∷ below; asked = Some (plain_request (op.Output text)) }))
  put_out top below next text true e = tt
  put_out top below next text false e = (record { seat = refl; printed = refl }, record { request = plain_request (op.Output text); asked = refl; operation = refl }, grind (arith, nat_tests, e))

-- of a machine that is like another
likewise : (functions : List FlatFunction) (m n : Machine) (x : Outcome) → n.seat ≡ m.seat → n.printed ≡ m.printed → n.asked ≡ m.asked → Comes functions n x → Comes functions m x
likewise functions m n (Goes began k) s p a h = (record { seat = h.0.seat ∙ s; printed = h.0.printed ∙ p }, h.1 ∙ a)
likewise functions m n (Asks o k) s p a h = (record { seat = h.0.seat ∙ s; printed = h.0.printed ∙ p }, h.1, h.2)
likewise functions m n (Ends e) s p a h = tt

module _ (functions : List FlatFunction) (refuses : Memory → ℕ → Bool) (m : Machine) where
  returns : (top : Frame) (below : List Frame) (v : Cell) → Comes functions m (returned functions m top below v)
  returns top below v =
      let left = record m { frames = below; memory = leave m.memory top.variables.count } in
      likewise functions m left (comes_back functions left below v) refl refl refl (back functions left below v)

  act_comes : (top : Frame) (below : List Frame) (x : Option Instr) → instr_at functions top ≡ x → Comes functions m (acts functions refuses m top below x)
  act_comes top below None e = tt
  act_comes top below (Some instr.Step) e = (record { seat = refl; printed = refl }, refl)
  act_comes top below (Some (instr.Zero k)) e = (record { seat = refl; printed = refl }, refl)
  act_comes top below (Some (instr.Set place value)) e = oks functions m (value_of value top.variables m.memory) (stores m top below (top.place + 1) place) (stored functions m top below (top.place + 1) place)
  act_comes top below (Some (instr.Call into f arguments)) e =
      oks functions m (values_of arguments top.variables m.memory) (enters functions m (top ∷ below) f) (λ vs.
      oks functions m (enter m.memory (lengths_in functions f)) (λ memory. Goes false (record m { frames = record { function = f; place = 0; variables = variables_from m.memory.next (length (lengths_in functions f)) } ∷ top ∷ below; memory = with_arguments memory m.memory.next vs })) (λ memory. (record { seat = refl; printed = refl }, refl)))
  act_comes top below (Some (instr.Malloc place bytes each)) e =
      oks functions m (value_of bytes top.variables m.memory) (λ n. allocates refuses m top below (top.place + 1) place (cells_asked n.word each)) (λ n.
      let given = malloc refuses m.memory (cells_asked n.word each) in
      likewise functions m (record m { memory = given.0 }) (stores (record m { memory = given.0 }) top below (top.place + 1) place given.1) refl refl refl (stored functions (record m { memory = given.0 }) top below (top.place + 1) place given.1))
  act_comes top below (Some (instr.Free a)) e =
      oks functions m (value_of a top.variables m.memory) (λ p. with_ok (free m.memory p) (goes_with m top below (top.place + 1))) (λ p.
      oks functions m (free m.memory p) (goes_with m top below (top.place + 1)) (changed functions m top below (top.place + 1)))
  act_comes top below (Some (instr.Goto to)) e = moved functions m top below to
  act_comes top below (Some (instr.Unless a to)) e =
      oks functions m (value_of a top.variables m.memory) (λ c. goes_to m top below (if is_false c then to else top.place + 1)) (λ c. moved functions m top below (if is_false c then to else top.place + 1))
  act_comes top below (Some (instr.Return None)) e = returns top below (number (pos 0))
  act_comes top below (Some (instr.Return (Some a))) e =
      oks functions m (value_of a top.variables m.memory) (returned functions m top below) (returns top below)
  act_comes top below (Some (instr.Mark site)) e =
      (record { seat = refl; printed = refl }, record { request = plain_request op.Mark; asked = refl; operation = refl }, record { site = site; place = top.place; after = refl; mark = e })
  act_comes top below (Some (instr.Push site)) e = (record { seat = refl; printed = refl }, refl)
  act_comes top below (Some instr.Pop) e = (record { seat = refl; printed = refl }, refl)
  act_comes top below (Some instr.Leave) e = (record { seat = refl; printed = refl }, refl)
  act_comes top below (Some (instr.Enter variables sites)) e = (record { seat = refl; printed = refl }, refl)
  act_comes top below (Some (instr.Print format arguments)) e =
      oks functions m (values_of arguments top.variables m.memory) (λ vs. prints m top below (top.place + 1) (printed format vs)) (λ vs.
      put_out functions m top below (top.place + 1) (printed format vs) (nat_lt 1048576 (m.printed + length (printed format vs))) refl)
  act_comes top below (Some (instr.Mpi call)) e =
      oks functions m (values_of call.arguments top.variables m.memory) (λ vs. with_ok (effect m.seat m.phase m.memory call.function vs) (comes_to m top below (top.place + 1))) (λ vs.
      effected functions m top below (top.place + 1) (effect m.seat m.phase m.memory call.function vs) (effect_fits m.seat m.phase m.memory call.function vs))

  pub newest_comes : (frames : List Frame) → Comes functions m (step_in functions refuses m frames)
  newest_comes [] = tt
  newest_comes (top ∷ below) = act_comes top below (instr_at functions top) refl

-- ---- one step

abbrev pub Came : List FlatFunction → Placing → Act Placing Op End → Type 0
Came functions p (turn.Goes q) = IsLike p.machine q.machine × (q.machine.asked ≡ None)
Came functions p (turn.Asks o q) = IsLike p.machine q.machine × HasAsked q.machine o × IsWanted functions q.machine o
Came functions p (turn.Ends e) = Unit {0}

place_came : (functions : List FlatFunction) (p : Placing) (l : Layout) (x : Outcome) → p.machine.asked ≡ None → Comes functions p.machine x → Came functions p (placed l x)
place_came functions p l (Goes began n) e h = (h.0, h.1 ∙ e)
place_came functions p l (Asks o n) e h = h
place_came functions p l (Ends x) e h = tt

step_came_by : (functions : List FlatFunction) (p : Placing) (l : Layout) (asked : Option Request) → p.machine.asked ≡ asked → Waits functions p.machine asked → Came functions p (placed l (elim asked [ None ↦ step_in functions (none_fits p.heap) p.machine p.machine.frames | Some q ↦ Asks q.operation p.machine ]))
step_came_by functions p l None e w = place_came functions p l (step_in functions (none_fits p.heap) p.machine p.machine.frames) e (newest_comes functions (none_fits p.heap) p.machine p.machine.frames)
step_came_by functions p l (Some q) e w = (record { seat = refl; printed = refl }, record { request = q; asked = e; operation = refl }, w)

step_came : (functions : List FlatFunction) (p : Placing) → Waits functions p.machine p.machine.asked → Came functions p (stepped functions p)
step_came functions p w = step_came_by functions p (laid_after functions p) p.machine.asked refl w

-- ---- a turn

asked_by : (functions : List FlatFunction) (frames : List Frame) (asked : Option Request) → elim asked [ None ↦ begins_in functions frames | Some q ↦ false ] ≡ true → asked ≡ None
asked_by functions frames None h = refl
asked_by functions frames (Some q) h = absurd cc

further : (functions : List FlatFunction) (p next : Placing) (a : Act Placing Op End) → IsLike p.machine next.machine → Came functions next a → Came functions p a
further functions p next (turn.Goes q) k h = (record { seat = h.0.seat ∙ k.seat; printed = h.0.printed ∙ k.printed }, h.1)
further functions p next (turn.Asks o q) k h = (record { seat = h.0.seat ∙ k.seat; printed = h.0.printed ∙ k.printed }, h.1, h.2)
further functions p next (turn.Ends e) k h = tt

onward : (functions : List FlatFunction) (p next : Placing) (a : Act Placing Op End) → Came functions p (turn.Goes next) → (Waits functions next.machine next.machine.asked → Came functions next a) → Came functions p a
onward functions p next a h rest = further functions p next a h.0 (rest (subst (λ x. Waits functions next.machine x) (sym h.1) tt))

pub turn_came : (functions : List FlatFunction) (n : ℕ) (p : Placing) (a : Act Placing Op End) → Waits functions p.machine p.machine.asked → Turned (stepped functions) (begins functions) n p a → Came functions p a
turn_came functions n p _ w (pauses _ _ e b) = (record { seat = refl; printed = refl }, asked_by functions p.machine.frames p.machine.asked b)
turn_came functions n p a w (begins_one _ m _ next _ e b h rest) = onward functions p next a (subst (λ x. Came functions p x) h (step_came functions p w)) (λ v. turn_came functions m next a v rest)
turn_came functions n p a w (goes _ _ next _ b h rest) = onward functions p next a (subst (λ x. Came functions p x) h (step_came functions p w)) (λ v. turn_came functions n next a v rest)
turn_came functions n p _ w (stops _ _ b l) = step_came functions p w
