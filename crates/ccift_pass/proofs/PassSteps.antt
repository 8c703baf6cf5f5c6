-- Passed code follows the code, one instruction at a time.
use Rattle.std.proofs.Common.{◌≡◌, ◌⊎◌, inl, inr, ℕ, zero, suc, ◌+◌, List, [], ◌∷◌, ◌++◌, map, length, drop, Option, Some, None, Bool, true, false, Result, Ok, Err, refl, sym, ap, ◌∙◌, subst, arith}
use Rattle.std.specs.Prelude.{pos, nat_lt, if◌then◌else◌, slice_get}
use Rattle.c3_base.specs.declared.cell.Cell.{Cell}
use Rattle.mpi_words.specs.declared.operation.Op.TheVariants as op
use Rattle.c_kernel.specs.declared.program.Expr.{Expr}
use Rattle.c_kernel.specs.declared.program.Place.{Place}
use Rattle.c_kernel.specs.declared.program.Target.{Target}
use Rattle.mpi_effects.specs.declared.requests.Request.{Request}
use Rattle.mpi_effects.specs.declared.seat.Seat.{Seat}
use Rattle.mpi_effects.specs.declared.seat.Phase.{Phase}
use Rattle.c_values.specs.Variables.{variables_from}
use Rattle.c_values.specs.declared.value.Variables.{Variables}
use Rattle.c_memory.specs.Memory.{Memory, number, store, enter, leave, free, zeroed, cells_asked, with_arguments, malloc}
use Rattle.c_values.specs.Value.{is_false, read_of, variable_of, place_of, value_of, values_of}
use Rattle.c_values.specs.Text.{printed}
use Rattle.mpi_effects.specs.Mpi.{Effect, effect}
use Rattle.mpi_effects.specs.Requests.{plain_request}
use Rattle.flat_code.specs.declared.code.FlatFunction.{FlatFunction}
use Rattle.flat_code.specs.declared.code.Instr.{Instr}
use Rattle.flat_code.specs.declared.code.Instr.TheVariants.{Step, Zero, Set, Call, Malloc, Free, Goto, Unless, Return, Mark, Push, Pop, Leave, Enter, Print, Mpi}
use Rattle.flat_code.specs.Machine.{Frame, Machine, Outcome, Goes, Asks, Ends, code_at, lengths_in, instr_at, target_in, descriptors, descriptors_from, step, acts, with_ok, goes_to, goes_with, asks, stores, awaited, comes_back, returned, enters, allocates, prints, comes_to, calls_mpi}
use Rattle.ccift_lower.specs.Laid.{At}
use Rattle.ccift_lower.specs.Stands.{World, machine_in, result_of}
use Rattle.ccift_pass.specs.Passed.{width, passes}
use Rattle.ccift_pass.specs.Spots.{Has, IsPlain, Moves, missing_code, Passes, Spot, entering, between, at_call, at_mark, popping, leaving, Paired, none, pair, PassedTo, nowhere, passes_by, missing, Agree, PassesOn, stutters, agrees}

abbrev frame : ℕ → ℕ → Variables → Frame
frame f p v = record { function = f; place = p; variables = v }

-- ---- how both go on, where the top calls are at these places

-- machines that stand for each other, whatever else they hold
abbrev Rel : Type 1
Rel = Machine → Machine → Type 0

pub agree_ok : (R : Rel) {A : Type 0} (x : Result A ℕ) (g h : A → Outcome) → ((a : A) → Agree R (g a) (h a)) → Agree R (with_ok x g) (with_ok x h)
agree_ok R (Err c) g h both = refl
agree_ok R (Ok a) g h both = both a

agree_test : (R : Rel) (b : Bool) (f g h k : Outcome) → Agree R f h → Agree R g k → Agree R (if b then f else g) (if b then h else k)
agree_test R true f g h k p q = p
agree_test R false f g h k p q = q

chosen : (F : ℕ → ℕ → Type 0) (b : Bool) (x y p q : ℕ) → F x p → F y q → F (if b then x else y) (if b then p else q)
chosen F true x y p q f g = f
chosen F false x y p q f g = g

-- both worlds are alike, but for the stacks
abbrev on : World → List ℕ → List ℕ → World
on w sites described = record w { sites = sites; described = described }

module _ (R : Rel) (f : ℕ) (v : Variables) (frames others : List Frame) (sites described : List ℕ) (p q : ℕ) (go : (w : World) → R (machine_in w (frame f p v ∷ frames)) (machine_in (on w sites described) (frame f q v ∷ others))) where
  agree_stored : (w : World) (x y : ℕ) (a b : List Frame) (place : Place Expr) (c : Cell) → Agree R (stores (machine_in w a) (frame f x v) frames p place c) (stores (machine_in (on w sites described) b) (frame f y v) others q place c)
  agree_stored w x y a b place c = agree_ok R (place_of place v w.memory) _ _ (λ spot. agree_ok R (store w.memory spot c) _ _ (λ m. (refl, go (record w { memory = m }))))

  agree_asked : (w : World) (x y : ℕ) (a b : List Frame) (r : Request) → Agree R (asks (machine_in w a) (frame f x v) frames p r) (asks (machine_in (on w sites described) b) (frame f y v) others q r)
  agree_asked w x y a b r = (refl, go (record w { asked = Some r }))

  agree_come_to : (w : World) (x y : ℕ) (a b : List Frame) (memory : Memory) (phase : Phase) (r : Option Request) →
      Agree R (comes_to (machine_in w a) (frame f x v) frames p (record { memory = memory; phase = phase; request = r })) (comes_to (machine_in (on w sites described) b) (frame f y v) others q (record { memory = memory; phase = phase; request = r }))
  agree_come_to w x y a b memory phase None = (refl, go (record w { memory = memory; phase = phase }))
  agree_come_to w x y a b memory phase (Some r) = agree_asked (record w { memory = memory; phase = phase }) x y a b r

-- a result comes back to a Call that waits
agree_back : (code passed : List FlatFunction) (w : World) (a b frames others : List Frame) (sites described : List ℕ) (c : Cell) → Paired code passed frames others sites described →
    Agree (PassedTo code passed) (comes_back code (machine_in w a) frames c) (comes_back passed (machine_in (on w sites described) b) others c)
agree_back code passed w a b _ _ _ _ c none = refl
agree_back code passed w a b _ _ _ _ c (pair f p v into g arguments frames others sites described m at pairs) =
    subst (λ i. Agree (PassedTo code passed) (awaited (machine_in w a) (frame f p v) frames (target_in i) c) (comes_back passed (machine_in (on w (m.site p ∷ sites) (descriptors v ++ described)) b) (frame f (m.move p + 1) v ∷ others) c)) (sym at)
    (subst (λ i. Agree (PassedTo code passed) (awaited (machine_in w a) (frame f p v) frames into c) (awaited (machine_in (on w (m.site p ∷ sites) (descriptors v ++ described)) b) (frame f (m.move p + 1) v) others (target_in i) c)) (sym fetched.1.0)
    (back into))
  where
    fetched : Has (code_at passed f) (m.move p) (Push (m.site p) ∷ Call into g arguments ∷ Pop ∷ [])
    fetched = m.fetch p (Call into g arguments) at

    go : (w : World) → PassedTo code passed (machine_in w (frame f (p + 1) v ∷ frames)) (machine_in (on w (m.site p ∷ sites) (descriptors v ++ described)) (frame f (m.move p + 1 + 1) v ∷ others))
    go w = passes_by w f (p + 1) (m.move p + 1 + 1) v (m.site p ∷ []) (descriptors v) frames others sites described m (popping (p + 1) (m.move p + 1 + 1) (m.site p) fetched.1.1.0 (let n = m.next p (Call into g arguments) at in three (m.move p) ∙ n)) pairs
      where
        three : (k : ℕ) → k + 1 + 1 + 1 ≡ k + 3
        three k = omega arith

    back : (t : Option Target) → Agree (PassedTo code passed) (awaited (machine_in w a) (frame f p v) frames t c) (awaited (machine_in (on w (m.site p ∷ sites) (descriptors v ++ described)) b) (frame f (m.move p + 1) v) others t c)
    back None = (refl, go w)
    back (Some t) = agree_stored (PassedTo code passed) f v frames others (m.site p ∷ sites) (descriptors v ++ described) (p + 1) (m.move p + 1 + 1) go w p (m.move p + 1) a b t.place (read_of t.kind c)

-- a function is entered
agree_entered : (code passed : List FlatFunction) (is : Passes code passed) (w : World) (a b frames others : List Frame) (sites described : List ℕ) (g : ℕ) (vs : List Cell) → Paired code passed frames others sites described →
    Agree (PassedTo code passed) (enters code (machine_in w a) frames g vs) (enters passed (machine_in (on w sites described) b) others g vs)
agree_entered code passed is w a b frames others sites described g vs pairs =
    subst (λ lengths. Agree (PassedTo code passed) (enters code (machine_in w a) frames g vs) (with_ok (enter w.memory lengths) (λ memory. Goes false (record (machine_in (on w sites described) b) {
      frames = record { function = g; place = 0; variables = variables_from w.memory.next (length lengths) } ∷ others;
      memory = with_arguments memory w.memory.next vs;
    })))) (is.lengths g)
    (agree_ok (PassedTo code passed) (enter w.memory (lengths_in code g)) _ _ (λ m. (refl, found m (is.moves g))))
  where
    found : (m : Memory) → Moves (code_at code g) (code_at passed g) ⊎ ((code_at code g ≡ missing_code) × (code_at passed g ≡ missing_code)) →
        PassedTo code passed (machine_in (record w { memory = with_arguments m w.memory.next vs }) (frame g 0 (variables_from w.memory.next (length (lengths_in code g))) ∷ frames))
        (machine_in (on (record w { memory = with_arguments m w.memory.next vs }) sites described) (frame g 0 (variables_from w.memory.next (length (lengths_in code g))) ∷ others))
    found m (inl moves) = passes_by (record w { memory = with_arguments m w.memory.next vs }) g 0 0 (variables_from w.memory.next (length (lengths_in code g))) [] [] frames others sites described moves entering pairs
    found m (inr e) = missing (record w { memory = with_arguments m w.memory.next vs }) g 0 (variables_from w.memory.next (length (lengths_in code g))) frames others sites described e.0 e.1 pairs

-- descriptors that are pushed are popped
drop_descriptors : (first n : ℕ) (described : List ℕ) → drop n (descriptors_from first n ++ described) ≡ described
drop_descriptors first zero described = refl
drop_descriptors first (suc n) described = drop_descriptors first n described

return_by : (code : List FlatFunction) (r : Memory → ℕ → Bool) (m : Machine) (top : Frame) (frames : List Frame) (e : Option Expr) → acts code r m top frames (Some (Return e)) ≡ with_ok (result_of e top.variables m.memory) (returned code m top frames)
return_by code r m top frames None = refl
return_by code r m top frames (Some e) = refl

module _ (code passed : List FlatFunction) (is : Passes code passed) (r : Memory → ℕ → Bool) (sites_below described_below : List ℕ) (memory : Memory) (seat : Seat) (phase : Phase) (out : ℕ) (f : ℕ) (v : Variables) (frames others : List Frame) (sites described : List ℕ) (pairs : Paired code passed frames others sites described) where
  -- the stacks of the machine on the code don't matter
  abbrev w : World
  w = record { sites = sites_below; described = described_below; memory = memory; seat = seat; phase = phase; printed = out; asked = None }

  abbrev c : List Instr
  c = code_at code f

  abbrev d : List Instr
  d = code_at passed f

  abbrev R : Machine → Machine → Type 0
  R = PassedTo code passed

  abbrev before : ℕ → Machine
  before p = machine_in w (frame f p v ∷ frames)

  abbrev then_at : List ℕ → List ℕ → ℕ → Machine
  then_at pushed own q = machine_in (on w (pushed ++ sites) (own ++ described)) (frame f q v ∷ others)

  abbrev Ons : ℕ → List ℕ → List ℕ → ℕ → Type 0
  Ons p pushed own q = PassesOn code passed r (before p) (then_at pushed own q)

  abbrev acted : ℕ → Option Instr → Outcome
  acted p i = acts code r (before p) (frame f p v) frames i

  abbrev acted_then : List ℕ → List ℕ → ℕ → Option Instr → Outcome
  acted_then pushed own q i = acts passed r (then_at pushed own q) (frame f q v) others i

  -- an instruction that the code doesn't have
  extra : (p : ℕ) (pushed own : List ℕ) (q : ℕ) (i : Instr) (t : Machine) → At d q i → acted_then pushed own q (Some i) ≡ Goes false t → R (before p) t → Ons p pushed own q
  extra p pushed own q i t at goes rel = stutters t (ap (acted_then pushed own q) at ∙ goes) rel

  -- one that both have
  both : (p : ℕ) (pushed own : List ℕ) (q : ℕ) (i j : Instr) → At c p i → At d q j → Agree R (acted p (Some i)) (acted_then pushed own q (Some j)) → Ons p pushed own q
  both p pushed own q i j at_c at_d a =
      agrees (subst (λ o. Agree R (acted p o) (acted_then pushed own q (slice_get d q))) (sym at_c) (subst (λ o. Agree R (acted p (Some i)) (acted_then pushed own q o)) (sym at_d) a))

  module _ (m : Moves c d) where
    stands : (w : World) (p q : ℕ) (pushed own : List ℕ) → Spot c d m (descriptors v) p q pushed own → R (machine_in w (frame f p v ∷ frames)) (machine_in (on w (pushed ++ sites) (own ++ described)) (frame f q v ∷ others))
    stands w p q pushed own spot = passes_by w f p q v pushed own frames others sites described m spot pairs

    -- between two instructions
    goes_on : (w : World) (p q : ℕ) → q ≡ m.move p → R (machine_in w (frame f p v ∷ frames)) (machine_in (on w sites (descriptors v ++ described)) (frame f q v ∷ others))
    goes_on w p q e = subst (λ k. R (machine_in w (frame f p v ∷ frames)) (machine_in (on w sites (descriptors v ++ described)) (frame f k v ∷ others))) (sym e) (stands w p (m.move p) [] (descriptors v) (between p))

    popping_at : (p site q : ℕ) (w : World) → At d q Pop → q + 1 ≡ m.move p → R (machine_in w (frame f p v ∷ frames)) (machine_in (on w (site ∷ sites) (descriptors v ++ described)) (frame f q v ∷ others))
    popping_at p site q w at e = stands w p q (site ∷ []) (descriptors v) (popping p q site at e)

    at_instr : (p : ℕ) (i : Instr) → At c p i → Has d (m.move p) (passes m.move (m.site p) i) → m.move p + width i ≡ m.move (p + 1) → IsPlain i → Ons p [] (descriptors v) (m.move p)
    at_instr p Step at h n plain = both p [] (descriptors v) (m.move p) Step Step at h.0 (refl, goes_on w (p + 1) (m.move p + 1) n)
    at_instr p (Zero k) at h n plain = both p [] (descriptors v) (m.move p) (Zero k) (Zero k) at h.0 (refl, goes_on (record w { memory = zeroed memory (variable_of k v).serial }) (p + 1) (m.move p + 1) n)
    at_instr p (Set place value) at h n plain = both p [] (descriptors v) (m.move p) (Set place value) (Set place value) at h.0
        (agree_ok R (value_of value v memory) _ _ (λ a. agree_stored R f v frames others sites (descriptors v ++ described) (p + 1) (m.move p + 1) (λ w. goes_on w (p + 1) (m.move p + 1) n) w p (m.move p) [] [] place a))
    at_instr p (Malloc place bytes each) at h n plain = both p [] (descriptors v) (m.move p) (Malloc place bytes each) (Malloc place bytes each) at h.0
        (agree_ok R (value_of bytes v memory) _ _ (λ a. agree_stored R f v frames others sites (descriptors v ++ described) (p + 1) (m.move p + 1) (λ w. goes_on w (p + 1) (m.move p + 1) n) (record w { memory = (malloc r memory (cells_asked a.word each)).0 }) p (m.move p) [] [] place (malloc r memory (cells_asked a.word each)).1))
    at_instr p (Free e) at h n plain = both p [] (descriptors v) (m.move p) (Free e) (Free e) at h.0
        (agree_ok R (value_of e v memory) _ _ (λ a. agree_ok R (free memory a) _ _ (λ new. (refl, goes_on (record w { memory = new }) (p + 1) (m.move p + 1) n))))
    at_instr p (Print format arguments) at h n plain = both p [] (descriptors v) (m.move p) (Print format arguments) (Print format arguments) at h.0
        (agree_ok R (values_of arguments v memory) _ _ (λ vs. agree_test R (nat_lt 1048576 (out + length (printed format vs))) _ _ _ _ refl
        (agree_asked R f v frames others sites (descriptors v ++ described) (p + 1) (m.move p + 1) (λ w. goes_on w (p + 1) (m.move p + 1) n) w p (m.move p) [] [] (plain_request (op.Output (printed format vs))))))
    at_instr p (Mpi call) at h n plain = both p [] (descriptors v) (m.move p) (Mpi call) (Mpi call) at h.0
        (agree_ok R (values_of call.arguments v memory) _ _ (λ vs. agree_ok R (effect seat phase memory call.function vs) _ _ (λ e.
        agree_come_to R f v frames others sites (descriptors v ++ described) (p + 1) (m.move p + 1) (λ w. goes_on w (p + 1) (m.move p + 1) n) w p (m.move p) [] [] e.memory e.phase e.request)))
    at_instr p (Goto to) at h n plain = both p [] (descriptors v) (m.move p) (Goto to) (Goto (m.move to)) at h.0 (refl, goes_on w to (m.move to) refl)
    at_instr p (Unless e to) at h n plain = both p [] (descriptors v) (m.move p) (Unless e to) (Unless e (m.move to)) at h.0
        (agree_ok R (value_of e v memory) _ _ (λ a. (refl, chosen (λ x y. R (machine_in w (frame f x v ∷ frames)) (machine_in (on w sites (descriptors v ++ described)) (frame f y v ∷ others))) (is_false a) to (p + 1) (m.move to) (m.move p + 1) (goes_on w to (m.move to) refl) (goes_on w (p + 1) (m.move p + 1) n))))
    at_instr p (Call into g arguments) at h n plain = extra p [] (descriptors v) (m.move p) (Push (m.site p)) _ h.0 refl (stands w p (m.move p + 1) (m.site p ∷ []) (descriptors v) (at_call p into g arguments at))
    at_instr p (Mark k) at h n plain = extra p [] (descriptors v) (m.move p) (Push (m.site p)) _ h.0 refl (stands w p (m.move p + 1) (m.site p ∷ []) (descriptors v) (at_mark p k at))
    at_instr p (Return e) at h n plain = extra p [] (descriptors v) (m.move p) Leave _ h.0 refl
        (subst (λ l. R (before p) (machine_in (on w sites l) (frame f (m.move p + 1) v ∷ others))) (sym (drop_descriptors v.first v.count described)) (stands w p (m.move p + 1) [] [] (leaving p e at)))
    at_instr p (Push site) at h n plain = absurd plain
    at_instr p Pop at h n plain = absurd plain
    at_instr p Leave at h n plain = absurd plain
    at_instr p (Enter variables list) at h n plain = absurd plain

    at_any : (p : ℕ) (i : Option Instr) → slice_get c p ≡ i → Ons p [] (descriptors v) (m.move p)
    at_any p None e =
        agrees (subst (λ o. Agree R (acted p o) (acted_then [] (descriptors v) (m.move p) (slice_get d (m.move p)))) (sym e) (subst (λ o. Agree R (acted p None) (acted_then [] (descriptors v) (m.move p) o)) (sym (m.past p e)) refl))
    at_any p (Some i) e = at_instr p i e (m.fetch p i e) (m.next p i e) (m.plain p i e)

    three : (k : ℕ) → k + 1 + 1 + 1 ≡ k + 3
    three k = omega arith

    pub at_spot : (p q : ℕ) (pushed own : List ℕ) → Spot c d m (descriptors v) p q pushed own → Ons p pushed own q
    at_spot _ _ _ _ entering = extra 0 [] [] 0 (Enter m.variables m.list) _ m.enter refl (goes_on w 0 (0 + 1) (sym m.start))
    at_spot _ _ _ _ (between p) = at_any p (slice_get c p) refl
    at_spot _ _ _ _ (at_call p into g arguments at) =
        both p (m.site p ∷ []) (descriptors v) (m.move p + 1) (Call into g arguments) (Call into g arguments) at (m.fetch p (Call into g arguments) at).1.0
        (agree_ok R (values_of arguments v memory) _ _ (λ vs. agree_entered code passed is w [] [] (frame f p v ∷ frames) (frame f (m.move p + 1) v ∷ others) (m.site p ∷ sites) (descriptors v ++ described) g vs (pair f p v into g arguments frames others sites described m at pairs)))
    at_spot _ _ _ _ (at_mark p k at) =
        let h = m.fetch p (Mark k) at in
        both p (m.site p ∷ []) (descriptors v) (m.move p + 1) (Mark k) (Mark (m.site p)) at h.1.0
        (refl, popping_at (p + 1) (m.site p) (m.move p + 1 + 1) (record w { asked = Some (plain_request op.Mark) }) h.1.1.0 (three (m.move p) ∙ m.next p (Mark k) at))
    at_spot _ _ _ _ (popping p q site at e) = extra p (site ∷ []) (descriptors v) q Pop _ at refl (goes_on w p (q + 1) e)
    at_spot _ _ _ _ (leaving p e at) =
        both p [] [] (m.move p + 1) (Return e) (Return e) at (m.fetch p (Return e) at).1.0
        (subst (λ o. Agree R o (acted_then [] [] (m.move p + 1) (Some (Return e)))) (sym (return_by code r (before p) (frame f p v) frames e))
        (subst (λ o. Agree R (with_ok (result_of e v memory) (returned code (before p) (frame f p v) frames)) o) (sym (return_by passed r (then_at [] [] (m.move p + 1)) (frame f (m.move p + 1) v) others e))
        (agree_ok R (result_of e v memory) _ _ (λ a. agree_back code passed (record w { memory = leave memory v.count }) frames others frames others sites described a pairs))))

  -- a function that isn't there
  pub missing_on : (p : ℕ) → c ≡ missing_code → d ≡ missing_code → Ons p [] [] p
  missing_on p e g = agrees (subst (λ l. Agree R (acted p (slice_get l p)) (acted_then [] [] p (slice_get d p))) (sym e) (subst (λ l. Agree R (acted p (slice_get missing_code p)) (acted_then [] [] p (slice_get l p))) (sym g) (by p)))
    where
      by : (p : ℕ) → Agree R (acted p (slice_get missing_code p)) (acted_then [] [] p (slice_get missing_code p))
      by zero = (refl, missing w f (0 + 1) v frames others sites described e g pairs)
      by (suc zero) = agree_back code passed (record w { memory = leave memory v.count }) frames others frames others sites described (number (pos 0)) pairs
      by (suc (suc p)) = refl
