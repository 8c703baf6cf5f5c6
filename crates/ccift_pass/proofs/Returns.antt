-- What is put back at the mark is the machine that was saved.
use Rattle.std.proofs.Common.{◌≡◌, ℕ, zero, suc, ◌+◌, ◌-◌, ◌*◌, List, [], ◌∷◌, ◌++◌, map, reverse, length, drop, Option, Some, None, refl, sym, ap, ◌∙◌, subst, arith}
use Rattle.std.specs.Prelude.{Bool, false, slice_index_or}
use Rattle.std.proofs.lemmas.List.{reverse-reverse, reverse-append, length-reverse, map-append}
use Rattle.mpi_words.specs.declared.operation.Op.{Op}
use Rattle.mpi_words.specs.declared.operation.Op.TheVariants as op
use Rattle.mpi_words.specs.declared.operation.Reply.{Reply}
use Rattle.mpi_words.specs.declared.operation.Reply.TheVariants as reply
use Rattle.mpi_effects.specs.declared.seat.Phase.{Phase}
use Rattle.mpi_effects.specs.declared.seat.Seat.{Seat}
use Rattle.mpi_effects.specs.declared.requests.Request.{Request}
use Rattle.mpi_effects.specs.Requests.{plain_request}
use Rattle.c_values.specs.declared.value.Variables.{Variables}
use Rattle.c_values.specs.Variables.{variables_from}
use Rattle.c_memory.specs.Memory.{Memory, Object}
use Rattle.flat_code.specs.declared.code.Code.{Code}
use Rattle.flat_code.specs.declared.code.FlatFunction.{FlatFunction}
use Rattle.flat_code.specs.declared.code.Instr.TheVariants.{Mark}
use Rattle.flat_code.specs.Machine.{Frame, Machine, lengths_in, descriptors, descriptors_from, step, step_in, acts, answered, start, seat_of, Goes, Asks}
use Rattle.flat_code.specs.Restart.{Restarting, restarting, Reenters, instr_here, IsAtMark, Stage, LeadsAt, LeadsTo, passed_mark, past_mark, saved_of, newest_serials, first_among, numbered, put_back}
use Rattle.ccift_lower.specs.Runs.{Ran}
use Rattle.ccift_pass.specs.Passed.{passed}
use Rattle.ccift_pass.specs.Stages.{stage, stages_of}
use Rattle.ccift_pass.specs.Spots.{Passes}
use Rattle.ccift_pass.proofs.Keeps.{extents}
use Rattle.ccift_pass.proofs.Calls.{laid, extents_of, Sized, Framed, Sound, stays_sound, starts_sound}
use Rattle.ccift_pass.proofs.Leads.{onto, all_described, Leading, leading}
use Rattle.ccift_pass.proofs.Restarts.{Back, with_calls, began, at_most, comes_from_start}
use Rattle.ccift_pass.proofs.PassFollows.{passed_runs, pass_starts}

-- ---- serials

serial_extents : (os : List Object) → map (λ o. o.serial) os ≡ map (λ e. e.serial) (extents os)
serial_extents [] = refl
serial_extents (o ∷ os) = ap (λ l. o.serial ∷ l) (serial_extents os)

-- the first is the oldest
oldest : (n first : ℕ) → descriptors_from first (suc n) ≡ descriptors_from (first + 1) n ++ first ∷ []
oldest zero first = let e : first + 0 ≡ first = omega arith in ap (λ k. k ∷ []) e
oldest (suc n) first =
    let e : first + suc n ≡ first + 1 + n = omega arith in
    ap (λ l. (first + suc n) ∷ l) (oldest n first) ∙ ap (λ k. k ∷ (descriptors_from (first + 1) n ++ first ∷ [])) e

reverse_cons : (x : ℕ) (xs : List ℕ) → reverse (x ∷ xs) ≡ reverse xs ++ x ∷ []
reverse_cons x xs = reverse-append (x ∷ []) xs

laid_serials : (ns : List ℕ) (first : ℕ) → reverse (map (λ e. e.serial) (laid first ns)) ≡ descriptors_from first (length ns)
laid_serials [] first = refl
laid_serials (n ∷ ns) first =
    reverse_cons first (map (λ e. e.serial) (laid (first + 1) ns))
    ∙ ap (λ l. l ++ first ∷ []) (laid_serials ns (first + 1))
    ∙ sym (oldest (length ns) first)

frames_serials : (functions : List FlatFunction) (frames : List Frame) → Sized functions frames → reverse (map (λ e. e.serial) (extents_of functions frames)) ≡ all_described frames
frames_serials functions [] h = refl
frames_serials functions (top ∷ below) h =
    let a = extents_of functions below in
    let b = laid top.variables.first (lengths_in functions top.function) in
    let count : length (lengths_in functions top.function) ≡ top.variables.count = sym (ap (λ v. v.count) h.0.1) in
    ap reverse (map-append (λ e. e.serial) a b)
    ∙ reverse-append (map (λ e. e.serial) a) (map (λ e. e.serial) b)
    ∙ ap (λ l. l ++ reverse (map (λ e. e.serial) a)) (laid_serials (lengths_in functions top.function) top.variables.first ∙ ap (descriptors_from top.variables.first) count)
    ∙ ap (λ l. descriptors top.variables ++ l) (frames_serials functions below h.1)

saved_serials : (functions : List FlatFunction) (main : ℕ) (frames : List Frame) (m : Memory) → Framed functions main frames m → newest_serials m.variables ≡ all_described frames
saved_serials functions main frames m h =
    ap reverse (serial_extents m.variables ∙ ap (map (λ e. e.serial)) h.variables) ∙ frames_serials functions frames h.sized

-- ---- calls get their first serials back

drop_own : (first n : ℕ) (rest : List ℕ) → drop n (descriptors_from first n ++ rest) ≡ rest
drop_own first zero rest = refl
drop_own first (suc n) rest = drop_own first n rest

first_own : (first n : ℕ) (rest : List ℕ) → slice_index_or (descriptors_from first (suc n) ++ rest) n 0 ≡ first
first_own first zero rest = let e : first + 0 ≡ first = omega arith in e
first_own first (suc n) rest = first_own first n rest

own_first : (functions : List FlatFunction) (f x : ℕ) (lengths : List ℕ) (v : Variables) (rest : List ℕ) → v ≡ variables_from x (length lengths) → first_among (descriptors v ++ rest) (length lengths) ≡ v.first
own_first functions f x [] v rest e = sym (ap (λ w. w.first) e)
own_first functions f x (n ∷ ns) v rest e =
    let count : v.count ≡ suc (length ns) = ap (λ w. w.count) e in
    ap (λ k. slice_index_or (descriptors_from v.first k ++ rest) (length ns) 0) count ∙ first_own v.first (length ns) rest

abbrev frame_of : ℕ → ℕ → ℕ → ℕ → Frame
frame_of f p first count = record { function = f; place = p; variables = record { first = first; count = count } }

frame_same : (f g p q a b k l : ℕ) → f ≡ g → p ≡ q → a ≡ b → k ≡ l → frame_of f p a k ≡ frame_of g q b l
frame_same f g p q a b k l function place first count =
    ap (λ x. frame_of x p a k) function ∙ ap (λ x. frame_of g x a k) place ∙ ap (λ x. frame_of g q x k) first ∙ ap (λ x. frame_of g q b x) count

head_same : (s t : Stage) (ss ts : List Stage) → ◌≡◌ {A = List Stage} (s ∷ ss) (t ∷ ts) → (s ≡ t) × (ss ≡ ts)
head_same s t ss ts e = (cc e, cc e)

numbered_same : (functions : List FlatFunction) (ts ns : List Frame) → map stage ts ≡ map stage ns → Sized functions ts → Sized functions ns → numbered (all_described ns) ts ≡ ns
numbered_same functions [] [] e a b = refl
numbered_same functions [] (n ∷ ns) e a b = absurd (cc e)
numbered_same functions (t ∷ ts) [] e a b = absurd (cc e)
numbered_same functions (t ∷ ts) (n ∷ ns) e a b =
    let both = head_same (stage t) (stage n) (map stage ts) (map stage ns) e in
    let function : t.function ≡ n.function = ap (λ s. s.function) both.0 in
    let place : t.place ≡ n.place = ap (λ s. s.place) both.0 in
    let lengths : length (lengths_in functions t.function) ≡ length (lengths_in functions n.function) = ap (λ f. length (lengths_in functions f)) function in
    let t_count : t.variables.count ≡ length (lengths_in functions t.function) = ap (λ v. v.count) a.0.1 in
    let n_count : n.variables.count ≡ length (lengths_in functions n.function) = ap (λ v. v.count) b.0.1 in
    let count : t.variables.count ≡ n.variables.count = t_count ∙ lengths ∙ sym n_count in
    let first : first_among (all_described (n ∷ ns)) t.variables.count ≡ n.variables.first =
    ap (first_among (all_described (n ∷ ns))) (t_count ∙ lengths) ∙ own_first functions n.function b.0.0 (lengths_in functions n.function) n.variables (all_described ns) b.0.1 in
    let rest : drop t.variables.count (all_described (n ∷ ns)) ≡ all_described ns =
    ap (λ k. drop k (all_described (n ∷ ns))) count ∙ drop_own n.variables.first n.variables.count (all_described ns) in
    ap (λ l. l ∷ numbered (drop t.variables.count (all_described (n ∷ ns))) ts) (frame_same t.function n.function t.place n.place _ n.variables.first t.variables.count n.variables.count function place first count)
    ∙ ap (λ l. n ∷ l) (ap (λ l. numbered l ts) rest ∙ numbered_same functions ts ns both.1 a.1 b.1)

-- ---- lists that are turned round

append_one : {A : Type 0} (xs : List A) (y : A) (l : List A) → (xs ++ y ∷ []) ++ l ≡ xs ++ (y ∷ l)
append_one [] y l = refl
append_one (x ∷ xs) y l = ap (λ k. x ∷ k) (append_one xs y l)

onto_reverse : {A : Type 0} (xs l : List A) → onto xs l ≡ reverse xs ++ l
onto_reverse [] l = refl
onto_reverse (x ∷ xs) l = onto_reverse xs (x ∷ l) ∙ sym (ap (λ k. k ++ l) (reverse-append (x ∷ []) xs) ∙ append_one (reverse xs) x l)

append_nil : {A : Type 0} (xs : List A) → xs ++ [] ≡ xs
append_nil [] = refl
append_nil (x ∷ xs) = ap (λ k. x ∷ k) (append_nil xs)

turned : {A : Type 0} (xs : List A) → onto xs [] ≡ reverse xs
turned xs = onto_reverse xs [] ∙ append_nil (reverse xs)

length_stages : (fs : List Frame) → length (map stage fs) ≡ length fs
length_stages [] = refl
length_stages (f ∷ fs) = let h = length_stages fs in omega (arith, h)

-- ---- the mark

mark_in : (functions : List FlatFunction) (r : Memory → ℕ → Bool) (n : Machine) (frames : List Frame) (site : ℕ) → instr_here functions frames ≡ Some (Mark site) → step_in functions r n frames ≡ Asks op.Mark (record n { frames = passed_mark frames; asked = Some (plain_request op.Mark) })
mark_in functions r n [] site e = absurd (cc e)
mark_in functions r n (top ∷ below) site e = ap (acts functions r n top below) e

pub marks : (functions : List FlatFunction) (r : Memory → ℕ → Bool) (n : Machine) → n.asked ≡ None → IsAtMark functions n →
    (mid : Machine) × (step functions r n ≡ Asks op.Mark mid) × (answered mid reply.Done ≡ Goes false (past_mark n))
marks functions r n e mark =
    let none : n.printed + 0 ≡ n.printed = omega arith in (
      record n { frames = passed_mark n.frames; asked = Some (plain_request op.Mark) },
      ap (λ o. elim o [ None ↦ step_in functions r n n.frames | Some q ↦ Asks q.operation n ]) e ∙ mark_in functions r n n.frames mark.site mark.mark,
      ap (λ k. Goes false (record n { frames = passed_mark n.frames; asked = None; printed = k })) none ∙ ap (λ o. Goes false (record n { frames = passed_mark n.frames; asked = o })) (sym e),
    )

-- ---- the machine that was saved

abbrev machine_of : Memory → Phase → ℕ → List Frame → List ℕ → List ℕ → ℕ → Seat → Option Request → Machine
machine_of m phase printed frames sites described calls seat asked = record { frames = frames; sites = sites; described = described; memory = record m { calls = calls }; seat = seat; phase = phase; printed = printed; asked = asked }

machine_same : (m : Memory) (phase : Phase) (printed : ℕ) (a b : List Frame) (s t d e : List ℕ) (calls other : ℕ) (x y : Seat) (asked : Option Request) → a ≡ b → s ≡ t → d ≡ e → calls ≡ other → x ≡ y → None ≡ asked →
    machine_of m phase printed a s d calls x None ≡ machine_of m phase printed b t e other y asked
machine_same m phase printed a b s t d e calls other x y asked frames sites described same seat none =
    ap (λ z. machine_of m phase printed z s d calls x None) frames
    ∙ ap (λ z. machine_of m phase printed b z d calls x None) sites
    ∙ ap (λ z. machine_of m phase printed b t z calls x None) described
    ∙ ap (λ z. machine_of m phase printed b t e z x None) same
    ∙ ap (λ z. machine_of m phase printed b t e other z None) seat
    ∙ ap (λ z. machine_of m phase printed b t e other y z) none

module _ (c : Code) (rank ranks : ℕ) (n : Machine) where
  abbrev functions : List FlatFunction
  functions = c.functions

  abbrev sites : List ℕ
  sites = reverse n.sites

  -- what restart mode comes to, with what was saved
  gets_back : Sound functions c.main (seat_of c rank ranks) n → n.described ≡ all_described n.frames → n.asked ≡ None → (from : Restarting) (b : Back functions (began c rank ranks sites) from sites (onto (onto (map stage n.frames) []) [])) →
      put_back (saved_of (past_mark n)) (record { machine = with_calls (began c rank ranks sites) b.frames b.memory b.described; left = [] }) ≡ past_mark n
  gets_back h described e from b =
      let serials : newest_serials n.memory.variables ≡ all_described n.frames = saved_serials functions c.main n.frames n.memory h.framed in
      let stages : map stage b.frames ≡ map stage n.frames = b.by_stages ∙ ap (λ l. onto l []) (turned (map stage n.frames)) ∙ turned (reverse (map stage n.frames)) ∙ reverse-reverse (map stage n.frames) in
      let frames : numbered (newest_serials n.memory.variables) b.frames ≡ n.frames = ap (λ l. numbered l b.frames) serials ∙ numbered_same functions b.frames n.frames stages b.sized h.framed.sized in
      let length_same : length b.frames ≡ length n.frames = sym (length_stages b.frames) ∙ ap length stages ∙ length_stages n.frames in
      machine_same n.memory n.phase n.printed (passed_mark (numbered (newest_serials n.memory.variables) b.frames)) (passed_mark n.frames) (reverse sites) n.sites (newest_serials n.memory.variables) n.described b.memory.calls n.memory.calls (seat_of c rank ranks) n.seat n.asked
      (ap passed_mark frames) (reverse-reverse n.sites) (serials ∙ sym described) (b.calls ∙ length_same ∙ sym h.framed.calls) (sym h.seats) (sym e)

  -- after 2n - 1 instructions restart mode is at the mark, and gets back what was saved
  abbrev pub Returns : Type 0
  Returns = (t : Restarting) × Reenters functions (2 * length n.sites - 1) (restarting c rank ranks sites) t × IsAtMark functions t.machine × (put_back (saved_of (past_mark n)) t ≡ past_mark n)

  pub returns_to : Sound functions c.main (seat_of c rank ranks) n → Leading functions c.main n → n.asked ≡ None → Returns
  returns_to h l e =
      let leads : LeadsAt functions 0 c.main sites (onto (map stage n.frames) []) = subst (λ s. LeadsAt functions 0 c.main s (onto (map stage n.frames) [])) (turned n.sites) l.leads in
      let b = comes_from_start c rank ranks sites (onto (map stage n.frames) []) leads in
      let t : Restarting = record { machine = with_calls (began c rank ranks sites) b.frames b.memory b.described; left = [] } in
      let many : b.turns ≡ 2 * length n.sites - 1 = let k = b.count in let r = length-reverse n.sites in omega (arith, k, r) in
      (t, subst (λ k. Reenters functions k (restarting c rank ranks sites) t) many b.runs, record { site = b.site; mark = b.mark }, gets_back h l.described e (restarting c rank ranks sites) b)

  pub leads_to : Leading functions c.main n → LeadsTo c sites
  leads_to l = record { stages = onto (map stage n.frames) []; leads = subst (λ s. LeadsAt functions 0 c.main s (onto (map stage n.frames) [])) (turned n.sites) l.leads }

-- ---- from any sites that lead to a mark

pub reaches : (c : Code) (rank ranks : ℕ) (sites : List ℕ) (leads : LeadsTo c sites) → (t : Restarting) × Reenters c.functions (2 * length sites - 1) (restarting c rank ranks sites) t × IsAtMark c.functions t.machine × (stages_of t.machine.frames ≡ leads.stages)
reaches c rank ranks sites l =
    let b = comes_from_start c rank ranks sites l.stages l.leads in
    let t : Restarting = record { machine = with_calls (began c rank ranks sites) b.frames b.memory b.described; left = [] } in
    let many : b.turns ≡ 2 * length sites - 1 = let k = b.count in omega (arith, k) in
    let stages : stages_of b.frames ≡ l.stages = ap reverse (b.by_stages ∙ turned l.stages) ∙ reverse-reverse l.stages in
    (t, subst (λ k. Reenters c.functions k (restarting c rank ranks sites) t) many b.runs, record { site = b.site; mark = b.mark }, stages)

-- after another number of instructions it isn't at a mark
pub not_before : (c : Code) (rank ranks : ℕ) (sites : List ℕ) → LeadsTo c sites → (k : ℕ) (t : Restarting) → Reenters c.functions k (restarting c rank ranks sites) t → IsAtMark c.functions t.machine → k ≡ 2 * length sites - 1
not_before c rank ranks sites l k t runs mark =
    let there = reaches c rank ranks sites l in
    let low = at_most c.functions (2 * length sites - 1) k (restarting c rank ranks sites) there.0 t there.1 there.2 runs in
    let high = at_most c.functions k (2 * length sites - 1) (restarting c rank ranks sites) t there.0 runs mark there.1 in
    omega (arith, low, high)

-- ---- runs of passed code

pub run_leads : (c : Code) (rank ranks : ℕ) → Passes c.functions (passed c).functions → (n : Machine) (asked : List (Op × Reply)) → Ran (passed c).functions (start (passed c) rank ranks) asked n → IsAtMark (passed c).functions n →
    Sound (passed c).functions c.main (seat_of c rank ranks) n × Leading (passed c).functions c.main n
run_leads c rank ranks is n asked run mark =
    let sound = stays_sound (passed c).functions c.main (seat_of c rank ranks) (start (passed c) rank ranks) n asked run (starts_sound (passed c) rank ranks) in
    let on_code = passed_runs c.functions (passed c).functions is (start c rank ranks) (start (passed c) rank ranks) n asked run (pass_starts c rank ranks is) in
    (sound, leading c.functions (passed c).functions c.main on_code.0 n mark.site on_code.2 sound.framed mark.mark)
