-- A run on passed code is a run on the code.
use Rattle.std.proofs.Common.{◌≡◌, ◌⊎◌, inl, inr, ℕ, ◌+◌, List, [], ◌∷◌, ◌++◌, length, map, Bool, false, Option, Some, None, Ok, Err, Result, refl, sym, ap, ◌∙◌, subst}
use Rattle.mpi_words.specs.declared.operation.Op.{Op}
use Rattle.mpi_words.specs.declared.operation.End.{End}
use Rattle.mpi_words.specs.declared.operation.Reply.{Reply}
use Rattle.mpi_words.specs.declared.operation.Reply.TheVariants as reply
use Rattle.mpi_words.specs.declared.message.Message.{Message}
use Rattle.c_kernel.specs.declared.program.Program.{Program}
use Rattle.mpi_effects.specs.declared.requests.Request.{Request}
use Rattle.c_values.specs.Variables.{variables_from}
use Rattle.mpi_effects.specs.declared.requests.Receipt.{Receipt}
use Rattle.mpi_effects.specs.declared.seat.Seat.{Seat}
use Rattle.mpi_effects.specs.declared.seat.Phase.{Phase}
use Rattle.mpi_effects.specs.declared.seat.Phase.TheVariants.{Before}
use Rattle.c_values.specs.declared.value.Variables.{Variables}
use Rattle.c_memory.specs.Memory.{Memory, empty, enter}
use Rattle.mpi_effects.specs.Mpi.{received}
use Rattle.c_meaning.specs.State.{State}
use Rattle.mpi_effects.specs.Requests.{receipt_of, bytes_asked}
use Rattle.c_meaning.specs.Step as source
use Rattle.flat_code.specs.declared.code.Code.{Code}
use Rattle.flat_code.specs.declared.code.FlatFunction.{FlatFunction}
use Rattle.ccift_lower.specs.Lowered.{lowered}
use Rattle.flat_code.specs.Machine.{Frame, Machine, Outcome, Goes, Asks, Ends, code_at, lengths_in, step, step_in, answered, taken_in, seat_of, start, descriptors}
use Rattle.ccift_lower.specs.Stands.{World, machine_in}
use Rattle.ccift_pass.specs.Passed.{passed}
use Rattle.ccift_pass.specs.Spots.{Moves, missing_code, Passes, Spot, entering, Paired, none, PassedTo, nowhere, passes_by, missing, Agree, PassesOn, stutters, agrees}
use Rattle.ccift_lower.specs.Runs.{Run, Finishes, Ran, stayed, went, did, Finished, stopped, refused}
use Rattle.ccift_pass.proofs.PassSteps.{agree_ok, at_spot, missing_on}
use Rattle.ccift_pass.proofs.PassPlaces.{passing, FunctionsPlain}
use Rattle.ccift_pass.proofs.Plain.{lowered_plain}
use Rattle.ccift_lower.proofs.Simulates.{simulates, ends_alike, run_on}
use Rattle.ccift_lower.proofs.Compiles.{compiled, starts}

append_nil : (xs : List (Op × Reply)) → xs ++ [] ≡ xs
append_nil [] = refl
append_nil (x ∷ xs) = ap (λ l. x ∷ l) (append_nil xs)

-- ---- one instruction

asked_on : (code passed : List FlatFunction) (r : Memory → ℕ → Bool) (m n : Machine) (q : Request) → m.asked ≡ Some q → n.asked ≡ Some q → PassedTo code passed m n → PassesOn code passed r m n
asked_on code passed r m n q e d st =
    agrees (subst (λ o. Agree (PassedTo code passed) (elim o [ None ↦ step_in code r m m.frames | Some q ↦ Asks q.operation m ]) (step passed r n)) (sym e)
    (subst (λ o. Agree (PassedTo code passed) (Asks q.operation m) (elim o [ None ↦ step_in passed r n n.frames | Some q ↦ Asks q.operation n ])) (sym d) (refl, st)))

nowhere_on : (code passed : List FlatFunction) (r : Memory → ℕ → Bool) (asked : Option Request) (w : World) → w.asked ≡ asked → PassesOn code passed r (machine_in w []) (machine_in (record w { sites = []; described = [] }) [])
nowhere_on code passed r None w e =
    agrees (subst (λ o. Agree (PassedTo code passed) (elim o [ None ↦ step_in code r (machine_in w []) [] | Some q ↦ Asks q.operation (machine_in w []) ]) (elim o [ None ↦ step_in passed r (machine_in (record w { sites = []; described = [] }) []) [] | Some q ↦ Asks q.operation (machine_in (record w { sites = []; described = [] }) []) ])) (sym e) refl)
nowhere_on code passed r (Some q) w e = asked_on code passed r _ _ q e e (nowhere w)

spot_on : (code passed : List FlatFunction) (is : Passes code passed) (r : Memory → ℕ → Bool) (sites_below described_below : List ℕ) (memory : Memory) (seat : Seat) (phase : Phase) (out : ℕ) (asked : Option Request) (f p q : ℕ) (v : Variables) (pushed own : List ℕ) (frames others : List Frame) (sites described : List ℕ) (m : Moves (code_at code f) (code_at passed f)) →
    Spot (code_at code f) (code_at passed f) m (descriptors v) p q pushed own → Paired code passed frames others sites described →
    PassesOn code passed r (machine_in (record { sites = sites_below; described = described_below; memory = memory; seat = seat; phase = phase; printed = out; asked = asked }) (record { function = f; place = p; variables = v } ∷ frames))
    (machine_in (record { sites = pushed ++ sites; described = own ++ described; memory = memory; seat = seat; phase = phase; printed = out; asked = asked }) (record { function = f; place = q; variables = v } ∷ others))
spot_on code passed is r sites_below described_below memory seat phase out None f p q v pushed own frames others sites described m spot pairs =
    at_spot code passed is r sites_below described_below memory seat phase out f v frames others sites described pairs m p q pushed own spot
spot_on code passed is r sites_below described_below memory seat phase out (Some a) f p q v pushed own frames others sites described m spot pairs =
    asked_on code passed r _ _ a refl refl (passes_by (record { sites = sites_below; described = described_below; memory = memory; seat = seat; phase = phase; printed = out; asked = Some a }) f p q v pushed own frames others sites described m spot pairs)

absent_on : (code passed : List FlatFunction) (is : Passes code passed) (r : Memory → ℕ → Bool) (sites_below described_below : List ℕ) (memory : Memory) (seat : Seat) (phase : Phase) (out : ℕ) (asked : Option Request) (f p : ℕ) (v : Variables) (frames others : List Frame) (sites described : List ℕ) →
    code_at code f ≡ missing_code → code_at passed f ≡ missing_code → Paired code passed frames others sites described →
    PassesOn code passed r (machine_in (record { sites = sites_below; described = described_below; memory = memory; seat = seat; phase = phase; printed = out; asked = asked }) (record { function = f; place = p; variables = v } ∷ frames))
    (machine_in (record { sites = sites; described = described; memory = memory; seat = seat; phase = phase; printed = out; asked = asked }) (record { function = f; place = p; variables = v } ∷ others))
absent_on code passed is r sites_below described_below memory seat phase out None f p v frames others sites described e g pairs =
    missing_on code passed is r sites_below described_below memory seat phase out f v frames others sites described pairs p e g
absent_on code passed is r sites_below described_below memory seat phase out (Some a) f p v frames others sites described e g pairs =
    asked_on code passed r _ _ a refl refl (missing (record { sites = sites_below; described = described_below; memory = memory; seat = seat; phase = phase; printed = out; asked = Some a }) f p v frames others sites described e g pairs)

pub passes_on : (code passed : List FlatFunction) → Passes code passed → (r : Memory → ℕ → Bool) (m n : Machine) → PassedTo code passed m n → PassesOn code passed r m n
passes_on code passed is r _ _ (nowhere w) = nowhere_on code passed r w.asked w refl
passes_on code passed is r _ _ (passes_by w f p q v pushed own frames others sites described m spot pairs) = spot_on code passed is r w.sites w.described w.memory w.seat w.phase w.printed w.asked f p q v pushed own frames others sites described m spot pairs
passes_on code passed is r _ _ (missing w f p v frames others sites described e g pairs) = absent_on code passed is r w.sites w.described w.memory w.seat w.phase w.printed w.asked f p v frames others sites described e g pairs

-- ---- replies

agree_taken : (R : Machine → Machine → Type 0) (w : World) (sites described : List ℕ) (frames others : List Frame) (a : Option Receipt) (b : Reply) → ((m : Memory) → R (machine_in (record w { memory = m }) frames) (machine_in (record w { sites = sites; described = described; memory = m }) others)) →
    Agree R (taken_in (machine_in w frames) a b) (taken_in (machine_in (record w { sites = sites; described = described }) others) a b)
agree_taken R w sites described frames others None (reply.Got from message) h = (refl, h w.memory)
agree_taken R w sites described frames others None reply.Done h = (refl, h w.memory)
agree_taken R w sites described frames others (Some a) reply.Done h = (refl, h w.memory)
agree_taken R w sites described frames others (Some a) (reply.Got from message) h = agree_ok R (received a w.memory from message) _ _ (λ m. (refl, h m))

abbrev done : World → World
done w = record w { asked = None; printed = w.printed + bytes_asked w.asked }

agree_answered : (code passed : List FlatFunction) (m n : Machine) (a : Reply) → PassedTo code passed m n → Agree (PassedTo code passed) (answered m a) (answered n a)
agree_answered code passed _ _ a (nowhere w) = agree_taken (PassedTo code passed) (done w) [] [] [] [] (receipt_of w.asked) a (λ m. nowhere (record (done w) { memory = m }))
agree_answered code passed _ _ a (passes_by w f p q v pushed own frames others sites described m spot pairs) =
    agree_taken (PassedTo code passed) (done w) (pushed ++ sites) (own ++ described) _ _ (receipt_of w.asked) a (λ memory. passes_by (record (done w) { memory = memory }) f p q v pushed own frames others sites described m spot pairs)
agree_answered code passed _ _ a (missing w f p v frames others sites described e g pairs) =
    agree_taken (PassedTo code passed) (done w) sites described _ _ (receipt_of w.asked) a (λ memory. missing (record (done w) { memory = memory }) f p v frames others sites described e g pairs)

-- ---- runs

goes_too : (R : Machine → Machine → Type 0) (o : Outcome) (b : Bool) (n : Machine) → Agree R o (Goes b n) → (m : Machine) × (o ≡ Goes b m) × R m n
goes_too R (Goes c m) b n h = (m, ap (λ d. Goes d m) h.0, h.1)
goes_too R (Asks p m) b n h = absurd h
goes_too R (Ends e) b n h = absurd h

asks_too : (R : Machine → Machine → Type 0) (o : Outcome) (p : Op) (n : Machine) → Agree R o (Asks p n) → (m : Machine) × (o ≡ Asks p m) × R m n
asks_too R (Goes c m) p n h = absurd h
asks_too R (Asks q m) p n h = (m, ap (λ d. Asks d m) h.0, h.1)
asks_too R (Ends e) p n h = absurd h

ends_too : (R : Machine → Machine → Type 0) (o : Outcome) (e : End) → Agree R o (Ends e) → o ≡ Ends e
ends_too R (Goes c m) e h = absurd h
ends_too R (Asks q m) e h = absurd h
ends_too R (Ends f) e h = ap Ends h

module _ (code passed : List FlatFunction) (is : Passes code passed) where
  one_did : (r : Memory → ℕ → Bool) (m n t : Machine) (o : Op) → step passed r n ≡ Asks o t → PassesOn code passed r m n → (k : Machine) × (step code r m ≡ Asks o k) × PassedTo code passed k t
  one_did r m n t o e (stutters other j st) = let never : Goes false other ≡ Asks o t = sym j ∙ e in absurd cc
  one_did r m n t o e (agrees a) = asks_too (PassedTo code passed) (step code r m) o t (subst (Agree (PassedTo code passed) (step code r m)) e a)

  ran_on : (m k u : Machine) (one more : List (Op × Reply)) → Ran code m one k → Ran code k more u → Ran code m (one ++ more) u
  ran_on _ _ u _ more (stayed m) rest = rest
  ran_on _ _ u _ more (went m mid k asked r b e run) rest = went m mid u (asked ++ more) r b e (ran_on mid k u asked more run rest)
  ran_on _ _ u _ more (did m mid next k asked r o a b e g run) rest = did m mid next u (asked ++ more) r o a b e g (ran_on next k u asked more run rest)

  one_step : (r : Memory → ℕ → Bool) (m n t : Machine) (b : Bool) → step passed r n ≡ Goes b t → PassesOn code passed r m n → (k : Machine) × Ran code m [] k × PassedTo code passed k t
  one_step r m n t b e (stutters other j st) = let same : other ≡ t = cc (j, e) in (m, stayed m, subst (PassedTo code passed m) same st)
  one_step r m n t b e (agrees a) =
      let next = goes_too (PassedTo code passed) (step code r m) b t (subst (Agree (PassedTo code passed) (step code r m)) e a) in
      (next.0, went m next.0 next.0 [] r b next.1 (stayed next.0), next.2)

  pub passed_runs : (m n u : Machine) (asked : List (Op × Reply)) → Ran passed n asked u → PassedTo code passed m n → (k : Machine) × Ran code m asked k × PassedTo code passed k u
  passed_runs m _ _ _ (stayed n) h = (m, stayed m, h)
  passed_runs m _ _ _ (went n mid u asked r b e run) h =
      let one = one_step r m n mid b e (passes_on code passed is r m n h) in
      let rest = passed_runs one.0 mid u asked run one.2 in
      (rest.0, ran_on m one.0 rest.0 [] asked one.1 rest.1, rest.2)
  passed_runs m _ _ _ (did n mid next u asked r o a b e f run) h =
      let one = one_did r m n mid o e (passes_on code passed is r m n h) in
      let reply = goes_too (PassedTo code passed) (answered one.0 a) b next (subst (Agree (PassedTo code passed) (answered one.0 a)) f (agree_answered code passed one.0 mid a one.2)) in
      let rest = passed_runs reply.0 next u asked run reply.2 in
      (rest.0, did m one.0 reply.0 rest.0 asked r o a b one.1 reply.1 rest.1, rest.2)

  one_ended : (r : Memory → ℕ → Bool) (m n : Machine) (end : End) → step passed r n ≡ Ends end → PassesOn code passed r m n → step code r m ≡ Ends end
  one_ended r m n end e (stutters other j st) = let never : Goes false other ≡ Ends end = sym j ∙ e in absurd cc
  one_ended r m n end e (agrees a) = ends_too (PassedTo code passed) (step code r m) end (subst (Agree (PassedTo code passed) (step code r m)) e a)

  pub passed_ends : (m n : Machine) (asked : List (Op × Reply)) (end : End) → Finished passed n asked end → PassedTo code passed m n → Finished code m asked end
  passed_ends m _ _ _ (stopped n r end e) h = stopped m r end (one_ended r m n end e (passes_on code passed is r m n h))
  passed_ends m _ _ _ (refused n mid r o a end e f) h =
      let one = one_did r m n mid o e (passes_on code passed is r m n h) in
      refused m one.0 r o a end one.1 (ends_too (PassedTo code passed) (answered one.0 a) end (subst (Agree (PassedTo code passed) (answered one.0 a)) f (agree_answered code passed one.0 mid a one.2)))

-- ---- the start

start_by : (code passed : List FlatFunction) (is : Passes code passed) (main : ℕ) (seat : Seat) (entered : Result Memory ℕ) (v : Variables) → PassedTo code passed
    (elim entered [
      | Err c ↦ record { frames = []; sites = []; described = []; memory = empty; seat = seat; phase = Before; printed = 0; asked = None }
      | Ok m ↦ record { frames = record { function = main; place = 0; variables = v } ∷ []; sites = []; described = []; memory = m; seat = seat; phase = Before; printed = 0; asked = None }
    ])
    (elim entered [
      | Err c ↦ record { frames = []; sites = []; described = []; memory = empty; seat = seat; phase = Before; printed = 0; asked = None }
      | Ok m ↦ record { frames = record { function = main; place = 0; variables = v } ∷ []; sites = []; described = []; memory = m; seat = seat; phase = Before; printed = 0; asked = None }
    ])
start_by code passed is main seat (Err c) v = nowhere (record { sites = []; described = []; memory = empty; seat = seat; phase = Before; printed = 0; asked = None })
start_by code passed is main seat (Ok m) v = found (is.moves main)
  where
    found : Moves (code_at code main) (code_at passed main) ⊎ ((code_at code main ≡ missing_code) × (code_at passed main ≡ missing_code)) →
        PassedTo code passed (record { frames = record { function = main; place = 0; variables = v } ∷ []; sites = []; described = []; memory = m; seat = seat; phase = Before; printed = 0; asked = None }) (record { frames = record { function = main; place = 0; variables = v } ∷ []; sites = []; described = []; memory = m; seat = seat; phase = Before; printed = 0; asked = None })
    found (inl moves) = passes_by (record { sites = []; described = []; memory = m; seat = seat; phase = Before; printed = 0; asked = None }) main 0 0 v [] [] [] [] [] [] moves entering none
    found (inr e) = missing (record { sites = []; described = []; memory = m; seat = seat; phase = Before; printed = 0; asked = None }) main 0 v [] [] [] [] e.0 e.1 none

pub pass_starts : (c : Code) (rank ranks : ℕ) → Passes c.functions (passed c).functions → PassedTo c.functions (passed c).functions (start c rank ranks) (start (passed c) rank ranks)
pass_starts c rank ranks is =
    subst (λ lengths. PassedTo c.functions (passed c).functions (start c rank ranks) (elim (enter empty lengths) [
      | Err code ↦ record { frames = []; sites = []; described = []; memory = empty; seat = seat_of c rank ranks; phase = Before; printed = 0; asked = None }
      | Ok m ↦ record { frames = record { function = c.main; place = 0; variables = variables_from 1 (length lengths) } ∷ []; sites = []; described = []; memory = m; seat = seat_of c rank ranks; phase = Before; printed = 0; asked = None }
    ])) (is.lengths c.main)
    (start_by c.functions (passed c).functions is c.main (seat_of c rank ranks) (enter empty (lengths_in c.functions c.main)) (variables_from 1 (length (lengths_in c.functions c.main))))

-- what the job runs, and how it ends, and the program
pub passed_finishes : (p : Program) (rank ranks : ℕ) (n : Machine) (asked last : List (Op × Reply)) (end : End) → Ran (passed (lowered p)).functions (start (passed (lowered p)) rank ranks) asked n → Finished (passed (lowered p)).functions n last end →
    (t : State) × Run p.functions (source.start p rank ranks) asked t × Finishes p.functions t last end
passed_finishes p rank ranks n asked last end run fin =
    let is = passing (lowered p).functions (lowered_plain p.functions) in
    let on_code = passed_runs (lowered p).functions (passed (lowered p)).functions is (start (lowered p) rank ranks) (start (passed (lowered p)) rank ranks) n asked run (pass_starts (lowered p) rank ranks is) in
    let ended = passed_ends (lowered p).functions (passed (lowered p)).functions is on_code.0 n last end fin on_code.2 in
    let on_source = simulates p.functions (lowered p).functions (compiled p.functions) (source.start p rank ranks) (start (lowered p) rank ranks) on_code.0 asked on_code.1 (starts p rank ranks) in
    let source_end = ends_alike p.functions (lowered p).functions (compiled p.functions) on_source.0 on_code.0 last end ended on_source.2 in
    let nothing : asked ++ [] ≡ asked = append_nil asked in
    (source_end.0, subst (λ l. Run p.functions (source.start p rank ranks) l source_end.0) nothing (run_on p.functions (source.start p rank ranks) on_source.0 source_end.0 asked [] on_source.1 source_end.1), source_end.2)

pub passed_follows : (p : Program) (rank ranks : ℕ) (n : Machine) (asked : List (Op × Reply)) → Ran (passed (lowered p)).functions (start (passed (lowered p)) rank ranks) asked n → (t : State) × Run p.functions (source.start p rank ranks) asked t
passed_follows p rank ranks n asked run =
    let is = passing (lowered p).functions (lowered_plain p.functions) in
    let on_code = passed_runs (lowered p).functions (passed (lowered p)).functions is (start (lowered p) rank ranks) (start (passed (lowered p)) rank ranks) n asked run (pass_starts (lowered p) rank ranks is) in
    let on_source = simulates p.functions (lowered p).functions (compiled p.functions) (source.start p rank ranks) (start (lowered p) rank ranks) on_code.0 asked on_code.1 (starts p rank ranks) in
    (on_source.0, on_source.1)
