-- A run of the machine is a run of the program.
use Rattle.std.proofs.Common.{◌≡◌, ℕ, ◌+◌, List, [], ◌∷◌, ◌++◌, Bool, false, Option, Some, None, refl, sym, ap, ◌∙◌, subst}
use Rattle.mpi_words.specs.declared.operation.Op.{Op}
use Rattle.mpi_words.specs.declared.operation.End.{End}
use Rattle.mpi_words.specs.declared.operation.Reply.{Reply}
use Rattle.mpi_words.specs.declared.operation.Reply.TheVariants as reply
use Rattle.mpi_words.specs.declared.message.Message.{Message}
use Rattle.c_kernel.specs.declared.program.Function.{Function}
use Rattle.mpi_effects.specs.declared.requests.Request.{Request}
use Rattle.mpi_effects.specs.declared.requests.Receipt.{Receipt}
use Rattle.c_memory.specs.Memory.{Memory}
use Rattle.mpi_effects.specs.Mpi.{received}
use Rattle.c_meaning.specs.State.{State}
use Rattle.c_meaning.specs.State as state
use Rattle.mpi_effects.specs.Requests.{receipt_of, bytes_asked}
use Rattle.c_meaning.specs.Step as source
use Rattle.flat_code.specs.declared.code.FlatFunction.{FlatFunction}
use Rattle.flat_code.specs.Machine.{Frame, Machine, Outcome, Goes, Asks, Ends, step, answered}
use Rattle.flat_code.specs.Machine as machine
use Rattle.ccift_lower.specs.Stands.{World, state_in, machine_in, StandsFor, nowhere, stands, chooses}
use Rattle.ccift_lower.specs.Follows.{Compiled, Locals, here, further, Both, Followed, jumped, agreed}
use Rattle.ccift_lower.specs.Runs.{Run, stays, goes, asks, Ran, stayed, went, did, Finishes, stops, by_reply, Finished, stopped, refused}
use Rattle.ccift_lower.proofs.Steps.{both_ok, followed}

-- ---- replies

both_taken : (code : List FlatFunction) (w : World) (calls : List state.Call) (frames : List Frame) (r : Option Receipt) (a : Reply) → ((m : Memory) → StandsFor code (state_in (record w { memory = m }) calls) (machine_in (record w { memory = m }) frames)) →
    Both code (source.taken_in (state_in w calls) r a) (machine.taken_in (machine_in w frames) r a)
both_taken code w calls frames None (reply.Got from message) h = (refl, h w.memory)
both_taken code w calls frames None reply.Done h = (refl, h w.memory)
both_taken code w calls frames (Some r) reply.Done h = (refl, h w.memory)
both_taken code w calls frames (Some r) (reply.Got from message) h = both_ok code (received r w.memory from message) _ _ (λ m. (refl, h m))

both_answered : (code : List FlatFunction) (s : State) (m : Machine) (q : Request) (a : Reply) → s.asked ≡ Some q → StandsFor code s m → Both code (source.answered s a) (answered m a)
both_answered code _ _ q a e (nowhere w) = both_taken code (record w { asked = None; printed = w.printed + bytes_asked w.asked }) [] [] (receipt_of w.asked) a (λ m. nowhere (record w { asked = None; printed = w.printed + bytes_asked w.asked; memory = m }))
both_answered code _ _ q a e (stands w todo f p leave again v calls frames st below) =
    both_taken code (record w { asked = None; printed = w.printed + bytes_asked w.asked }) (record { todo = todo; variables = v } ∷ calls) (record { function = f; place = p; variables = v } ∷ frames) (receipt_of w.asked) a
    (λ m. stands (record w { asked = None; printed = w.printed + bytes_asked w.asked; memory = m }) todo f p leave again v calls frames st below)
both_answered code _ _ q a e (chooses w x arms left ss todo f p end leave again v calls frames unasked same b chosen st below) =
    let absurd_here : None ≡ Some q = sym unasked ∙ e in absurd cc

-- ---- what the program does where the machine goes on, asks or ends

goes_too : (code : List FlatFunction) (o : state.Outcome) (began : Bool) (n : Machine) → Both code o (Goes began n) → (t : State) × (o ≡ state.Goes began t) × StandsFor code t n
goes_too code (state.Goes b t) began n h = (t, ap (λ c. state.Goes c t) h.0, h.1)
goes_too code (state.Asks p t) began n h = absurd h
goes_too code (state.Ends e) began n h = absurd h

asks_too : (code : List FlatFunction) (o : state.Outcome) (p : Op) (n : Machine) → Both code o (Asks p n) → (t : State) × (q : Request) × (o ≡ state.Asks p t) × (t.asked ≡ Some q) × StandsFor code t n
asks_too code (state.Goes b t) p n h = absurd h
asks_too code (state.Asks other t) p n h = (t, h.1, ap (λ c. state.Asks c t) h.0, h.2, h.3)
asks_too code (state.Ends e) p n h = absurd h

ends_too : (code : List FlatFunction) (o : state.Outcome) (e : End) → Both code o (Ends e) → o ≡ state.Ends e
ends_too code (state.Goes b t) e h = absurd h
ends_too code (state.Asks p t) e h = absurd h
ends_too code (state.Ends other) e h = ap state.Ends h

-- steps of the program's own before a run, which may take any choice
locals_run : (functions : List Function) (refuses : Memory → ℕ → Bool) (s t u : State) (asked : List (Op × Reply)) → Locals functions s t → Run functions t asked u → Run functions s asked u
locals_run functions refuses _ _ u asked (here s) run = run
locals_run functions refuses _ _ u asked (further s mid t e more) run = goes s mid u asked refuses false (e refuses) (locals_run functions refuses mid t u asked more run)

pub run_on : (functions : List Function) (s t u : State) (asked more : List (Op × Reply)) → Run functions s asked t → Run functions t more u → Run functions s (asked ++ more) u
run_on functions _ _ u _ more (stays s) rest = rest
run_on functions _ _ u _ more (goes s mid t asked refuses began e run) rest = goes s mid u (asked ++ more) refuses began e (run_on functions mid t u asked more run rest)
run_on functions _ _ u _ more (asks s mid next t asked refuses o a began e f run) rest = asks s mid next u (asked ++ more) refuses o a began e f (run_on functions next t u asked more run rest)

-- ---- one instruction

module _ (functions : List Function) (code : List FlatFunction) (is : Compiled functions code) where
  one_goes : (r : Memory → ℕ → Bool) (s : State) (m n : Machine) (began : Bool) → step code r m ≡ Goes began n → Followed functions code r s m → (t : State) × Run functions s [] t × StandsFor code t n
  one_goes r s m n began e (jumped t other run j st) =
      let same : other ≡ n = cc (j, e) in
      (t, locals_run functions r s t t [] run (stays t), subst (StandsFor code t) same st)
  one_goes r s m n began e (agreed t run both) =
      let next = goes_too code (source.step functions r t) began n (subst (Both code (source.step functions r t)) e both) in
      (next.0, locals_run functions r s t next.0 [] run (goes t next.0 next.0 [] r began next.1 (stays next.0)), next.2)

  one_asks : (r : Memory → ℕ → Bool) (s : State) (m n : Machine) (o : Op) → step code r m ≡ Asks o n → Followed functions code r s m →
      (t : State) × (mid : State) × (q : Request) × Locals functions s t × (source.step functions r t ≡ state.Asks o mid) × (mid.asked ≡ Some q) × StandsFor code mid n
  one_asks r s m n o e (jumped t other run j st) = let never : Goes false other ≡ Asks o n = sym j ∙ e in absurd cc
  one_asks r s m n o e (agreed t run both) =
      let next = asks_too code (source.step functions r t) o n (subst (Both code (source.step functions r t)) e both) in
      (t, next.0, next.1, run, next.2, next.3, next.4)

  one_ends : (r : Memory → ℕ → Bool) (s : State) (m : Machine) (end : End) → step code r m ≡ Ends end → Followed functions code r s m → (t : State) × Locals functions s t × (source.step functions r t ≡ state.Ends end)
  one_ends r s m end e (jumped t other run j st) = let never : Goes false other ≡ Ends end = sym j ∙ e in absurd cc
  one_ends r s m end e (agreed t run both) = (t, run, ends_too code (source.step functions r t) end (subst (Both code (source.step functions r t)) e both))

  -- ---- a whole run

  pub simulates : (s : State) (m n : Machine) (asked : List (Op × Reply)) → Ran code m asked n → StandsFor code s m → (t : State) × Run functions s asked t × StandsFor code t n
  simulates s _ _ _ (stayed m) h = (s, stays s, h)
  simulates s _ _ _ (went m mid n asked r began e run) h =
      let one = one_goes r s m mid began e (followed functions code is r s m h) in
      let rest = simulates one.0 mid n asked run one.2 in
      (rest.0, run_on functions s one.0 rest.0 [] asked one.1 rest.1, rest.2)
  simulates s _ _ _ (did m mid next n asked r o a began e f run) h =
      let one = one_asks r s m mid o e (followed functions code is r s m h) in
      let reply = goes_too code (source.answered one.1 a) began next (subst (Both code (source.answered one.1 a)) f (both_answered code one.1 mid one.2 a one.5 one.6)) in
      let rest = simulates reply.0 next n asked run reply.2 in
      (rest.0, locals_run functions r s one.0 rest.0 ((o, a) ∷ asked) one.3 (asks one.0 one.1 reply.0 rest.0 asked r o a began one.4 reply.1 rest.1), rest.2)

  pub ends_alike : (s : State) (m : Machine) (asked : List (Op × Reply)) (end : End) → Finished code m asked end → StandsFor code s m → (t : State) × Run functions s [] t × Finishes functions t asked end
  ends_alike s _ _ _ (stopped m r end e) h =
      let one = one_ends r s m end e (followed functions code is r s m h) in
      (one.0, locals_run functions r s one.0 one.0 [] one.1 (stays one.0), stops one.0 r end one.2)
  ends_alike s _ _ _ (refused m mid r o a end e f) h =
      let one = one_asks r s m mid o e (followed functions code is r s m h) in
      let last = ends_too code (source.answered one.1 a) end (subst (Both code (source.answered one.1 a)) f (both_answered code one.1 mid one.2 a one.5 one.6)) in
      (one.0, locals_run functions r s one.0 one.0 [] one.3 (stays one.0), by_reply one.0 one.1 r o a end one.4 last)
