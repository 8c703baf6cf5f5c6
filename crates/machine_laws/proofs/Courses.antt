-- A course of turns and answers is a run of the machine.
use Rattle.std.proofs.Common.{◌≡◌, ℕ, Bool, true, false, List, [], ◌∷◌, ◌++◌, refl, ap, subst}
use Rattle.mpi_words.specs.declared.operation.Op.{Op}
use Rattle.mpi_words.specs.declared.operation.End.{End}
use Rattle.mpi_words.specs.declared.operation.Reply.{Reply}
use Rattle.c_memory.specs.Memory.{Memory}
use Rattle.runs.specs.Turn.{Act, Goes, Asks, Ends, is_last}
use Rattle.runs.specs.Turn as turn
use Rattle.flat_code.specs.declared.code.FlatFunction.{FlatFunction}
use Rattle.flat_code.specs.Machine.{Machine, Outcome, step, answered}
use Rattle.flat_code.specs.Machine as outcome
use Rattle.flat_code.specs.Placed.{none_fits}
use Rattle.ccift_lower.specs.Runs.{Ran, Finished, stayed, went, did, stopped, refused}
use Rattle.rank_machine.specs.Layout.{Layout}
use Rattle.rank_machine.specs.Placing.{Placing, Turns, laid_after, placed, stepped}
use Rattle.machine_laws.specs.Course.{Course, Ended, stands, pauses, answers, by_turn, by_answer}

-- what the last step of a turn comes to
abbrev IsLast : List FlatFunction → Machine → Act Placing Op End → Type 0
IsLast functions m (Goes q) = m ≡ q.machine
IsLast functions m (Asks o q) = (refuses : Memory → ℕ → Bool) × (step functions refuses m ≡ outcome.Asks o q.machine)
IsLast functions m (Ends e) = (refuses : Memory → ℕ → Bool) × (step functions refuses m ≡ outcome.Ends e)

record Leads (functions : List FlatFunction) (m : Machine) (a : Act Placing Op End) : Type 0 where
  last : Machine
  run : Ran functions m [] last
  comes : IsLast functions last a

abbrev machine_in : Machine → Act Placing Op End → Machine
machine_in m (Goes q) = q.machine
machine_in m other = m

went_on : (l : Layout) (x : Outcome) (q : Placing) → placed l x ≡ Goes q → (began : Bool) × (x ≡ outcome.Goes began q.machine)
went_on l (outcome.Goes began m) q e = (began, ap (outcome.Goes began) (ap (machine_in m) e))
went_on l (outcome.Asks o m) q e = let no : true ≡ false = ap is_last e in absurd (cc no)
went_on l (outcome.Ends x) q e = let no : true ≡ false = ap is_last e in absurd (cc no)

ends_with : (functions : List FlatFunction) (refuses : Memory → ℕ → Bool) (m : Machine) (l : Layout) (x : Outcome) → step functions refuses m ≡ x → is_last (placed l x) ≡ true → IsLast functions m (placed l x)
ends_with functions refuses m l (outcome.Goes began n) e h = let no : false ≡ true = h in absurd (cc no)
ends_with functions refuses m l (outcome.Asks o n) e h = (refuses, e)
ends_with functions refuses m l (outcome.Ends x) e h = (refuses, e)

module _ (functions : List FlatFunction) where
  one_more : (p next : Placing) (a : Act Placing Op End) → stepped functions p ≡ Goes next → Leads functions next.machine a → Leads functions p.machine a
  one_more p next a e rest =
      let one = went_on (laid_after functions p) (step functions (none_fits p.heap) p.machine) next e in
      record { last = rest.last; run = went p.machine next.machine rest.last [] (none_fits p.heap) one.0 one.1 rest.run; comes = rest.comes }

  leads : (limit : ℕ) (p : Placing) (a : Act Placing Op End) → Turns functions limit p a → Leads functions p.machine a
  leads limit p _ (turn.pauses _ _ z b) = record { last = p.machine; run = stayed p.machine; comes = refl }
  leads limit p a (turn.begins_one _ m _ next _ n b e rest) = one_more p next a e (leads m next a rest)
  leads limit p a (turn.goes _ _ next _ b e rest) = one_more p next a e (leads limit next a rest)
  leads limit p _ (turn.stops _ _ b h) = record {
    last = p.machine;
    run = stayed p.machine;
    comes = ends_with functions (none_fits p.heap) p.machine (laid_after functions p) (step functions (none_fits p.heap) p.machine) refl h;
  }

  before : (m k u : Machine) (one more : List (Op × Reply)) → Ran functions m one k → Ran functions k more u → Ran functions m (one ++ more) u
  before _ _ u _ more (stayed m) rest = rest
  before _ _ u _ more (went m mid k asked r b e run) rest = went m mid u (asked ++ more) r b e (before mid k u asked more run rest)
  before _ _ u _ more (did m mid next k asked r o a b e g run) rest = did m mid next u (asked ++ more) r o a b e g (before next k u asked more run rest)

  pub course_runs : (p q : Placing) (asked : List (Op × Reply)) → Course functions p asked q → Ran functions p.machine asked q.machine
  course_runs _ _ _ (stands p) = stayed p.machine
  course_runs _ _ _ (pauses p mid q asked limit turns rest) =
      let part = leads limit p (Goes mid) turns in
      before p.machine mid.machine q.machine [] asked (subst (Ran functions p.machine []) part.comes part.run) (course_runs mid q asked rest)
  course_runs _ _ _ (answers p mid q next asked limit o reply turns e rest) =
      let part = leads limit p (Asks o mid) turns in
      before p.machine part.last q.machine [] ((o, reply) ∷ asked) part.run
      (did part.last mid.machine next q.machine asked part.comes.0 o reply false part.comes.1 e (course_runs (record mid { machine = next }) q asked rest))

  -- it ends after steps of its own
  pub record Over (m : Machine) (last : List (Op × Reply)) (end : End) : Type 0 where
    pub at : Machine
    pub run : Ran functions m [] at
    pub finished : Finished functions at last end

  pub course_ends : (p : Placing) (last : List (Op × Reply)) (end : End) → Ended functions p last end → Over p.machine last end
  course_ends _ _ _ (by_turn p limit e turns) =
      let part = leads limit p (Ends e) turns in
      record { at = part.last; run = part.run; finished = stopped part.last part.comes.0 e part.comes.1 }
  course_ends _ _ _ (by_answer p mid limit o reply e turns f) =
      let part = leads limit p (Asks o mid) turns in
      record { at = part.last; run = part.run; finished = refused part.last mid.machine part.comes.0 o reply e part.comes.1 f }

  pub ran_then : (m k u : Machine) (asked : List (Op × Reply)) → Ran functions m asked k → Ran functions k [] u → Ran functions m asked u
  ran_then _ _ u _ (stayed m) rest = rest
  ran_then _ _ u _ (went m mid k asked r b e run) rest = went m mid u asked r b e (ran_then mid k u asked run rest)
  ran_then _ _ u _ (did m mid next k asked r o a b e g run) rest = did m mid next u asked r o a b e g (ran_then next k u asked run rest)
