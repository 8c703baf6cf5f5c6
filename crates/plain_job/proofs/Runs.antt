-- Turns of the plain job are runs of it, and lead to one job each.
use Rattle.std.proofs.Common.{◌≡◌, ℕ, ◌<◌, suc, Bool, true, false, List, [], ◌∷◌, ◌++◌, length, Option, Some, None, refl, sym, ap, ◌∙◌, subst, arith}
use Rattle.std.specs.Prelude.{slice_get}
use Rattle.mpi_words.specs.declared.operation.Op.{Op}
use Rattle.mpi_words.specs.declared.operation.Op.TheVariants as op
use Rattle.mpi_words.specs.declared.pattern.Pattern.{Pattern}
use Rattle.mpi_queues.specs.Pairs.{Queues, Received, taken_from, taken}
use Rattle.mpi_queues.specs.Laws.{TakesLowest}
use Rattle.mpi_queues.proofs.Lowest.{is_lowest}
use Rattle.c_kernel.specs.declared.program.Function.{Function}
use Rattle.c_kernel.specs.declared.program.Program.{Program}
use Rattle.c_memory.specs.Memory.{is_full}
use Rattle.c_meaning.specs.State.{State, Outcome, Goes, Asks, Ends}
use Rattle.c_meaning.proofs.Choices.{one_choice}
use Rattle.plain_job.specs.Job.{Standing, Runs, Ended, Rank, Job, Move, choice_of, outcome, receives, operates, after, stepped, start_job, move, run, IsReached}
use Rattle.plain_job.specs.Turn.{lowest, begins_next, is_last, Steps, absent, pauses, begins_one, goes, stops, turn_limit, IsTurn, AreTurns}

-- ---- a step of a turn is a move

standing_choice : (functions : List Function) (k source : ℕ) (x : Standing) → (b : Bool) × (outcome functions lowest x ≡ outcome functions (choice_of (record { rank = k; refuses = b; source = source })) x)
standing_choice functions k source (Runs s) = one_choice functions is_full s
standing_choice functions k source (Ended e) = (false, refl)

first_gives_none : (queues : Queues) (k : ℕ) (p : Pattern) → ((from : ℕ) → from < length queues → taken_from queues k p from ≡ None) → taken_from queues k p 0 ≡ None
first_gives_none [] k p h = refl
first_gives_none (row ∷ rows) k p h = h 0 (omega arith)

source_by : (queues : Queues) (k : ℕ) (p : Pattern) (o : Option Received) → TakesLowest queues k p o → (source : ℕ) × (o ≡ taken_from queues k p source)
source_by queues k p None h = (0, sym (first_gives_none queues k p h))
source_by queues k p (Some x) h = (x.source, sym h.1)

-- what is taken comes from one source's list; where nothing is, no source gives anything
source_of : (queues : Queues) (k : ℕ) (p : Pattern) → (source : ℕ) × (taken queues k p ≡ taken_from queues k p source)
source_of queues k p = source_by queues k p (taken queues k p) (is_lowest queues k p)

operation_choice : (job : Job) (k : ℕ) (r : Rank) (b : Bool) (o : Op) (s : State) → (source : ℕ) × (operates lowest job k r o s ≡ operates (choice_of (record { rank = k; refuses = b; source = source })) job k r o s)
operation_choice job k r b (op.Send to message) s = (0, refl)
operation_choice job k r b (op.Receive []) s = (0, refl)
operation_choice job k r b (op.Receive (p ∷ ps)) s =
    let from = source_of job.queues k p in
    (from.0, ap (receives job k r (op.Receive (p ∷ ps)) s) from.1)
operation_choice job k r b (op.Output text) s = (0, refl)
operation_choice job k r b op.Mark s = (0, refl)

outcome_choice : (job : Job) (k : ℕ) (r : Rank) (b : Bool) (o : Outcome) → (source : ℕ) × (after lowest job k r o ≡ after (choice_of (record { rank = k; refuses = b; source = source })) job k r o)
outcome_choice job k r b (Goes began s) = (0, refl)
outcome_choice job k r b (Asks o s) = operation_choice job k r b o s
outcome_choice job k r b (Ends e) = (0, refl)

step_moves : (functions : List Function) (job : Job) (k : ℕ) (r : Rank) → slice_get job.ranks k ≡ Some r → (a : Move) × (move functions job a ≡ stepped functions lowest job k r)
step_moves functions job k r h =
    let c = standing_choice functions k 0 r.standing in
    let d = outcome_choice job k r c.0 (outcome functions lowest r.standing) in
    let a : Move = record { rank = k; refuses = c.0; source = d.0 } in
    (a, ap (λ o. elim o [ None ↦ job | Some x ↦ stepped functions (choice_of a) job k x ]) h ∙ sym (d.1 ∙ ap (after (choice_of a) job k r) c.1))

-- ---- turns are runs

-- one step before a run
one_more : (functions : List Function) (job : Job) (k : ℕ) (r : Rank) (last : Job) → slice_get job.ranks k ≡ Some r → (moves : List Move) × (run functions (stepped functions lowest job k r) moves ≡ last) → (moves : List Move) × (run functions job moves ≡ last)
one_more functions job k r last h rest =
    let m = step_moves functions job k r h in
    (m.0 ∷ rest.0, ap (λ j. run functions j rest.0) m.1 ∙ rest.1)

steps_run : (functions : List Function) (k n : ℕ) (job last : Job) → Steps functions k n job last → (moves : List Move) × (run functions job moves ≡ last)
steps_run functions k n job _ (absent _ _ h) = ([], refl)
steps_run functions k n job _ (pauses _ _ r h e b) = ([], refl)
steps_run functions k n job last (begins_one _ m _ _ r h e b rest) = one_more functions job k r last h (steps_run functions k m (stepped functions lowest job k r) last rest)
steps_run functions k n job last (goes _ _ _ r h b l rest) = one_more functions job k r last h (steps_run functions k n (stepped functions lowest job k r) last rest)
steps_run functions k n job _ (stops _ _ r h b l) = one_more functions job k r (stepped functions lowest job k r) h ([], refl)

pub turn_runs : (functions : List Function) (job : Job) (k : ℕ) (after : Job) → IsTurn functions job k after → (moves : List Move) × (run functions job moves ≡ after)
turn_runs functions job k after h = steps_run functions k turn_limit job after h

pub run_on : (functions : List Function) (job : Job) (ks ls : List Move) → run functions job (ks ++ ls) ≡ run functions (run functions job ks) ls
run_on functions job [] ls = refl
run_on functions job (k ∷ ks) ls = run_on functions (move functions job k) ks ls

pub turns_run : (functions : List Function) (job : Job) (schedule : List ℕ) (after : Job) → AreTurns functions job schedule after → (moves : List Move) × (run functions job moves ≡ after)
turns_run functions job [] after h = ([], sym h)
turns_run functions job (k ∷ schedule) after h =
    let one = turn_runs functions job k h.0 h.1 in
    let rest = turns_run functions h.0 schedule after h.2 in
    (one.0 ++ rest.0, run_on functions job one.0 rest.0 ∙ ap (λ j. run functions j rest.0) one.1 ∙ rest.1)

pub turns_reach : (p : Program) (n : ℕ) (schedule : List ℕ) (job : Job) → AreTurns p.functions (start_job p n) schedule job → IsReached p n job
turns_reach p n schedule job h =
    let r = turns_run p.functions (start_job p n) schedule job h in
    record { moves = r.0; leads = r.1 }

-- ---- turns lead to one job

one_rank : (job : Job) (k : ℕ) (r t : Rank) → slice_get job.ranks k ≡ Some r → slice_get job.ranks k ≡ Some t → r ≡ t
one_rank job k r t g h = cc

begins_as : (job : Job) (k : ℕ) (r t : Rank) (b c : Bool) → slice_get job.ranks k ≡ Some r → slice_get job.ranks k ≡ Some t → begins_next r.standing ≡ b → begins_next t.standing ≡ c → b ≡ c
begins_as job k r t b c g h e f = sym e ∙ ap (λ (x : Rank). begins_next x.standing) (one_rank job k r t g h) ∙ f

last_as : (functions : List Function) (job : Job) (k : ℕ) (r t : Rank) (b c : Bool) → slice_get job.ranks k ≡ Some r → slice_get job.ranks k ≡ Some t → is_last (outcome functions lowest r.standing) ≡ b → is_last (outcome functions lowest t.standing) ≡ c → b ≡ c
last_as functions job k r t b c g h e f = sym e ∙ ap (λ (x : Rank). is_last (outcome functions lowest x.standing)) (one_rank job k r t g h) ∙ f

abbrev Same : List Function → ℕ → ℕ → Job → Job → Type 0
Same functions k n job last = (m : ℕ) (other : Job) → m ≡ n → Steps functions k m job other → last ≡ other

-- the steps after one step
rest_same : (functions : List Function) (k n : ℕ) (job last other : Job) (r t : Rank) → slice_get job.ranks k ≡ Some r → slice_get job.ranks k ≡ Some t → Same functions k n (stepped functions lowest job k r) last → (m : ℕ) → m ≡ n → Steps functions k m (stepped functions lowest job k t) other → last ≡ other
rest_same functions k n job last other r t g h rec m e rest = rec m other e (subst (λ x. Steps functions k m (stepped functions lowest job k x) other) (one_rank job k t r h g) rest)

same_absent : (functions : List Function) (k n : ℕ) (job : Job) → slice_get job.ranks k ≡ None → Same functions k n job job
same_absent functions k n job g m _ same (absent _ _ h) = refl
same_absent functions k n job g m _ same (pauses _ _ t h z c) = absurd cc
same_absent functions k n job g m other same (begins_one _ j _ _ t h f c rest) = absurd cc
same_absent functions k n job g m other same (goes _ _ _ t h c l rest) = absurd cc
same_absent functions k n job g m _ same (stops _ _ t h c l) = absurd cc

same_pause : (functions : List Function) (k n : ℕ) (job : Job) (r : Rank) → slice_get job.ranks k ≡ Some r → n ≡ 0 → begins_next r.standing ≡ true → Same functions k n job job
same_pause functions k n job r g e b m _ same (absent _ _ h) = refl
same_pause functions k n job r g e b m _ same (pauses _ _ t h z c) = refl
same_pause functions k n job r g e b m other same (begins_one _ j _ _ t h f c rest) = absurd (omega (arith, e, f, same))
same_pause functions k n job r g e b m other same (goes _ _ _ t h c l rest) = let no : true ≡ false = begins_as job k r t true false g h b c in absurd cc
same_pause functions k n job r g e b m _ same (stops _ _ t h c l) = let no : true ≡ false = begins_as job k r t true false g h b c in absurd cc

same_begin : (functions : List Function) (k n j : ℕ) (job last : Job) (r : Rank) → slice_get job.ranks k ≡ Some r → n ≡ suc j → begins_next r.standing ≡ true → Same functions k j (stepped functions lowest job k r) last → Same functions k n job last
same_begin functions k n j job last r g e b rec m _ same (absent _ _ h) = absurd cc
same_begin functions k n j job last r g e b rec m _ same (pauses _ _ t h z c) = absurd (omega (arith, e, z, same))
same_begin functions k n j job last r g e b rec m other same (begins_one _ i _ _ t h f c rest) = rest_same functions k j job last other r t g h rec i (omega (arith, e, f, same)) rest
same_begin functions k n j job last r g e b rec m other same (goes _ _ _ t h c l rest) = let no : true ≡ false = begins_as job k r t true false g h b c in absurd cc
same_begin functions k n j job last r g e b rec m _ same (stops _ _ t h c l) = let no : true ≡ false = begins_as job k r t true false g h b c in absurd cc

same_go : (functions : List Function) (k n : ℕ) (job last : Job) (r : Rank) → slice_get job.ranks k ≡ Some r → begins_next r.standing ≡ false → is_last (outcome functions lowest r.standing) ≡ false → Same functions k n (stepped functions lowest job k r) last → Same functions k n job last
same_go functions k n job last r g b l rec m _ same (absent _ _ h) = absurd cc
same_go functions k n job last r g b l rec m _ same (pauses _ _ t h z c) = let no : false ≡ true = begins_as job k r t false true g h b c in absurd cc
same_go functions k n job last r g b l rec m other same (begins_one _ i _ _ t h f c rest) = let no : false ≡ true = begins_as job k r t false true g h b c in absurd cc
same_go functions k n job last r g b l rec m other same (goes _ _ _ t h c i rest) = rest_same functions k n job last other r t g h rec m same rest
same_go functions k n job last r g b l rec m _ same (stops _ _ t h c i) = let no : false ≡ true = last_as functions job k r t false true g h l i in absurd cc

same_stop : (functions : List Function) (k n : ℕ) (job : Job) (r : Rank) → slice_get job.ranks k ≡ Some r → begins_next r.standing ≡ false → is_last (outcome functions lowest r.standing) ≡ true → Same functions k n job (stepped functions lowest job k r)
same_stop functions k n job r g b l m _ same (absent _ _ h) = absurd cc
same_stop functions k n job r g b l m _ same (pauses _ _ t h z c) = let no : false ≡ true = begins_as job k r t false true g h b c in absurd cc
same_stop functions k n job r g b l m other same (begins_one _ i _ _ t h f c rest) = let no : false ≡ true = begins_as job k r t false true g h b c in absurd cc
same_stop functions k n job r g b l m other same (goes _ _ _ t h c i rest) = let no : true ≡ false = last_as functions job k r t true false g h l i in absurd cc
same_stop functions k n job r g b l m _ same (stops _ _ t h c i) = ap (stepped functions lowest job k) (one_rank job k r t g h)

same_steps : (functions : List Function) (k n : ℕ) (job last : Job) → Steps functions k n job last → Same functions k n job last
same_steps functions k n job _ (absent _ _ h) = same_absent functions k n job h
same_steps functions k n job _ (pauses _ _ r h e b) = same_pause functions k n job r h e b
same_steps functions k n job last (begins_one _ j _ _ r h e b rest) = same_begin functions k n j job last r h e b (same_steps functions k j (stepped functions lowest job k r) last rest)
same_steps functions k n job last (goes _ _ _ r h b l rest) = same_go functions k n job last r h b l (same_steps functions k n (stepped functions lowest job k r) last rest)
same_steps functions k n job _ (stops _ _ r h b l) = same_stop functions k n job r h b l

-- steps of a turn lead to one job
pub steps_same : (functions : List Function) (k n : ℕ) (job last other : Job) → Steps functions k n job last → Steps functions k n job other → last ≡ other
steps_same functions k n job last other g h = same_steps functions k n job last g n other refl h

-- so does a turn
pub turn_same : (functions : List Function) (job : Job) (k : ℕ) (after other : Job) → IsTurn functions job k after → IsTurn functions job k other → after ≡ other
turn_same functions job k after other g h = steps_same functions k turn_limit job after other g h

-- so do turns
pub turns_same : (functions : List Function) (job : Job) (schedule : List ℕ) (after other : Job) → AreTurns functions job schedule after → AreTurns functions job schedule other → after ≡ other
turns_same functions job [] after other g h = g ∙ sym h
turns_same functions job (k ∷ schedule) after other g h =
    let mid : g.0 ≡ h.0 = turn_same functions job k g.0 h.0 g.1 h.1 in
    turns_same functions h.0 schedule after other (subst (λ j. AreTurns functions j schedule after) mid g.2) h.2
