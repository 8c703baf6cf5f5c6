-- Steps of a turn.
use Rattle.std.proofs.Common.{◌≡◌, ℕ, ◌<◌, suc, Bool, true, false, List, [], ◌∷◌, length, Option, Some, None, is_some, refl, sym, ap, ◌∙◌, subst, arith}
use Rattle.std.specs.Prelude.{MatchBool, slice_get, slice_set}
use Rattle.std.proofs.lemmas.List.{length-set, get_or-set_same, set-set}
use Rattle.std.proofs.lemmas.Option.{slice_get-get_or}
use Rattle.mpi_queues.specs.Pairs.{Queues}
use Rattle.c_kernel.specs.declared.program.Function.{Function}
use Rattle.mpi_effects.specs.declared.requests.Request.{Request}
use Rattle.c_memory.specs.Memory.{Memory, is_full}
use Rattle.c_meaning.specs.Rank.{state_of}
use Rattle.c_meaning.specs.State.{Item, Body, Rest, Begun, Acting, Awaiting, Testing, Stepping, State, Outcome, Goes, Asks, Ends}
use Rattle.c_meaning.specs.State as state
use Rattle.c_meaning.specs.Step.{goes_on, step_in, begins, begins_first, begins_in}
use Rattle.plain_job.specs.Job.{Standing, Runs, Ended, Rank, Job, outcome, stepped}
use Rattle.plain_job.specs.Turn.{lowest, begins_next, is_last, Steps, pauses, begins_one, goes, stops, can_answer, can_step}
use Rattle.plain_job.specs.declared.member.Member.{Member}
use Rattle.plain_job.specs.declared.member.Progress.{Progress}
use Rattle.plain_job.specs.Members.{rank_of, runs_of, job_with, progress_if, progress, ends, had_step}

-- ---- a step that begins a statement isn't the last

first_goes : (functions : List Function) (refuses : Memory → ℕ → Bool) (s : State) (top : state.Call) (below : List state.Call) (todo : List Item) → begins_first todo ≡ true → is_last (goes_on functions refuses s top below todo) ≡ false
first_goes functions refuses s top below [] h = absurd cc
first_goes functions refuses s top below (Body ss ∷ todo) h = refl
first_goes functions refuses s top below (Rest [] ∷ todo) h = absurd cc
first_goes functions refuses s top below (Rest (x ∷ xs) ∷ todo) h = refl
first_goes functions refuses s top below (Begun x ∷ todo) h = absurd cc
first_goes functions refuses s top below (Acting actions ∷ todo) h = absurd cc
first_goes functions refuses s top below (Awaiting t ∷ todo) h = absurd cc
first_goes functions refuses s top below (Testing x ∷ todo) h = absurd cc
first_goes functions refuses s top below (Stepping x ∷ todo) h = absurd cc

newest_goes : (functions : List Function) (refuses : Memory → ℕ → Bool) (s : State) (calls : List state.Call) → begins_in calls ≡ true → is_last (step_in functions refuses s calls) ≡ false
newest_goes functions refuses s [] h = absurd cc
newest_goes functions refuses s (top ∷ below) h = first_goes functions refuses s top below top.todo h

asked_goes : (functions : List Function) (s : State) (asked : Option Request) → elim asked [ None ↦ begins_in s.calls | Some q ↦ false ] ≡ true → is_last (elim asked [ None ↦ step_in functions is_full s s.calls | Some q ↦ Asks q.operation s ]) ≡ false
asked_goes functions s None h = newest_goes functions is_full s s.calls h
asked_goes functions s (Some q) h = absurd cc

pub begun_goes : (functions : List Function) (x : Standing) → begins_next x ≡ true → is_last (outcome functions lowest x) ≡ false
begun_goes functions (Runs s) h = asked_goes functions s s.asked h
begun_goes functions (Ended e) h = absurd cc

-- ---- what a step comes to

ends_if : (b : Bool) → ends (progress_if b) ≡ true
ends_if true = refl
ends_if false = refl

last_ends : (job : Job) (k : ℕ) (o : Outcome) → ends (progress job k o) ≡ is_last o
last_ends job k (Goes began s) = refl
last_ends job k (Asks o s) = ends_if _
last_ends job k (Ends e) = refl

-- whether the step is the last
last_by : (job : Job) (k : ℕ) (o : Outcome) (did : Progress) (over : Bool) → did ≡ progress job k o → over ≡ ends did → is_last o ≡ over
last_by job k o did over p e = sym (e ∙ ap ends p ∙ last_ends job k o)

-- ---- a member among ranks

member_stands : (ranks : List Rank) (k : ℕ) (r : Rank) → k < length ranks → slice_get (slice_set ranks k r) k ≡ Some r
member_stands ranks k r within = slice_get-get_or (slice_set ranks k r) k r (omega (arith, within, length-set ranks k r)) ∙ ap Some (get_or-set_same ranks k r r within)

-- whether a rank that hasn't ended begins a statement
pub begins_member : (m : Member) (b : Bool) → m.end ≡ None → b ≡ begins (state_of m.rank) → begins_next (rank_of m).standing ≡ b
begins_member m b e h = ap (λ o. begins_next (elim o [ None ↦ Runs (state_of m.rank) | Some x ↦ Ended x ])) e ∙ sym h

-- what a step of a member says for all lists of ranks, in the job with it
pub record Stepped (k : ℕ) (m next : Member) (queues new : Queues) (did : Progress) : Type 0 where
  pub step : (ranks : List Rank) → stepped (runs_of m) lowest (record { ranks = ranks; queues = queues }) k (rank_of m) ≡ job_with ranks k next new
  pub progress : (ranks : List Rank) → did ≡ progress (record { ranks = ranks; queues = queues }) k (outcome (runs_of m) lowest (rank_of m).standing)

pub stepped_with : (ranks : List Rank) (k : ℕ) (m next : Member) (queues new : Queues) (did : Progress) → Stepped k m next queues new did → stepped (runs_of m) lowest (job_with ranks k m queues) k (rank_of m) ≡ job_with ranks k next new
stepped_with ranks k m next queues new did s = s.step (slice_set ranks k (rank_of m)) ∙ ap (λ rs. record { ranks = rs; queues = new }) (set-set ranks k (rank_of m) (rank_of next))

pub last_with : (ranks : List Rank) (k : ℕ) (m next : Member) (queues new : Queues) (did : Progress) (over : Bool) → Stepped k m next queues new did → over ≡ ends did → is_last (outcome (runs_of m) lowest (rank_of m).standing) ≡ over
last_with ranks k m next queues new did over s e = last_by (job_with ranks k m queues) k (outcome (runs_of m) lowest (rank_of m).standing) did over (s.progress (slice_set ranks k (rank_of m))) e

-- ---- a step of a turn

-- what it says, when so many statements may begin before it, and after it
abbrev pub IsPart : List Rank → ℕ → ℕ → ℕ → Member → Member → Queues → Queues → Bool → Type 0
IsPart ranks k n left m next queues new over = MatchBool over
    (Steps (runs_of m) k n (job_with ranks k m queues) (job_with ranks k next new))
    ((after : Job) → Steps (runs_of m) k left (job_with ranks k next new) after → Steps (runs_of m) k n (job_with ranks k m queues) after)

-- one that begins no statement
pub part_goes : (ranks : List Rank) (k n : ℕ) (m next : Member) (queues new : Queues) (did : Progress) (over : Bool) → k < length ranks → begins_next (rank_of m).standing ≡ false → Stepped k m next queues new did → over ≡ ends did → IsPart ranks k n n m next queues new over
part_goes ranks k n m next queues new did true within b s e =
    subst (Steps (runs_of m) k n (job_with ranks k m queues)) (stepped_with ranks k m next queues new did s) (stops n (job_with ranks k m queues) (rank_of m) (member_stands ranks k (rank_of m) within) b (last_with ranks k m next queues new did true s e))
part_goes ranks k n m next queues new did false within b s e =
    λ last rest. goes n (job_with ranks k m queues) last (rank_of m) (member_stands ranks k (rank_of m) within) b (last_with ranks k m next queues new did false s e) (subst (λ x. Steps (runs_of m) k n x last) (sym (stepped_with ranks k m next queues new did s)) rest)

-- one that begins a statement, which may begin
pub part_begins : (ranks : List Rank) (k n left : ℕ) (m next : Member) (queues new : Queues) (did : Progress) (over : Bool) → k < length ranks → n ≡ suc left → begins_next (rank_of m).standing ≡ true → Stepped k m next queues new did → over ≡ ends did → IsPart ranks k n left m next queues new over
part_begins ranks k n left m next queues new did true within f b s e =
    let no : false ≡ true = sym (begun_goes (runs_of m) (rank_of m).standing b) ∙ last_with ranks k m next queues new did true s e in
    absurd cc
part_begins ranks k n left m next queues new did false within f b s e =
    λ last rest. begins_one n left (job_with ranks k m queues) last (rank_of m) (member_stands ranks k (rank_of m) within) f b (subst (λ x. Steps (runs_of m) k left x last) (sym (stepped_with ranks k m next queues new did s)) rest)

-- one that may not begin
pub part_pauses : (ranks : List Rank) (k n : ℕ) (m : Member) (queues : Queues) → k < length ranks → n ≡ 0 → begins_next (rank_of m).standing ≡ true → Steps (runs_of m) k n (job_with ranks k m queues) (job_with ranks k m queues)
part_pauses ranks k n m queues within z b = pauses n (job_with ranks k m queues) (rank_of m) (member_stands ranks k (rank_of m) within) z b

-- ---- a turn of a rank that waits for a reply

asked_begins : (s : State) (asked : Option Request) → is_some asked ≡ true → elim asked [ None ↦ begins_in s.calls | Some q ↦ false ] ≡ false
asked_begins s None h = absurd cc
asked_begins s (Some q) h = refl

asked_last : (functions : List Function) (s : State) (asked : Option Request) → is_some asked ≡ true → is_last (elim asked [ None ↦ step_in functions is_full s s.calls | Some q ↦ Asks q.operation s ]) ≡ true
asked_last functions s None h = absurd cc
asked_last functions s (Some q) h = refl

possible_if : (b : Bool) → had_step (progress_if b) ≡ b
possible_if true = refl
possible_if false = refl

asked_effect : (functions : List Function) (job : Job) (k : ℕ) (s : State) (asked : Option Request) → is_some asked ≡ true → had_step (progress job k (elim asked [ None ↦ step_in functions is_full s s.calls | Some q ↦ Asks q.operation s ])) ≡ can_answer job k asked
asked_effect functions job k s None h = absurd cc
asked_effect functions job k s (Some q) h = possible_if _

-- how a member stands that hasn't ended
pub runs_member : (m : Member) → m.end ≡ None → (rank_of m).standing ≡ Runs (state_of m.rank)
runs_member m e = ap (λ o. elim o [ None ↦ Runs (state_of m.rank) | Some x ↦ Ended x ]) e

pub waiting_turn : (ranks : List Rank) (k n : ℕ) (m next : Member) (queues new : Queues) (did : Progress) → k < length ranks → m.end ≡ None → is_some (state_of m.rank).asked ≡ true → Stepped k m next queues new did → Steps (runs_of m) k n (job_with ranks k m queues) (job_with ranks k next new)
waiting_turn ranks k n m next queues new did within e w s =
    let stands = runs_member m e in
    let b : begins_next (rank_of m).standing ≡ false = ap begins_next stands ∙ asked_begins (state_of m.rank) (state_of m.rank).asked w in
    let l : is_last (outcome (runs_of m) lowest (rank_of m).standing) ≡ true = ap (λ x. is_last (outcome (runs_of m) lowest x)) stands ∙ asked_last (runs_of m) (state_of m.rank) (state_of m.rank).asked w in
    subst (Steps (runs_of m) k n (job_with ranks k m queues)) (stepped_with ranks k m next queues new did s) (stops n (job_with ranks k m queues) (rank_of m) (member_stands ranks k (rank_of m) within) b l)

pub waiting_effect : (ranks : List Rank) (k : ℕ) (m next : Member) (queues new : Queues) (did : Progress) → m.end ≡ None → is_some (state_of m.rank).asked ≡ true → Stepped k m next queues new did → had_step did ≡ can_step (job_with ranks k m queues) k (rank_of m).standing
waiting_effect ranks k m next queues new did e w s =
    let job = job_with ranks k m queues in
    let stands = runs_member m e in
    ap had_step (s.progress (slice_set ranks k (rank_of m)) ∙ ap (λ x. progress job k (outcome (runs_of m) lowest x)) stands)
    ∙ asked_effect (runs_of m) job k (state_of m.rank) (state_of m.rank).asked w
    ∙ ap (can_step job k) (sym stands)

-- ---- of one that doesn't

asked_none : (job : Job) (k : ℕ) (asked : Option Request) → is_some asked ≡ false → true ≡ can_answer job k asked
asked_none job k None h = refl
asked_none job k (Some q) h = absurd cc

pub going_effect : (ranks : List Rank) (k : ℕ) (m : Member) (queues : Queues) → m.end ≡ None → is_some (state_of m.rank).asked ≡ false → true ≡ can_step (job_with ranks k m queues) k (rank_of m).standing
going_effect ranks k m queues e w = asked_none (job_with ranks k m queues) k (state_of m.rank).asked w ∙ ap (can_step (job_with ranks k m queues) k) (sym (runs_member m e))
