-- The ranks of a job in the program.
use Rattle.std.proofs.Common.{◌≡◌, ℕ, ◌+◌, ◌<◌, ◌≤◌, Bool, true, false, List, [], ◌∷◌, ◌++◌, length, map, replicate, get_or, Option, Some, None, is_some, refl, sym, ap, ◌∙◌, subst, arith}
use Rattle.std.specs.List.{range_with_len}
use Rattle.std.specs.Prelude.{All, slice_get, slice_set, option_map}
use Rattle.std.proofs.Math.Logic.{∥∥₁_elim, ∥∥₁_map}
use Rattle.std.proofs.lemmas.List.{length-map, length-replicate, map-append, map-set}
use Rattle.std.proofs.lemmas.List.Elements.{All-push, All-set}
use Rattle.std.proofs.lemmas.List.FromFn.{length-map-range_with_len, map-range_with_len_more}
use Rattle.std.proofs.lemmas.Option.{slice_get-map, slice_get_past, slice_get_read}
use Rattle.std.specs.Coded.{Coded-set, coded_list}
use Rattle.mpi_words.specs.declared.operation.End.{End}
use Rattle.mpi_queues.specs.Pairs.{Queues, none_sent}
use Rattle.c_kernel.specs.declared.program.Function.{Function}
use Rattle.c_kernel.specs.contracts.program.Function as function
use Rattle.c_kernel.specs.declared.program.Program.{Program}
use Rattle.c_meaning.specs.State.{State}
use Rattle.c_meaning.specs.Rank.{state_of}
use Rattle.plain_job.specs.Job.{Runs, Ended, Rank, Job, first}
use Rattle.plain_job.specs.Turn.{absent, turn_limit, IsTurn, can_step, has_step}
use Rattle.plain_job.specs.Members.{rank_of, runs_of, job_with}
use Rattle.plain_job.specs.declared.member.Member.{Member}
use Rattle.plain_job.proofs.Idle.{put_same, idle_rank}

-- one more rank
pub pushed_all : (functions : List Function) (ms after : List Member) (m : Member) → after ≡ ms ++ m ∷ [] → All (λ x. runs_of x ≡ functions) ms → runs_of m ≡ functions → All (λ x. runs_of x ≡ functions) after
pushed_all functions ms after m e h r = subst (All (λ x. runs_of x ≡ functions)) (sym e) (All-push (λ x. runs_of x ≡ functions) ms m h r)

pub pushed_ranks : (p : Program) (n k : ℕ) (ms after : List Member) (m : Member) → after ≡ ms ++ m ∷ [] → map rank_of ms ≡ map (first p n) (range_with_len 0 k) → rank_of m ≡ first p n k → map rank_of after ≡ map (first p n) (range_with_len 0 (k + 1))
pushed_ranks p n k ms after m e h q =
    ap (map rank_of) e ∙ map-append rank_of ms (m ∷ []) ∙ ap (λ xs. xs ++ rank_of m ∷ []) h ∙ ap (λ x. map (first p n) (range_with_len 0 k) ++ x ∷ []) q ∙ sym (map-range_with_len_more (first p n) 0 k k (omega arith))

-- so many ranks have as many receivers
pub numbers_same : (p : Program) (n : ℕ) (ms : List Member) (queues : Queues) → map rank_of ms ≡ map (first p n) (range_with_len 0 n) → queues ≡ none_sent n → length queues ≡ length ms
numbers_same p n ms queues h e = ap length e ∙ length-replicate n (replicate n []) ∙ sym (sym (length-map ms rank_of) ∙ ap length h ∙ length-map-range_with_len (first p n) 0 n)

-- ---- the rank at a place

abbrev pub IsAt : List Member → ℕ → Member → Type 0
IsAt ms k m = (k < length ms) × (m ≡ get_or ms k m)

abbrev pub AllRun : List Function → List Member → Type 0
AllRun functions ms = ∥ All (λ x. runs_of x ≡ functions) ms ∥₁

pub run_at : (functions : List Function) (ms : List Member) (k : ℕ) (m : Member) → AllRun functions ms → IsAt ms k m → runs_of m ≡ functions
run_at functions ms k m h at = ∥∥₁_elim h (Coded-set (coded_list function.the_row.coded) (runs_of m) functions) (λ all. ap runs_of at.1 ∙ all k m at.0)

pub run_with : (functions : List Function) (ms : List Member) (k : ℕ) (m : Member) → AllRun functions ms → runs_of m ≡ functions → AllRun functions (slice_set ms k m)
run_with functions ms k m h e = ∥∥₁_map h (All-set (λ x. runs_of x ≡ functions) ms k m e)

pub stands_at : (ms : List Member) (k : ℕ) (m : Member) → IsAt ms k m → slice_get (map rank_of ms) k ≡ Some (rank_of m)
stands_at ms k m at = slice_get-map rank_of ms k ∙ ap (option_map rank_of) (slice_get_read ms (length ms) k m refl at.0 at.1)

-- ---- its turn

abbrev pub job_of_members : List Member → Queues → Job
job_of_members ms queues = record { ranks = map rank_of ms; queues = queues }

same_job : (ms : List Member) (k : ℕ) (m : Member) (queues : Queues) → IsAt ms k m → job_with (map rank_of ms) k m queues ≡ job_of_members ms queues
same_job ms k m queues at = ap (λ rs. record { ranks = rs; queues = queues }) (put_same (map rank_of ms) k (rank_of m) (stands_at ms k m at))

pub turn_at : (functions : List Function) (ms : List Member) (k : ℕ) (m next : Member) (queues new : Queues) → IsAt ms k m → runs_of m ≡ functions → ((ranks : List Rank) → k < length ranks → IsTurn (runs_of m) (job_with ranks k m queues) k (job_with ranks k next new)) → IsTurn functions (job_of_members ms queues) k (job_of_members (slice_set ms k next) new)
turn_at functions ms k m next queues new at runs h =
    let after : job_with (map rank_of ms) k next new ≡ job_of_members (slice_set ms k next) new = ap (λ rs. record { ranks = rs; queues = new }) (sym (map-set rank_of ms k next)) in
    let turn : IsTurn functions (job_with (map rank_of ms) k m queues) k (job_with (map rank_of ms) k next new) = subst (λ f. IsTurn f (job_with (map rank_of ms) k m queues) k (job_with (map rank_of ms) k next new)) runs (h (map rank_of ms) (omega (arith, at.0, length-map ms rank_of))) in
    subst (IsTurn functions (job_of_members ms queues) k) after (subst (λ j. IsTurn functions j k (job_with (map rank_of ms) k next new)) (same_job ms k m queues at) turn)

has_at : (ms : List Member) (k : ℕ) (m : Member) (queues : Queues) → IsAt ms k m → has_step (job_of_members ms queues) k ≡ can_step (job_of_members ms queues) k (rank_of m).standing
has_at ms k m queues at = ap (λ o. elim o [ None ↦ false | Some r ↦ can_step (job_of_members ms queues) k r.standing ]) (stands_at ms k m at)

pub effect_at : (ms : List Member) (k : ℕ) (m : Member) (queues : Queues) (did : Bool) → IsAt ms k m → ((ranks : List Rank) → did ≡ can_step (job_with ranks k m queues) k (rank_of m).standing) → did ≡ has_step (job_of_members ms queues) k
effect_at ms k m queues did at h = h (map rank_of ms) ∙ ap (λ j. can_step j k (rank_of m).standing) (same_job ms k m queues at) ∙ sym (has_at ms k m queues at)

-- ---- a rank that has ended

ended_by : (job : Job) (k : ℕ) (end : Option End) (s : State) → is_some end ≡ true → can_step job k (elim end [ None ↦ Runs s | Some e ↦ Ended e ]) ≡ false
ended_by job k None s h = absurd cc
ended_by job k (Some e) s h = refl

-- it stands where it stood
pub written_back : (ms : List Member) (k : ℕ) (m : Member) (queues : Queues) → IsAt ms k m → job_of_members (slice_set ms k m) queues ≡ job_of_members ms queues
written_back ms k m queues at = ap (λ rs. record { ranks = rs; queues = queues }) (map-set rank_of ms k m ∙ put_same (map rank_of ms) k (rank_of m) (stands_at ms k m at))

pub ended_turn : (functions : List Function) (ms : List Member) (k : ℕ) (m : Member) (queues : Queues) → IsAt ms k m → is_some m.end ≡ true → IsTurn functions (job_of_members ms queues) k (job_of_members (slice_set ms k m) queues)
ended_turn functions ms k m queues at h =
    subst (IsTurn functions (job_of_members ms queues) k) (sym (written_back ms k m queues at)) (idle_rank functions turn_limit (job_of_members ms queues) k (rank_of m) (stands_at ms k m at) (ended_by (job_of_members ms queues) k m.end (state_of m.rank) h))

pub ended_effect : (ms : List Member) (k : ℕ) (m : Member) (queues : Queues) → IsAt ms k m → is_some m.end ≡ true → false ≡ has_step (job_of_members ms queues) k
ended_effect ms k m queues at h = sym (has_at ms k m queues at ∙ ended_by (job_of_members ms queues) k m.end (state_of m.rank) h)

-- ---- a rank that is none

past : (ms : List Member) (k : ℕ) → length ms ≤ k → slice_get (map rank_of ms) k ≡ None
past ms k h = slice_get_past (map rank_of ms) k (omega (arith, h, length-map ms rank_of))

pub absent_turn : (functions : List Function) (ms : List Member) (k : ℕ) (queues : Queues) → length ms ≤ k → IsTurn functions (job_of_members ms queues) k (job_of_members ms queues)
absent_turn functions ms k queues h = absent turn_limit (job_of_members ms queues) (past ms k h)

pub absent_effect : (ms : List Member) (k : ℕ) (queues : Queues) → length ms ≤ k → false ≡ has_step (job_of_members ms queues) k
absent_effect ms k queues h = sym (ap (λ o. elim o [ None ↦ false | Some r ↦ can_step (job_of_members ms queues) k r.standing ]) (past ms k h))
