-- The room that a rank has in a turn.
use Rattle.std.proofs.Common.{◌≡◌, ℕ, suc, ◌+◌, ◌*◌, ◌^◌, ◌<◌, Bool, true, false, List, [], ◌∷◌, ◌++◌, length, replicate, get_or, None, sym, ◌∙◌, subst, arith}
use Rattle.std.specs.Prelude.{All, slice_set}
use Rattle.std.proofs.Math.Bridge.{le_prop}
use Rattle.std.proofs.Math.Logic.{∥∥₁_elim, ∥∥₁_map}
use Rattle.std.proofs.lemmas.List.{length-replicate}
use Rattle.std.proofs.lemmas.List.Elements.{All-push, All-set}
use Rattle.mpi_queues.specs.Pairs.{Queues}
use Rattle.c_kernel.specs.Regular.{AreRegular, IsRegular}
use Rattle.c_kernel.specs.declared.program.Function.{Function}
use Rattle.c_kernel.specs.declared.program.Program.{Program}
use Rattle.c_meaning.specs.Rank.{state_of}
use Rattle.c_meaning.specs.State.{State}
use Rattle.plain_job.specs.Job.{Rank, first}
use Rattle.plain_job.specs.Members.{rank_of, runs_of, job_with, ends}
use Rattle.plain_job.specs.Serials.{IsWithin, StaysWithin, HasRoom, IsAfter}
use Rattle.plain_job.specs.Turn.{begins_next, turn_limit, IsTurn}
use Rattle.plain_job.specs.declared.member.Member.{Member}
use Rattle.plain_job.specs.declared.member.Progress.{Progress}
use Rattle.plain_job.proofs.LastSteps.{Stepped, runs_member, stepped_with, last_with}
use Rattle.plain_job.proofs.Ranks.{IsAt}
use Rattle.plain_job.proofs.StepSerials.{start_within}
use Rattle.plain_job.proofs.TurnSerials.{stands_there, more_within, rank_at, begun_at, gone_at, steps_at}
use Rattle.plain_job.proofs.TurnSerials as serials

-- ---- before a step

pub room_few : (n : ℕ) (m : Member) → ∥ HasRoom n (rank_of m) ∥₁ → m.ops < 2 ^ 62
room_few n m h = ∥∥₁_elim h le_prop (λ r. r.few)

next_of : (s : State) (limit : ℕ) → IsWithin limit s → limit < 2 ^ 62 → s.memory.next < 2 ^ 62
next_of s limit h l = let w = h.serials in omega (arith, w, l)

room_next : (n : ℕ) (m : Member) (r : HasRoom n (rank_of m)) → m.end ≡ None → (state_of m.rank).memory.next < 2 ^ 62
room_next n m r e = let room = r.room in next_of (state_of m.rank) r.limit (subst (StaysWithin r.limit) (runs_member m e) r.serials) (omega (arith, room))

pub room_serials : (n : ℕ) (m : Member) → m.end ≡ None → ∥ HasRoom n (rank_of m) ∥₁ → (state_of m.rank).memory.next < 2 ^ 62
room_serials n m e h = ∥∥₁_elim h le_prop (λ r. room_next n m r e)

-- ---- after a step that isn't the last

-- so many ranks like it
abbrev ranks_like : ℕ → Rank → List Rank
ranks_like k r = replicate (suc k) r

like_within : (k : ℕ) (r : Rank) → k < length (ranks_like k r)
like_within k r = omega (arith, length-replicate (suc k) r)

at_start : (k limit : ℕ) (m : Member) (queues : Queues) → StaysWithin limit (rank_of m).standing → serials.IsAt (rank_of m).ops limit (job_with (ranks_like k (rank_of m)) k m queues) k
at_start k limit m queues h = record { rank = rank_of m; stands = stands_there (ranks_like k (rank_of m)) k (rank_of m) (like_within k (rank_of m)); few = omega arith; serials = h }

room_at : (n k ops limit : ℕ) (ranks : List Rank) (m : Member) (queues : Queues) → k < length ranks → serials.IsAt ops limit (job_with ranks k m queues) k → ops < 2 ^ 62 → limit + n * 8192 < 2 ^ 62 → HasRoom n (rank_of m)
room_at n k ops limit ranks m queues within h few room =
    let known = rank_at ops limit (job_with ranks k m queues) k (rank_of m) (stands_there ranks k (rank_of m) within) h in
    let done = known.0 in
    record { limit = limit; serials = known.1; room = room; few = omega (arith, done, few) }

room_gone : (n k : ℕ) (m next : Member) (queues new : Queues) (did : Progress) → AreRegular (runs_of m) → begins_next (rank_of m).standing ≡ false → Stepped k m next queues new did → false ≡ ends did → HasRoom n (rank_of m) → HasRoom n (rank_of next)
room_gone n k m next queues new did regular b s e h =
    let ranks = ranks_like k (rank_of m) in
    let within = like_within k (rank_of m) in
    let last = last_with ranks k m next queues new did false s e in
    let at = gone_at (rank_of m).ops h.limit (runs_of m) (job_with ranks k m queues) k (rank_of m) regular (stands_there ranks k (rank_of m) within) b last (at_start k h.limit m queues h.serials) in
    room_at n k (rank_of m).ops h.limit ranks next new within (subst (λ j. serials.IsAt (rank_of m).ops h.limit j k) (stepped_with ranks k m next queues new did s) at) h.few h.room

room_begun : (n left k : ℕ) (m next : Member) (queues new : Queues) (did : Progress) → AreRegular (runs_of m) → n ≡ suc left → begins_next (rank_of m).standing ≡ true → Stepped k m next queues new did → HasRoom n (rank_of m) → HasRoom left (rank_of next)
room_begun n left k m next queues new did regular f b s h =
    let ranks = ranks_like k (rank_of m) in
    let within = like_within k (rank_of m) in
    let at = begun_at (rank_of m).ops h.limit (runs_of m) (job_with ranks k m queues) k (rank_of m) regular (stands_there ranks k (rank_of m) within) b (at_start k h.limit m queues h.serials) in
    let room = h.room in
    room_at left k (rank_of m).ops (h.limit + 8192) ranks next new within (subst (λ j. serials.IsAt (rank_of m).ops (h.limit + 8192) j k) (stepped_with ranks k m next queues new did s) at) h.few (omega (arith, f, room))

pub goes_room : (n k : ℕ) (m next : Member) (queues new : Queues) (did : Progress) (over : Bool) → AreRegular (runs_of m) → begins_next (rank_of m).standing ≡ false → Stepped k m next queues new did → over ≡ ends did → ∥ HasRoom n (rank_of m) ∥₁ → over ≡ false → ∥ HasRoom n (rank_of next) ∥₁
goes_room n k m next queues new did over regular b s e h o = ∥∥₁_map h (λ r. room_gone n k m next queues new did regular b s (sym o ∙ e) r)

pub begins_room : (n left k : ℕ) (m next : Member) (queues new : Queues) (did : Progress) → AreRegular (runs_of m) → n ≡ suc left → begins_next (rank_of m).standing ≡ true → Stepped k m next queues new did → ∥ HasRoom n (rank_of m) ∥₁ → ∥ HasRoom left (rank_of next) ∥₁
begins_room n left k m next queues new did regular f b s h = ∥∥₁_map h (λ r. room_begun n left k m next queues new did regular f b s r)

-- ---- turns of a job

-- a rank that begins
first_after : (p : Program) (n k : ℕ) → IsRegular p → IsAfter 0 (first p n k)
first_after p n k h = record { few = omega arith; serials = (let s = start_within p k n h in record { fit = s.fit; serials = (let w = s.serials in omega (arith, w)) }) }

pub pushed_first : (p : Program) (n k : ℕ) (ms after : List Member) (m : Member) → IsRegular p → after ≡ ms ++ m ∷ [] → All (λ x. IsAfter 0 (rank_of x)) ms → rank_of m ≡ first p n k → All (λ x. IsAfter 0 (rank_of x)) after
pushed_first p n k ms after m r e h q = subst (All (λ x. IsAfter 0 (rank_of x))) (sym e) (All-push (λ x. IsAfter 0 (rank_of x)) ms m h (subst (IsAfter 0) (sym q) (first_after p n k r)))

-- the other ranks, after one turn more
one_more : (turns : ℕ) (r : Rank) → IsAfter turns r → IsAfter (turns + 1) r
one_more turns r h = record { few = (let f = h.few in omega (arith, f)); serials = more_within (8193 + turns * 2 ^ 25) (8193 + (turns + 1) * 2 ^ 25) r.standing (omega arith) h.serials }

all_more : (turns : ℕ) (ms : List Member) → All (λ x. IsAfter turns (rank_of x)) ms → All (λ x. IsAfter (turns + 1) (rank_of x)) ms
all_more turns ms h = λ i d within. one_more turns (rank_of (get_or ms i d)) (h i d within)

abbrev pub AllAfter : ℕ → List Member → Type 0
AllAfter turns ms = ∥ All (λ x. IsAfter turns (rank_of x)) ms ∥₁

pub others_after : (turns : ℕ) (ms : List Member) → AllAfter turns ms → AllAfter (turns + 1) ms
others_after turns ms h = ∥∥₁_map h (all_more turns ms)

rank_after : (turns : ℕ) (ms : List Member) (k : ℕ) (m : Member) → IsAt ms k m → All (λ x. IsAfter turns (rank_of x)) ms → IsAfter turns (rank_of m)
rank_after turns ms k m at h = subst (λ x. IsAfter turns (rank_of x)) (sym at.1) (h k m at.0)

-- the room for a turn
room_for : (turns : ℕ) (r : Rank) → turns < 200000 → IsAfter turns r → HasRoom turn_limit r
room_for turns r t h = record { limit = 8193 + turns * 2 ^ 25; serials = h.serials; room = omega (arith, t); few = (let f = h.few in omega (arith, t, f)) }

pub turn_room : (turns : ℕ) (ms : List Member) (k : ℕ) (m : Member) → turns < 200000 → AllAfter turns ms → IsAt ms k m → ∥ HasRoom turn_limit (rank_of m) ∥₁
turn_room turns ms k m t h at = ∥∥₁_map h (λ all. room_for turns (rank_of m) t (rank_after turns ms k m at all))

-- the rank after it
turned_after : (turns k : ℕ) (m next : Member) (queues new : Queues) → AreRegular (runs_of m) → IsTurn (runs_of m) (job_with (ranks_like k (rank_of m)) k m queues) k (job_with (ranks_like k (rank_of m)) k next new) → IsAfter turns (rank_of m) → IsAfter (turns + 1) (rank_of next)
turned_after turns k m next queues new regular turn h =
    let ranks = ranks_like k (rank_of m) in
    let limit = 8193 + turns * 2 ^ 25 in
    let job = job_with ranks k m queues in
    let last = job_with ranks k next new in
    let at = steps_at (runs_of m) k turn_limit (rank_of m).ops limit job last regular turn (at_start k limit m queues h.serials) in
    let known = rank_at (suc (rank_of m).ops) (limit + turn_limit * 8192) last k (rank_of next) (stands_there ranks k (rank_of next) (like_within k (rank_of m))) at in
    let few = h.few in
    let done = known.0 in
    record { few = omega (arith, few, done); serials = more_within (limit + turn_limit * 8192) (8193 + (turns + 1) * 2 ^ 25) (rank_of next).standing (omega arith) known.1 }

pub turn_after : (turns : ℕ) (ms : List Member) (k : ℕ) (m next : Member) (queues new : Queues) → AreRegular (runs_of m) → ((ranks : List Rank) → k < length ranks → IsTurn (runs_of m) (job_with ranks k m queues) k (job_with ranks k next new)) → IsAt ms k m → AllAfter turns ms → AllAfter (turns + 1) (slice_set ms k next)
turn_after turns ms k m next queues new regular turn at h =
    ∥∥₁_map h (λ all. All-set (λ x. IsAfter (turns + 1) (rank_of x)) ms k next (turned_after turns k m next queues new regular (turn (ranks_like k (rank_of m)) (like_within k (rank_of m))) (rank_after turns ms k m at all)) (all_more turns ms all))

-- a rank that has made no step is put back
pub written_after : (turns : ℕ) (ms : List Member) (k : ℕ) (m : Member) → IsAt ms k m → AllAfter turns ms → AllAfter turns (slice_set ms k m)
written_after turns ms k m at h = ∥∥₁_map h (λ all. All-set (λ x. IsAfter turns (rank_of x)) ms k m (rank_after turns ms k m at all) all)

pub regular_member : (functions : List Function) (m : Member) → runs_of m ≡ functions → AreRegular functions → AreRegular (runs_of m)
regular_member functions m e h = subst AreRegular (sym e) h
