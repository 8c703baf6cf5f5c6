-- What an answer to a rank that runs comes to.
use Rattle.std.proofs.Common.{◌≡◌, ◌≤◌, ◌+◌, ℕ, List, [], ◌∷◌, length, Bool, true, false, Option, Some, None, Result, Ok, Err, refl, sym, ap, ◌∙◌, subst, arith}
use Rattle.mpi_words.specs.declared.operation.Op.{Op}
use Rattle.mpi_words.specs.declared.operation.Op.TheVariants as op
use Rattle.mpi_words.specs.declared.operation.End.{End}
use Rattle.mpi_words.specs.declared.operation.Reply.{Reply}
use Rattle.mpi_words.specs.declared.operation.Reply.TheVariants.{Done, Got}
use Rattle.c_memory.specs.Memory.{Memory}
use Rattle.mpi_effects.specs.declared.seat.Seat.{Seat}
use Rattle.mpi_effects.specs.declared.requests.Request.{Request}
use Rattle.mpi_effects.specs.declared.requests.Receipt.{Receipt}
use Rattle.mpi_effects.specs.Mpi.{received}
use Rattle.mpi_effects.specs.Requests as requests
use Rattle.mpi_effects.specs.Requests.{bytes_asked, receipt_of}
use Rattle.job_network.specs.Wants.{Answers, AnswersOp, IsMark, bytes_of, bytes_of_op}
use Rattle.flat_code.specs.Machine.{Machine, Outcome, Goes, Ends, answered, finished, taken_in, with_ok}
use Rattle.rank_machine.specs.Placing.{Placing, Standing}
use Rattle.rank_machine.specs.State.{answer_of}
use Rattle.rank_image.specs.Rank as rank
use Rattle.rank_image.specs.Rank.{Rank, Runs, Over, IsMarked, ArePastMark, MayRun, Waits, IsWanted, replied, answered_by, operation_of}
use Rattle.std.specs.Prelude.{max}
use Rattle.std.proofs.Math.Nat.{le-max_left, le-max_right, max-le}
use Rattle.rank_image.proofs.Standings.{same_placing, same_standing}
use Rattle.rank_image.proofs.Turned.{sound_so}
use Rattle.turn_bounds.proofs.Takes.{answer_kept}

-- ---- what an answer leaves as it was

-- the same, but for memory's cells
pub record IsAlike (m n : Machine) : Type 0 where
  pub frames : n.frames ≡ m.frames
  pub seat : n.seat ≡ m.seat
  pub printed : n.printed ≡ m.printed
  pub asked : n.asked ≡ m.asked

with_memory : (m n : Machine) (r : Result Memory ℕ) → with_ok r (λ memory. Goes false (record m { memory = memory })) ≡ Goes false n → IsAlike m n
with_memory m n (Err code) e = absurd cc
with_memory m n (Ok k) e =
    let same : record m { memory = k } ≡ n = cc in
    subst (λ (x : Machine). IsAlike m x) same (record { frames = refl; seat = refl; printed = refl; asked = refl })

itself : (m n : Machine) → Goes false m ≡ Goes false n → IsAlike m n
itself m n e = let same : m ≡ n = cc in subst (λ (x : Machine). IsAlike m x) same (record { frames = refl; seat = refl; printed = refl; asked = refl })

taken_so : (m n : Machine) (r : Option Receipt) (reply : Reply) → taken_in m r reply ≡ Goes false n → IsAlike m n
taken_so m n None Done e = itself m n e
taken_so m n None (Got source message) e = itself m n e
taken_so m n (Some r) Done e = itself m n e
taken_so m n (Some r) (Got source message) e = with_memory m n (received r m.memory source message) e

-- ---- bytes

same_bytes : (o : Op) → requests.bytes_of o ≡ bytes_of_op o
same_bytes (op.Send to message) = refl
same_bytes (op.Receive patterns) = refl
same_bytes (op.Output text) = refl
same_bytes op.Mark = refl

asked_bytes : (asked : Option Request) → bytes_asked asked ≡ bytes_of (operation_of asked)
asked_bytes None = refl
asked_bytes (Some q) = same_bytes q.operation

-- ---- a rank that goes on

-- what is known of a machine s that an answer left as m
pub record HasAnswered (reply : Reply) (s m : Standing) (end : Option End) : Type 0 where
  pub sound : MayRun s
  pub answers : Answers (operation_of s.placing.machine.asked) reply
  pub functions : m.functions ≡ s.functions
  pub answer : answer_of end m.placing.machine ≡ answered s.placing.machine reply
  pub stack : m.placing.stack ≡ s.placing.stack
  pub heap : m.placing.heap ≡ s.placing.heap
  pub left : m.left ≡ s.left
  pub begun : m.begun ≡ s.begun

pub has_answered : (reply : Reply) (old : Rank) (s m : Standing) (r end : Option End) → r ≡ end → Runs s ≡ old → MayRun s → Answers (rank.pending old) reply → m.functions ≡ s.functions → answer_of r m.placing.machine ≡ answered s.placing.machine reply →
    m.placing.stack ≡ s.placing.stack → m.placing.heap ≡ s.placing.heap → m.left ≡ s.left → m.begun ≡ s.begun → HasAnswered reply s m end
has_answered reply old s m r end e same sound answers functions answer stack heap left begun =
    subst (λ x. HasAnswered reply s m x) e (record {
      sound = sound;
      answers = subst (λ x. Answers (rank.pending x) reply) (sym same) answers;
      functions = functions;
      answer = answer;
      stack = stack;
      heap = heap;
      left = left;
      begun = begun;
    })

-- what is to be shown where it goes on
pub record RunsOn (reply : Reply) (old : Rank) (m : Standing) : Type 0 where
  pub answered : Runs m ≡ answered_by old reply
  pub among : m.placing.machine.seat.ranks ≡ rank.among old
  pub bytes : m.placing.machine.printed ≡ rank.bytes old + bytes_of (rank.pending old)
  pub serial : max m.placing.machine.memory.next m.begun ≤ rank.serial old
  pub marked : IsMark (rank.pending old) → IsMarked (Runs m)
  pub sound : MayRun m

mark_so : (s m : Standing) (asked : Option Request) → IsMark (operation_of asked) → Waits s.functions s.placing.machine asked → ArePastMark s.functions s.placing.machine.frames
mark_so s m None is w = absurd is
mark_so s m (Some q) is w = mark_of q.operation is w
  where
    mark_of : (o : Op) → IsMark (Some o) → IsWanted s.functions s.placing.machine o → ArePastMark s.functions s.placing.machine.frames
    mark_of (op.Send to message) is w = absurd is
    mark_of (op.Receive patterns) is w = absurd is
    mark_of (op.Output text) is w = absurd is
    mark_of op.Mark is w = w

not_greater : (a b c d : ℕ) → a ≡ c → b ≡ d → max a b ≤ max c d
not_greater a b c d e f =
    let first = le-max_left c d in
    let second = le-max_right c d in
    max-le (omega (arith, e, first)) (omega (arith, f, second))

runs_on : (reply : Reply) (s m : Standing) → m.end ≡ s.end → HasAnswered reply s m None → RunsOn reply (Runs s) m
runs_on reply s m e h =
    let like = taken_so (finished s.placing.machine) m.placing.machine (receipt_of s.placing.machine.asked) reply (sym h.answer) in
    let kept = answer_kept s.functions s.placing m.placing reply false h.sound.settled (sym h.answer) h.heap in
    let same : record s { placing = record (s.placing) { machine = m.placing.machine } } ≡ m =
    same_standing (record s { placing = record (s.placing) { machine = m.placing.machine } }) m (sym h.functions) (same_placing (record (s.placing) { machine = m.placing.machine }) m.placing refl (sym h.stack) (sym h.heap)) (sym e) (sym h.left) (sym h.begun) in
    record {
      answered = sym (ap (replied s) (sym h.answer) ∙ ap (λ (x : Standing). Runs x) same);
      among = ap (λ (x : Seat). x.ranks) like.seat;
      bytes = like.printed ∙ ap (λ n. s.placing.machine.printed + n) (asked_bytes s.placing.machine.asked);
      serial = not_greater m.placing.machine.memory.next m.begun s.placing.machine.memory.next s.begun kept.1 h.begun;
      marked = λ is. (like.asked, subst (λ fs. ArePastMark m.functions fs) (sym like.frames) (subst (λ f. ArePastMark f s.placing.machine.frames) (sym h.functions) (mark_so s m s.placing.machine.asked is h.sound.waits)));
      sound = sound_so s m h.sound h.functions (e ∙ h.sound.end) (h.left ∙ h.sound.left) kept.0 (subst (λ x. Waits m.functions m.placing.machine x) (sym like.asked) tt);
    }

pub runs_from : (reply : Reply) (old : Rank) (s m : Standing) → Runs s ≡ old → m.end ≡ s.end → HasAnswered reply s m None → RunsOn reply old m
runs_from reply old s m same e h = subst (λ r. RunsOn reply r m) same (runs_on reply s m e h)

-- ---- or ends, by a message of a receive

pub record ComesToEnd (reply : Reply) (old : Rank) (e : End) (ranks out : ℕ) : Type 0 where
  pub answered : Over e ranks out ≡ answered_by old reply
  pub among : ranks ≡ rank.among old
  pub bytes : out ≡ rank.bytes old + bytes_of (rank.pending old)
  pub unmarked : IsMark (rank.pending old) → ⊥

only_got : (m : Machine) (e : End) (o : Op) (r : Option Receipt) (reply : Reply) → AnswersOp o reply → taken_in m r reply ≡ Ends e → (bytes_of_op o ≡ 0) × (IsMark (Some o) → ⊥)
only_got m e o None Done a t = absurd cc
only_got m e o (Some r) Done a t = absurd cc
only_got m e (op.Send to message) r (Got source got) a t = absurd a
only_got m e (op.Receive patterns) r (Got source got) a t = (refl, λ is. is)
only_got m e (op.Output text) r (Got source got) a t = absurd a
only_got m e op.Mark r (Got source got) a t = absurd a

asked_got : (m : Machine) (e : End) (asked : Option Request) (reply : Reply) → Answers (operation_of asked) reply → taken_in m (receipt_of asked) reply ≡ Ends e → (bytes_of (operation_of asked) ≡ 0) × (IsMark (operation_of asked) → ⊥)
asked_got m e None reply a t = absurd a
asked_got m e (Some q) reply a t = only_got m e q.operation q.receipt reply a t

comes_to_end : (reply : Reply) (s m : Standing) (e : End) → HasAnswered reply s m (Some e) → ComesToEnd reply (Runs s) e s.placing.machine.seat.ranks s.placing.machine.printed
comes_to_end reply s m e h =
    let got = asked_got (finished s.placing.machine) e s.placing.machine.asked reply h.answers (sym h.answer) in
    let none = got.0 in
    record {
      answered = ap (replied s) h.answer;
      among = refl;
      bytes = omega (arith, none);
      unmarked = got.1;
    }

pub ends_so : (reply : Reply) (old : Rank) (s m : Standing) (e : End) (ranks out : ℕ) → Runs s ≡ old → ranks ≡ s.placing.machine.seat.ranks → out ≡ s.placing.machine.printed → HasAnswered reply s m (Some e) → ComesToEnd reply old e ranks out
ends_so reply old s m e ranks out same n b h =
    subst (λ r. ComesToEnd reply r e ranks out) same (subst (λ k. ComesToEnd reply (Runs s) e k out) (sym n) (subst (λ k. ComesToEnd reply (Runs s) e s.placing.machine.seat.ranks k) (sym b) (comes_to_end reply s m e h)))
