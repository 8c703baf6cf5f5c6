-- What a turn takes.
use Rattle.std.proofs.Common.{◌≡◌, ℕ, ◌+◌, ◌*◌, ◌≤◌, Bool, true, false, if◌then◌else◌, List, Option, Some, None, Result, Ok, Err, refl, sym, subst, arith}
use Rattle.mpi_words.specs.declared.operation.Op.{Op}
use Rattle.mpi_words.specs.declared.operation.End.{End}
use Rattle.mpi_words.specs.declared.operation.Reply.{Reply}
use Rattle.mpi_words.specs.declared.operation.Reply.TheVariants as reply
use Rattle.mpi_effects.specs.declared.requests.Receipt.{Receipt}
use Rattle.mpi_effects.specs.Mpi.{received}
use Rattle.mpi_effects.specs.Requests.{receipt_of}
use Rattle.c_memory.specs.Memory.{Memory}
use Rattle.flat_code.specs.declared.code.FlatFunction.{FlatFunction}
use Rattle.flat_code.specs.Machine.{Machine, Outcome, Goes, with_ok, finished, taken_in, answered}
use Rattle.flat_code.specs.Machine as outcome
use Rattle.flat_code.specs.Restart.{instr_here}
use Rattle.runs.specs.Turn.{Act, Turned, pauses, begins_one, goes, stops}
use Rattle.runs.specs.Turn as turn
use Rattle.rank_machine.specs.Placing.{Placing, stepped, begins, Turns}
use Rattle.turn_bounds.specs.Spaced.{IsSpaced, HasCells}
use Rattle.turn_bounds.specs.Settled.{AreSettled, IsSettled, After, below, next_serial, most_serial}
use Rattle.turn_bounds.proofs.Alike.{Alike, AlikeOk, received_alike}
use Rattle.turn_bounds.proofs.Steps.{credit_most, potential, Bounded, step_taken}

pub after_weaker : (P Q : Placing → Type 0) (a : Act Placing Op End) → ((q : Placing) → P q → Q q) → After P a → After Q a
after_weaker P Q (turn.Goes q) h k = h q k
after_weaker P Q (turn.Asks o q) h k = h q k
after_weaker P Q (turn.Ends e) h k = tt

more : (functions : List FlatFunction) (n m : ℕ) (a : Act Placing Op End) → n ≤ m → Bounded functions n a → Bounded functions m a
more functions n m a l h = after_weaker (λ q. IsSettled functions q × (potential functions q ≤ n)) (λ q. IsSettled functions q × (potential functions q ≤ m)) a (λ q k. let b = k.1 in (k.0, omega (arith, b, l))) h

module _ (functions : List FlatFunction) (spaced : IsSpaced functions) (cells : HasCells functions) where
  -- a step that begins a statement or none
  came : (p q : Placing) (t : Bool) → IsSettled functions p → begins functions p ≡ t → stepped functions p ≡ turn.Goes q → IsSettled functions q × (potential functions q ≤ potential functions p + (if t then 8192 else 0))
  came p q t s b e =
      let h = step_taken functions spaced cells p s in
      let k = subst (λ (u : Bool). Bounded functions (potential functions p + (if u then 8192 else 0)) (stepped functions p)) b h in
      subst (λ (a : Act Placing Op End). Bounded functions (potential functions p + (if t then 8192 else 0)) a) e k

  taken : (n : ℕ) (p : Placing) (a : Act Placing Op End) → Turned (stepped functions) (begins functions) n p a → IsSettled functions p → Bounded functions (potential functions p + n * 8192) a
  taken n p _ (pauses _ _ e b) s = (s, omega arith)
  taken n p a (begins_one _ m _ q _ e b g rest) s =
      let c = came p q true s b g in
      let l = c.1 in
      more functions (potential functions q + m * 8192) (potential functions p + n * 8192) a (omega (arith, l, e)) (taken m q a rest c.0)
  taken n p a (goes _ _ q _ b g rest) s =
      let c = came p q false s b g in
      let l = c.1 in
      more functions (potential functions q + n * 8192) (potential functions p + n * 8192) a (omega (arith, l)) (taken n q a rest c.0)
  taken n p _ (stops _ _ b l) s =
      let h = step_taken functions spaced cells p s in
      let k = subst (λ (u : Bool). Bounded functions (potential functions p + (if u then 8192 else 0)) (stepped functions p)) b h in
      more functions (potential functions p + 0) (potential functions p + n * 8192) (stepped functions p) (omega arith) k

  pub turn_taken : (limit : ℕ) (p : Placing) (a : Act Placing Op End) → IsSettled functions p → Turns functions limit p a → After (λ q. IsSettled functions q × (next_serial q ≤ most_serial limit (next_serial p))) a
  turn_taken limit p a s t =
      let c = credit_most (instr_here functions p.machine.frames) in
      after_weaker (λ q. IsSettled functions q × (potential functions q ≤ potential functions p + limit * 8192)) (λ q. IsSettled functions q × (next_serial q ≤ most_serial limit (next_serial p))) a
      (λ q k. let b = k.1 in (k.0, omega (arith, b, c))) (taken limit p a t s)

  pub step_kept : (p : Placing) → IsSettled functions p → After (IsSettled functions) (stepped functions p)
  step_kept p s = after_weaker (λ q. IsSettled functions q × (potential functions q ≤ potential functions p + (if begins functions p then 8192 else 0))) (IsSettled functions) (stepped functions p) (λ q k. k.0) (step_taken functions spaced cells p s)

-- ---- an answer

-- a machine that goes on has the same calls, and its memory the same next serial
abbrev StillOk : Machine → Outcome → Type 0
StillOk m (outcome.Goes began n) = (n.frames ≡ m.frames) × Alike m.memory n.memory
StillOk m (outcome.Asks o n) = Unit {0}
StillOk m (outcome.Ends e) = Unit {0}

received_still : (m : Machine) (r : Result Memory ℕ) → AlikeOk m.memory r → StillOk m (with_ok r (λ memory. Goes false (record m { memory = memory })))
received_still m (Err code) h = tt
received_still m (Ok n) h = (refl, h)

taken_still : (m : Machine) (receipt : Option Receipt) (r : Reply) → StillOk m (taken_in m receipt r)
taken_still m None reply.Done = (refl, (refl, refl))
taken_still m None (reply.Got source message) = (refl, (refl, refl))
taken_still m (Some t) reply.Done = (refl, (refl, refl))
taken_still m (Some t) (reply.Got source message) = received_still m (received t m.memory source message) (received_alike t m.memory source message)

answer_still : (m : Machine) (r : Reply) → StillOk (finished m) (answered m r)
answer_still m r = taken_still (finished m) (receipt_of m.asked) r

pub answer_kept : (functions : List FlatFunction) (p q : Placing) (r : Reply) (began : Bool) → IsSettled functions p → answered p.machine r ≡ Goes began q.machine → q.heap ≡ p.heap → IsSettled functions q × (next_serial q ≡ next_serial p)
answer_kept functions p q r began s e h =
    let k : StillOk (finished p.machine) (Goes began q.machine) = subst (StillOk (finished p.machine)) e (answer_still p.machine r) in
    let a = subst (λ n. AreSettled functions n p.heap (below p.machine.frames)) (sym k.1.1) s in
    let b = subst (λ bs. AreSettled functions q.machine.memory.asked bs (below p.machine.frames)) (sym h) a in
    (subst (λ fs. AreSettled functions q.machine.memory.asked q.heap (below fs)) (sym k.0) b, k.1.0)
