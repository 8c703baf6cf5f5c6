-- A rank tells once that it restores no more, and a wave begins when all have told.
use Rattle.std.proofs.Common.{◌≡◌, ℕ, zero, suc, pred, ◌+◌, ◌<◌, ◌≤◌, Bool, true, false, not, List, [], ◌∷◌, ◌++◌, sym, refl, ap, ◌∙◌, subst, arith}
use Rattle.std.specs.Prelude.{nat_lt}
use Rattle.std.specs.List.{AllByRecursion}
use Rattle.std.proofs.lemmas.Bool.{cond_both, false≢true}
use Rattle.late_logs.specs.declared.entry.Entry.{Entry}
use Rattle.mpi_words.specs.declared.control.Control.{Control}
use Rattle.mpi_words.specs.declared.control.Control.TheVariants.{Request, Count, Ready, Stop, Stopped, Restored}
use Rattle.mpi_words.specs.declared.message.Message.{Message}
use Rattle.core_laws.specs.Rows.{set_at, set_pair}
use Rattle.core_laws.specs.Protocol.{Packet, Protocol, move_send, move_skip, move_save, move_arrive, move_ready, move_stop, move_pop, move_asked, move_told, move_note_ready, move_note_stopped, move_tell_stop, move_commit, move_start, move_note_restored, told_restored}
use Rattle.core_laws.specs.Process.{Did, Nothing, Sent, Local, Marked, Process, turn, is_operation}
use Rattle.core_laws.specs.Handling.{handles, then_ready, then_stop, ready_due, stops_at, protocol_after}
use Rattle.core_laws.specs.Replay.{Replaying}
use Rattle.core_laws.specs.Invariant.{Allowed, Invariant, bit}
use Rattle.core_laws.specs.Core.{restores, is_back, then_restored, one_turned, landed}
use Rattle.core_laws.specs.Kept.{Tells}
use Rattle.core_laws.specs.Invariant.{tells_on}
use Rattle.core_laws.proofs.ManyControls.{many-push, many-first}
use Rattle.core_laws.proofs.Changes.{at_set, push_pair, push_row, pop_pair, set_pair-here, set_pair-other_row}
use Rattle.core_laws.proofs.Noting.{ready_cases, stopped_cases}

-- a change that tells nothing of this
record Silent (n : ℕ) (p p' : Protocol) : Type 0 where
  control : (r : ℕ) → tells_on (p'.control r 0) ≡ tells_on (p.control r 0)
  restored : p'.restored ≡ p.restored
  wave : p'.wave.under_way ≡ true → p.wave.under_way ≡ true

silent_refl : (n : ℕ) (p p' : Protocol) → p'.control ≡ p.control → p'.restored ≡ p.restored → p'.wave ≡ p.wave → Silent n p p'
silent_refl n p p' c r w = record { control = λ x. ap (λ g. tells_on (g x 0)) c; restored = r; wave = λ e. ap (λ v. v.under_way) (sym w) ∙ e }

silent_trans : (n : ℕ) (p p' p'' : Protocol) → Silent n p p' → Silent n p' p'' → Silent n p p''
silent_trans n p p' p'' h k = record { control = λ r. k.control r ∙ h.control r; restored = k.restored ∙ h.restored; wave = λ e. h.wave (k.wave e) }

silent_push : (n : ℕ) (p p' : Protocol) (a b : ℕ) (x : Control) → tells_on (x ∷ []) ≡ 0 → p'.control ≡ set_pair p.control a b (p.control a b ++ x ∷ []) → p'.restored ≡ p.restored → p'.wave ≡ p.wave → Silent n p p'
silent_push n p p' a b x none c r w = record {
  control = λ y. subst (λ g. tells_on (g y 0) ≡ tells_on (p.control y 0)) (sym c) (push_pair (λ l. tells_on l ≡ tells_on (p.control y 0)) p.control a b x y 0 (λ l h. omega (arith, many-push 5 l x, none, h)) refl);
  restored = r;
  wave = λ e. ap (λ v. v.under_way) (sym w) ∙ e;
}

silent_row : (n : ℕ) (p p' : Protocol) (a : ℕ) (x : ℕ → Control) → ((y : ℕ) → tells_on (x y ∷ []) ≡ 0) → p'.control ≡ set_at p.control a (λ y. p.control a y ++ x y ∷ []) → p'.restored ≡ p.restored → (p'.wave.under_way ≡ true → p.wave.under_way ≡ true) → Silent n p p'
silent_row n p p' a x none c r w = record {
  control = λ y. subst (λ g. tells_on (g y 0) ≡ tells_on (p.control y 0)) (sym c) (push_row (λ l. tells_on l ≡ tells_on (p.control y 0)) p.control a x y 0 (λ l h. omega (arith, many-push 5 l (x 0), none 0, h)) refl);
  restored = r;
  wave = w;
}

silent_pop : (n : ℕ) (p p' : Protocol) (a b : ℕ) (x : Control) (rest : List Control) → tells_on (x ∷ []) ≡ 0 → p.control a b ≡ x ∷ rest → p'.control ≡ set_pair p.control a b rest → p'.restored ≡ p.restored → (p'.wave.under_way ≡ true → p.wave.under_way ≡ true) → Silent n p p'
silent_pop n p p' a b x rest none is c r w = record {
  control = λ y. subst (λ g. tells_on (g y 0) ≡ tells_on (p.control y 0)) (sym c) (pop_pair (λ l. tells_on l ≡ tells_on (p.control y 0)) p.control a b x rest y 0 is (λ h. omega (arith, many-first 5 x rest, none, h)) refl);
  restored = r;
  wave = w;
}

silent_ready : (n : ℕ) (p : Protocol) (r : ℕ) → Silent n p (then_ready n p r)
silent_ready n p r = cond_both (ready_due n (p.layer r)) (move_ready p r) p (Silent n p)
    (λ e. silent_push n p (move_ready p r) r 0 (Ready (p.layer r).epoch) refl refl refl refl) (λ e. silent_refl n p p refl refl refl)

silent_stop : (n : ℕ) (p : Protocol) (r : ℕ) → Silent n p (move_stop p r)
silent_stop n p r = silent_push n p (move_stop p r) r 0 (Stopped (p.layer r).epoch) refl refl refl refl

silent_after : (n : ℕ) (p : Protocol) (r : ℕ) (d : Did) → Silent n p (protocol_after n p r d)
silent_after n p r Nothing = silent_refl n p p refl refl refl
silent_after n p r Local = silent_refl n p p refl refl refl
silent_after n p r (Sent to m) = cond_both (nat_lt 0 ((p.layer r).skip to)) (move_skip p r to) (move_send p r to m) (Silent n p) (λ e. silent_refl n p (move_skip p r to) refl refl refl) (λ e. silent_refl n p (move_send p r to m) refl refl refl)
silent_after n p r Marked = cond_both (p.layer r).asked (then_ready n (move_save p r) r) p (Silent n p)
    (λ e. silent_trans n p (move_save p r) (then_ready n (move_save p r) r) (silent_row n p (move_save p r) r (λ x. Count (suc (p.layer r).epoch) ((p.layer r).sent x)) (λ y. refl) refl refl (λ w. w)) (silent_ready n (move_save p r) r))
    (λ e. silent_refl n p p refl refl refl)

silent_arrive : (n : ℕ) (p : Protocol) (s r : ℕ) (x : Packet) (rest : List Packet) → Silent n p (then_ready n (move_arrive (then_stop p r x) s r x.1.epoch rest) r)
silent_arrive n p s r x rest = silent_trans n p (then_stop p r x) (then_ready n (move_arrive (then_stop p r x) s r x.1.epoch rest) r)
    (cond_both (stops_at (p.layer r) x) (move_stop p r) p (Silent n p) (λ e. silent_stop n p r) (λ e. silent_refl n p p refl refl refl))
    (silent_trans n (then_stop p r x) (move_arrive (then_stop p r x) s r x.1.epoch rest) (then_ready n (move_arrive (then_stop p r x) s r x.1.epoch rest) r) (silent_refl n (then_stop p r x) (move_arrive (then_stop p r x) s r x.1.epoch rest) refl refl refl) (silent_ready n (move_arrive (then_stop p r x) s r x.1.epoch rest) r))

tells_silent : {S : Type 0} (n : ℕ) (one : ℕ → Replaying S) (p p' : Protocol) → Silent n p p' → Tells n one p → Tells n one p'
tells_silent n one p p' k h = record {
  told = λ r a. omega (arith, k.control r, ap (λ f. bit (f r)) k.restored, h.told r a);
  wave = λ w r a. ap (λ f. f r) k.restored ∙ h.wave (k.wave w) r a;
}

-- One rank goes on, and tells where it ceases to restore.
tells_one : {S : Type 0} (n : ℕ) (one : ℕ → Replaying S) (p : Protocol) (r : ℕ) (v : Replaying S) → (is_back (one r) ≡ true → is_back v ≡ true) → Tells n one p → Tells n (set_at one r v) (then_restored (is_back (one r)) (is_back v) p r)
tells_one {S} n one p r v stays h = go (is_back (one r)) (is_back v) refl refl
  where
    same : (b : Bool) → is_back (one r) ≡ b → is_back v ≡ b → Tells n (set_at one r v) p
    same b was now = record { told = λ x a. at_set (λ o. tells_on (p.control x 0) + bit (p.restored x) ≡ bit (is_back o)) one r v x (λ e. h.told x a ∙ ap bit (ap (λ z. is_back (one z)) e ∙ was ∙ sym now)) (λ e. h.told x a); wave = h.wave }

    go : (b d : Bool) → is_back (one r) ≡ b → is_back v ≡ d → Tells n (set_at one r v) (then_restored b d p r)
    go true true was now = same true was now
    go true false was now = absurd (false≢true (sym now ∙ stays was))
    go false false was now = same false was now
    go false true was now = record {
      told = λ x a. at_set (λ o. tells_on (set_pair p.control r 0 (p.control r 0 ++ Restored ∷ []) x 0) + bit (p.restored x) ≡ bit (is_back o)) one r v x
          (λ e. subst (λ z. tells_on (set_pair p.control r 0 (p.control r 0 ++ Restored ∷ []) z 0) + bit (p.restored z) ≡ bit (is_back v)) (sym e)
          (omega (arith, ap tells_on (set_pair-here p.control r 0 (p.control r 0 ++ Restored ∷ [])), many-push 5 (p.control r 0) Restored, h.told r (subst (λ z. z < n) e a), ap bit was, ap bit now)))
          (λ e. ap (λ l. tells_on l + bit (p.restored x)) (set_pair-other_row p.control r 0 (p.control r 0 ++ Restored ∷ []) x 0 e) ∙ h.told x a);
      wave = h.wave;
    }

-- A rank that doesn't restore goes on so.
pub back_is : {S : Type 0} (v : Replaying S) → is_back v ≡ true → (v.log ≡ []) × (v.left ≡ 0)
back_is v e = go v.log v.left e
  where
    go : (log : List Entry) (left : ℕ) → not (restores log left) ≡ true → (log ≡ []) × (left ≡ 0)
    go [] zero e = (refl, refl)
    go [] (suc left) e = absurd (false≢true e)
    go (x ∷ log) left e = absurd (false≢true e)

pub is_back-from : {S : Type 0} (v : Replaying S) → v.log ≡ [] → v.left ≡ 0 → is_back v ≡ true
is_back-from v e f = ap (λ l. not (restores l v.left)) e ∙ ap (λ k. not (restores [] k)) f

pub turned_back : {S : Type 0} (P : Process S) (v : Replaying S) → is_back v ≡ true → is_back (one_turned v (turn P v.rank)) ≡ true
turned_back P v e = let w = back_is v e in is_back-from (one_turned v (turn P v.rank)) w.0 (cond_both (is_operation (turn P v.rank).did) (pred v.left) v.left (λ k. k ≡ 0) (λ _. ap pred w.1) (λ _. w.1))

pub landed_back : {S : Type 0} (v : Replaying S) (s : ℕ) (m : Message) → is_back v ≡ true → is_back (landed v v.log s m) ≡ true
landed_back v s m e = subst (λ l. is_back (landed v l s m) ≡ true) (sym (back_is v e).0) e

pub tells_turn : {S : Type 0} (P : Process S) (n : ℕ) (one : ℕ → Replaying S) (p : Protocol) (r : ℕ) (d : Did) → Tells n one p → Tells n (set_at one r (one_turned (one r) (turn P (one r).rank))) (then_restored (is_back (one r)) (is_back (one_turned (one r) (turn P (one r).rank))) (protocol_after n p r d) r)
tells_turn P n one p r d h = tells_one n one (protocol_after n p r d) r (one_turned (one r) (turn P (one r).rank)) (turned_back P (one r)) (tells_silent n one p (protocol_after n p r d) (silent_after n p r d) h)

pub tells_arrival : {S : Type 0} (n : ℕ) (one : ℕ → Replaying S) (p : Protocol) (s r : ℕ) (x : Packet) (rest : List Packet) → Tells n one p → Tells n (set_at one r (landed (one r) (one r).log s x.0)) (then_restored (is_back (one r)) (is_back (landed (one r) (one r).log s x.0)) (then_ready n (move_arrive (then_stop p r x) s r x.1.epoch rest) r) r)
tells_arrival n one p s r x rest h = let q = then_ready n (move_arrive (then_stop p r x) s r x.1.epoch rest) r in
    tells_one n one q r (landed (one r) (one r).log s x.0) (landed_back (one r) s x.0) (tells_silent n one p q (silent_arrive n p s r x rest) h)

-- A control.
bit_most : (b : Bool) → bit b ≤ 1
bit_most true = omega arith
bit_most false = omega arith

pub tells_handle : {S : Type 0} (n : ℕ) (one : ℕ → Replaying S) (p : Protocol) (s r : ℕ) (c : List Control) → s < n → p.control s r ≡ c → Invariant n p → Tells n one p → Tells n one (handles n p s r c)
tells_handle n one p s r [] a is i h = h
tells_handle n one p s r (Request l ∷ rest) a is i h = tells_silent n one p (move_asked p s r rest) (silent_pop n p (move_asked p s r rest) s r (Request l) rest refl is refl refl (λ w. w)) h
tells_handle n one p s r (Count l k ∷ rest) a is i h = tells_silent n one p (then_ready n (move_told p s r k rest) r)
    (silent_trans n p (move_told p s r k rest) (then_ready n (move_told p s r k rest) r) (silent_pop n p (move_told p s r k rest) s r (Count l k) rest refl is refl refl (λ w. w)) (silent_ready n (move_told p s r k rest) r)) h
tells_handle n one p s r (Ready l ∷ rest) a is i h = let q = move_note_ready p s r rest in let popped = silent_pop n p q s r (Ready l) rest refl is refl refl (λ w. w) in
    ready_cases n p s r l rest (Tells n one)
    (λ _ _. tells_silent n one p (move_tell_stop q) (silent_trans n p q (move_tell_stop q) popped (silent_row n q (move_tell_stop q) 0 (λ x. Stop (suc p.wave.line)) (λ y. refl) refl refl (λ w. w))) h)
    (λ _ _. tells_silent n one p q popped h)
    (λ _. tells_silent n one p (move_pop p s r rest) (silent_pop n p (move_pop p s r rest) s r (Ready l) rest refl is refl refl (λ w. w)) h)
tells_handle n one p s r (Stop l ∷ rest) a is i h = let q = move_pop p s r rest in let popped = silent_pop n p q s r (Stop l) rest refl is refl refl (λ w. w) in
    cond_both (p.layer r).logging (move_stop q r) q (Tells n one)
    (λ e. tells_silent n one p (move_stop q r) (silent_trans n p q (move_stop q r) popped (silent_stop n q r)) h)
    (λ e. tells_silent n one p q popped h)
tells_handle n one p s r (Stopped l ∷ rest) a is i h = let q = move_note_stopped p s r rest in
    stopped_cases n p s r l rest (Tells n one)
    (λ _ _. tells_silent n one p (move_commit q) (silent_pop n p (move_commit q) s r (Stopped l) rest refl is refl refl (λ w. absurd (false≢true w))) h)
    (λ _ _. tells_silent n one p q (silent_pop n p q s r (Stopped l) rest refl is refl refl (λ w. w)) h)
    (λ _. tells_silent n one p (move_pop p s r rest) (silent_pop n p (move_pop p s r rest) s r (Stopped l) rest refl is refl refl (λ w. w)) h)
tells_handle {S} n one p s r (Restored ∷ rest) a is i h = subst (λ z. p.control s z ≡ Restored ∷ rest → Tells n one (move_note_restored p s z rest)) (sym from) noted is
  where
    from : r ≡ 0
    from = (subst (λ c. AllByRecursion (Allowed s r) c) is (i.origins s r)).0

    noted : p.control s 0 ≡ Restored ∷ rest → Tells n one (move_note_restored p s 0 rest)
    noted was = record {
      told = λ x b. at_set (λ t. tells_on (set_pair p.control s 0 rest x 0) + bit t ≡ bit (is_back (one x))) p.restored s true x
          (λ e. subst (λ z. tells_on (set_pair p.control s 0 rest z 0) + 1 ≡ bit (is_back (one z))) (sym e) (omega (arith, ap tells_on (set_pair-here p.control s 0 rest), ap tells_on was, h.told s a, bit_most (is_back (one s)))))
          (λ e. ap (λ l. tells_on l + bit (p.restored x)) (set_pair-other_row p.control s 0 rest x 0 e) ∙ h.told x b);
      wave = λ w x b. at_set (λ t. t ≡ true) p.restored s true x (λ _. refl) (λ _. h.wave w x b);
    }

-- A wave begins.
pub tells_begin : {S : Type 0} (n : ℕ) (one : ℕ → Replaying S) (p : Protocol) → ((r : ℕ) → r < n → p.restored r ≡ true) → Tells n one p → Tells n one (move_start p)
tells_begin n one p all h = record {
  told = λ r a. push_row (λ l. tells_on l + bit (p.restored r) ≡ bit (is_back (one r))) p.control 0 (λ x. Request (suc p.wave.line)) r 0 (λ l e. omega (arith, many-push 5 l (Request (suc p.wave.line)), e)) (h.told r a);
  wave = λ w. all;
}

-- who has told, or whose control is on the way, doesn't restore
pub noted_back : {S : Type 0} (n : ℕ) (one : ℕ → Replaying S) (p : Protocol) (r : ℕ) → r < n → Tells n one p → p.restored r ≡ true → is_back (one r) ≡ true
noted_back n one p r a h e = bit_true (is_back (one r)) (omega (arith, h.told r a, ap bit e))
  where
    bit_true : (b : Bool) → 1 ≤ bit b → b ≡ true
    bit_true true h = refl
    bit_true false h = absurd (omega arith)

-- After a restart.
pub tells_restarted : (b : Bool) → tells_on (told_restored b) + 0 ≡ bit (not b)
tells_restarted true = omega arith
tells_restarted false = omega arith
