-- Each event of the core whose ranks pause is one of the core without pauses, or none.
use Rattle.std.proofs.Common.{◌≡◌, ℕ, zero, suc, pred, ◌+◌, ◌<◌, ◌≤◌, Bool, true, false, not, List, [], ◌∷◌, ◌++◌, Some, None, length, sym, refl, ap, ◌∙◌, subst, ⊎_elim, arith}
use Rattle.std.proofs.Math.Path.{fun_ext}
use Rattle.std.specs.Prelude.{◌&&◌, ◌==◌, nat_lt, if◌then◌else◌}
use Rattle.std.specs.List.{AllByRecursion}
use Rattle.std.proofs.lemmas.Bool.{cond_both, cond-true, cases_lt, and_parts, ltb-true, lt-ltb, not-true, eqb-true, eq-eqb, false≢true}
use Rattle.late_logs.specs.declared.entry.Entry.{Entry}
use Rattle.late_logs.specs.declared.entry.Entry.TheVariants.{Late as Late_entry, Intra as Intra_entry}
use Rattle.mpi_words.specs.declared.control.Control.{Control}
use Rattle.mpi_words.specs.declared.control.Control.TheVariants.{Request, Count, Ready, Stop, Stopped, Restored}
use Rattle.mpi_words.specs.declared.message.Message.{Message}
use Rattle.core_laws.specs.Rows.{set_at}
use Rattle.core_laws.specs.Protocol.{Packet, Layer, Protocol, Class, Late, Intra, Early, layer_arrive, class_of, layer_save, layer_send, restarted, move_send, move_skip, move_save, move_arrive, move_ready, move_stop, move_pop, move_asked, move_told, move_start, move_tell_restored}
use Rattle.core_laws.specs.Process.{ranks, Process, Rank, Did, Nothing, Sent, Local, Marked, Turned, turn, arrive, is_operation}
use Rattle.core_laws.specs.Quiet.{Event, Turn, Deliver, Handle, Begin_wave, quiet_start_of}
use Rattle.core_laws.specs.Written.{Written, written_turn, written_arrive}
use Rattle.core_laws.specs.Handling.{after_save, after_stop, all_below, handles, then_ready, then_stop, ready_due, stops_at, protocol_after}
use Rattle.core_laws.specs.Stopping.{contents}
use Rattle.core_laws.specs.Invariant.{Kept, bit}
use Rattle.core_laws.specs.Replay.{Replaying, absorb, may_turn, Lags, journal_of, PairLags}
use Rattle.core_laws.specs.Core.{Core, is_back, restores, then_restored, one_turned, core_turned, accepts, landed, core_arrived, core_delivers, core_handled, may_begin, core_began, step_of, steps_of, back_of, last_line}
use Rattle.core_laws.specs.CoreEvents.{Core_event, Single, Sweep, Kill, next_of, start_of, one_from, restart_from, restart_of, Session_event, Core_does, Restart, session_of, sweep_events, below, times, row_events, pair_events}
use Rattle.core_laws.specs.Line.{Logged, Stands, sends_to, intra_from, replayed}
use Rattle.core_laws.specs.Plan.{HasPlan}
use Rattle.core_laws.specs.Kept.{IsKept, Committed}
use Rattle.core_laws.specs.Pausing.{Stepping, step_turn, stepping, without_pauses}
use Rattle.core_laws.specs.PausingKept.{Same, IsRank, IsSaved, compared, IsCore, IsBeside, IsKeptWithin, IsLivePausing, IsLagPausing}
use Rattle.core_laws.proofs.Changes.{at_set, at_set_both, set_at-other}
use Rattle.core_laws.proofs.EventsKept.{all_below-at, inv_handles}
use Rattle.core_laws.proofs.QuietRuns.{after_wave}
use Rattle.core_laws.proofs.WaveLines.{calm_handles, ready_wave, stop_wave}
use Rattle.core_laws.proofs.LagKept.{is_none, no_entries, after_late, lag_restart}
use Rattle.core_laws.proofs.PlanMore.{done_channel}
use Rattle.core_laws.proofs.RestoredTold.{back_is}
use Rattle.core_laws.proofs.PausedRuns.{reached_pausing}
use Rattle.core_laws.proofs.RunsBeside.{beside_idle, beside_op, beside_arrival, beside_same}
use Rattle.core_laws.proofs.PlanKept.{absorb_log, absorb_left}
use Rattle.core_laws.proofs.CommittedLine.{committed_saved}
use Rattle.core_laws.proofs.CoreReplay.{restored_wave, along_handle}
use Rattle.core_laws.proofs.CoreKept.{turn_kept, deliver_kept, handle_kept, begin_kept, start_kept, restart_kept, restart_path, kept_live}
use Rattle.core_laws.proofs.PausedTurns.{TurnsPausing, Operates, Goes_on, turns_pausing}
use Rattle.core_laws.proofs.Noting.{ready_cases, stopped_cases}

-- The epochs that a change leaves.
abbrev Epochs : Protocol → Protocol → Type 0
Epochs p p' = (x : ℕ) → (p'.layer x).epoch ≡ (p.layer x).epoch

epochs_set : (p p' : Protocol) (r : ℕ) (l : Layer) → p'.layer ≡ set_at p.layer r l → l.epoch ≡ (p.layer r).epoch → Epochs p p'
epochs_set p p' r l is same x = ap (λ f. (f x).epoch) is ∙ at_set (λ k. k.epoch ≡ (p.layer x).epoch) p.layer r l x (λ e. same ∙ ap (λ z. (p.layer z).epoch) (sym e)) (λ _. refl)

epochs_ready : (n : ℕ) (p : Protocol) (r : ℕ) → Epochs p (then_ready n p r)
epochs_ready n p r = cond_both (ready_due n (p.layer r)) (move_ready p r) p (Epochs p) (λ e. epochs_set p (move_ready p r) r (record (p.layer r) { was_ready = true; told = λ x. None }) refl refl) (λ e x. refl)

epochs_stop : (p : Protocol) (r : ℕ) (x : Packet) → Epochs p (then_stop p r x)
epochs_stop p r x = cond_both (stops_at (p.layer r) x) (move_stop p r) p (Epochs p) (λ e. epochs_set p (move_stop p r) r (record (p.layer r) { logging = false }) refl refl) (λ e y. refl)

epochs_restored : (was now : Bool) (p : Protocol) (r : ℕ) → Epochs p (then_restored was now p r)
epochs_restored was now p r = cond_both (not was && now) (move_tell_restored p r) p (Epochs p) (λ e x. refl) (λ e x. refl)

arrive_epoch : (l : Layer) (s : ℕ) (cl : Class) → (layer_arrive l s cl).epoch ≡ l.epoch
arrive_epoch l s Late = refl
arrive_epoch l s Intra = refl
arrive_epoch l s Early = refl

epochs_arrive : (n : ℕ) (p : Protocol) (s r : ℕ) (x : Packet) (rest : List Packet) → Epochs p (then_ready n (move_arrive (then_stop p r x) s r x.1.epoch rest) r)
epochs_arrive n p s r x rest y = let q = then_stop p r x in epochs_ready n (move_arrive q s r x.1.epoch rest) r y ∙ epochs_set q (move_arrive q s r x.1.epoch rest) r (layer_arrive (q.layer r) s (class_of (q.layer r).epoch x.1.epoch)) refl (arrive_epoch (q.layer r) s (class_of (q.layer r).epoch x.1.epoch)) y ∙ epochs_stop p r x y

epochs_handles : (n : ℕ) (p : Protocol) (s r : ℕ) (c : List Control) → Epochs p (handles n p s r c)
epochs_handles n p s r [] x = refl
epochs_handles n p s r (Request l ∷ rest) x = epochs_set p (move_asked p s r rest) r (record (p.layer r) { asked = true }) refl refl x
epochs_handles n p s r (Count l k ∷ rest) x = epochs_ready n (move_told p s r k rest) r x ∙ epochs_set p (move_told p s r k rest) r (record (p.layer r) { told = set_at (p.layer r).told s (Some k) }) refl refl x
epochs_handles n p s r (Ready l ∷ rest) x = ready_cases n p s r l rest (λ z. (z.layer x).epoch ≡ (p.layer x).epoch) (λ _ _. refl) (λ _ _. refl) (λ _. refl)
epochs_handles n p s r (Stop l ∷ rest) x = cond_both (p.layer r).logging (move_stop (move_pop p s r rest) r) (move_pop p s r rest) (λ z. (z.layer x).epoch ≡ (p.layer x).epoch)
    (λ e. epochs_set (move_pop p s r rest) (move_stop (move_pop p s r rest) r) r (record (p.layer r) { logging = false }) refl refl x) (λ e. refl)
epochs_handles n p s r (Stopped l ∷ rest) x = stopped_cases n p s r l rest (λ z. (z.layer x).epoch ≡ (p.layer x).epoch) (λ _ _. refl) (λ _ _. refl) (λ _. refl)
epochs_handles n p s r (Restored ∷ rest) x = refl

-- a turn leaves the layers of the others
ready_other : (n : ℕ) (p : Protocol) (r x : ℕ) → (x ≡ r → ⊥) → ((then_ready n p r).layer x).epoch ≡ (p.layer x).epoch
ready_other n p r x e = epochs_ready n p r x

turn_other : (n : ℕ) (p : Protocol) (r : ℕ) (d : Did) (x : ℕ) → (x ≡ r → ⊥) → ((protocol_after n p r d).layer x).epoch ≡ (p.layer x).epoch
turn_other n p r Nothing x e = refl
turn_other n p r Local x e = refl
turn_other n p r (Sent to m) x e = cond_both (nat_lt 0 ((p.layer r).skip to)) (move_skip p r to) (move_send p r to m) (λ z. (z.layer x).epoch ≡ (p.layer x).epoch)
    (λ _. ap (λ l. l.epoch) (set_at-other p.layer r (record (p.layer r) { sent = set_at (p.layer r).sent to (suc ((p.layer r).sent to)); skip = set_at (p.layer r).skip to (pred ((p.layer r).skip to)) }) x e))
    (λ _. ap (λ l. l.epoch) (set_at-other p.layer r (layer_send (p.layer r) to) x e))
turn_other n p r Marked x e = cond_both (p.layer r).asked (then_ready n (move_save p r) r) p (λ z. (z.layer x).epoch ≡ (p.layer x).epoch)
    (λ _. epochs_ready n (move_save p r) r x ∙ ap (λ l. l.epoch) (set_at-other p.layer r (layer_save (p.layer r)) x e)) (λ _. refl)

saved_as : (p p' : Protocol) (x : ℕ) → (p'.layer x).epoch ≡ (p.layer x).epoch → p'.wave.line ≡ p.wave.line → after_save p' x ≡ after_save p x
saved_as p p' x e l = ap (λ k. k == suc p'.wave.line) e ∙ ap (λ k. (p.layer x).epoch == suc k) l

compared_in : (n : ℕ) (p : Protocol) (r : ℕ) → r < n → compared n p r ≡ after_save p r
compared_in n p r a = cond-true (nat_lt r n) (after_save p r) true (lt-ltb r n a)

compared_less : (n : ℕ) (p p' : Protocol) (r : ℕ) → (r < n → after_save p' r ≡ true → after_save p r ≡ true) → compared n p' r ≡ true → compared n p r ≡ true
compared_less n p p' r h = go (nat_lt r n) refl
  where
    go : (b : Bool) → nat_lt r n ≡ b → (if b then after_save p' r else true) ≡ true → (if b then after_save p r else true) ≡ true
    go true e f = h (ltb-true r n e) f
    go false e f = refl

-- What was written.
weaker : {S : Type 0} (b d : Bool) (w v : Written S) → (d ≡ true → b ≡ true) → IsSaved b w v → IsSaved d w v
weaker b d w v f h = record { early = h.early; log = h.log; ops = h.ops; image = λ e. h.image (f e) }

turn_saved : {S : Type 0} (stopped saved : Bool) (w v : Written S) (t : Turned S) → (stopped ≡ true → saved ≡ true) → IsSaved saved w v → IsSaved true (written_turn stopped saved w t) (written_turn stopped saved v t)
turn_saved true saved w v t f h = record { early = h.early; log = h.log; ops = h.ops; image = λ e. h.image (f refl) }
turn_saved false true w v t f h = record { early = h.early; log = h.log; ops = ap (λ k. if is_operation t.did then suc k else k) h.ops; image = λ e. h.image refl }
turn_saved false false w v t f h = record { early = h.early; log = h.log; ops = h.ops; image = λ e. refl }

idle_saved : {S : Type 0} (stopped saved : Bool) (w v : Written S) (t : Turned S) → t.did ≡ Nothing → IsSaved saved w v → IsSaved saved w (written_turn stopped saved v t)
idle_saved true saved w v t e h = h
idle_saved false true w v t e h = record { early = h.early; log = h.log; ops = ap (λ d. if is_operation d then suc v.ops else v.ops) e ∙ h.ops; image = h.image }
idle_saved false false w v t e h = record { early = h.early; log = h.log; ops = h.ops; image = λ d. absurd (false≢true d) }

arrive_saved : {S : Type 0} (stopped saved : Bool) (cl : Class) (w v : Written S) (s : ℕ) (m : Message) → IsSaved saved w v → IsSaved saved (written_arrive stopped saved cl w s m) (written_arrive stopped saved cl v s m)
arrive_saved true saved cl w v s m h = h
arrive_saved false true cl w v s m h = record { early = h.early; log = ap (λ l. (written_arrive false true cl (record { image = v.image; early = v.early; log = l; ops = v.ops }) s m).log) h.log; ops = h.ops; image = h.image }
arrive_saved false false cl w v s m h = record { early = ap (λ f. (written_arrive false false cl (record { image = v.image; early = f; log = v.log; ops = v.ops }) s m).early) h.early; log = h.log; ops = h.ops; image = λ d. absurd (false≢true d) }

-- Ranks after an arrival.
arrive_rank : {S : Type 0} (P : Stepping S) (most : ℕ) (k u : Rank S) (s : ℕ) (m : Message) → IsRank P most k u → IsRank P most (arrive k s m) (arrive u s m)
arrive_rank P most k u s m h = record { pauses = h.pauses; few = h.few; machine = h.machine; mail = ap (λ l. (arrive (record { machine = u.machine; mail = l; output = u.output }) s m).mail) h.mail; output = h.output }

absorb_rank : {S : Type 0} (P : Stepping S) (most i j : ℕ) (k u : Rank S) (log : List Entry) → IsRank P most k u → IsRank P most (absorb i k log).rank (absorb j u log).rank
absorb_rank P most i j k u [] h = h
absorb_rank P most i j k u (Late_entry s m ∷ log) h = absorb_rank P most i j (arrive k s m) (arrive u s m) log (arrive_rank P most k u s m h)
absorb_rank P most i j k u (Intra_entry s ∷ log) h = h

more_rank : {S : Type 0} (P : Stepping S) (most : ℕ) (k u : Rank S) → IsRank P most k u → IsRank P (suc most) k u
more_rank P most k u h = record { pauses = h.pauses; few = omega (arith, h.few); machine = h.machine; mail = h.mail; output = h.output }

same_rank : {S : Type 0} (P : Stepping S) (most : ℕ) (k u : Rank S) → u ≡ k → IsRank P most k u
same_rank P most k u e = record { pauses = 0; few = omega arith; machine = Same refl (ap (λ x. x.machine) (sym e)); mail = ap (λ x. x.mail) e; output = ap (λ x. x.output) e }

-- one rank's record against another
record IsOne {S : Type 0} (P : Stepping S) (most : ℕ) (o v : Replaying S) : Type 0 where
  log : v.log ≡ o.log
  left : v.left ≡ o.left
  rank : IsRank P most o.rank v.rank

back_same : {S : Type 0} (o v : Replaying S) → v.log ≡ o.log → v.left ≡ o.left → is_back v ≡ is_back o
back_same o v e f = ap (λ l. not (restores l v.left)) e ∙ ap (λ k. not (restores o.log k)) f

landed_log : {S : Type 0} (o v : Replaying S) (log : List Entry) (s : ℕ) (m : Message) → v.log ≡ o.log → v.left ≡ o.left → ((landed v log s m).log ≡ (landed o log s m).log) × ((landed v log s m).left ≡ (landed o log s m).left)
landed_log o v [] s m e f = (e, f)
landed_log o v (x ∷ log) s m e f = (absorb_log v.left o.left (arrive v.rank s m) (arrive o.rank s m) log, absorb_left v.left (arrive v.rank s m) log ∙ f ∙ sym (absorb_left o.left (arrive o.rank s m) log))

landed_rank : {S : Type 0} (P : Stepping S) (most : ℕ) (o v : Replaying S) (log : List Entry) (s : ℕ) (m : Message) → IsRank P most o.rank v.rank → IsRank P most (landed o log s m).rank (landed v log s m).rank
landed_rank P most o v [] s m h = arrive_rank P most o.rank v.rank s m h
landed_rank P most o v (x ∷ log) s m h = absorb_rank P most o.left v.left (arrive o.rank s m) (arrive v.rank s m) log (arrive_rank P most o.rank v.rank s m h)

-- The core with the protocol and the kills of another.
abbrev over : {S : Type 0} → Core S → (ℕ → Replaying S) → (ℕ → Written S) → (ℕ → Written S) → Core S
over a o s w = record { one = o; killed = a.killed; saved = s; written = w; protocol = a.protocol }

over_path : {S : Type 0} (P : Stepping S) (n most : ℕ) (a c : Core S) → IsCore P n most a c → c ≡ over a c.one c.saved c.written
over_path P n most a c is = ap (λ k. record { one = c.one; killed = k; saved = c.saved; written = c.written; protocol = c.protocol }) is.killed ∙ ap (λ p. record { one = c.one; killed = a.killed; saved = c.saved; written = c.written; protocol = p }) is.protocol

over_is : {S : Type 0} (P : Stepping S) (n most : ℕ) (a c : Core S) → IsCore P n most a c → IsCore P n most a (over a c.one c.saved c.written)
over_is P n most a c is = record { log = is.log; left = is.left; rank = is.rank; beyond = is.beyond; killed = refl; saved = is.saved; written = is.written; protocol = refl }

no_tell : (b : Bool) (p : Protocol) (r : ℕ) → then_restored b b p r ≡ p
no_tell true p r = refl
no_tell false p r = refl

stopped_saved : (p : Protocol) (r : ℕ) → after_stop p r ≡ true → after_save p r ≡ true
stopped_saved p r e = (and_parts ((p.layer r).epoch == suc p.wave.line) (not (p.layer r).logging) e).0

-- Where it operates, the other does too.
op_core : {S : Type 0} (P : Stepping S) (n most : ℕ) (a : Core S) (o : ℕ → Replaying S) (s w : ℕ → Written S) (r : ℕ) (t : Turned S) → r < n → IsCore P n most a (over a o s w) → IsCore P n (suc most) (core_turned n a r t) (core_turned n (over a o s w) r t)
op_core {S} P n most a o s w r t inside is = record {
  log = λ x. at_set_both (λ u v. v.log ≡ u.log) a.one o r (one_turned (a.one r) t) (one_turned (o r) t) x (λ _. is.log r) (λ _. is.log x);
  left = λ x. at_set_both (λ u v. v.left ≡ u.left) a.one o r (one_turned (a.one r) t) (one_turned (o r) t) x (λ _. left) (λ _. is.left x);
  rank = λ x b. at_set_both (λ u v. IsRank P (suc most) u.rank v.rank) a.one o r (one_turned (a.one r) t) (one_turned (o r) t) x (λ _. same_rank P (suc most) t.rank t.rank refl) (λ _. more_rank P most (a.one x).rank (o x).rank (is.rank x b));
  beyond = λ x b. at_set_both (λ u v. v.rank ≡ u.rank) a.one o r (one_turned (a.one r) t) (one_turned (o r) t) x (λ _. refl) (λ _. is.beyond x b);
  killed = refl;
  saved = is.saved;
  written = λ x. at_set_both (IsSaved (compared n p' x)) a.written w r (written_turn (after_stop p r) (after_save p r) (a.written r) t) (written_turn (after_stop p r) (after_save p r) (w r) t) x
      (λ _. weaker true (compared n p' x) (written_turn (after_stop p r) (after_save p r) (a.written r) t) (written_turn (after_stop p r) (after_save p r) (w r) t) (λ _. refl)
      (turn_saved (after_stop p r) (after_save p r) (a.written r) (w r) t (stopped_saved p r) (weaker (compared n p r) (after_save p r) (a.written r) (w r) (λ f. compared_in n p r inside ∙ f) (is.written r))))
      (λ e. weaker (compared n p x) (compared n p' x) (a.written x) (w x)
      (compared_less n p p' x (λ _ f. sym (saved_as p p' x (epochs_restored (is_back (a.one r)) (is_back (one_turned (a.one r) t)) q r x ∙ turn_other n p r t.did x e) (ap (λ v. v.line) (restored_wave (is_back (a.one r)) (is_back (one_turned (a.one r) t)) q r ∙ after_wave n p r t.did))) ∙ f))
      (is.written x));
  protocol = ap (λ b. then_restored b (is_back (one_turned (o r) t)) q r) (back_same (a.one r) (o r) (is.log r) (is.left r)) ∙ ap (λ b. then_restored (is_back (a.one r)) b q r) (back_same (one_turned (a.one r) t) (one_turned (o r) t) (is.log r) left);
}
  where
    p : Protocol
    p = a.protocol

    q : Protocol
    q = protocol_after n p r t.did

    p' : Protocol
    p' = then_restored (is_back (a.one r)) (is_back (one_turned (a.one r) t)) q r

    left : (one_turned (o r) t).left ≡ (one_turned (a.one r) t).left
    left = ap (λ k. if is_operation t.did then pred k else k) (is.left r)

-- Where it makes only local steps, the other stays.
idle_core : {S : Type 0} (P : Stepping S) (n most : ℕ) (a : Core S) (o : ℕ → Replaying S) (s w : ℕ → Written S) (r : ℕ) (t : Turned S) → r < n → t.did ≡ Nothing → IsRank P (suc most) (a.one r).rank t.rank → IsCore P n most a (over a o s w) → IsCore P n (suc most) a (core_turned n (over a o s w) r t)
idle_core {S} P n most a o s w r t inside none rank is = record {
  log = λ x. at_set (λ v. v.log ≡ (a.one x).log) o r (one_turned (o r) t) x (λ e. ap (λ z. (o z).log) (sym e) ∙ is.log x) (λ _. is.log x);
  left = λ x. at_set (λ v. v.left ≡ (a.one x).left) o r (one_turned (o r) t) x (λ e. left ∙ ap (λ z. (o z).left) (sym e) ∙ is.left x) (λ _. is.left x);
  rank = λ x b. at_set (λ v. IsRank P (suc most) (a.one x).rank v.rank) o r (one_turned (o r) t) x (λ e. subst (λ z. IsRank P (suc most) (a.one z).rank t.rank) (sym e) rank) (λ _. more_rank P most (a.one x).rank (o x).rank (is.rank x b));
  beyond = λ x b. at_set (λ v. v.rank ≡ (a.one x).rank) o r (one_turned (o r) t) x (λ e. absurd (omega arith)) (λ _. is.beyond x b);
  killed = refl;
  saved = is.saved;
  written = λ x. at_set (IsSaved (compared n p x) (a.written x)) w r (written_turn (after_stop p r) (after_save p r) (w r) t) x
      (λ e. subst (λ z. IsSaved (compared n p z) (a.written z) (written_turn (after_stop p r) (after_save p r) (w r) t)) (sym e)
      (weaker (after_save p r) (compared n p r) (a.written r) (written_turn (after_stop p r) (after_save p r) (w r) t) (λ f. sym (compared_in n p r inside) ∙ f)
      (idle_saved (after_stop p r) (after_save p r) (a.written r) (w r) t none (weaker (compared n p r) (after_save p r) (a.written r) (w r) (λ f. compared_in n p r inside ∙ f) (is.written r)))))
      (λ _. is.written x);
  protocol = ap (λ d. then_restored (is_back (o r)) (is_back (one_turned (o r) t)) (protocol_after n p r d) r) none ∙ ap (λ b. then_restored (is_back (o r)) b p r) (back_same (o r) (one_turned (o r) t) refl left) ∙ no_tell (is_back (o r)) p r;
}
  where
    p : Protocol
    p = a.protocol

    left : (one_turned (o r) t).left ≡ (o r).left
    left = ap (λ d. if is_operation d then pred (o r).left else (o r).left) none

turn_pausing : {S : Type 0} (P : Stepping S) (n b most : ℕ) (a : Core S) (o : ℕ → Replaying S) (s w : ℕ → Written S) (r : ℕ) → r < n → most ≤ b → may_turn (o r).log (o r).left ≡ true → IsKept (without_pauses b P) n a → IsCore P n most a (over a o s w) → IsBeside P n b a o → IsKeptWithin P n b (suc most) (core_turned n (over a o s w) r (step_turn P (o r).rank))
turn_pausing {S} P n b most a o s w r inside few may h is beside = go (turns_pausing P b most (a.one r).rank (o r).rank few (is.rank r inside))
  where
    may' : may_turn (a.one r).log (a.one r).left ≡ true
    may' = sym (ap (λ l. may_turn l (o r).left) (is.log r) ∙ ap (may_turn (a.one r).log) (is.left r)) ∙ may

    go : TurnsPausing P b most (a.one r).rank (o r).rank → IsKeptWithin P n b (suc most) (core_turned n (over a o s w) r (step_turn P (o r).rank))
    go (Operates same op) = record {
      core = core_turned n a r (turn (without_pauses b P) (a.one r).rank);
      kept = turn_kept (without_pauses b P) n a r inside may' h;
      is = subst (λ t. IsCore P n (suc most) (core_turned n a r (turn (without_pauses b P) (a.one r).rank)) (core_turned n (over a o s w) r t)) (sym same) (op_core P n most a o s w r (turn (without_pauses b P) (a.one r).rank) inside is);
      beside = subst (λ t. IsBeside P n b (core_turned n a r (turn (without_pauses b P) (a.one r).rank)) (set_at o r (one_turned (o r) t))) (sym same) (beside_op P n b a o r (turn (without_pauses b P) (a.one r).rank) inside may' same refl (ap (λ t. is_operation t.did) (sym same) ∙ op) beside);
    }
    go (Goes_on none rank) = record { core = a; kept = h; is = idle_core P n most a o s w r (step_turn P (o r).rank) inside none rank is; beside = beside_idle P n b a o r inside may' none beside }

-- An arrival.
arrival_pausing : {S : Type 0} (P : Stepping S) (n most : ℕ) (a : Core S) (o : ℕ → Replaying S) (s w : ℕ → Written S) (x r : ℕ) (m : Packet) (rest : List Packet) → r < n → IsCore P n most a (over a o s w)
    → IsCore P n most (core_arrived n a x r (landed (a.one r) (a.one r).log x m.0) m rest) (core_arrived n (over a o s w) x r (landed (o r) (o r).log x m.0) m rest)
arrival_pausing {S} P n most a o s w x r m rest inside is = subst (λ l. IsCore P n most (core_arrived n a x r (landed (a.one r) (a.one r).log x m.0) m rest) (core_arrived n (over a o s w) x r (landed (o r) l x m.0) m rest)) (sym (is.log r)) (record {
  log = λ y. at_set_both (λ u v. v.log ≡ u.log) a.one o r u v y (λ _. both.0) (λ _. is.log y);
  left = λ y. at_set_both (λ u v. v.left ≡ u.left) a.one o r u v y (λ _. both.1) (λ _. is.left y);
  rank = λ y b. at_set_both (λ u v. IsRank P most u.rank v.rank) a.one o r u v y (λ e. landed_rank P most (a.one r) (o r) (a.one r).log x m.0 (is.rank r (subst (λ z. z < n) e b))) (λ _. is.rank y b);
  beyond = λ y b. at_set_both (λ u v. v.rank ≡ u.rank) a.one o r u v y (λ e. absurd (omega arith)) (λ _. is.beyond y b);
  killed = refl;
  saved = is.saved;
  written = λ y. at_set_both (IsSaved (compared n p' y)) a.written w r (written_arrive (after_stop q r) (after_save q r) cl (a.written r) x m.0) (written_arrive (after_stop q r) (after_save q r) cl (w r) x m.0) y
      (λ e. subst (λ z. IsSaved (compared n p' z) (written_arrive (after_stop q r) (after_save q r) cl (a.written r) x m.0) (written_arrive (after_stop q r) (after_save q r) cl (w r) x m.0)) (sym e) here)
      (λ _. weaker (compared n p y) (compared n p' y) (a.written y) (w y) (compared_less n p p' y (λ _ f. sym (same y) ∙ f)) (is.written y));
  protocol = ap (λ b. then_restored b (is_back v) moved r) (back_same (a.one r) (o r) (is.log r) (is.left r)) ∙ ap (λ b. then_restored (is_back (a.one r)) b moved r) (back_same u v both.0 both.1);
})
  where
    p : Protocol
    p = a.protocol

    q : Protocol
    q = then_stop p r m

    moved : Protocol
    moved = then_ready n (move_arrive q x r m.1.epoch rest) r

    u : Replaying S
    u = landed (a.one r) (a.one r).log x m.0

    v : Replaying S
    v = landed (o r) (a.one r).log x m.0

    both : (v.log ≡ u.log) × (v.left ≡ u.left)
    both = landed_log (a.one r) (o r) (a.one r).log x m.0 (is.log r) (is.left r)

    p' : Protocol
    p' = then_restored (is_back (a.one r)) (is_back u) moved r

    cl : Class
    cl = class_of (q.layer r).epoch m.1.epoch

    same : (y : ℕ) → after_save p' y ≡ after_save p y
    same y = saved_as p p' y (epochs_restored (is_back (a.one r)) (is_back u) moved r y ∙ epochs_arrive n p x r m rest y) (ap (λ z. z.line) (restored_wave (is_back (a.one r)) (is_back u) moved r ∙ ready_wave n (move_arrive q x r m.1.epoch rest) r ∙ stop_wave p r m))

    then_saved : after_save q r ≡ after_save p r
    then_saved = saved_as p q r (epochs_stop p r m r) (ap (λ z. z.line) (stop_wave p r m))

    here : IsSaved (compared n p' r) (written_arrive (after_stop q r) (after_save q r) cl (a.written r) x m.0) (written_arrive (after_stop q r) (after_save q r) cl (w r) x m.0)
    here = weaker (after_save q r) (compared n p' r) (written_arrive (after_stop q r) (after_save q r) cl (a.written r) x m.0) (written_arrive (after_stop q r) (after_save q r) cl (w r) x m.0) (λ f. then_saved ∙ sym (same r) ∙ sym (compared_in n p' r inside) ∙ f)
        (arrive_saved (after_stop q r) (after_save q r) cl (a.written r) (w r) x m.0 (weaker (compared n p r) (after_save q r) (a.written r) (w r) (λ f. compared_in n p r inside ∙ sym then_saved ∙ f) (is.written r)))

-- A control.
bit_true : (b : Bool) → 1 ≤ bit b → b ≡ true
bit_true true h = refl
bit_true false h = absurd (omega arith)

handle_pausing : {S : Type 0} (P : Stepping S) (n b most : ℕ) (a : Core S) (o : ℕ → Replaying S) (s w : ℕ → Written S) (x r : ℕ) → x < n → r < n → IsKept (without_pauses b P) n a → IsCore P n most a (over a o s w)
    → IsCore P n most (core_handled a (handles n a.protocol x r (a.protocol.control x r))) (core_handled (over a o s w) (handles n a.protocol x r (a.protocol.control x r)))
handle_pausing {S} P n b most a o s w x r c d h is = record {
  log = is.log;
  left = is.left;
  rank = is.rank;
  beyond = is.beyond;
  killed = refl;
  saved = go (nat_lt p.wave.line p'.wave.line) refl;
  written = λ y. weaker (compared n p y) (compared n p' y) (a.written y) (w y) (compared_less n p p' y (λ e f. sym (saved_as p p' y (epochs_handles n p x r l y) (same_line y e f)) ∙ f)) (is.written y);
  protocol = refl;
}
  where
    p : Protocol
    p = a.protocol

    l : List Control
    l = p.control x r

    p' : Protocol
    p' = handles n p x r l

    kept' : Kept n p'
    kept' = (inv_handles n p x r l c d refl h.protocol).kept

    same_line : (y : ℕ) → y < n → after_save p' y ≡ true → p'.wave.line ≡ p.wave.line
    same_line y e f = ((calm_handles n p x r l).wave (bit_true p'.wave.under_way (omega (arith, (kept'.rank y e).most, eqb-true (p'.layer y).epoch (suc p'.wave.line) f)))).1

    go : (b : Bool) → nat_lt p.wave.line p'.wave.line ≡ b → (y : ℕ) → IsSaved true ((if b then a.written else a.saved) y) ((if b then w else s) y)
    go true e y = weaker (compared n p y) true (a.written y) (w y) (λ _. cond_both (nat_lt y n) (after_save p y) true (λ z. z ≡ true) (λ f. eq-eqb (p.layer y).epoch (suc p.wave.line) (committed_saved n p x r l refl h.protocol (ltb-true p.wave.line p'.wave.line e) y (ltb-true y n f)).0) (λ _. refl)) (is.written y)
    go false e y = is.saved y

-- A wave begins.
begin_pausing : {S : Type 0} (P : Stepping S) (n b most : ℕ) (a : Core S) (o : ℕ → Replaying S) (s w : ℕ → Written S) → a.protocol.wave.under_way ≡ false → IsKept (without_pauses b P) n a → IsCore P n most a (over a o s w)
    → IsCore P n most (core_began a) (core_began (over a o s w))
begin_pausing P n b most a o s w none h is = record {
  log = is.log;
  left = is.left;
  rank = is.rank;
  beyond = is.beyond;
  killed = refl;
  saved = is.saved;
  written = λ y. record {
    early = refl;
    log = refl;
    ops = refl;
    image = λ f. ⊎_elim
        (λ e. absurd (omega (arith, (h.protocol.kept.rank y e).most, ap bit none, eqb-true (a.protocol.layer y).epoch (suc a.protocol.wave.line) (sym (compared_in n (move_start a.protocol) y e) ∙ f))))
        (λ e. is.beyond y e)
        (cases_lt y n);
  };
  protocol = refl;
}

-- An event of the core.
abbrev pub NoTurn : Event → Type 0
NoTurn (Turn r) = ⊥
NoTurn (Deliver s r) = Unit {0}
NoTurn (Handle s r) = Unit {0}
NoTurn Begin_wave = Unit {0}

delivers_pausing : {S : Type 0} (P : Stepping S) (n b most : ℕ) (a : Core S) (o : ℕ → Replaying S) (s w : ℕ → Written S) (x r : ℕ) (q : List Packet) → x < n → r < n → a.protocol.channel x r ≡ q → accepts (o r).log (o r).left x ≡ true → IsKept (without_pauses b P) n a → IsCore P n most a (over a o s w) → IsBeside P n b a o
    → IsKeptWithin P n b most (core_delivers n (over a o s w) x r q)
delivers_pausing P n b most a o s w x r [] c d e ok h is beside = record { core = a; kept = h; is = is; beside = beside }
delivers_pausing P n b most a o s w x r (m ∷ rest) c d e ok h is beside = record {
  core = core_delivers n a x r (m ∷ rest);
  kept = deliver_kept (without_pauses b P) n a x r (m ∷ rest) c d ok' e h;
  is = arrival_pausing P n most a o s w x r m rest d is;
  beside = beside_arrival P n b a o x r m rest c d ok' e (is.log r) (is.left r) beside;
}
  where
    ok' : accepts (a.one r).log (a.one r).left x ≡ true
    ok' = sym (ap (λ l. accepts l (o r).left x) (is.log r) ∙ ap (λ k. accepts (a.one r).log k x) (is.left r)) ∙ ok

over_still : {S : Type 0} (P : Stepping S) (n b most : ℕ) (a : Core S) (o : ℕ → Replaying S) (s w : ℕ → Written S) (e : Event) → NoTurn e → IsKept (without_pauses b P) n a → IsCore P n most a (over a o s w) → IsBeside P n b a o → IsKeptWithin P n b most (step_of (stepping P) n (over a o s w) e)
over_still P n b most a o s w (Turn r) still h is beside = absurd still
over_still P n b most a o s w (Deliver x r) still h is beside = cond_both (nat_lt x n && (nat_lt r n && (not (a.killed r) && accepts (o r).log (o r).left x))) (core_delivers n (over a o s w) x r (a.protocol.channel x r)) (over a o s w) (IsKeptWithin P n b most)
    (λ e. let one = and_parts (nat_lt x n) (nat_lt r n && (not (a.killed r) && accepts (o r).log (o r).left x)) e in
    let two = and_parts (nat_lt r n) (not (a.killed r) && accepts (o r).log (o r).left x) one.1 in
    delivers_pausing P n b most a o s w x r (a.protocol.channel x r) (ltb-true x n one.0) (ltb-true r n two.0) refl (and_parts (not (a.killed r)) (accepts (o r).log (o r).left x) two.1).1 h is beside)
    (λ e. record { core = a; kept = h; is = is; beside = beside })
over_still P n b most a o s w (Handle x r) still h is beside = cond_both (nat_lt x n && (nat_lt r n && not (a.killed r))) (core_handled (over a o s w) (handles n a.protocol x r (a.protocol.control x r))) (over a o s w) (IsKeptWithin P n b most)
    (λ e. let one = and_parts (nat_lt x n) (nat_lt r n && not (a.killed r)) e in let d = ltb-true r n (and_parts (nat_lt r n) (not (a.killed r)) one.1).0 in
    record { core = core_handled a (handles n a.protocol x r (a.protocol.control x r)); kept = handle_kept (without_pauses b P) n a x r (ltb-true x n one.0) d h; is = handle_pausing P n b most a o s w x r (ltb-true x n one.0) d h is; beside = beside_same P n b a (core_handled a (handles n a.protocol x r (a.protocol.control x r))) o refl (along_handle n a x r (a.protocol.control x r)) beside })
    (λ e. record { core = a; kept = h; is = is; beside = beside })
over_still P n b most a o s w Begin_wave still h is beside = cond_both (may_begin n a) (core_began (over a o s w)) (over a o s w) (IsKeptWithin P n b most)
    (λ e. let one = and_parts (not (a.killed 0)) (not a.protocol.wave.under_way && (nat_lt a.protocol.wave.line last_line && all_below n a.protocol.restored)) e in
    let two = and_parts (not a.protocol.wave.under_way) (nat_lt a.protocol.wave.line last_line && all_below n a.protocol.restored) one.1 in
    let none = not-true a.protocol.wave.under_way two.0 in
    record { core = core_began a; kept = begin_kept (without_pauses b P) n a none (all_below-at n a.protocol.restored (and_parts (nat_lt a.protocol.wave.line last_line) (all_below n a.protocol.restored) two.1).1) h; is = begin_pausing P n b most a o s w none h is; beside = beside_same P n b a (core_began a) o refl refl beside })
    (λ e. record { core = a; kept = h; is = is; beside = beside })

more_core : {S : Type 0} (P : Stepping S) (n b most : ℕ) (c : Core S) → IsKeptWithin P n b most c → IsKeptWithin P n b (suc most) c
more_core P n b most c h = record { core = h.core; kept = h.kept; is = record { log = h.is.log; left = h.is.left; rank = λ r a. more_rank P most (h.core.one r).rank (c.one r).rank (h.is.rank r a); beyond = h.is.beyond; killed = h.is.killed; saved = h.is.saved; written = h.is.written; protocol = h.is.protocol }; beside = h.beside }

pub step_still : {S : Type 0} (P : Stepping S) (n b most : ℕ) (c : Core S) (e : Event) → NoTurn e → IsKeptWithin P n b most c → IsKeptWithin P n b most (step_of (stepping P) n c e)
step_still P n b most c e still h = subst (λ d. IsKeptWithin P n b most (step_of (stepping P) n d e)) (sym (over_path P n most h.core c h.is)) (over_still P n b most h.core c.one c.saved c.written e still h.kept (over_is P n most h.core c h.is) h.beside)

pub step_pausing : {S : Type 0} (P : Stepping S) (n b most : ℕ) (c : Core S) (e : Event) → most ≤ b → IsKeptWithin P n b most c → IsKeptWithin P n b (suc most) (step_of (stepping P) n c e)
step_pausing P n b most c (Turn r) few h = subst (λ d. IsKeptWithin P n b (suc most) (step_of (stepping P) n d (Turn r))) (sym (over_path P n most h.core c h.is))
    (cond_both (nat_lt r n && (not (h.core.killed r) && may_turn (c.one r).log (c.one r).left)) (core_turned n (over h.core c.one c.saved c.written) r (step_turn P (c.one r).rank)) (over h.core c.one c.saved c.written) (IsKeptWithin P n b (suc most))
    (λ e. let one = and_parts (nat_lt r n) (not (h.core.killed r) && may_turn (c.one r).log (c.one r).left) e in
    turn_pausing P n b most h.core c.one c.saved c.written r (ltb-true r n one.0) few (and_parts (not (h.core.killed r)) (may_turn (c.one r).log (c.one r).left) one.1).1 h.kept (over_is P n most h.core c h.is) h.beside)
    (λ e. more_core P n b most (over h.core c.one c.saved c.written) (record { core = h.core; kept = h.kept; is = over_is P n most h.core c h.is; beside = h.beside })))
step_pausing P n b most c (Deliver s r) few h = more_core P n b most (step_of (stepping P) n c (Deliver s r)) (step_still P n b most c (Deliver s r) tt h)
step_pausing P n b most c (Handle s r) few h = more_core P n b most (step_of (stepping P) n c (Handle s r)) (step_still P n b most c (Handle s r) tt h)
step_pausing P n b most c Begin_wave few h = more_core P n b most (step_of (stepping P) n c Begin_wave) (step_still P n b most c Begin_wave tt h)

-- A sweep has no turns.
no_times : (k : ℕ) (e : Event) → NoTurn e → AllByRecursion NoTurn (times k e)
no_times zero e h = tt
no_times (suc k) e h = (h, no_times k e h)

pub no_append : (l k : List Event) → AllByRecursion NoTurn l → AllByRecursion NoTurn k → AllByRecursion NoTurn (l ++ k)
no_append [] k h j = j
no_append (e ∷ l) k h j = (h.0, no_append l k h.1 j)

no_row : (e : ℕ → Event) (count : ℕ → ℕ) (l : List ℕ) → ((r : ℕ) → NoTurn (e r)) → AllByRecursion NoTurn (row_events e count l)
no_row e count [] h = tt
no_row e count (r ∷ l) h = no_append (times (count r) (e r)) (row_events e count l) (no_times (count r) (e r) (h r)) (no_row e count l h)

pub no_pairs : (n : ℕ) (e : ℕ → ℕ → Event) (count : ℕ → ℕ → ℕ) (l : List ℕ) → ((s r : ℕ) → NoTurn (e s r)) → AllByRecursion NoTurn (pair_events n e count l)
no_pairs n e count [] h = tt
no_pairs n e count (s ∷ l) h = no_append (row_events (e s) (count s) (below n)) (pair_events n e count l) (no_row (e s) (count s) (below n) (h s)) (no_pairs n e count l h)

steps_still : {S : Type 0} (P : Stepping S) (n b most : ℕ) (es : List Event) (c : Core S) → AllByRecursion NoTurn es → IsKeptWithin P n b most c → IsKeptWithin P n b most (steps_of (stepping P) n c es)
steps_still P n b most [] c still h = h
steps_still P n b most (e ∷ es) c still h = steps_still P n b most es (step_of (stepping P) n c e) still.1 (step_still P n b most c e still.0 h)

pub no_sweep : (n : ℕ) (p : Protocol) → AllByRecursion NoTurn (sweep_events n p)
no_sweep n p = no_append (pair_events n Handle (λ s r. length (p.control s r)) (below n)) (pair_events n Deliver (λ s r. length (p.channel s r)) (below n)) (no_pairs n Handle (λ s r. length (p.control s r)) (below n) (λ s r. tt)) (no_pairs n Deliver (λ s r. length (p.channel s r)) (below n) (λ s r. tt))

pub next_pausing : {S : Type 0} (P : Stepping S) (n b most : ℕ) (c : Core S) (e : Core_event) → most ≤ b → IsKeptWithin P n b most c → IsKeptWithin P n b (suc most) (next_of (stepping P) n c e)
next_pausing P n b most c (Single e) few h = step_pausing P n b most c e few h
next_pausing P n b most c Sweep few h = more_core P n b most (next_of (stepping P) n c Sweep) (steps_still P n b most (sweep_events n c.protocol) c
    (no_sweep n c.protocol) h)
next_pausing {S} P n b most c (Kill r) few h = more_core P n b most (next_of (stepping P) n c (Kill r)) (cond_both (nat_lt r n) (record c { killed = set_at c.killed r true }) c (IsKeptWithin P n b most)
    (λ e. record {
      core = record h.core { killed = set_at h.core.killed r true };
      kept = record { protocol = h.kept.protocol; tells = h.kept.tells; lag = h.kept.lag; plan = h.kept.plan; wave = h.kept.wave; saved = h.kept.saved };
      is = record { log = h.is.log; left = h.is.left; rank = h.is.rank; beyond = h.is.beyond; killed = ap (λ k. set_at k r true) h.is.killed; saved = h.is.saved; written = h.is.written; protocol = h.is.protocol };
      beside = beside_same P n b h.core (record h.core { killed = set_at h.core.killed r true }) c.one refl refl h.beside;
    })
    (λ e. h))

-- The restart, and the beginning.
pub start_pausing : {S : Type 0} (P : Stepping S) (n b most : ℕ) → IsKeptWithin P n b most (start_of (stepping P))
start_pausing P n b most = record {
  core = start_of (ranks (without_pauses b P));
  kept = start_kept (without_pauses b P) n;
  is = record {
    log = λ r. refl;
    left = λ r. refl;
    rank = λ r a. same_rank P most (record { machine = P.begin r; mail = []; output = [] }) (record { machine = P.begin r; mail = []; output = [] }) refl;
    beyond = λ r a. refl;
    killed = refl;
    saved = λ r. record { early = refl; log = refl; ops = refl; image = λ e. refl };
    written = λ r. record { early = refl; log = refl; ops = refl; image = λ e. refl };
    protocol = refl;
  };
  beside = record {
    live = quiet_start_of (stepping P);
    reached = ([], refl);
    ahead = quiet_start_of (stepping P);
    since = λ r. [];
    lags = record { logs = λ r a. refl; stands = λ r a. record { all_made = refl; rank = refl }; pairs = λ s r a b. record { enough = omega arith; rest = refl } };
    back = λ r a e. refl;
    restoring = λ r a e. refl;
    channels = λ s r a b. refl;
    still = λ r a l e. refl;
  };
}

from_rank : {S : Type 0} (n : ℕ) (u v : ℕ → Written S) → ((r : ℕ) → IsSaved true (u r) (v r)) → (r : ℕ) → (one_from (v r)).rank ≡ (one_from (u r)).rank
from_rank n u v h r = ap (λ k. (absorb (v r).ops k (v r).log).rank) ((h r).image refl) ∙ ap (λ l. (absorb (v r).ops (u r).image l).rank) (h r).log ∙ ap (λ k. (absorb k (u r).image (u r).log).rank) (h r).ops

from_beside : {S : Type 0} (P : Stepping S) (n b L : ℕ) (u v : ℕ → Written S) → ((r : ℕ) → IsSaved true (u r) (v r)) → Committed (without_pauses b P) n u → IsBeside P n b (restart_from L u) (restart_from L v).one
from_beside {S} P n b L u v h k = record {
  live = k.line;
  reached = reached_pausing P n b k.line k.stand.reached;
  ahead = k.line;
  since = since;
  lags = lags;
  back = λ r a e. sym (is_none p (one_from (u r)) (since r) (k.line.rank r) (back_is (one_from (u r)) e).1 (no_entries (since r) (sym (lags.logs r a) ∙ (back_is (one_from (u r)) e).0)) (lags.stands r a)) ∙ sym (from_rank n u v h r);
  restoring = λ r a e. refl;
  channels = λ s r a b. refl;
  still = λ r a l e. from_rank n u v h r;
}
  where
    p : Process S
    p = without_pauses b P

    since : ℕ → List Logged
    since r = after_late (k.journal r).since

    lags : Lags p n (back_of (restart_from L u)) k.line since
    lags = subst (λ d. Lags p n d k.line since) (restart_path L u k.journal k.written) (lag_restart p n k.journal k.line k.stand.ranks k.stand.pairs)

from_pausing : {S : Type 0} (P : Stepping S) (n most L : ℕ) (u v : ℕ → Written S) → ((r : ℕ) → IsSaved true (u r) (v r)) → IsCore P n most (restart_from L u) (restart_from L v)
from_pausing {S} P n most L u v h = record {
  log = logs;
  left = lefts;
  rank = λ r a. same_rank P most (one_from (u r)).rank (one_from (v r)).rank (from_rank n u v h r);
  beyond = λ r a. from_rank n u v h r;
  killed = refl;
  saved = h;
  written = λ r. weaker true (compared n (restart_from L u).protocol r) (u r) (v r) (λ f. refl) (h r);
  protocol = ap (λ f. restarted L f (λ r. restores (one_from (v r)).log (one_from (v r)).left)) (fun_ext (λ r. (h r).early)) ∙ ap (restarted L (λ r. (u r).early)) (fun_ext (λ r. ap (λ l. restores l (one_from (v r)).left) (logs r) ∙ ap (restores (one_from (u r)).log) (lefts r)));
}
  where
    logs : (r : ℕ) → (one_from (v r)).log ≡ (one_from (u r)).log
    logs r = absorb_log (v r).ops (u r).ops (v r).image (u r).image (v r).log ∙ ap (λ l. (absorb (u r).ops (u r).image l).log) (h r).log

    lefts : (r : ℕ) → (one_from (v r)).left ≡ (one_from (u r)).left
    lefts r = absorb_left (v r).ops (v r).image (v r).log ∙ (h r).ops ∙ sym (absorb_left (u r).ops (u r).image (u r).log)

pub restart_pausing : {S : Type 0} (P : Stepping S) (n b most : ℕ) (c : Core S) → IsKeptWithin P n b most c → IsKeptWithin P n b most (restart_of (stepping P) c)
restart_pausing P n b most c h = cond_both (c.protocol.wave.line == 0) (start_of (stepping P)) (restart_from c.protocol.wave.line c.saved) (IsKeptWithin P n b most)
    (λ e. start_pausing P n b most)
    (λ e. record { core = restart_from c.protocol.wave.line h.core.saved; kept = restart_kept (without_pauses b P) n c.protocol.wave.line h.core.saved h.kept.saved; is = from_pausing P n most c.protocol.wave.line h.core.saved c.saved h.is.saved; beside = from_beside P n b c.protocol.wave.line h.core.saved c.saved h.is.saved h.kept.saved })

pub session_pausing : {S : Type 0} (P : Stepping S) (n b most : ℕ) (es : List Session_event) (c : Core S) → most + length es ≤ b → IsKeptWithin P n b most c → IsKeptWithin P n b (most + length es) (session_of (stepping P) n c es)
session_pausing P n b most [] c few h = subst (λ k. IsKeptWithin P n b k c) (omega arith) h
session_pausing P n b most (Core_does e ∷ es) c few h = subst (λ k. IsKeptWithin P n b k (session_of (stepping P) n (next_of (stepping P) n c e) es)) (omega arith) (session_pausing P n b (suc most) es (next_of (stepping P) n c e) (omega arith) (next_pausing P n b most c e (omega arith) h))
session_pausing P n b most (Restart ∷ es) c few h = subst (λ k. IsKeptWithin P n b k (session_of (stepping P) n (restart_of (stepping P) c) es)) (omega arith) (session_pausing P n b (suc most) es (restart_of (stepping P) c) (omega arith) (more_core P n b most (restart_of (stepping P) c) (restart_pausing P n b most c h)))

-- In a wave the live state is reached.
pub live_pausing : {S : Type 0} (P : Stepping S) (n b most : ℕ) (c : Core S) → IsKeptWithin P n b most c → c.protocol.wave.under_way ≡ true → IsLivePausing P n c
live_pausing {S} P n b most c h way = record {
  back = λ r a. back_same (h.core.one r) (c.one r) (h.is.log r) (h.is.left r) ∙ all r a;
  live = h.beside.live;
  reached = h.beside.reached;
  ranks = λ r a. h.beside.back r a (all r a);
  channels = λ s r d e. h.beside.channels s r d e ∙ sym (done_channel p n (back_of h.core) h.beside.ahead (λ y f. back_is (h.core.one y) (all y f)) (record { since = h.beside.since; lags = h.beside.lags }) s r d e) ∙ ap (λ q. contents (q.channel s r)) (sym h.is.protocol);
}
  where
    p : Process S
    p = without_pauses b P

    all : (r : ℕ) → r < n → is_back (h.core.one r) ≡ true
    all = (kept_live p n h.core h.kept (ap (λ q. q.wave.under_way) (sym h.is.protocol) ∙ way)).back

-- The line that is saved stands for a state, and a core that restarts from such a line is kept.
pub saved_pausing : {S : Type 0} (P : Stepping S) (n b most : ℕ) (c : Core S) → IsKeptWithin P n b most c → Committed (without_pauses b P) n c.saved
saved_pausing {S} P n b most c h = subst (Committed (without_pauses b P) n) (fun_ext (λ r. same r)) h.kept.saved
  where
    same : (r : ℕ) → h.core.saved r ≡ c.saved r
    same r = let e = h.is.saved r in sym (ap (λ i. record { image = i; early = (c.saved r).early; log = (c.saved r).log; ops = (c.saved r).ops }) (e.image refl)
        ∙ ap (λ f. record { image = (h.core.saved r).image; early = f; log = (c.saved r).log; ops = (c.saved r).ops }) e.early
        ∙ ap (λ l. record { image = (h.core.saved r).image; early = (h.core.saved r).early; log = l; ops = (c.saved r).ops }) e.log
        ∙ ap (λ k. record { image = (h.core.saved r).image; early = (h.core.saved r).early; log = (h.core.saved r).log; ops = k }) e.ops)

pub restarts_pausing : {S : Type 0} (P : Stepping S) (n b most L : ℕ) (w : ℕ → Written S) → Committed (without_pauses b P) n w → IsKeptWithin P n b most (restart_from L w)
restarts_pausing P n b most L w h = let same : (r : ℕ) → IsSaved true (w r) (w r) = λ r. record { early = refl; log = refl; ops = refl; image = λ e. refl } in
    record { core = restart_from L w; kept = restart_kept (without_pauses b P) n L w h; is = from_pausing P n most L w w same; beside = from_beside P n b L w w same h }

pub session_from_start : {S : Type 0} (P : Stepping S) (n : ℕ) (es : List Session_event) → IsKeptWithin P n (length es) (length es) (session_of (stepping P) n (start_of (stepping P)) es)
session_from_start P n es = subst (λ k. IsKeptWithin P n (length es) k (session_of (stepping P) n (start_of (stepping P)) es)) (omega arith) (session_pausing P n (length es) 0 es (start_of (stepping P)) (omega arith) (start_pausing P n (length es) 0))

-- What the core lags behind.
pub lag_pausing : {S : Type 0} (P : Stepping S) (n b most : ℕ) (c : Core S) → most ≤ b → IsKeptWithin P n b most c → IsLagPausing P n b c
lag_pausing {S} P n b most c few h = record {
  ahead = h.beside.live;
  reached = h.beside.reached;
  restored = λ r a e. h.beside.back r a (sym (back_same (a₀.one r) (c.one r) (h.is.log r) (h.is.left r)) ∙ e);
  base = λ r. (a₀.one r).rank;
  since = h.beside.since;
  bases = λ r a. let i = h.is.rank r a in record { pauses = i.pauses; few = omega (arith, i.few); machine = i.machine; mail = i.mail; output = i.output };
  logs = λ r a. h.is.log r ∙ h.beside.lags.logs r a;
  restoring = λ r a e. subst (λ o. Stands p (journal_of o (h.beside.since r)) (h.beside.live.rank r)) (sym (same r)) (subst (λ k. Stands p (journal_of (a₀.one r) (h.beside.since r)) k) (sym (h.beside.restoring r a (sym (back_same (a₀.one r) (c.one r) (h.is.log r) (h.is.left r)) ∙ e))) (h.beside.lags.stands r a));
  pairs = λ s r d e. subst (λ o. PairLags (contents (c.protocol.channel s r)) (sends_to r (replayed p (journal_of o (h.beside.since s))).sends) ((c.protocol.layer s).skip r) (intra_from s (h.beside.since r)) (h.beside.live.channel s r)) (sym (same s))
      (subst (λ q. PairLags (contents (q.channel s r)) (sends_to r (replayed p (journal_of (a₀.one s) (h.beside.since s))).sends) ((q.layer s).skip r) (intra_from s (h.beside.since r)) (h.beside.live.channel s r)) (sym h.is.protocol)
      (subst (λ l. PairLags (contents (a₀.protocol.channel s r)) (sends_to r (replayed p (journal_of (a₀.one s) (h.beside.since s))).sends) ((a₀.protocol.layer s).skip r) (intra_from s (h.beside.since r)) l) (sym (h.beside.channels s r d e)) (h.beside.lags.pairs s r d e)));
  plan = subst (λ q. HasPlan p n (record { one = λ r. record (c.one r) { rank = (a₀.one r).rank }; channel = λ s r. contents (q.channel s r); skip = λ s r. (q.layer s).skip r })) (sym h.is.protocol)
      (subst (λ o. HasPlan p n (record { one = o; channel = λ s r. contents (a₀.protocol.channel s r); skip = λ s r. (a₀.protocol.layer s).skip r })) (sym (fun_ext same)) h.kept.plan);
}
  where
    p : Process S
    p = without_pauses b P

    a₀ : Core S
    a₀ = h.core

    same : (r : ℕ) → Path (Replaying S) (record (c.one r) { rank = (a₀.one r).rank }) (a₀.one r)
    same r = ap (λ l. record { rank = (a₀.one r).rank; log = l; left = (c.one r).left }) (h.is.log r) ∙ ap (λ k. record { rank = (a₀.one r).rank; log = (a₀.one r).log; left = k }) (h.is.left r)
