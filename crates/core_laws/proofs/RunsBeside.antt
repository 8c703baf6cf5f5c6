-- A quiet run of the pausing ranks goes along with the core.
use Rattle.std.proofs.Common.{◌≡◌, ℕ, zero, suc, ◌<◌, Bool, true, false, not, List, [], ◌∷◌, ◌++◌, sym, refl, ap, ◌∙◌, subst, ⊎_elim, arith}
use Rattle.std.specs.Prelude.{nat_lt}
use Rattle.std.proofs.lemmas.Bool.{cond-true, cases_Bool, cases_eq, eqb-true, lt-ltb, false≢true, true≢false}
use Rattle.late_logs.specs.declared.entry.Entry.{Entry}
use Rattle.late_logs.specs.declared.entry.Entry.TheVariants.{Late as Late_entry, Intra as Intra_entry}
use Rattle.mpi_words.specs.declared.message.Message.{Message}
use Rattle.core_laws.specs.Rows.{set_at, set_pair}
use Rattle.core_laws.specs.Protocol.{Packet}
use Rattle.core_laws.specs.Process.{Process, Did, Nothing, Sent, Local, Marked, Turned, turn, arrive, is_operation}
use Rattle.core_laws.specs.Quiet.{Quiet, Turn, Deliver, sends, quiet_turn, IsReached_of}
use Rattle.core_laws.specs.Stopping.{contents}
use Rattle.core_laws.specs.Line.{Logged}
use Rattle.core_laws.specs.Replay.{Replaying, absorb, entries, back_turn, back_arrives, may_turn, Lags}
use Rattle.core_laws.specs.Core.{Core, is_back, restores, one_turned, core_turned, accepts, landed, core_arrived, back_of}
use Rattle.core_laws.specs.Pausing.{Stepping, step_turn, stepping, without_pauses}
use Rattle.core_laws.specs.PausingKept.{IsBeside}
use Rattle.core_laws.proofs.Changes.{at_set, at_set_both, at_set_pair_both, set_at-same, set_at-other}
use Rattle.core_laws.proofs.QuietRuns.{reached_run, turned}
use Rattle.core_laws.proofs.LagKept.{lag_restoring, lag_restored, lag_both, lag_deliver, delivers, is_none, no_entries, entries_are, after_late}
use Rattle.core_laws.proofs.PlanKept.{absorb_left}
use Rattle.core_laws.proofs.CoreReplay.{along_turn, along_arrival}
use Rattle.core_laws.proofs.RestoredTold.{back_is, landed_back}
use Rattle.core_laws.proofs.PausedRuns.{sends_none}

-- what a restoring rank that may turn, or takes a message, has left
may_not : (log : List Entry) (left : ℕ) → may_turn log left ≡ true → left ≡ 0 → not (restores log left) ≡ false → ⊥
may_not [] zero m z e = true≢false e
may_not [] (suc left) m z e = absurd (omega arith)
may_not (x ∷ log) zero m z e = false≢true m
may_not (x ∷ log) (suc left) m z e = absurd (omega arith)

some_left : (log : List Entry) (left : ℕ) → may_turn log left ≡ true → not (restores log left) ≡ false → (j : ℕ) × (left ≡ suc j)
some_left log zero m e = absurd (may_not log zero m refl e)
some_left log (suc left) m e = (left, refl)

takes_entry : (log : List Entry) (left s : ℕ) → accepts log left s ≡ true → not (restores log left) ≡ false → (rest : List Entry) × (log ≡ Intra_entry s ∷ rest)
takes_entry [] zero s ok e = absurd (true≢false e)
takes_entry [] (suc left) s ok e = absurd (false≢true ok)
takes_entry (Late_entry a m ∷ log) left s ok e = absurd (false≢true ok)
takes_entry (Intra_entry a ∷ log) left s ok e = (log, ap (λ z. Intra_entry z ∷ log) (eqb-true a s ok))

landed_same : {S : Type 0} (o v : Replaying S) (log : List Entry) (s : ℕ) (m : Message) → v.rank ≡ o.rank → v.left ≡ o.left → (landed v log s m).rank ≡ (landed o log s m).rank
landed_same o v [] s m e f = ap (λ k. arrive k s m) e
landed_same o v (x ∷ log) s m e f = ap (λ k. (absorb v.left (arrive k s m) log).rank) e ∙ ap (λ j. (absorb j (arrive o.rank s m) log).rank) f

sends_same : (n : ℕ) (q q' : ℕ → ℕ → List Message) (r : ℕ) (d : Did) → ((s y : ℕ) → s < n → y < n → q s y ≡ q' s y) → (s y : ℕ) → s < n → y < n → sends q r d s y ≡ sends q' r d s y
sends_same n q q' r Nothing h s y a b = h s y a b
sends_same n q q' r Local h s y a b = h s y a b
sends_same n q q' r Marked h s y a b = h s y a b
sends_same n q q' r (Sent to m) h s y a b = at_set_pair_both (λ u v. u ≡ v) q q' r to (q r to ++ m ∷ []) (q' r to ++ m ∷ []) s y (λ es ey. ap (λ l. l ++ m ∷ []) (h r to (subst (λ z. z < n) es a) (subst (λ z. z < n) ey b))) (h s y a b)

-- a turn of the pausing ranks
reached_turn : {S : Type 0} (P : Stepping S) (n : ℕ) (q : Quiet S) (r : ℕ) → r < n → IsReached_of (stepping P) n q → IsReached_of (stepping P) n (quiet_turn q r (step_turn P (q.rank r)))
reached_turn P n q r a h = subst (IsReached_of (stepping P) n) (cond-true (nat_lt r n) (quiet_turn q r (step_turn P (q.rank r))) q (lt-ltb r n a)) (reached_run (stepping P) n q (Turn r ∷ []) h)

-- Local steps.
pub beside_idle : {S : Type 0} (P : Stepping S) (n b : ℕ) (a : Core S) (o : ℕ → Replaying S) (r : ℕ) → r < n → may_turn (a.one r).log (a.one r).left ≡ true → (step_turn P (o r).rank).did ≡ Nothing → IsBeside P n b a o → IsBeside P n b a (set_at o r (one_turned (o r) (step_turn P (o r).rank)))
beside_idle {S} P n b a o r inside may none h = ⊎_elim runs restores_yet (cases_Bool (is_back (a.one r)))
  where
    not_r : (x : ℕ) (c : Bool) → is_back (a.one r) ≡ c → is_back (a.one x) ≡ not c → x ≡ r → ⊥
    not_r x true e f g = true≢false (sym e ∙ ap (λ z. is_back (a.one z)) (sym g) ∙ f)
    not_r x false e f g = false≢true (sym e ∙ ap (λ z. is_back (a.one z)) (sym g) ∙ f)

    v : Replaying S
    v = one_turned (o r) (step_turn P (o r).rank)

    runs : is_back (a.one r) ≡ true → IsBeside P n b a (set_at o r v)
    runs e = record {
      live = quiet_turn h.live r (step_turn P (h.live.rank r));
      reached = reached_turn P n h.live r inside h.reached;
      ahead = h.ahead;
      since = h.since;
      lags = h.lags;
      back = λ x d f. at_set_both (λ l u. l ≡ u.rank) h.live.rank o r (step_turn P (h.live.rank r)).rank v x (λ _. ap (λ k. (step_turn P k).rank) (h.back r inside e)) (λ _. h.back x d f);
      restoring = λ x d f. at_set (λ l. l ≡ h.ahead.rank x) h.live.rank r (step_turn P (h.live.rank r)).rank x (λ g. absurd (not_r x true e f g)) (λ _. h.restoring x d f);
      channels = λ s y c d. ap (λ q. q s y) (sends_none h.live.channel r (step_turn P (h.live.rank r)).did (ap (λ k. is_operation (step_turn P k).did) (h.back r inside e) ∙ ap is_operation none)) ∙ h.channels s y c d;
      still = λ x d l f. at_set (λ u. u.rank ≡ (a.one x).rank) o r v x (λ g. absurd (not_r x true e f g)) (λ _. h.still x d l f);
    }

    restores_yet : is_back (a.one r) ≡ false → IsBeside P n b a (set_at o r v)
    restores_yet e = record {
      live = h.live;
      reached = h.reached;
      ahead = h.ahead;
      since = h.since;
      lags = h.lags;
      back = λ x d f. at_set (λ u. h.live.rank x ≡ u.rank) o r v x (λ g. absurd (not_r x false e f g)) (λ _. h.back x d f);
      restoring = h.restoring;
      channels = h.channels;
      still = λ x d l f. at_set (λ u. u.rank ≡ (a.one x).rank) o r v x (λ g. absurd (may_not (a.one r).log (a.one r).left may (ap (λ z. (a.one z).left) (sym g) ∙ l) e)) (λ _. h.still x d l f);
    }

-- An operation.
pub beside_op : {S : Type 0} (P : Stepping S) (n b : ℕ) (a : Core S) (o : ℕ → Replaying S) (r : ℕ) (t : Turned S) → r < n → may_turn (a.one r).log (a.one r).left ≡ true → step_turn P (o r).rank ≡ t → turn (without_pauses b P) (a.one r).rank ≡ t → is_operation t.did ≡ true
    → IsBeside P n b a o → IsBeside P n b (core_turned n a r t) (set_at o r (one_turned (o r) t))
beside_op {S} P n b a o r t inside may mine other op h = ⊎_elim runs restores_yet (cases_Bool (is_back (a.one r)))
  where
    p : Process S
    p = without_pauses b P

    u : Replaying S
    u = one_turned (a.one r) t

    a' : Core S
    a' = core_turned n a r t

    along : back_turn p (back_of a) r ≡ back_of a'
    along = sym (along_turn p n a r) ∙ ap (λ z. back_of (core_turned n a r z)) other

    -- the others are as they were
    was : (x : ℕ) (c : Bool) → (x ≡ r → ⊥) → is_back (a'.one x) ≡ c → is_back (a.one x) ≡ c
    was x c g f = ap is_back (sym (set_at-other a.one r u x g)) ∙ f

    still : (x : ℕ) → x < n → (a'.one x).left ≡ 0 → is_back (a'.one x) ≡ false → (set_at o r (one_turned (o r) t) x).rank ≡ (a'.one x).rank
    still x d l f = at_set_both (λ u v. v.rank ≡ u.rank) a.one o r u (one_turned (o r) t) x (λ _. refl) (λ g. h.still x d (ap (λ z. z.left) (sym (set_at-other a.one r u x g)) ∙ l) (was x false g f))

    runs : is_back (a.one r) ≡ true → IsBeside P n b a' (set_at o r (one_turned (o r) t))
    runs e = record {
      live = quiet_turn h.live r t;
      reached = subst (λ z. IsReached_of (stepping P) n (quiet_turn h.live r z)) (ap (step_turn P) (h.back r inside e) ∙ mine) (reached_turn P n h.live r inside h.reached);
      ahead = turned h.ahead r t;
      since = h.since;
      lags = subst (λ k. Lags p n k (turned h.ahead r t) h.since) along (subst (λ z. Lags p n (back_turn p (back_of a) r) (turned h.ahead r z) h.since) other (lag_restored p n (back_of a) h.ahead h.since r inside (back_is (a.one r) e).1 (no_entries (h.since r) (sym (h.lags.logs r inside) ∙ (back_is (a.one r) e).0)) h.lags));
      back = λ x d f. at_set_both (λ l v. l ≡ v.rank) h.live.rank o r t.rank (one_turned (o r) t) x (λ _. refl) (λ g. h.back x d (was x true g f));
      restoring = λ x d f. at_set_both (λ l k. l ≡ k) h.live.rank h.ahead.rank r t.rank t.rank x (λ _. refl) (λ g. h.restoring x d (was x false g f));
      channels = sends_same n h.live.channel h.ahead.channel r t.did h.channels;
      still = still;
    }

    restores_yet : is_back (a.one r) ≡ false → IsBeside P n b a' (set_at o r (one_turned (o r) t))
    restores_yet e = record {
      live = h.live;
      reached = h.reached;
      ahead = h.ahead;
      since = h.since;
      lags = lags;
      back = λ x d f. at_set (λ v. h.live.rank x ≡ v.rank) o r (one_turned (o r) t) x
          (λ g. ap h.live.rank g ∙ h.restoring r inside e ∙ ap h.ahead.rank (sym g) ∙ sym (is_none p (a'.one x) (h.since x) (h.ahead.rank x) (back_is (a'.one x) f).1 (no_entries (h.since x) (sym (lags.logs x d) ∙ (back_is (a'.one x) f).0)) (lags.stands x d)) ∙ ap (λ z. (a'.one z).rank) g ∙ ap (λ v. v.rank) (set_at-same a.one r u))
          (λ g. h.back x d (was x true g f));
      restoring = λ x d f. ⊎_elim (λ g. ap h.live.rank g ∙ h.restoring r inside e ∙ ap h.ahead.rank (sym g)) (λ g. h.restoring x d (was x false g f)) (cases_eq x r);
      channels = h.channels;
      still = still;
    }
      where
        left : (j : ℕ) × ((a.one r).left ≡ suc j)
        left = some_left (a.one r).log (a.one r).left may e

        lags : Lags p n (back_of a') h.ahead h.since
        lags = subst (λ k. Lags p n k h.ahead h.since) along (lag_restoring p n (back_of a) h.ahead h.since r left.0 inside left.1 (ap (λ z. is_operation z.did) other ∙ op) h.lags)

-- An arrival.
pub beside_arrival : {S : Type 0} (P : Stepping S) (n b : ℕ) (a : Core S) (o : ℕ → Replaying S) (s r : ℕ) (x : Packet) (rest : List Packet) → s < n → r < n → accepts (a.one r).log (a.one r).left s ≡ true → a.protocol.channel s r ≡ x ∷ rest → (o r).log ≡ (a.one r).log → (o r).left ≡ (a.one r).left
    → IsBeside P n b a o → IsBeside P n b (core_arrived n a s r (landed (a.one r) (a.one r).log s x.0) x rest) (set_at o r (landed (o r) (o r).log s x.0))
beside_arrival {S} P n b a o s r x rest from inside ok has logs lefts h = ⊎_elim runs restores_yet (cases_Bool (is_back (a.one r)))
  where
    p : Process S
    p = without_pauses b P

    m : Message
    m = x.0

    u : Replaying S
    u = landed (a.one r) (a.one r).log s m

    v : Replaying S
    v = landed (o r) (o r).log s m

    a' : Core S
    a' = core_arrived n a s r u x rest

    held : (back_of a).channel s r ≡ m ∷ contents rest
    held = ap contents has

    was : (y : ℕ) (c : Bool) → (y ≡ r → ⊥) → is_back (a'.one y) ≡ c → is_back (a.one y) ≡ c
    was y c g f = ap is_back (sym (set_at-other a.one r u y g)) ∙ f

    now : (y : ℕ) → y ≡ r → a'.one y ≡ u
    now y g = ap a'.one g ∙ set_at-same a.one r u

    runs : is_back (a.one r) ≡ true → IsBeside P n b a' (set_at o r v)
    runs e = record {
      live = record { rank = set_at h.live.rank r (arrive (h.live.rank r) s m); channel = set_pair h.live.channel s r w.0 };
      reached = subst (IsReached_of (stepping P) n) (delivers p n h.live s r m w.0 from inside (h.channels s r from inside ∙ w.1)) (reached_run (stepping P) n h.live (Deliver s r ∷ []) h.reached);
      ahead = ahead;
      since = h.since;
      lags = subst (λ k. Lags p n k ahead h.since) (ap (λ l. back_arrives (back_of a) s r (landed (a.one r) l s m) m (contents rest)) (sym (back_is (a.one r) e).0) ∙ sym (along_arrival n a s r u x rest)) w.2;
      back = λ y d f. at_set_both (λ l k. l ≡ k.rank) h.live.rank o r (arrive (h.live.rank r) s m) v y (λ _. ap (λ k. arrive k s m) (h.back r inside e) ∙ sym (ap (λ l. (landed (o r) l s m).rank) (logs ∙ (back_is (a.one r) e).0))) (λ g. h.back y d (was y true g f));
      restoring = λ y d f. at_set_both (λ l k. l ≡ k) h.live.rank h.ahead.rank r (arrive (h.live.rank r) s m) (arrive (h.ahead.rank r) s m) y (λ g. absurd (back_now y f g)) (λ g. h.restoring y d (was y false g f));
      channels = λ y z c d. at_set_pair_both (λ k l. k ≡ l) h.live.channel h.ahead.channel s r w.0 w.0 y z (λ _ _. refl) (h.channels y z c d);
      still = λ y d l f. at_set_both (λ k l. l.rank ≡ k.rank) a.one o r u v y (λ g. absurd (back_now y f g)) (λ g. h.still y d (ap (λ z. z.left) (sym (set_at-other a.one r u y g)) ∙ l) (was y false g f));
    }
      where
        w : (tail : List Message) × (h.ahead.channel s r ≡ m ∷ tail) × Lags p n (back_arrives (back_of a) s r (record (a.one r) { rank = arrive (a.one r).rank s m }) m (contents rest)) (record { rank = set_at h.ahead.rank r (arrive (h.ahead.rank r) s m); channel = set_pair h.ahead.channel s r tail }) h.since
        w = lag_both p n (back_of a) h.ahead h.since s r m (contents rest) from inside held (no_entries (h.since r) (sym (h.lags.logs r inside) ∙ (back_is (a.one r) e).0)) (back_is (a.one r) e).1 h.lags

        ahead : Quiet S
        ahead = record { rank = set_at h.ahead.rank r (arrive (h.ahead.rank r) s m); channel = set_pair h.ahead.channel s r w.0 }

        back_now : (y : ℕ) → is_back (a'.one y) ≡ false → y ≡ r → ⊥
        back_now y f g = true≢false (sym (ap is_back (now y g) ∙ landed_back (a.one r) s m e) ∙ f)

    restores_yet : is_back (a.one r) ≡ false → IsBeside P n b a' (set_at o r v)
    restores_yet e = record {
      live = h.live;
      reached = h.reached;
      ahead = h.ahead;
      since = since;
      lags = lags;
      back = λ y d f. at_set (λ k. h.live.rank y ≡ k.rank) o r v y
          (λ g. ap h.live.rank g ∙ h.restoring r inside e ∙ ap h.ahead.rank (sym g) ∙ sym (is_none p (a'.one y) (since y) (h.ahead.rank y) (back_is (a'.one y) f).1 (no_entries (since y) (sym (lags.logs y d) ∙ (back_is (a'.one y) f).0)) (lags.stands y d)) ∙ ap (λ k. k.rank) (now y g) ∙ sym (exact (sym (ap (λ k. k.left) (now y g)) ∙ (back_is (a'.one y) f).1)))
          (λ g. h.back y d (was y true g f));
      restoring = λ y d f. ⊎_elim (λ g. ap h.live.rank g ∙ h.restoring r inside e ∙ ap h.ahead.rank (sym g)) (λ g. h.restoring y d (was y false g f)) (cases_eq y r);
      channels = h.channels;
      still = λ y d l f. at_set_both (λ k l. l.rank ≡ k.rank) a.one o r u v y (λ g. exact (sym (ap (λ k. k.left) (now y g)) ∙ l)) (λ g. h.still y d (ap (λ z. z.left) (sym (set_at-other a.one r u y g)) ∙ l) (was y false g f));
    }
      where
        entry : (log : List Entry) × ((a.one r).log ≡ Intra_entry s ∷ log)
        entry = takes_entry (a.one r).log (a.one r).left s ok e

        w : (y : Logged) × (k : List Logged) × (h.since r ≡ y ∷ k) × (y.late ≡ false) × (y.source ≡ s) × (entries k ≡ entry.0)
        w = entries_are (h.since r) s entry.0 (sym (h.lags.logs r inside) ∙ entry.1)

        since : ℕ → List Logged
        since = set_at h.since r (after_late w.1)

        lags : Lags p n (back_of a') h.ahead since
        lags = subst (λ k. Lags p n k h.ahead since) (ap (λ l. back_arrives (back_of a) s r (absorb (a.one r).left (arrive (a.one r).rank s m) l) m (contents rest)) w.5 ∙ ap (λ l. back_arrives (back_of a) s r (landed (a.one r) l s m) m (contents rest)) (sym entry.1) ∙ sym (along_arrival n a s r u x rest))
            (lag_deliver p n (back_of a) h.ahead h.since s r m (contents rest) w.0 w.1 from inside held w.2 w.3 w.4 h.lags)

        -- with all its operations made, it made no local steps
        exact : u.left ≡ 0 → v.rank ≡ u.rank
        exact l = ap (λ k. (landed (o r) k s m).rank) logs ∙ landed_same (a.one r) (o r) (a.one r).log s m (h.still r inside (sym (absorb_left (a.one r).left (arrive (a.one r).rank s m) entry.0) ∙ ap (λ k. (landed (a.one r) k s m).left) (sym entry.1) ∙ l) e) lefts

-- The same ranks, channels and skips.
pub beside_same : {S : Type 0} (P : Stepping S) (n b : ℕ) (a a' : Core S) (o : ℕ → Replaying S) → a'.one ≡ a.one → back_of a' ≡ back_of a → IsBeside P n b a o → IsBeside P n b a' o
beside_same P n b a a' o one same h = record {
  live = h.live;
  reached = h.reached;
  ahead = h.ahead;
  since = h.since;
  lags = subst (λ k. Lags (without_pauses b P) n k h.ahead h.since) (sym same) h.lags;
  back = λ r d f. h.back r d (ap (λ g. is_back (g r)) (sym one) ∙ f);
  restoring = λ r d f. h.restoring r d (ap (λ g. is_back (g r)) (sym one) ∙ f);
  channels = h.channels;
  still = λ r d l f. h.still r d (ap (λ g. (g r).left) (sym one) ∙ l) (ap (λ g. is_back (g r)) (sym one) ∙ f) ∙ ap (λ g. (g r).rank) (sym one);
}
