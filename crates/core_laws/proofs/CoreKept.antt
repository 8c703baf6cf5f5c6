-- Every event of the core, and the restart, keep all that is kept.
use Rattle.std.proofs.Common.{◌≡◌, ℕ, suc, ◌<◌, ◌≤◌, Bool, true, false, not, List, [], ◌∷◌, sym, refl, ap, ◌∙◌, subst, arith}
use Rattle.std.proofs.Math.Path.{fun_ext}
use Rattle.std.specs.Prelude.{◌&&◌, ◌==◌, nat_lt, if◌then◌else◌}
use Rattle.std.proofs.lemmas.Bool.{cond_both, cond-true, and_parts, and_from, ltb-true, lt-ltb, le-ltb, ne_eqb, not-true, false≢true}
use Rattle.mpi_words.specs.declared.control.Control.{Control}
use Rattle.mpi_words.specs.declared.message.Message.{Message}
use Rattle.core_laws.specs.Rows.{set_at}
use Rattle.core_laws.specs.Protocol.{Packet, Protocol, move_start, move_arrive, move_tell_restored}
use Rattle.core_laws.specs.Process.{Process, Did, turn, arrive}
use Rattle.core_laws.specs.Quiet.{Event, Turn, Deliver, Handle, Begin_wave, IsReached, quiet_start}
use Rattle.core_laws.specs.Written.{Written, written_turn, written_now}
use Rattle.core_laws.specs.Handling.{all_below, handles, then_ready, then_stop, protocol_after, written_delivered, after_stop, after_save}
use Rattle.core_laws.specs.Invariant.{Kept, Invariant, bit, In, in_of, arrived, total}
use Rattle.core_laws.specs.Stopping.{contents}
use Rattle.core_laws.specs.Line.{Cut, new_in, old_in, PairFits, Journal}
use Rattle.core_laws.specs.Replay.{Replaying, absorb, Back, may_turn, back_next, IsLag}
use Rattle.core_laws.specs.Replay as back
use Rattle.core_laws.specs.Plan.{IsDone, HasPlan}
use Rattle.core_laws.specs.Core.{Core, is_back, restores, rank_of, then_restored, one_turned, core_turned, accepts, landed, core_arrived, core_delivers, core_handled, may_begin, core_began, step, steps, back_of, last_line}
use Rattle.core_laws.specs.CoreEvents.{Core_event, Single, Sweep, Kill, next, start, one_from, restart_from, restart, Session_event, Core_does, Restart, session, sweep_events}
use Rattle.core_laws.specs.Kept.{IsWritten, HasLine, Committed, IsKept, IsLive}
use Rattle.core_laws.proofs.QuietRuns.{set_at-map, after_wave}
use Rattle.core_laws.proofs.EventsKept.{all_below-at, inv_after, inv_arrive, inv_handles, inv_start, inv_restarted, inv_tell_restored}
use Rattle.core_laws.proofs.WaveLines.{Calm, calm_refl, calm_handles, line_calm, line_turned, line_arrived, ready_wave, stop_wave, in_cut-all, new_in-none, restarts}
use Rattle.core_laws.proofs.LagKept.{lag_next}
use Rattle.core_laws.proofs.PlanKept.{plan_next, next_turn, back_path}
use Rattle.core_laws.proofs.PlanMore.{Reaches, done_rank, done_channel, done_skip}
use Rattle.core_laws.proofs.CommittedLine.{committed_handle}
use Rattle.core_laws.proofs.CoreReplay.{restored_wave, along_turn, along_deliver, along_handle}
use Rattle.core_laws.proofs.RestoredTold.{back_is, noted_back, tells_turn, tells_arrival, tells_handle, tells_begin, tells_restarted}

-- Where no rank restores, the live state is the one that is lagged behind, as far as there are ranks.
all_back : {S : Type 0} (P : Process S) (n : ℕ) (c : Core S) → IsKept P n c → ((r : ℕ) → r < n → c.protocol.restored r ≡ true) → IsDone n (back_of c)
all_back P n c h all r a = back_is (c.one r) (noted_back n c.one c.protocol r a h.tells (all r a))

reaches : {S : Type 0} (P : Process S) (n : ℕ) (c : Core S) → (h : IsKept P n c) → Reaches P n (back_of c) h.lag.ahead
reaches P n c h = record { since = h.lag.since; lags = h.lag.lags }

pub live : {S : Type 0} (P : Process S) (n : ℕ) (c : Core S) → IsKept P n c → ((r : ℕ) → r < n → c.protocol.restored r ≡ true) → IsLive P n c
live P n c h all = record {
  back = λ r a. noted_back n c.one c.protocol r a h.tells (all r a);
  live = h.lag.ahead;
  reached = h.lag.reached;
  ranks = λ r a. sym (done_rank P n (back_of c) h.lag.ahead (all_back P n c h all) (reaches P n c h) r a);
  channels = λ s r a b. sym (done_channel P n (back_of c) h.lag.ahead (all_back P n c h all) (reaches P n c h) s r a b);
}

-- A wave begins: the cut is the live state.
abbrev plain : ℕ → List Message → List Packet
plain L [] = []
plain L (m ∷ l) = (m, record { epoch = L; logging = false }) ∷ plain L l

contents-plain : (L : ℕ) (l : List Message) → contents (plain L l) ≡ l
contents-plain L [] = refl
contents-plain L (m ∷ l) = ap (λ k. m ∷ k) (contents-plain L l)

line_begin : {S : Type 0} (P : Process S) (n : ℕ) (c : Core S) → c.protocol.wave.under_way ≡ false → Kept n c.protocol → IsLive P n c → HasLine P n (rank_of c.one) (move_start c.protocol) (written_now (rank_of c.one) c.protocol)
line_begin {S} P n c none k h = record {
  cut = now;
  written = λ r. record { image = refl; early = λ s. refl; log = refl; ops = refl };
  reached = subst (λ q. IsReached P n (record { rank = h.live.rank; channel = q })) (sym same) h.reached;
  plan = ([], λ r a. (refl, refl));
  follows = record { ranks = λ r b e. h.ranks r b; channels = λ s r a b e. inside s r a b ∙ in_cut-all p.wave.line (p.layer s).epoch (p.channel s r) (idle s a) (k.pair s r a b).epochs };
  line = record {
    olds = λ s r a b. subst (λ q. old_in p.wave.line q ≤ old_in p.wave.line (p.channel s r)) (sym (inside s r a b)) (omega arith);
    stands = λ r b. record { all_made = refl; rank = sym (h.ranks r b) };
    unsaved = λ r b e. record { since = refl; ops = refl; early = λ s. refl };
    fits = λ s r a b. subst (λ e. PairFits [] e [] (new_in p.wave.line (now.channel s r))) (sym (none_early s r a b)) (subst (λ l. PairFits [] 0 [] l) (sym (ap (new_in p.wave.line) (inside s r a b) ∙ new_in-none p.wave.line (p.channel s r) (omega (arith, none_yet s r a b)))) (record { enough = omega arith; rest = refl }));
  };
}
  where
    p : Protocol
    p = c.protocol

    now : Cut S
    now = record { rank = h.live.rank; channel = λ s r. if nat_lt s n && nat_lt r n then p.channel s r else plain p.wave.line (h.live.channel s r); journal = λ r. record { image = rank_of c.one r; early = (p.layer r).early; since = []; ops = 0 } }

    inside : (s r : ℕ) → s < n → r < n → now.channel s r ≡ p.channel s r
    inside s r a b = cond-true (nat_lt s n && nat_lt r n) (p.channel s r) (plain p.wave.line (h.live.channel s r)) (and_from (nat_lt s n) (nat_lt r n) (lt-ltb s n a) (lt-ltb r n b))

    same : (λ s r. contents (now.channel s r)) ≡ h.live.channel
    same = fun_ext (λ s. fun_ext (λ r. cond_both (nat_lt s n && nat_lt r n) (p.channel s r) (plain p.wave.line (h.live.channel s r)) (λ q. contents q ≡ h.live.channel s r)
        (λ e. let w = and_parts (nat_lt s n) (nat_lt r n) e in sym (h.channels s r (ltb-true s n w.0) (ltb-true r n w.1)))
        (λ e. contents-plain p.wave.line (h.live.channel s r))))

    idle : (s : ℕ) → s < n → (p.layer s).epoch ≤ p.wave.line
    idle s a = omega (arith, (k.rank s a).most, ap bit none)

    none_yet : (s r : ℕ) → s < n → r < n → total (in_of (p.layer r) s) (suc p.wave.line) (p.channel s r) ≡ 0
    none_yet s r a b = (k.pair s r a b).none_yet (omega (arith, idle s a, (k.rank s a).least))

    none_early : (s r : ℕ) → s < n → r < n → (p.layer r).early s ≡ 0
    none_early s r a b = omega (arith, none_yet s r a b, early_is (in_of (p.layer r) s) (suc p.wave.line) (omega (arith, idle r b)))
      where
        early_is : (i : In) (e : ℕ) → i.epoch < e → arrived i e ≡ i.early
        early_is i e h = rw (le-ltb e i.epoch (omega arith), ne_eqb e i.epoch (λ d. omega arith)) refl

-- Each event.
calm_restored : (n : ℕ) (was now : Bool) (p : Protocol) (r : ℕ) → Calm n p (then_restored was now p r)
calm_restored n was now p r = cond_both (not was && now) (move_tell_restored p r) p (Calm n p)
    (λ e. calm_refl n p (move_tell_restored p r) refl refl (λ w. (w, refl))) (λ e. calm_refl n p p refl refl (λ w. (w, refl)))

inv_restored : (n : ℕ) (was now : Bool) (p : Protocol) (r : ℕ) → Invariant n p → Invariant n (then_restored was now p r)
inv_restored n was now p r h = cond_both (not was && now) (move_tell_restored p r) p (Invariant n) (λ e. inv_tell_restored n p r h) (λ e. h)

pub ranks_set : {S : Type 0} (one : ℕ → Replaying S) (r : ℕ) (v : Replaying S) → rank_of (set_at one r v) ≡ set_at (rank_of one) r v.rank
ranks_set one r v = set_at-map (λ o. o.rank) one r v

pub turn_kept : {S : Type 0} (P : Process S) (n : ℕ) (c : Core S) (r : ℕ) → r < n → may_turn (c.one r).log (c.one r).left ≡ true → IsKept P n c → IsKept P n (core_turned n c r (turn P (c.one r).rank))
turn_kept {S} P n c r a may h = record {
  protocol = inv_restored n (is_back (c.one r)) (is_back v) q r (inv_after n c.protocol r d a h.protocol);
  tells = tells_turn P n c.one c.protocol r d h.tells;
  lag = subst (IsLag P n) along (lag_next P n (back_of c) (Turn r) h.lag);
  plan = subst (HasPlan P n) along (plan_next P n (back_of c) (Turn r) h.plan);
  wave = λ w. subst (λ k. HasLine P n k (then_restored (is_back (c.one r)) (is_back v) q r) (set_at c.written r (written_turn (after_stop c.protocol r) (after_save c.protocol r) (c.written r) (turn P (c.one r).rank)))) (sym (ranks_set c.one r v))
      (line_calm P n (set_at (rank_of c.one) r v.rank) q (then_restored (is_back (c.one r)) (is_back v) q r) (set_at c.written r (written_turn (after_stop c.protocol r) (after_save c.protocol r) (c.written r) (turn P (c.one r).rank))) (calm_restored n (is_back (c.one r)) (is_back v) q r) w
      (line_turned P n (rank_of c.one) c.protocol c.written r a h.protocol.kept (way w) (h.wave (way w))));
  saved = h.saved;
}
  where
    d : Did
    d = (turn P (c.one r).rank).did

    v : Replaying S
    v = one_turned (c.one r) (turn P (c.one r).rank)

    q : Protocol
    q = protocol_after n c.protocol r d

    along : back_next P n (back_of c) (Turn r) ≡ back_of (core_turned n c r (turn P (c.one r).rank))
    along = next_turn P n (back_of c) r a may ∙ sym (along_turn P n c r)

    way : (then_restored (is_back (c.one r)) (is_back v) q r).wave.under_way ≡ true → c.protocol.wave.under_way ≡ true
    way w = ap (λ z. z.under_way) (sym (restored_wave (is_back (c.one r)) (is_back v) q r ∙ after_wave n c.protocol r d)) ∙ w

pub arrival_kept : {S : Type 0} (P : Process S) (n : ℕ) (c : Core S) (s r : ℕ) (x : Packet) (rest : List Packet) → s < n → r < n → accepts (c.one r).log (c.one r).left s ≡ true → c.protocol.channel s r ≡ x ∷ rest → IsKept P n c → IsKept P n (core_arrived n c s r (landed (c.one r) (c.one r).log s x.0) x rest)
arrival_kept {S} P n c s r x rest a b ok is h = record {
  protocol = inv_restored n (is_back (c.one r)) (is_back v) q r (inv_arrive n c.protocol s r x rest a b is h.protocol);
  tells = tells_arrival n c.one c.protocol s r x rest h.tells;
  lag = subst (IsLag P n) along (lag_next P n (back_of c) (Deliver s r) h.lag);
  plan = subst (HasPlan P n) along (plan_next P n (back_of c) (Deliver s r) h.plan);
  wave = λ w. subst (λ k. HasLine P n k (then_restored (is_back (c.one r)) (is_back v) q r) (written_delivered c.written (then_stop c.protocol r x) s r x)) (sym (ranks_set c.one r v))
      (subst (λ k. HasLine P n (set_at (rank_of c.one) r k) (then_restored (is_back (c.one r)) (is_back v) q r) (written_delivered c.written (then_stop c.protocol r x) s r x)) (sym (ap (λ l. (landed (c.one r) l s x.0).rank) (back_is (c.one r) (noted_back n c.one c.protocol r b h.tells (h.tells.wave (way w) r b))).0))
      (line_calm P n (set_at (rank_of c.one) r (arrive (c.one r).rank s x.0)) q (then_restored (is_back (c.one r)) (is_back v) q r) (written_delivered c.written (then_stop c.protocol r x) s r x) (calm_restored n (is_back (c.one r)) (is_back v) q r) w
      (line_arrived P n (rank_of c.one) c.protocol c.written s r x rest a b is h.protocol (way w) (h.wave (way w)))));
  saved = h.saved;
}
  where
    v : Replaying S
    v = landed (c.one r) (c.one r).log s x.0

    moved : Protocol
    moved = move_arrive (then_stop c.protocol r x) s r x.1.epoch rest

    q : Protocol
    q = then_ready n moved r

    along : back_next P n (back_of c) (Deliver s r) ≡ back_of (core_arrived n c s r (landed (c.one r) (c.one r).log s x.0) x rest)
    along = sym (along_deliver P n c s r x rest a b is ok)

    way : (then_restored (is_back (c.one r)) (is_back v) q r).wave.under_way ≡ true → c.protocol.wave.under_way ≡ true
    way w = ap (λ z. z.under_way) (sym (restored_wave (is_back (c.one r)) (is_back v) q r ∙ ready_wave n moved r ∙ stop_wave c.protocol r x)) ∙ w

pub deliver_kept : {S : Type 0} (P : Process S) (n : ℕ) (c : Core S) (s r : ℕ) (q : List Packet) → s < n → r < n → accepts (c.one r).log (c.one r).left s ≡ true → c.protocol.channel s r ≡ q → IsKept P n c → IsKept P n (core_delivers n c s r q)
deliver_kept P n c s r [] a b ok is h = h
deliver_kept P n c s r (x ∷ rest) a b ok is h = arrival_kept P n c s r x rest a b ok is h

pub handle_kept : {S : Type 0} (P : Process S) (n : ℕ) (c : Core S) (s r : ℕ) → s < n → r < n → IsKept P n c → IsKept P n (core_handled c (handles n c.protocol s r (c.protocol.control s r)))
handle_kept {S} P n c s r a b h = record {
  protocol = inv_handles n c.protocol s r l a b refl h.protocol;
  tells = tells_handle n c.one c.protocol s r l a refl h.protocol h.tells;
  lag = subst (IsLag P n) (sym (along_handle n c s r l)) h.lag;
  plan = subst (HasPlan P n) (sym (along_handle n c s r l)) h.plan;
  wave = λ w. line_calm P n (rank_of c.one) c.protocol p' c.written calm w (h.wave (calm.wave w).0);
  saved = cond_both (nat_lt c.protocol.wave.line p'.wave.line) c.written c.saved (Committed P n) (λ e. committed_handle P n (rank_of c.one) c.protocol c.written s r l a refl h.protocol h.wave (ltb-true c.protocol.wave.line p'.wave.line e)) (λ e. h.saved);
}
  where
    l : List Control
    l = c.protocol.control s r

    p' : Protocol
    p' = handles n c.protocol s r l

    calm : Calm n c.protocol p'
    calm = calm_handles n c.protocol s r l

pub begin_kept : {S : Type 0} (P : Process S) (n : ℕ) (c : Core S) → c.protocol.wave.under_way ≡ false → ((r : ℕ) → r < n → c.protocol.restored r ≡ true) → IsKept P n c → IsKept P n (core_began c)
begin_kept P n c none all h = record {
  protocol = inv_start n c.protocol none (λ s r a b. done_skip P n (back_of c) h.lag.ahead (all_back P n c h all) (reaches P n c h) s r a b) h.protocol;
  tells = tells_begin n c.one c.protocol all h.tells;
  lag = h.lag;
  plan = h.plan;
  wave = λ w. line_begin P n c none h.protocol.kept (live P n c h all);
  saved = h.saved;
}

pub step_kept : {S : Type 0} (P : Process S) (n : ℕ) (c : Core S) (e : Event) → IsKept P n c → IsKept P n (step P n c e)
step_kept P n c (Turn r) h = cond_both (nat_lt r n && (not (c.killed r) && may_turn (c.one r).log (c.one r).left)) (core_turned n c r (turn P (c.one r).rank)) c (IsKept P n)
    (λ e. let one = and_parts (nat_lt r n) (not (c.killed r) && may_turn (c.one r).log (c.one r).left) e in turn_kept P n c r (ltb-true r n one.0) (and_parts (not (c.killed r)) (may_turn (c.one r).log (c.one r).left) one.1).1 h)
    (λ e. h)
step_kept P n c (Deliver s r) h = cond_both (nat_lt s n && (nat_lt r n && (not (c.killed r) && accepts (c.one r).log (c.one r).left s))) (core_delivers n c s r (c.protocol.channel s r)) c (IsKept P n)
    (λ e. let one = and_parts (nat_lt s n) (nat_lt r n && (not (c.killed r) && accepts (c.one r).log (c.one r).left s)) e in
    let two = and_parts (nat_lt r n) (not (c.killed r) && accepts (c.one r).log (c.one r).left s) one.1 in
    deliver_kept P n c s r (c.protocol.channel s r) (ltb-true s n one.0) (ltb-true r n two.0) (and_parts (not (c.killed r)) (accepts (c.one r).log (c.one r).left s) two.1).1 refl h)
    (λ e. h)
step_kept P n c (Handle s r) h = cond_both (nat_lt s n && (nat_lt r n && not (c.killed r))) (core_handled c (handles n c.protocol s r (c.protocol.control s r))) c (IsKept P n)
    (λ e. let one = and_parts (nat_lt s n) (nat_lt r n && not (c.killed r)) e in handle_kept P n c s r (ltb-true s n one.0) (ltb-true r n (and_parts (nat_lt r n) (not (c.killed r)) one.1).0) h)
    (λ e. h)
step_kept P n c Begin_wave h = cond_both (may_begin n c) (core_began c) c (IsKept P n)
    (λ e. let one = and_parts (not (c.killed 0)) (not c.protocol.wave.under_way && (nat_lt c.protocol.wave.line last_line && all_below n c.protocol.restored)) e in
    let two = and_parts (not c.protocol.wave.under_way) (nat_lt c.protocol.wave.line last_line && all_below n c.protocol.restored) one.1 in
    begin_kept P n c (not-true c.protocol.wave.under_way two.0) (all_below-at n c.protocol.restored (and_parts (nat_lt c.protocol.wave.line last_line) (all_below n c.protocol.restored) two.1).1) h)
    (λ e. h)

pub steps_kept : {S : Type 0} (P : Process S) (n : ℕ) (es : List Event) (c : Core S) → IsKept P n c → IsKept P n (steps P n c es)
steps_kept P n [] c h = h
steps_kept P n (e ∷ es) c h = steps_kept P n es (step P n c e) (step_kept P n c e h)

pub next_kept : {S : Type 0} (P : Process S) (n : ℕ) (c : Core S) (e : Core_event) → IsKept P n c → IsKept P n (next P n c e)
next_kept P n c (Single e) h = step_kept P n c e h
next_kept P n c Sweep h = steps_kept P n (sweep_events n c.protocol) c h
next_kept {S} P n c (Kill r) h = cond_both (nat_lt r n) (record c { killed = set_at c.killed r true }) c (IsKept P n)
    (λ e. record { protocol = h.protocol; tells = h.tells; lag = h.lag; plan = h.plan; wave = h.wave; saved = h.saved }) (λ e. h)

-- A restart.
pub restart_path : {S : Type 0} (L : ℕ) (w : ℕ → Written S) (j : ℕ → Journal S) → ((r : ℕ) → IsWritten (j r) (w r)) → back.restart j ≡ back_of (restart_from L w)
restart_path {S} L w j is = back_path (λ r. absorb (j r).ops (j r).image (back.entries (j r).since)) (λ r. one_from (w r)) (λ s r. []) (λ s r. []) (λ s r. (j r).early s) (λ s r. (w r).early s)
    (fun_ext (λ r. ap (λ k. absorb k (j r).image (back.entries (j r).since)) (is r).ops ∙ ap (λ i. absorb (w r).ops i (back.entries (j r).since)) (is r).image ∙ ap (absorb (w r).ops (w r).image) (is r).log))
    refl
    (fun_ext (λ s. fun_ext (λ r. (is r).early s)))

pub restart_kept : {S : Type 0} (P : Process S) (n L : ℕ) (w : ℕ → Written S) → Committed P n w → IsKept P n (restart_from L w)
restart_kept P n L w h = record {
  protocol = inv_restarted n L (λ r. (w r).early) (λ r. restores (one_from (w r)).log (one_from (w r)).left);
  tells = record { told = λ r a. tells_restarted (restores (one_from (w r)).log (one_from (w r)).left); wave = λ e. absurd (false≢true e) };
  lag = subst (IsLag P n) (restart_path L w h.journal h.written) (restarts P n h.journal h.line h.stand);
  plan = subst (HasPlan P n) (restart_path L w h.journal h.written) h.stand.plan;
  wave = λ e. absurd (false≢true e);
  saved = h;
}

pub start_kept : {S : Type 0} (P : Process S) (n : ℕ) → IsKept P n (start P)
start_kept P n = record {
  protocol = let i = inv_restarted n 0 (λ r x. 0) (λ r. true) in record { kept = record { rank = i.kept.rank; down = i.kept.down; up = i.kept.up; pair = i.kept.pair; skips = i.kept.skips; noted = i.kept.noted }; origins = i.origins; says = i.says };
  tells = record { told = λ r a. refl; wave = λ e. absurd (false≢true e) };
  lag = record {
    ahead = quiet_start P;
    reached = ([], refl);
    since = λ r. [];
    lags = record { logs = λ r a. refl; stands = λ r a. record { all_made = refl; rank = refl }; pairs = λ s r a b. record { enough = omega arith; rest = refl } };
  };
  plan = ([], λ r a. (refl, refl));
  wave = λ e. absurd (false≢true e);
  saved = record {
    journal = λ r. record { image = record { machine = P.begin r; mail = []; output = [] }; early = λ s. 0; since = []; ops = 0 };
    written = λ r. record { image = refl; early = λ s. refl; log = refl; ops = refl };
    line = quiet_start P;
    stand = record {
      reached = ([], refl);
      ranks = λ r a. record { all_made = refl; rank = refl };
      pairs = λ s r a b. record { enough = omega arith; rest = refl };
      plan = ([], λ r a. (refl, refl));
    };
  };
}

pub session_kept : {S : Type 0} (P : Process S) (n : ℕ) (es : List Session_event) (c : Core S) → IsKept P n c → IsKept P n (session P n c es)
session_kept P n [] c h = h
session_kept P n (Core_does e ∷ es) c h = session_kept P n es (next P n c e) (next_kept P n c e h)
session_kept P n (Restart ∷ es) c h = session_kept P n es (restart P c)
    (cond_both (c.protocol.wave.line == 0) (start P) (restart_from c.protocol.wave.line c.saved) (IsKept P n) (λ e. start_kept P n) (λ e. restart_kept P n c.protocol.wave.line c.saved h.saved))

-- In a wave no rank restores, and the live state is reached.
pub kept_live : {S : Type 0} (P : Process S) (n : ℕ) (c : Core S) → IsKept P n c → c.protocol.wave.under_way ≡ true → IsLive P n c
kept_live P n c h w = live P n c h (h.tells.wave w)
