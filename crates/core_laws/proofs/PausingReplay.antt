-- Replay never sticks, with ranks that pause.
use Rattle.std.proofs.Common.{◌≡◌, ℕ, zero, suc, pred, ◌<◌, ◌≤◌, true, false, not, List, [], ◌∷◌, sym, refl, ap, ◌∙◌, ⊎_elim, arith}
use Rattle.std.specs.Prelude.{◌&&◌, nat_lt}
use Rattle.std.proofs.lemmas.Bool.{cond-true, and_from, lt-ltb, false≢true, true≢false}
use Rattle.late_logs.specs.declared.entry.Entry.{Entry}
use Rattle.late_logs.specs.declared.entry.Entry.TheVariants.{Intra as Intra_entry}
use Rattle.core_laws.specs.Process.{Rank, Want, turn, acted, is_operation}
use Rattle.core_laws.specs.Quiet.{Event, Turn, Deliver, Handle, Begin_wave}
use Rattle.core_laws.specs.Stopping.{contents}
use Rattle.core_laws.specs.Replay.{may_turn}
use Rattle.core_laws.specs.Plan.{Helps}
use Rattle.core_laws.specs.Core.{Core, is_back, restores, one_turned, core_turned, step_of, back_of}
use Rattle.core_laws.specs.Pausing.{Stop_at, Paused, Asks, Stepping, stopped_at, with_machine, step_turn, stepping, settled, wanted, without_pauses}
use Rattle.core_laws.specs.PausingKept.{IsKeptWithin, MovesOnPausing}
use Rattle.core_laws.proofs.Changes.{set_at-same}
use Rattle.core_laws.proofs.PlanKept.{never_stuck, no_handle, no_wave, helps_turn, helps_delivery, may_left}
use Rattle.core_laws.proofs.RestoredTold.{is_back-from}
use Rattle.core_laws.proofs.ReplayGoesOn.{deliver_stirs}
use Rattle.core_laws.proofs.PausedTurns.{acts_pausing, same_wants, stuck_pausing, turned}

has_left : (log : List Entry) (left j : ℕ) → left ≡ suc j → not (restores log left) ≡ false
has_left [] zero j e = absurd (omega arith)
has_left [] (suc left) j e = refl
has_left (x ∷ log) left j e = refl

has_entry : (log : List Entry) (left : ℕ) (x : Entry) (rest : List Entry) → log ≡ x ∷ rest → not (restores log left) ≡ false
has_entry log left x rest e = ap (λ l. not (restores l left)) e

-- a turn that operates, or that pauses somewhere else
turn_stirs : {S : Type 0} (P : Stepping S) (n b most : ℕ) (c : Core S) (h : IsKeptWithin P n b most c) (r j : ℕ) → most ≤ b → r < n → c.killed r ≡ false → (h.core.one r).left ≡ suc j → is_operation (turn (without_pauses b P) (h.core.one r).rank).did ≡ true → step_of (stepping P) n c (Turn r) ≡ c → ⊥
turn_stirs {S} P n b most c h r j few a up left op same = go (P.step (c.one r).rank.machine).stop refl
  where
    k : Rank S
    k = (h.core.one r).rank

    u : Rank S
    u = (c.one r).rank

    lefts : (c.one r).left ≡ suc j
    lefts = h.is.left r ∙ left

    after : (step_of (stepping P) n c (Turn r)).one r ≡ one_turned (c.one r) (step_turn P u)
    after = ap (λ d. d.one r) (cond-true (nat_lt r n && (not (c.killed r) && may_turn (c.one r).log (c.one r).left)) (core_turned n c r (step_turn P u)) c (and_from (nat_lt r n) (not (c.killed r) && may_turn (c.one r).log (c.one r).left) (lt-ltb r n a) (and_from (not (c.killed r)) (may_turn (c.one r).log (c.one r).left) (ap not up) (may_left (c.one r).log (c.one r).left (omega (arith, lefts))))))
        ∙ set_at-same c.one r (one_turned (c.one r) (step_turn P u))

    stays : one_turned (c.one r) (step_turn P u) ≡ c.one r
    stays = sym after ∙ ap (λ d. d.one r) same

    operates : is_operation (step_turn P u).did ≡ true → ⊥
    operates o = omega (arith, lefts, sym (cond-true (is_operation (step_turn P u).did) (pred (c.one r).left) (c.one r).left o) ∙ ap (λ v. v.left) stays)

    -- what k does is an operation
    acts : (w : Want) → wanted (settled P b k.machine).stop ≡ w → is_operation (acted (without_pauses b P).answer k w).did ≡ true
    acts w e = ap (λ z. is_operation (acted (without_pauses b P).answer k z).did) (sym e) ∙ ap (λ t. is_operation t.did) (sym (turned P b k)) ∙ op

    is : u ≡ with_machine k u.machine
    is = ap (λ l. record { machine = u.machine; mail = l; output = u.output }) (h.is.rank r a).mail ∙ ap (λ o. record { machine = u.machine; mail = k.mail; output = o }) (h.is.rank r a).output

    from : (s : Stop_at) → (P.step u.machine).stop ≡ s → step_turn P u ≡ stopped_at P (with_machine k (P.step u.machine).machine) s
    from s e = ap (λ x. stopped_at P (with_machine x (P.step u.machine).machine) (P.step u.machine).stop) is ∙ ap (stopped_at P (with_machine k (P.step u.machine).machine)) e

    go : (s : Stop_at) → (P.step u.machine).stop ≡ s → ⊥
    go Paused e = false≢true (acts_none (stuck_pausing P b (h.is.rank r a).pauses k.machine u.machine (h.is.rank r a).machine (omega (arith, (h.is.rank r a).few)) e (sym (ap (λ t. t.rank.machine) (from Paused e)) ∙ ap (λ v. v.rank.machine) stays)))
      where
        acts_none : (settled P b k.machine).stop ≡ Paused → false ≡ true
        acts_none e = acts (wanted Paused) (ap wanted e)
    go (Asks w) e = ⊎_elim
        (λ d. operates (ap (λ t. is_operation t.did) (from (Asks w) e) ∙ d.1))
        (λ d. false≢true (sym (ap (λ t. is_operation t.did) d.1) ∙ acts w (ap (λ s. wanted s.stop) settles ∙ ap wanted e)))
        (acts_pausing P b k w (P.step u.machine) settles)
      where
        settles : settled P b k.machine ≡ P.step u.machine
        settles = same_wants P b (h.is.rank r a).pauses k.machine u.machine w (h.is.rank r a).machine (omega (arith, (h.is.rank r a).few)) e

pub moves_on_pausing : {S : Type 0} (P : Stepping S) (n b most : ℕ) (c : Core S) (r : ℕ) → most ≤ b → IsKeptWithin P n b most c → ((x : ℕ) → x < n → c.killed x ≡ false) → r < n → is_back (c.one r) ≡ false → MovesOnPausing P n c
moves_on_pausing {S} P n b most c r few h up a restores = ⊎_elim
    (λ done. absurd (true≢false (sym (is_back-from (c.one r) (h.is.log r ∙ (done r a).0) (h.is.left r ∙ (done r a).1)) ∙ restores)))
    (λ w. go w.0 w.1)
    (never_stuck (without_pauses b P) n (back_of h.core) h.kept.plan)
  where
    go : (e : Event) → Helps (without_pauses b P) n (back_of h.core) e → MovesOnPausing P n c
    go (Turn y) w = let t = helps_turn (without_pauses b P) n (back_of h.core) y w in record { event = Turn y; restores = has_left (c.one y).log (c.one y).left t.ops (h.is.left y ∙ t.left); effect = turn_stirs P n b most c h y t.ops few t.inside (up y t.inside) t.left t.op }
    go (Deliver s y) w = let t = helps_delivery (without_pauses b P) n (back_of h.core) s y w in record {
      event = Deliver s y;
      restores = has_entry (c.one y).log (c.one y).left (Intra_entry s) t.log (h.is.log y ∙ t.names);
      effect = deliver_stirs (stepping P) n c s y t.log (c.protocol.channel s y) t.message t.rest t.from t.inside (up y t.inside) (h.is.log y ∙ t.names) refl (ap (λ p. contents (p.channel s y)) h.is.protocol ∙ t.has);
    }
    go (Handle s y) w = absurd (no_handle (without_pauses b P) n (back_of h.core) s y w)
    go Begin_wave w = absurd (no_wave (without_pauses b P) n (back_of h.core) w)
