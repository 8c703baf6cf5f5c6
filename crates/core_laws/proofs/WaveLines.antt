-- Each event keeps that images and logs stand for the cut of the wave.
use Rattle.std.proofs.Common.{◌≡◌, ℕ, suc, pred, ◌+◌, ◌<◌, ◌≤◌, Bool, true, false, not, cond, List, [], ◌∷◌, ◌++◌, Some, None, sym, refl, ap, ◌∙◌, subst, inl, inr, ⊎_elim, arith}
use Rattle.std.specs.Prelude.{if◌then◌else◌, ◌&&◌, ◌==◌, nat_lt, ◌⊎◌}
use Rattle.std.specs.List.{AllByRecursion}
use Rattle.std.proofs.lemmas.Bool.{cond_both, cond-true, cond-false, cases_Bool, and_parts, and_from, and_left, not-true, ltb-true, eqb-true, eqb-false, eq-eqb, ne_eqb, cases_lt, cases_eq, cases_order, false≢true, true≢false, lt-ltb}
use Rattle.late_logs.specs.declared.entry.Entry.TheVariants.{Late as Late_entry, Intra as Intra_entry}
use Rattle.mpi_words.specs.declared.control.Control.{Control}
use Rattle.mpi_words.specs.declared.control.Control.TheVariants.{Request, Count, Ready, Stop, Stopped, Restored}
use Rattle.mpi_words.specs.declared.message.Message.{Message}
use Rattle.core_laws.specs.Rows.{set_at, set_pair}
use Rattle.core_laws.specs.Protocol.{Packet, Layer, Protocol, Class, Late, Intra, Early, layer_arrive, layer_send, layer_save, class_of, move_send, move_save, move_arrive, move_ready, move_stop, move_pop, move_told, move_note_ready, move_note_stopped, move_tell_stop, move_skip, move_note_restored, early_more, is_late}
use Rattle.core_laws.specs.Process.{Turned, is_operation, Process, Rank, Did, Nothing, Sent, Local, Marked, turn, arrive}
use Rattle.core_laws.specs.Written.{Written, written_turn, written_arrive}
use Rattle.core_laws.specs.Handling.{written_delivered, handles, then_ready, then_stop, ready_due, stops_at, protocol_after}
use Rattle.core_laws.specs.Quiet.{Quiet, Turn, Deliver, sends, quiet_next, quiet_arrives, IsReached}
use Rattle.core_laws.specs.Invariant.{Kept, PairKept, Invariant, in_of, out_of, on_channel, up_kept}
use Rattle.core_laws.specs.Stopping.{has_stopped, is_after, contents}
use Rattle.core_laws.specs.Line.{in_cut, new_in, Journal, Cut, quiet_of, old_in, Stands, Unsaved, PairFits, IsLine, Follows, journal_turn, journal_arrive, sends_to, intra_from, replayed}
use Rattle.core_laws.specs.Kept.{HasLine, StandFor, IsWritten}
use Rattle.core_laws.specs.Replay.{restart, Lags, IsLag}
use Rattle.core_laws.specs.Plan.{HasPlan}
use Rattle.core_laws.proofs.MovesKept.{class_late, class_intra, class_early}
use Rattle.core_laws.proofs.LagKept.{lag_restart, after_late}
use Rattle.core_laws.proofs.PlanMore.{plan_op, plan_intra, plan_late}
use Rattle.core_laws.proofs.PlanAlike.{entries-push, plan_unsaved, plan_turn, plan_arrive}
use Rattle.core_laws.proofs.Changes.{at_set, at_set_both, at_set_pair, at_set_pair_both}
use Rattle.core_laws.proofs.RankMoves
use Rattle.core_laws.proofs.EventsKept.{inv_then_stop}
use Rattle.core_laws.proofs.QuietRuns.{reached_next, set_pair-map, not_stopped, none_after, contents-push, after_wave, asked_at, safe_then_stop, then_stop-channel, contents_of, stopped_in, turned}
use Rattle.core_laws.proofs.CutLines.{fits_turn, fits_arrive, stands_turn, stands_arrive, packet_sends, cut_turned, pair_line}
use Rattle.core_laws.proofs.Noting.{ready_cases, stopped_cases}

-- A change of the protocol that in a wave leaves the channels, stops nobody's being stopped, and changes no early count before a save.
pub record CalmLayer (L : ℕ) (l l' : Layer) : Type 0 where
  pub on : has_stopped L l' ≡ false → has_stopped L l ≡ false
  pub unsaved : l'.epoch ≡ L → (l.epoch ≡ L) × ((s : ℕ) → l'.early s ≡ l.early s)

pub record Calm (n : ℕ) (p p' : Protocol) : Type 0 where
  pub channel : p'.wave.under_way ≡ true → (s r : ℕ) → s < n → r < n → p'.channel s r ≡ p.channel s r
  pub wave : p'.wave.under_way ≡ true → (p.wave.under_way ≡ true) × (p'.wave.line ≡ p.wave.line) × ((r : ℕ) → r < n → CalmLayer p.wave.line (p.layer r) (p'.layer r))

calm_layer : (L : ℕ) (l : Layer) → CalmLayer L l l
calm_layer L l = record { on = λ e. e; unsaved = λ e. (e, λ s. refl) }

calm_set : (L : ℕ) (f : ℕ → Layer) (k : ℕ) (v : Layer) → CalmLayer L (f k) v → (r : ℕ) → CalmLayer L (f r) (set_at f k v r)
calm_set L f k v h r = at_set (CalmLayer L (f r)) f k v r (λ e. subst (λ z. CalmLayer L (f z) v) (sym e) h) (λ e. calm_layer L (f r))

pub calm_refl : (n : ℕ) (p p' : Protocol) → p'.channel ≡ p.channel → p'.layer ≡ p.layer → (p'.wave.under_way ≡ true → (p.wave.under_way ≡ true) × (p'.wave.line ≡ p.wave.line)) → Calm n p p'
calm_refl n p p' channel layer wave = record { channel = λ w s r a b. ap (λ g. g s r) channel; wave = λ w. let e = wave w in (e.0, e.1, λ r b. subst (λ f. CalmLayer p.wave.line (p.layer r) (f r)) (sym layer) (calm_layer p.wave.line (p.layer r))) }

calm_trans : (n : ℕ) (p p' p'' : Protocol) → Calm n p p' → Calm n p' p'' → Calm n p p''
calm_trans n p p' p'' h k = record {
  channel = λ w s r a b. k.channel w s r a b ∙ h.channel (k.wave w).0 s r a b;
  wave = λ w.
      let b = k.wave w in let a = h.wave b.0 in (
        a.0,
        b.1 ∙ a.1,
        λ r c.
            let second = subst (λ L. CalmLayer L (p'.layer r) (p''.layer r)) a.1 (b.2 r c) in
            let first = a.2 r c in
            record { on = λ e. first.on (second.on e); unsaved = λ e. let y = second.unsaved e in let x = first.unsaved y.0 in (x.0, λ s. y.1 s ∙ x.1 s) },
      );
}

calm_then_ready : (n : ℕ) (p : Protocol) (r : ℕ) → Calm n p (then_ready n p r)
calm_then_ready n p r = cond_both (ready_due n (p.layer r)) (move_ready p r) p (Calm n p)
    (λ e. record { channel = λ w s r a b. refl; wave = λ w. (w, refl, λ x b. calm_set p.wave.line p.layer r (record (p.layer r) { was_ready = true; told = λ x. None }) (record { on = λ d. d; unsaved = λ d. (d, λ s. refl) }) x) })
    (λ e. calm_refl n p p refl refl (λ w. (w, refl)))

calm_stop : (n : ℕ) (p : Protocol) (r : ℕ) → (p.layer r).logging ≡ true → Calm n p (move_stop p r)
calm_stop n p r e = record { channel = λ w s r a b. refl; wave = λ w. (w, refl, λ x b. calm_set p.wave.line p.layer r (record (p.layer r) { logging = false }) (record { on = λ d. not_stopped p.wave.line (p.layer r) e; unsaved = λ d. (d, λ s. refl) }) x) }

calm_then_stop : (n : ℕ) (p : Protocol) (r : ℕ) (x : Packet) → Calm n p (then_stop p r x)
calm_then_stop n p r x = cond_both (stops_at (p.layer r) x) (move_stop p r) p (Calm n p)
    (λ e. calm_stop n p r (and_parts (p.layer r).logging ((x.1.epoch == (p.layer r).epoch) && not x.1.logging) e).0)
    (λ e. calm_refl n p p refl refl (λ w. (w, refl)))

calm_save : (n : ℕ) (p : Protocol) (r : ℕ) → (p.layer r).epoch ≡ p.wave.line → Calm n p (move_save p r)
calm_save n p r at = record {
  channel = λ w s r a b. refl;
  wave = λ w. (
    w,
    refl,
    λ x b. calm_set p.wave.line p.layer r (layer_save (p.layer r))
        (record { on = λ d. and_left ((p.layer r).epoch == suc p.wave.line) (not (p.layer r).logging) (ne_eqb (p.layer r).epoch (suc p.wave.line) (λ g. omega arith)); unsaved = λ d. absurd (omega arith) }) x,
  );
}

pub calm_handles : (n : ℕ) (p : Protocol) (s r : ℕ) (c : List Control) → Calm n p (handles n p s r c)
calm_handles n p s r [] = calm_refl n p p refl refl (λ w. (w, refl))
calm_handles n p s r (Request l ∷ rest) = record { channel = λ w s r a b. refl; wave = λ w. (w, refl, λ x b. calm_set p.wave.line p.layer r (record (p.layer r) { asked = true }) (record { on = λ d. d; unsaved = λ d. (d, λ s. refl) }) x) }
calm_handles n p s r (Count l k ∷ rest) = calm_trans n p (move_told p s r k rest) (then_ready n (move_told p s r k rest) r)
    (record { channel = λ w s r a b. refl; wave = λ w. (w, refl, λ x b. calm_set p.wave.line p.layer r (record (p.layer r) { told = set_at (p.layer r).told s (Some k) }) (record { on = λ d. d; unsaved = λ d. (d, λ s. refl) }) x) })
    (calm_then_ready n (move_told p s r k rest) r)
calm_handles n p s r (Ready l ∷ rest) = ready_cases n p s r l rest (Calm n p)
    (λ _ _. calm_refl n p (move_tell_stop (move_note_ready p s r rest)) refl refl (λ w. (w, refl)))
    (λ _ _. calm_refl n p (move_note_ready p s r rest) refl refl (λ w. (w, refl)))
    (λ _. calm_refl n p (move_pop p s r rest) refl refl (λ w. (w, refl)))
calm_handles n p s r (Stop l ∷ rest) = cond_both (p.layer r).logging (move_stop (move_pop p s r rest) r) (move_pop p s r rest) (Calm n p)
    (λ e. calm_trans n p (move_pop p s r rest) (move_stop (move_pop p s r rest) r) (calm_refl n p (move_pop p s r rest) refl refl (λ w. (w, refl))) (calm_stop n (move_pop p s r rest) r e))
    (λ e. calm_refl n p (move_pop p s r rest) refl refl (λ w. (w, refl)))
calm_handles n p s r (Stopped l ∷ rest) = stopped_cases n p s r l rest (Calm n p)
    (λ _ _. record { channel = λ w s r a b. refl; wave = λ w. absurd (false≢true w) })
    (λ _ _. calm_refl n p (move_note_stopped p s r rest) refl refl (λ w. (w, refl)))
    (λ _. calm_refl n p (move_pop p s r rest) refl refl (λ w. (w, refl)))
calm_handles n p s r (Restored ∷ rest) = calm_refl n p (move_note_restored p s r rest) refl refl (λ w. (w, refl))

pub ready_wave : (n : ℕ) (p : Protocol) (r : ℕ) → (then_ready n p r).wave ≡ p.wave
ready_wave n p r = cond_both (ready_due n (p.layer r)) (move_ready p r) p (λ z. z.wave ≡ p.wave) (λ e. refl) (λ e. refl)

pub stop_wave : (p : Protocol) (r : ℕ) (x : Packet) → (then_stop p r x).wave ≡ p.wave
stop_wave p r x = cond_both (stops_at (p.layer r) x) (move_stop p r) p (λ z. z.wave ≡ p.wave) (λ e. refl) (λ e. refl)

-- A calm change keeps the line.
pub line_calm : {S : Type 0} (P : Process S) (n : ℕ) (rank : ℕ → Rank S) (p p' : Protocol) (v : ℕ → Written S) → Calm n p p' → p'.wave.under_way ≡ true → HasLine P n rank p v → HasLine P n rank p' v
line_calm P n rank p p' v calm way h = record {
  written = h.written;
  cut = h.cut;
  reached = h.reached;
  plan = h.plan;
  follows = record {
    ranks = λ r b e. h.follows.ranks r b (back r b e);
    channels = λ s r a b e. h.follows.channels s r a b (back r b e) ∙ sym (ap (λ L. in_cut L (p'.channel s r)) w.1 ∙ ap (in_cut p.wave.line) (calm.channel way s r a b));
  };
  line = record {
    olds = λ s r a b. subst (λ L. old_in L (h.cut.channel s r) ≤ old_in L (p'.channel s r)) (sym w.1) (subst (λ l. old_in p.wave.line (h.cut.channel s r) ≤ old_in p.wave.line l) (sym (calm.channel way s r a b)) (h.line.olds s r a b));
    stands = h.line.stands;
    unsaved = λ r b e. let u = (w.2 r b).unsaved (e ∙ w.1) in let o = h.line.unsaved r b u.0 in record { since = o.since; ops = o.ops; early = λ s. o.early s ∙ sym (u.1 s) };
    fits = subst (λ L. (s r : ℕ) → s < n → r < n → pair_line P L s r (h.cut.journal s) (h.cut.journal r) (h.cut.channel s r)) (sym w.1) h.line.fits;
  };
}
  where
    w : (p.wave.under_way ≡ true) × (p'.wave.line ≡ p.wave.line) × ((r : ℕ) → r < n → CalmLayer p.wave.line (p.layer r) (p'.layer r))
    w = calm.wave way

    back : (r : ℕ) → r < n → stopped_in p' r ≡ false → stopped_in p r ≡ false
    back r b e = (w.2 r b).on (subst (λ L. has_stopped L (p'.layer r) ≡ false) w.1 e)

-- Before any save all is in the cut, and none of it is new.
pub in_cut-all : (L o : ℕ) (q : List Packet) → o ≤ L → AllByRecursion (λ x. (L ≤ x.1.epoch) × (x.1.epoch ≤ o)) q → q ≡ in_cut L q
in_cut-all L o [] b h = refl
in_cut-all L o (x ∷ q) b h = ap (λ z. x ∷ z) (in_cut-all L o q b h.1) ∙ sym (cond-false (is_after L x) (in_cut L q) (x ∷ in_cut L q) (none_after L o q b x h.0.1))

pub new_in-none : (L : ℕ) (q : List Packet) → on_channel (suc L) q ≡ 0 → new_in L q ≡ []
new_in-none L [] e = refl
new_in-none L (x ∷ q) e = cond-false (x.1.epoch == suc L) (x.0 ∷ new_in L q) (new_in L q) (ne_eqb x.1.epoch (suc L) (λ d. omega (arith, e, ap {B = ℕ} (λ b. cond b 1 0) (eq-eqb x.1.epoch (suc L) d)))) ∙ new_in-none L q (omega (arith, e))

-- A turn: first what is sent, then the save.
abbrev sent_only : Protocol → ℕ → Did → Protocol
sent_only p r (Sent to m) = move_send p r to m
sent_only p r Nothing = p
sent_only p r Local = p
sent_only p r Marked = p

calm_after : (n : ℕ) (p : Protocol) (r : ℕ) (d : Did) → r < n → Kept n p → Calm n (sent_only p r d) (protocol_after n p r d)
calm_after n p r Nothing b k = calm_refl n p p refl refl (λ w. (w, refl))
calm_after n p r Local b k = calm_refl n p p refl refl (λ w. (w, refl))
calm_after n p r (Sent to m) b k = cond_both (nat_lt 0 ((p.layer r).skip to)) (move_skip p r to) (move_send p r to m) (Calm n (move_send p r to m))
    (λ e. record {
      channel = λ w x y a c. at_set_pair (λ q. p.channel x y ≡ q) p.channel r to (p.channel r to ++ (m, record { epoch = (p.layer r).epoch; logging = (p.layer r).logging }) ∷ []) x y
          (λ ex ey. absurd (omega (arith, ltb-true 0 ((p.layer r).skip to) e, k.skips w r to b (subst (λ z. z < n) ey c)))) refl;
      wave = λ w. (
        w,
        refl,
        λ x d. at_set_both (λ l l'. CalmLayer p.wave.line l l') p.layer p.layer r (layer_send (p.layer r) to) (record (p.layer r) { sent = set_at (p.layer r).sent to (suc ((p.layer r).sent to)); skip = set_at (p.layer r).skip to (pred ((p.layer r).skip to)) }) x
            (λ _. record { on = λ g. g; unsaved = λ g. (g, λ s. refl) }) (λ _. calm_layer p.wave.line (p.layer x)),
      );
    })
    (λ e. calm_refl n (move_send p r to m) (move_send p r to m) refl refl (λ w. (w, refl)))
calm_after n p r Marked b k = cond_both (p.layer r).asked (then_ready n (move_save p r) r) p (Calm n p)
    (λ e. calm_trans n p (move_save p r) (then_ready n (move_save p r) r) (calm_save n p r (asked_at n p r b e k)) (calm_then_ready n (move_save p r) r))
    (λ e. calm_refl n p p refl refl (λ w. (w, refl)))

sent_layer : (n : ℕ) (p : Protocol) (r : ℕ) (d : Did) (x : ℕ) → CalmLayer p.wave.line (p.layer x) ((sent_only p r d).layer x)
sent_layer n p r Nothing x = calm_layer p.wave.line (p.layer x)
sent_layer n p r Local x = calm_layer p.wave.line (p.layer x)
sent_layer n p r Marked x = calm_layer p.wave.line (p.layer x)
sent_layer n p r (Sent to m) x = calm_set p.wave.line p.layer r (layer_send (p.layer r) to) (record { on = λ d. d; unsaved = λ d. (d, λ s. refl) }) x

sent_wave : (p : Protocol) (r : ℕ) (d : Did) → (sent_only p r d).wave ≡ p.wave
sent_wave p r Nothing = refl
sent_wave p r Local = refl
sent_wave p r Marked = refl
sent_wave p r (Sent to m) = refl

in_cut-push_in : (L : ℕ) (q : List Packet) (x : Packet) → is_after L x ≡ false → in_cut L (q ++ x ∷ []) ≡ in_cut L q ++ x ∷ []
in_cut-push_in L [] x e = cond-false (is_after L x) [] (x ∷ []) e
in_cut-push_in L (y ∷ q) x e = rw (in_cut-push_in L q x e) (cond_append (is_after L y) (in_cut L q) (x ∷ []) y)
  where
    cond_append : (b : Bool) (l z : List Packet) (m : Packet) → cond b (l ++ z) (m ∷ (l ++ z)) ≡ cond b l (m ∷ l) ++ z
    cond_append true l z m = refl
    cond_append false l z m = refl

in_cut-push_after : (L : ℕ) (q : List Packet) (x : Packet) → is_after L x ≡ true → in_cut L (q ++ x ∷ []) ≡ in_cut L q
in_cut-push_after L [] x e = cond-true (is_after L x) [] (x ∷ []) e
in_cut-push_after L (y ∷ q) x e = rw (in_cut-push_after L q x e) refl

-- a send leaves the line
same_line : (p : Protocol) (r : ℕ) (d : Did) (y : ℕ) → has_stopped (sent_only p r d).wave.line ((sent_only p r d).layer y) ≡ false → has_stopped p.wave.line ((sent_only p r d).layer y) ≡ false
same_line p r Nothing y e = e
same_line p r Local y e = e
same_line p r Marked y e = e
same_line p r (Sent to m) y e = e

-- the cut's rank r makes the turn too
follows_turn : {S : Type 0} (n : ℕ) (rank : ℕ → Rank S) (p : Protocol) (r : ℕ) (k : Rank S) (d : Did) (c : Cut S) (j : ℕ → Journal S) → r < n → stopped_in p r ≡ false → Follows n rank p c
    → Follows n (set_at rank r k) (sent_only p r d) (record { rank = set_at c.rank r k; channel = packet_sends c.channel (p.layer r) r d; journal = j })
follows_turn {S} n rank p r k d c j b on h = record { ranks = λ y a e. ranks y a ((sent_layer n p r d y).on (same_line p r d y e)); channels = channels d }
  where
    ranks : (y : ℕ) → y < n → stopped_in p y ≡ false → set_at c.rank r k y ≡ set_at rank r k y
    ranks y a e = at_set_both (λ f g. f ≡ g) c.rank rank r k k y (λ _. refl) (λ _. h.ranks y a e)

    channels : (d : Did) (s y : ℕ) → s < n → y < n → has_stopped (sent_only p r d).wave.line ((sent_only p r d).layer y) ≡ false → packet_sends c.channel (p.layer r) r d s y ≡ in_cut (sent_only p r d).wave.line ((sent_only p r d).channel s y)
    channels Nothing s y a f e = h.channels s y a f e
    channels Local s y a f e = h.channels s y a f e
    channels Marked s y a f e = h.channels s y a f e
    channels (Sent to m) s y a f e = at_set_pair_both (λ u v. u ≡ in_cut p.wave.line v) c.channel p.channel r to (c.channel r to ++ x ∷ []) (p.channel r to ++ x ∷ []) s y
        (λ es ey. ap (λ l. l ++ x ∷ []) (h.channels r to b (subst (λ z. z < n) ey f) (subst (λ z. stopped_in p z ≡ false) ey ((sent_layer n p r (Sent to m) y).on e))) ∙ sym (in_cut-push_in p.wave.line (p.channel r to) x on))
        (h.channels s y a f ((sent_layer n p r (Sent to m) y).on e))
      where
        x : Packet
        x = (m, record { epoch = (p.layer r).epoch; logging = (p.layer r).logging })

-- it has stopped: the cut stays
follows_after : {S : Type 0} (n : ℕ) (rank : ℕ → Rank S) (p : Protocol) (r : ℕ) (k : Rank S) (d : Did) (c : Cut S) → stopped_in p r ≡ true → Follows n rank p c → Follows n (set_at rank r k) (sent_only p r d) c
follows_after {S} n rank p r k d c off h = record { ranks = λ y a e. ranks y a ((sent_layer n p r d y).on (same_line p r d y e)); channels = channels d }
  where
    ranks : (y : ℕ) → y < n → stopped_in p y ≡ false → c.rank y ≡ set_at rank r k y
    ranks y a e = at_set (λ g. c.rank y ≡ g) rank r k y (λ d. absurd (true≢false (sym off ∙ subst (λ z. stopped_in p z ≡ false) d e))) (λ _. h.ranks y a e)

    channels : (d : Did) (s y : ℕ) → s < n → y < n → has_stopped (sent_only p r d).wave.line ((sent_only p r d).layer y) ≡ false → c.channel s y ≡ in_cut (sent_only p r d).wave.line ((sent_only p r d).channel s y)
    channels Nothing s y a f e = h.channels s y a f e
    channels Local s y a f e = h.channels s y a f e
    channels Marked s y a f e = h.channels s y a f e
    channels (Sent to m) s y a f e = at_set_pair (λ v. c.channel s y ≡ in_cut p.wave.line v) p.channel r to (p.channel r to ++ x ∷ []) s y
        (λ es ey. h.channels s y a f ((sent_layer n p r (Sent to m) y).on e) ∙ ap (in_cut p.wave.line) (ap (λ z. p.channel z y) es ∙ ap (p.channel r) ey) ∙ sym (in_cut-push_after p.wave.line (p.channel r to) x off))
        (h.channels s y a f ((sent_layer n p r (Sent to m) y).on e))
      where
        x : Packet
        x = (m, record { epoch = (p.layer r).epoch; logging = (p.layer r).logging })

abbrev is_saved : Protocol → ℕ → Bool
is_saved p r = (p.layer r).epoch == suc p.wave.line

unsaved_at : (n : ℕ) (p : Protocol) (r : ℕ) → r < n → Kept n p → is_saved p r ≡ false → (p.layer r).epoch ≡ p.wave.line
unsaved_at n p r b k e = omega (arith, (k.pair r r b b).sender, eqb-false (p.layer r).epoch (suc p.wave.line) e)

old_in-push : (L : ℕ) (q : List Packet) (x : Packet) → old_in L (q ++ x ∷ []) ≡ old_in L q + old_in L (x ∷ [])
old_in-push L [] x = omega arith
old_in-push L (y ∷ q) x = omega (arith, old_in-push L q x)

olds_sent : (L n : ℕ) (q : ℕ → ℕ → List Packet) (p : Protocol) (r : ℕ) (d : Did) → ((s y : ℕ) → s < n → y < n → old_in L (q s y) ≤ old_in L (p.channel s y)) → (s y : ℕ) → s < n → y < n → old_in L (packet_sends q (p.layer r) r d s y) ≤ old_in L ((sent_only p r d).channel s y)
olds_sent L n q p r Nothing h s y a b = h s y a b
olds_sent L n q p r Local h s y a b = h s y a b
olds_sent L n q p r Marked h s y a b = h s y a b
olds_sent L n q p r (Sent to m) h s y a b = at_set_pair_both (λ u v. old_in L u ≤ old_in L v) q p.channel r to (q r to ++ x ∷ []) (p.channel r to ++ x ∷ []) s y
    (λ es ey. omega (arith, old_in-push L (q r to) x, old_in-push L (p.channel r to) x, h r to (subst (λ z. z < n) es a) (subst (λ z. z < n) ey b))) (h s y a b)
  where
    x : Packet
    x = (m, record { epoch = (p.layer r).epoch; logging = (p.layer r).logging })

olds_after : (L n : ℕ) (q : ℕ → ℕ → List Packet) (p : Protocol) (r : ℕ) (d : Did) → ((s y : ℕ) → s < n → y < n → old_in L (q s y) ≤ old_in L (p.channel s y)) → (s y : ℕ) → s < n → y < n → old_in L (q s y) ≤ old_in L ((sent_only p r d).channel s y)
olds_after L n q p r Nothing h s y a b = h s y a b
olds_after L n q p r Local h s y a b = h s y a b
olds_after L n q p r Marked h s y a b = h s y a b
olds_after L n q p r (Sent to m) h s y a b = at_set_pair (λ v. old_in L (q s y) ≤ old_in L v) p.channel r to (p.channel r to ++ x ∷ []) s y
    (λ es ey. omega (arith, old_in-push L (p.channel r to) x, subst (λ z. old_in L (q s y) ≤ old_in L (p.channel z y)) es (subst (λ z. old_in L (q s y) ≤ old_in L (p.channel s y)) ey (h s y a b)), ap (λ z. old_in L (p.channel r z)) ey)) (h s y a b)
  where
    x : Packet
    x = (m, record { epoch = (p.layer r).epoch; logging = (p.layer r).logging })

line_turn : {S : Type 0} (P : Process S) (n : ℕ) (p : Protocol) (r : ℕ) (c : Cut S) → r < n → Kept n p → IsLine P n p c → IsLine P n (sent_only p r (turn P (c.rank r)).did) (cut_turned P c (is_saved p r) (p.layer r) r)
line_turn {S} P n p r c b k h = record {
  olds = subst (λ w. (s y : ℕ) → s < n → y < n → old_in w.line (packet_sends c.channel (p.layer r) r (turn P (c.rank r)).did s y) ≤ old_in w.line ((sent_only p r (turn P (c.rank r)).did).channel s y)) (sym (sent_wave p r (turn P (c.rank r)).did)) (olds_sent p.wave.line n c.channel p r (turn P (c.rank r)).did h.olds);
  stands = λ x a. at_set_both (λ j z. Stands P j z) c.journal c.rank r (journal_turn saved (c.journal r) (turn P (c.rank r))) (turn P (c.rank r)).rank x
      (λ e. stands_turn P saved (c.journal r) (c.rank r) none (h.stands r b)) (λ e. h.stands x a);
  unsaved = λ x a e. let u = (sent_layer n p r (turn P (c.rank r)).did x).unsaved (e ∙ ap (λ w. w.line) (sent_wave p r (turn P (c.rank r)).did)) in
      let o = at_set (λ j. Unsaved j (p.layer x)) c.journal r (journal_turn saved (c.journal r) (turn P (c.rank r))) x
      (λ d. subst (λ z. Unsaved (journal_turn saved (c.journal r) (turn P (c.rank r))) (p.layer z)) (sym d) (here saved (λ f. f) (ap (λ z. (p.layer z).epoch) (sym d) ∙ u.0))) (λ d. h.unsaved x a u.0) in
      record { since = o.since; ops = o.ops; early = λ s. o.early s ∙ sym (u.1 s) };
  fits = subst (λ w. (s y : ℕ) → s < n → y < n → pair_line P w.line s y ((cut_turned P c saved (p.layer r) r).journal s) ((cut_turned P c saved (p.layer r) r).journal y) ((cut_turned P c saved (p.layer r) r).channel s y)) (sym (sent_wave p r (turn P (c.rank r)).did))
      (fits_turn P n p.wave.line c (p.layer r) r saved (λ e. eqb-true (p.layer r).epoch (suc p.wave.line) e) (λ e. (eqb-false (p.layer r).epoch (suc p.wave.line) e, (none e).0, (none e).1)) (h.stands r b) h.fits);
}
  where
    saved : Bool
    saved = (p.layer r).epoch == suc p.wave.line

    none : saved ≡ false → ((c.journal r).since ≡ []) × ((c.journal r).ops ≡ 0)
    none e = let u = h.unsaved r b (unsaved_at n p r b k e) in (u.since, u.ops)

    here : (s : Bool) → (s ≡ true → saved ≡ true) → (p.layer r).epoch ≡ p.wave.line → Unsaved (journal_turn s (c.journal r) (turn P (c.rank r))) (p.layer r)
    here true d e = absurd (omega (arith, eqb-true (p.layer r).epoch (suc p.wave.line) (d refl)))
    here false d e = let u = h.unsaved r b e in record { since = u.since; ops = u.ops; early = u.early }

line_after : {S : Type 0} (P : Process S) (n : ℕ) (p : Protocol) (r : ℕ) (d : Did) (c : Cut S) → IsLine P n p c → IsLine P n (sent_only p r d) c
line_after P n p r d c h = record {
  olds = subst (λ w. (s y : ℕ) → s < n → y < n → old_in w.line (c.channel s y) ≤ old_in w.line ((sent_only p r d).channel s y)) (sym (sent_wave p r d)) (olds_after p.wave.line n c.channel p r d h.olds);
  stands = h.stands;
  unsaved = λ x a e. let u = (sent_layer n p r d x).unsaved (e ∙ ap (λ w. w.line) (sent_wave p r d)) in let o = h.unsaved x a u.0 in record { since = o.since; ops = o.ops; early = λ s. o.early s ∙ sym (u.1 s) };
  fits = subst (λ w. (s y : ℕ) → s < n → y < n → pair_line P w.line s y (c.journal s) (c.journal y) (c.channel s y)) (sym (sent_wave p r d)) h.fits;
}

packets_sent : (q : ℕ → ℕ → List Packet) (l : Layer) (r : ℕ) (d : Did) → contents_of (packet_sends q l r d) ≡ sends (contents_of q) r d
packets_sent q l r Nothing = refl
packets_sent q l r Local = refl
packets_sent q l r Marked = refl
packets_sent q l r (Sent to m) = set_pair-map contents q r to (q r to ++ x ∷ []) ∙ ap (λ z. set_pair (contents_of q) r to z) (contents-push (q r to) x)
  where
    x : Packet
    x = (m, record { epoch = l.epoch; logging = l.logging })

turn_written : {S : Type 0} (b : Bool) (j : Journal S) (w : Written S) (t : Turned S) → IsWritten j w → IsWritten (journal_turn b j t) (written_turn false b w t)
turn_written true j w t h = record { image = h.image; early = h.early; log = h.log; ops = ap (λ k. if is_operation t.did then suc k else k) h.ops }
turn_written false j w t h = record { image = refl; early = h.early; log = h.log; ops = h.ops }

has_turn : {S : Type 0} (P : Process S) (n : ℕ) (rank : ℕ → Rank S) (p : Protocol) (v : ℕ → Written S) (r : ℕ) → r < n → Kept n p → HasLine P n rank p v → HasLine P n (set_at rank r (turn P (rank r)).rank) (sent_only p r (turn P (rank r)).did) (set_at v r (written_turn (stopped_in p r) (is_saved p r) (v r) (turn P (rank r))))
has_turn {S} P n rank p v r b k h = ⊎_elim off on (cases_Bool (stopped_in p r))
  where
    c : Cut S
    c = h.cut

    ahead : Quiet S
    ahead = record { rank = c.rank; channel = λ s y. new_in p.wave.line (c.channel s y) }

    lags : Lags P n (restart c.journal) ahead (λ y. after_late (c.journal y).since)
    lags = lag_restart P n c.journal ahead h.line.stands h.line.fits

    turn_plan : (t : Bool) → is_saved p r ≡ t → HasPlan P n (restart (set_at c.journal r (journal_turn t (c.journal r) (turn P (c.rank r)))))
    turn_plan true e = plan_turn P n c.journal r (turn P (c.rank r)) (λ op. plan_op P n (restart c.journal) ahead (λ y. after_late (c.journal y).since) r b lags op h.plan) h.plan
    turn_plan false e = let u = h.line.unsaved r b (unsaved_at n p r b k e) in plan_unsaved P n c.journal r (journal_turn false (c.journal r) (turn P (c.rank r))) u.since u.ops u.since u.ops h.plan

    off : stopped_in p r ≡ true → HasLine P n (set_at rank r (turn P (rank r)).rank) (sent_only p r (turn P (rank r)).did) (set_at v r (written_turn (stopped_in p r) (is_saved p r) (v r) (turn P (rank r))))
    off e = record {
      cut = c;
      written = λ x. at_set (IsWritten (c.journal x)) v r (written_turn (stopped_in p r) (is_saved p r) (v r) (turn P (rank r))) x (λ d. subst (IsWritten (c.journal x)) (ap v d ∙ sym (ap (λ z. written_turn z (is_saved p r) (v r) (turn P (rank r))) e)) (h.written x)) (λ _. h.written x);
      reached = h.reached;
      plan = h.plan;
      follows = follows_after n rank p r (turn P (rank r)).rank (turn P (rank r)).did c e h.follows;
      line = line_after P n p r (turn P (rank r)).did c h.line;
    }

    on : stopped_in p r ≡ false → HasLine P n (set_at rank r (turn P (rank r)).rank) (sent_only p r (turn P (rank r)).did) (set_at v r (written_turn (stopped_in p r) (is_saved p r) (v r) (turn P (rank r))))
    on e = subst (λ z. HasLine P n (set_at rank r (turn P z).rank) (sent_only p r (turn P z).did) (set_at v r (written_turn (stopped_in p r) (is_saved p r) (v r) (turn P z)))) (h.follows.ranks r b e) (record {
      cut = cut_turned P c (is_saved p r) (p.layer r) r;
      written = λ x. at_set_both IsWritten c.journal v r (journal_turn (is_saved p r) (c.journal r) (turn P (c.rank r))) (written_turn (stopped_in p r) (is_saved p r) (v r) (turn P (c.rank r))) x (λ _. subst (λ z. IsWritten (journal_turn (is_saved p r) (c.journal r) (turn P (c.rank r))) (written_turn z (is_saved p r) (v r) (turn P (c.rank r)))) (sym e) (turn_written (is_saved p r) (c.journal r) (v r) (turn P (c.rank r)) (h.written r))) (λ _. h.written x);
      plan = turn_plan (is_saved p r) refl;
      reached = subst (λ q. IsReached P n q) (cond-true (nat_lt r n) (turned (quiet_of c) r (turn P (c.rank r))) (quiet_of c) (lt-ltb r n b) ∙ ap (λ z. record { rank = set_at c.rank r (turn P (c.rank r)).rank; channel = z }) (sym (packets_sent c.channel (p.layer r) r (turn P (c.rank r)).did)))
          (reached_next P n (quiet_of c) (Turn r) h.reached);
      follows = follows_turn n rank p r (turn P (c.rank r)).rank (turn P (c.rank r)).did c (set_at c.journal r (journal_turn (is_saved p r) (c.journal r) (turn P (c.rank r)))) b e h.follows;
      line = line_turn P n p r c b k h.line;
    })

pub line_turned : {S : Type 0} (P : Process S) (n : ℕ) (rank : ℕ → Rank S) (p : Protocol) (v : ℕ → Written S) (r : ℕ) → r < n → Kept n p → p.wave.under_way ≡ true → HasLine P n rank p v → HasLine P n (set_at rank r (turn P (rank r)).rank) (protocol_after n p r (turn P (rank r)).did) (set_at v r (written_turn (stopped_in p r) (is_saved p r) (v r) (turn P (rank r))))
line_turned {S} P n rank p v r b k w h = line_calm P n (set_at rank r (turn P (rank r)).rank) (sent_only p r (turn P (rank r)).did) (protocol_after n p r (turn P (rank r)).did) (set_at v r (written_turn (stopped_in p r) (is_saved p r) (v r) (turn P (rank r)))) (calm_after n p r (turn P (rank r)).did b k) (ap (λ v. v.under_way) (after_wave n p r (turn P (rank r)).did) ∙ w)
    (has_turn P n rank p v r b k h)

-- An arrival.
intra≢early : Intra ≡ Early → ⊥
intra≢early = grind arith

late≢early : Late ≡ Early → ⊥
late≢early = grind arith

arrive_layer : (L : ℕ) (l : Layer) (s : ℕ) (cl : Class) → ((layer_arrive l s cl).epoch ≡ l.epoch) × (has_stopped L (layer_arrive l s cl) ≡ has_stopped L l) × ((x : ℕ) → (layer_arrive l s cl).early x ≡ early_more cl l.early s x)
arrive_layer L l s Late = (refl, refl, λ x. refl)
arrive_layer L l s Intra = (refl, refl, λ x. refl)
arrive_layer L l s Early = (refl, refl, λ x. refl)

early_more-same : (cl : Class) (f g : ℕ → ℕ) (s : ℕ) → ((x : ℕ) → f x ≡ g x) → (x : ℕ) → early_more cl f s x ≡ early_more cl g s x
early_more-same Late f g s h x = h x
early_more-same Intra f g s h x = h x
early_more-same Early f g s h x = at_set_both (λ a b. a ≡ b) f g s (suc (f s)) (suc (g s)) x (λ _. ap suc (h s)) (λ _. h x)

-- a rank that has saved gets no early arrivals
arrive_written : {S : Type 0} (b : Bool) (cl : Class) (j : Journal S) (w : Written S) (s : ℕ) (m : Message) → (b ≡ true → cl ≡ Early → ⊥) → IsWritten j w → IsWritten (journal_arrive b cl j s m) (written_arrive false b cl w s m)
arrive_written true Late j w s m never h = record { image = h.image; early = h.early; log = entries-push j.since (record { source = s; message = m; late = true }) ∙ ap (λ l. l ++ Late_entry s m ∷ []) h.log; ops = h.ops }
arrive_written true Intra j w s m never h = record { image = h.image; early = h.early; log = entries-push j.since (record { source = s; message = m; late = false }) ∙ ap (λ l. l ++ Intra_entry s ∷ []) h.log; ops = h.ops }
arrive_written true Early j w s m never h = absurd (never refl refl)
arrive_written false cl j w s m never h = record { image = ap (λ k. arrive k s m) h.image; early = early_more-same cl j.early w.early s h.early; log = h.log; ops = h.ops }

has_arrive : {S : Type 0} (P : Process S) (n : ℕ) (rank : ℕ → Rank S) (p : Protocol) (v : ℕ → Written S) (s r : ℕ) (x : Packet) (rest : List Packet) → s < n → r < n → p.channel s r ≡ x ∷ rest → Kept n p
    → (stopped_in p r ≡ false → is_after p.wave.line x ≡ false) → HasLine P n rank p v → HasLine P n (set_at rank r (arrive (rank r) s x.0)) (move_arrive p s r x.1.epoch rest) (set_at v r (written_arrive (stopped_in p r) (is_saved p r) (class_of (p.layer r).epoch x.1.epoch) (v r) s x.0))
has_arrive {S} P n rank p v s r x rest a b is k safe h = ⊎_elim off on (cases_Bool (stopped_in p r))
  where
    c : Cut S
    c = h.cut

    cl : Class
    cl = class_of (p.layer r).epoch x.1.epoch

    saved : Bool
    saved = (p.layer r).epoch == suc p.wave.line

    after : Protocol
    after = move_arrive p s r x.1.epoch rest

    k' : Rank S
    k' = arrive (rank r) s x.0

    -- the layer of each rank afterwards
    stop_same : (y : ℕ) → has_stopped p.wave.line (after.layer y) ≡ has_stopped p.wave.line (p.layer y)
    stop_same y = at_set (λ l. has_stopped p.wave.line l ≡ has_stopped p.wave.line (p.layer y)) p.layer r (layer_arrive (p.layer r) s cl) y (λ e. (arrive_layer p.wave.line (p.layer r) s cl).1 ∙ sym (ap (λ z. has_stopped p.wave.line (p.layer z)) e)) (λ e. refl)

    here_pair : PairKept p.wave.line (out_of (p.layer s) r) (in_of (p.layer r) s) (x ∷ rest) (p.control s r)
    here_pair = subst (λ q. PairKept p.wave.line (out_of (p.layer s) r) (in_of (p.layer r) s) q (p.control s r)) is (k.pair s r a b)

    new_when_stopped : stopped_in p r ≡ true → x.1.epoch ≡ suc p.wave.line
    new_when_stopped e = let both = and_parts ((p.layer r).epoch == suc p.wave.line) (not (p.layer r).logging) e in
        let at = eqb-true (p.layer r).epoch (suc p.wave.line) both.0 in
        let none = (here_pair.ready at ((k.rank r b).all_ready ((k.rank r b).stopped at (not-true (p.layer r).logging both.1))).1).1 in
        ⊎_elim (λ d. absurd (omega (arith, none, ap {B = ℕ} (λ z. cond z 1 0) (eq-eqb x.1.epoch p.wave.line d)))) (λ d. omega (arith, here_pair.epochs.0, here_pair.sender, here_pair.receiver, ne_lt x.1.epoch p.wave.line d)) (cases_eq x.1.epoch p.wave.line)
      where
        ne_lt : (e L : ℕ) → (e ≡ L → ⊥) → (e < L) ⊎ (L < e)
        ne_lt e L d = ⊎_elim (λ f. absurd (d f)) (λ f. f) (cases_order e L)

    off : stopped_in p r ≡ true → HasLine P n (set_at rank r k') after (set_at v r (written_arrive (stopped_in p r) (is_saved p r) (class_of (p.layer r).epoch x.1.epoch) (v r) s x.0))
    off e = record {
      cut = c;
      written = λ y. at_set (IsWritten (c.journal y)) v r (written_arrive (stopped_in p r) saved cl (v r) s x.0) y (λ f. subst (IsWritten (c.journal y)) (ap v f ∙ sym (ap (λ z. written_arrive z saved cl (v r) s x.0) e)) (h.written y)) (λ _. h.written y);
      reached = h.reached;
      plan = h.plan;
      follows = record {
        ranks = λ y d f. at_set (λ g. c.rank y ≡ g) rank r k' y (λ z. absurd (true≢false (sym e ∙ subst (λ w. stopped_in p w ≡ false) z (sym (stop_same y) ∙ f)))) (λ _. h.follows.ranks y d (sym (stop_same y) ∙ f));
        channels = λ t y d f g. at_set_pair (λ v. c.channel t y ≡ in_cut p.wave.line v) p.channel s r rest t y (λ et ey. absurd (true≢false (sym e ∙ subst (λ w. stopped_in p w ≡ false) ey (sym (stop_same y) ∙ g)))) (h.follows.channels t y d f (sym (stop_same y) ∙ g));
      };
      line = record {
        olds = λ t y d f. at_set_pair (λ v. old_in p.wave.line (c.channel t y) ≤ old_in p.wave.line v) p.channel s r rest t y
            (λ et ey. subst (λ z. old_in p.wave.line (c.channel z y) ≤ old_in p.wave.line rest) (sym et) (subst (λ z. old_in p.wave.line (c.channel s z) ≤ old_in p.wave.line rest) (sym ey)
            (omega (arith, h.line.olds s r a b, ap (old_in p.wave.line) is, ap {B = ℕ} (λ z. cond z 0 1) (eq-eqb x.1.epoch (suc p.wave.line) (new_when_stopped e)))))) (h.line.olds t y d f);
        stands = h.line.stands;
        unsaved = λ y d. at_set (λ l. l.epoch ≡ p.wave.line → Unsaved (c.journal y) l) p.layer r (layer_arrive (p.layer r) s cl) y
            (λ z f. absurd (omega (arith, f, (arrive_layer p.wave.line (p.layer r) s cl).0, eqb-true (p.layer r).epoch (suc p.wave.line) (and_parts ((p.layer r).epoch == suc p.wave.line) (not (p.layer r).logging) e).0)))
            (λ _. h.line.unsaved y d);
        fits = h.line.fits;
      };
    }

    pair : PairKept p.wave.line (out_of (p.layer s) r) (in_of (p.layer r) s) (x ∷ rest) (p.control s r)
    pair = subst (λ q. PairKept p.wave.line (out_of (p.layer s) r) (in_of (p.layer r) s) q (p.control s r)) is (k.pair s r a b)

    low : p.wave.line ≤ x.1.epoch
    low = pair.epochs.0.0

    high : x.1.epoch ≤ suc p.wave.line
    high = omega (arith, pair.epochs.0, pair.sender)

    none : saved ≡ false → ((c.journal r).since ≡ []) × ((c.journal r).ops ≡ 0)
    none e = let u = h.line.unsaved r b (unsaved_at n p r b k e) in (u.since, u.ops)

    when_saved : saved ≡ true → ((cl ≡ Late) × (x.1.epoch ≡ suc p.wave.line → ⊥)) ⊎ ((cl ≡ Intra) × (x.1.epoch ≡ suc p.wave.line))
    when_saved e = let at = eqb-true (p.layer r).epoch (suc p.wave.line) e in ⊎_elim
        (λ d. inl (class_late (p.layer r).epoch x.1.epoch (omega (arith, at, low, high)), λ f. omega (arith, at, low, high)))
        (λ d. inr (class_intra (p.layer r).epoch x.1.epoch (omega (arith, at, low, high)), omega (arith, at, low, high)))
        (cases_lt x.1.epoch (suc p.wave.line))

    when_not : saved ≡ false → ((c.journal r).since ≡ []) × (((x.1.epoch ≡ suc p.wave.line → ⊥) × ((cl ≡ Early) → ⊥)) ⊎ ((cl ≡ Early) × (x.1.epoch ≡ suc p.wave.line)))
    when_not e = let at = unsaved_at n p r b k e in (
      (none e).0,
      ⊎_elim
          (λ d. inl ((λ f. omega (arith, at, low, high)), λ f. intra≢early (sym (class_intra (p.layer r).epoch x.1.epoch (omega (arith, at, low, high))) ∙ f)))
          (λ d. inr (class_early (p.layer r).epoch x.1.epoch (omega (arith, at, low, high)), omega (arith, at, low, high)))
          (cases_lt x.1.epoch (suc p.wave.line)),
    )

    never_early : saved ≡ true → cl ≡ Early → ⊥
    never_early e f = ⊎_elim (λ d. late≢early (sym d.0 ∙ f)) (λ d. intra≢early (sym d.0 ∙ f)) (when_saved e)

    on : stopped_in p r ≡ false → HasLine P n (set_at rank r k') after (set_at v r (written_arrive (stopped_in p r) (is_saved p r) (class_of (p.layer r).epoch x.1.epoch) (v r) s x.0))
    on e = record {
      cut = record { rank = set_at c.rank r (arrive (c.rank r) s x.0); channel = set_pair c.channel s r (in_cut p.wave.line rest); journal = set_at c.journal r (journal_arrive saved cl (c.journal r) s x.0) };
      written = λ y. at_set_both IsWritten c.journal v r (journal_arrive saved cl (c.journal r) s x.0) (written_arrive (stopped_in p r) saved cl (v r) s x.0) y (λ _. subst (λ z. IsWritten (journal_arrive saved cl (c.journal r) s x.0) (written_arrive z saved cl (v r) s x.0)) (sym e) (arrive_written saved cl (c.journal r) (v r) s x.0 never_early (h.written r))) (λ _. h.written y);
      reached = subst (λ q. IsReached P n q) path (reached_next P n (quiet_of c) (Deliver s r) h.reached);
      plan = arrive_plan saved refl;
      follows = record {
        ranks = λ y d f. at_set_both (λ u v. u ≡ v) c.rank rank r (arrive (c.rank r) s x.0) k' y (λ _. ap (λ z. arrive z s x.0) (h.follows.ranks r b e)) (λ _. h.follows.ranks y d (sym (stop_same y) ∙ f));
        channels = λ t y d f g. at_set_pair_both (λ u v. u ≡ in_cut p.wave.line v) c.channel p.channel s r (in_cut p.wave.line rest) rest t y (λ et ey. refl) (h.follows.channels t y d f (sym (stop_same y) ∙ g));
      };
      line = record {
        olds = λ t y d f. at_set_pair_both (λ u v. old_in p.wave.line u ≤ old_in p.wave.line v) c.channel p.channel s r (in_cut p.wave.line rest) rest t y (λ et ey. omega (arith, h.line.olds s r a b, ap (old_in p.wave.line) is, ap (old_in p.wave.line) first)) (h.line.olds t y d f);
        stands = λ y d. at_set_both (λ j z. Stands P j z) c.journal c.rank r (journal_arrive saved cl (c.journal r) s x.0) (arrive (c.rank r) s x.0) y
            (λ _. stands_arrive P saved cl (c.journal r) (c.rank r) s x.0 none (h.line.stands r b)) (λ _. h.line.stands y d);
        unsaved = λ y d. at_set_both (λ j l. l.epoch ≡ p.wave.line → Unsaved j l) c.journal p.layer r (journal_arrive saved cl (c.journal r) s x.0) (layer_arrive (p.layer r) s cl) y
            (λ _. here saved (λ z. z)) (λ _. h.line.unsaved y d);
        fits = fits_arrive P n p.wave.line c s r saved cl x (in_cut p.wave.line rest) first when_saved when_not none (h.line.stands r b) h.line.fits;
      };
    }
      where
        first : c.channel s r ≡ x ∷ in_cut p.wave.line rest
        first = h.follows.channels s r a b e ∙ ap (in_cut p.wave.line) is ∙ cond-false (is_after p.wave.line x) (in_cut p.wave.line rest) (x ∷ in_cut p.wave.line rest) (safe e)

        ahead : Quiet S
        ahead = record { rank = c.rank; channel = λ s y. new_in p.wave.line (c.channel s y) }

        lags : Lags P n (restart c.journal) ahead (λ y. after_late (c.journal y).since)
        lags = lag_restart P n c.journal ahead h.line.stands h.line.fits

        is_new : saved ≡ true → is_late cl ≡ false → x.1.epoch ≡ suc p.wave.line
        is_new e f = ⊎_elim (λ d. absurd (true≢false (sym (ap is_late d.0) ∙ f))) (λ d. d.1) (when_saved e)

        arrive_plan : (t : Bool) → saved ≡ t → HasPlan P n (restart (set_at c.journal r (journal_arrive t cl (c.journal r) s x.0)))
        arrive_plan true e = plan_arrive P n c.journal r s x.0 cl (λ f. plan_late P n (restart c.journal) r s x.0 b h.plan)
            (λ f. plan_intra P n (restart c.journal) ahead (λ y. after_late (c.journal y).since) s r x.0 (new_in p.wave.line (in_cut p.wave.line rest)) a b lags
            (ap (new_in p.wave.line) first ∙ cond-true (x.1.epoch == suc p.wave.line) (x.0 ∷ new_in p.wave.line (in_cut p.wave.line rest)) (new_in p.wave.line (in_cut p.wave.line rest)) (eq-eqb x.1.epoch (suc p.wave.line) (is_new e f))) h.plan)
        arrive_plan false e = plan_unsaved P n c.journal r (journal_arrive false cl (c.journal r) s x.0) (none e).0 (none e).1 (none e).0 (none e).1 h.plan

        path : quiet_next P n (quiet_of c) (Deliver s r) ≡ record { rank = set_at c.rank r (arrive (c.rank r) s x.0); channel = contents_of (set_pair c.channel s r (in_cut p.wave.line rest)) }
        path = cond-true (nat_lt s n && nat_lt r n) (quiet_arrives (quiet_of c) s r (contents (c.channel s r))) (quiet_of c) (and_from (nat_lt s n) (nat_lt r n) (lt-ltb s n a) (lt-ltb r n b))
            ∙ ap (λ l. quiet_arrives (quiet_of c) s r (contents l)) first
            ∙ ap (λ z. record { rank = set_at c.rank r (arrive (c.rank r) s x.0); channel = z }) (sym (set_pair-map contents c.channel s r (in_cut p.wave.line rest)))

        here : (t : Bool) → (t ≡ true → saved ≡ true) → (layer_arrive (p.layer r) s cl).epoch ≡ p.wave.line → Unsaved (journal_arrive t cl (c.journal r) s x.0) (layer_arrive (p.layer r) s cl)
        here true d f = absurd (omega (arith, f, (arrive_layer p.wave.line (p.layer r) s cl).0, eqb-true (p.layer r).epoch (suc p.wave.line) (d refl)))
        here false d f = let u = h.line.unsaved r b (sym (arrive_layer p.wave.line (p.layer r) s cl).0 ∙ f) in
            record { since = u.since; ops = u.ops; early = λ y. early_more-same cl (c.journal r).early (p.layer r).early s u.early y ∙ sym ((arrive_layer p.wave.line (p.layer r) s cl).2 y) }

pub line_arrived : {S : Type 0} (P : Process S) (n : ℕ) (rank : ℕ → Rank S) (p : Protocol) (v : ℕ → Written S) (s r : ℕ) (x : Packet) (rest : List Packet) → s < n → r < n → p.channel s r ≡ x ∷ rest → Invariant n p → p.wave.under_way ≡ true → HasLine P n rank p v
    → HasLine P n (set_at rank r (arrive (rank r) s x.0)) (then_ready n (move_arrive (then_stop p r x) s r x.1.epoch rest) r) (written_delivered v (then_stop p r x) s r x)
line_arrived P n rank p v s r x rest a b is i w h = line_calm P n (set_at rank r (arrive (rank r) s x.0)) (move_arrive q s r x.1.epoch rest) (then_ready n (move_arrive q s r x.1.epoch rest) r) (written_delivered v q s r x) (calm_then_ready n (move_arrive q s r x.1.epoch rest) r) (ap (λ z. z.under_way) (ready_wave n (move_arrive q s r x.1.epoch rest) r) ∙ on)
    (has_arrive P n rank q v s r x rest a b here (inv_then_stop n p s r x rest a b is i).kept (safe_then_stop n p s r x rest a b is i.kept) (line_calm P n rank p q v (calm_then_stop n p r x) on h))
  where
    q : Protocol
    q = then_stop p r x

    here : q.channel s r ≡ x ∷ rest
    here = ap (λ g. g s r) (then_stop-channel p r x) ∙ is

    on : q.wave.under_way ≡ true
    on = ap (λ z. z.under_way) (stop_wave p r x) ∙ w

-- When all have stopped, the images and logs stand for the cut.
none_old : (L o : ℕ) (q : List Packet) → AllByRecursion (λ x. (L ≤ x.1.epoch) × (x.1.epoch ≤ o)) q → o ≤ suc L → on_channel L q ≡ 0 → old_in L q ≡ 0
none_old L o [] h b e = refl
none_old L o (x ∷ q) h b e = omega (arith, none_old L o q h.1 b (omega (arith, e)), ap {B = ℕ} (λ z. cond z 0 1) (eq-eqb x.1.epoch (suc L) (⊎_elim (λ d. absurd (omega (arith, e, ap {B = ℕ} (λ z. cond z 1 0) (eq-eqb x.1.epoch L d)))) (λ d. ⊎_elim (λ f. absurd (omega (arith, h.0))) (λ f. omega (arith, h.0)) (lt_or x.1.epoch L d)) (cases_eq x.1.epoch L))))
  where
    lt_or : (e L : ℕ) → (e ≡ L → ⊥) → (e < L) ⊎ (L < e)
    lt_or e L d = ⊎_elim (λ f. absurd (d f)) (λ f. f) (cases_order e L)

all_new : (L : ℕ) (q : List Packet) → old_in L q ≡ 0 → new_in L q ≡ contents q
all_new L [] e = refl
all_new L (x ∷ q) e = ⊎_elim
    (λ d. cond-true (x.1.epoch == suc L) (x.0 ∷ new_in L q) (new_in L q) d ∙ ap (λ l. x.0 ∷ l) (all_new L q (omega (arith, e))))
    (λ d. absurd (omega (arith, e, ap {B = ℕ} (λ z. cond z 0 1) d)))
    (cases_Bool (x.1.epoch == suc L))

pub commits : {S : Type 0} (P : Process S) (n : ℕ) (rank : ℕ → Rank S) (p : Protocol) (v : ℕ → Written S) → ((x : ℕ) → x < n → p.wave.stopped x ≡ true) → Kept n p → (h : HasLine P n rank p v) → StandFor P n h.cut.journal (quiet_of h.cut)
commits {S} P n rank p v all k h = record {
  reached = h.reached;
  ranks = h.line.stands;
  plan = h.plan;
  pairs = λ s r a b. subst (λ l. PairFits (sends_to r (replayed P (h.cut.journal s)).sends) ((h.cut.journal r).early s) (intra_from s (h.cut.journal r).since) l) (all_new p.wave.line (h.cut.channel s r) (omega (arith, h.line.olds s r a b, live s r a b))) (h.line.fits s r a b);
}
  where
    noted : (x : ℕ) → x < n → ((p.layer x).epoch ≡ suc p.wave.line) × ((p.layer x).logging ≡ false)
    noted x b = RankMoves.noted_is_stopped p.wave.line (p.wave.ready x) (p.layer x).epoch (p.layer x).logging (p.layer x).was_ready (p.control x 0) (subst (λ t. up_kept p.wave (p.wave.ready x) t (p.layer x) (p.control x 0)) (all x b) (k.up x b))

    live : (s r : ℕ) → s < n → r < n → old_in p.wave.line (p.channel s r) ≡ 0
    live s r a b = none_old p.wave.line (p.layer s).epoch (p.channel s r) (k.pair s r a b).epochs (omega (arith, (noted s a).0)) ((k.pair s r a b).ready (noted r b).0 ((k.rank r b).all_ready ((k.rank r b).stopped (noted r b).0 (noted r b).1)).1).1

-- and a restart from them lags behind it
pub restarts : {S : Type 0} (P : Process S) (n : ℕ) (j : ℕ → Journal S) (g : Quiet S) → StandFor P n j g → IsLag P n (restart j)
restarts P n j g h = record { ahead = g; reached = h.reached; since = λ r. after_late (j r).since; lags = lag_restart P n j g h.ranks h.pairs }
