-- Quiet runs, lists of packets, and that a rank which has not stopped meets no orphan.
use Rattle.std.proofs.Common.{◌≡◌, ℕ, suc, ◌<◌, ◌≤◌, Bool, true, false, not, List, [], ◌∷◌, ◌++◌, sym, refl, ap, ◌∙◌, subst, ⊎_elim, arith}
use Rattle.std.proofs.Math.Path.{fun_ext}
use Rattle.std.specs.Prelude.{◌&&◌, ◌==◌, nat_lt}
use Rattle.std.proofs.lemmas.Bool.{cond_both, cases_Bool, and_parts, and_from, and_left, and_right, not-true, eqb-true, eq-eqb, ne_eqb, true≢false, false_from_ne_true}
use Rattle.mpi_words.specs.declared.message.Message.{Message}
use Rattle.core_laws.specs.Rows.{set_at, set_pair}
use Rattle.core_laws.specs.Protocol.{Packet, Layer, Protocol, move_send, move_save, move_ready, move_stop, move_skip}
use Rattle.core_laws.specs.Process.{Ranks, ranks, Process, Did, Nothing, Sent, Local, Marked, Turned}
use Rattle.core_laws.specs.Quiet.{quiet_next_of, quiet_run_of, quiet_start_of, IsReached_of, Quiet, Event, sends, quiet_next, IsReached}
use Rattle.core_laws.specs.Handling.{then_ready, then_stop, ready_due, stops_at, protocol_after}
use Rattle.core_laws.specs.Invariant.{Kept, PairKept, in_of, out_of, bit}
use Rattle.core_laws.specs.Stopping.{has_stopped, is_after, contents}
use Rattle.core_laws.proofs.Changes
use Rattle.core_laws.proofs.Changes.{each_set, at_set, at_set_both, each_set_pair, at_set_pair, at_set_pair_both}
use Rattle.core_laws.proofs.RankMoves

-- One more event.
pub run_more : {S : Type 0} (P : Ranks S) (n : ℕ) (q : Quiet S) (es fs : List Event) → quiet_run_of P n q (es ++ fs) ≡ quiet_run_of P n (quiet_run_of P n q es) fs
run_more P n q [] fs = refl
run_more P n q (d ∷ es) fs = run_more P n (quiet_next_of P n q d) es fs

-- and some more
pub reached_run : {S : Type 0} (P : Ranks S) (n : ℕ) (q : Quiet S) (es : List Event) → IsReached_of P n q → IsReached_of P n (quiet_run_of P n q es)
reached_run P n q es h = (h.0 ++ es, run_more P n (quiet_start_of P) h.0 es ∙ ap (λ d. quiet_run_of P n d es) h.1)

pub reached_next : {S : Type 0} (P : Process S) (n : ℕ) (q : Quiet S) (e : Event) → IsReached P n q → IsReached P n (quiet_next P n q e)
reached_next P n q e h = reached_run (ranks P) n q (e ∷ []) h

-- Lists of packets.
pub contents-push : (q : List Packet) (x : Packet) → contents (q ++ x ∷ []) ≡ contents q ++ x.0 ∷ []
contents-push [] x = refl
contents-push (y ∷ q) x = ap (λ z. y.0 ∷ z) (contents-push q x)

pub set_at-map : {A B : Type 0} (g : A → B) (f : ℕ → A) (k : ℕ) (v : A) → (λ x. g (set_at f k v x)) ≡ set_at (λ x. g (f x)) k (g v)
set_at-map g f k v = fun_ext (λ x. at_set_both (λ a b. g a ≡ b) f (λ x. g (f x)) k v (g v) x (λ e. refl) (λ e. refl))

pub set_pair-map : {A B : Type 0} (g : A → B) (f : ℕ → ℕ → A) (a b : ℕ) (v : A) → (λ x y. g (set_pair f a b v x y)) ≡ set_pair (λ x y. g (f x y)) a b (g v)
set_pair-map g f a b v = set_at-map (λ h y. g (h y)) f a (set_at (f a) b v) ∙ ap (λ h. set_at (λ x y. g (f x y)) a h) (set_at-map g (f a) b v)

-- A move that leaves the channels and stops nobody's being stopped.
abbrev pub stopped_in : Protocol → ℕ → Bool
stopped_in p r = has_stopped p.wave.line (p.layer r)

-- Controls change no machine and no channel.
pub not_stopped : (L : ℕ) (l : Layer) → l.logging ≡ true → has_stopped L l ≡ false
not_stopped L l e = and_right (l.epoch == suc L) (not l.logging) (ap not e)

-- A wave begins: all is in the cut.
pub none_after : (L : ℕ) (o : ℕ) (q : List Packet) → o ≤ L → ((x : Packet) → x.1.epoch ≤ o → is_after L x ≡ false)
none_after L o q b x e = and_left (x.1.epoch == suc L) (not x.1.logging) (ne_eqb x.1.epoch (suc L) (λ d. omega arith))

-- A turn.
pub after_wave : (n : ℕ) (p : Protocol) (r : ℕ) (d : Did) → (protocol_after n p r d).wave ≡ p.wave
after_wave n p r Nothing = refl
after_wave n p r Local = refl
after_wave n p r (Sent to m) = cond_both (nat_lt 0 ((p.layer r).skip to)) (move_skip p r to) (move_send p r to m) (λ z. z.wave ≡ p.wave) (λ e. refl) (λ e. refl)
after_wave n p r Marked = cond_both (p.layer r).asked (then_ready n (move_save p r) r) p (λ z. z.wave ≡ p.wave) (λ e. cond_both (ready_due n ((move_save p r).layer r)) (move_ready (move_save p r) r) (move_save p r) (λ z. z.wave ≡ p.wave) (λ d. refl) (λ d. refl)) (λ e. refl)

abbrev pub contents_of : (ℕ → ℕ → List Packet) → ℕ → ℕ → List Message
contents_of c s r = contents (c s r)

pub ready_channel : (n : ℕ) (p : Protocol) (r : ℕ) → (then_ready n p r).channel ≡ p.channel
ready_channel n p r = cond_both (ready_due n (p.layer r)) (move_ready p r) p (λ z. z.channel ≡ p.channel) (λ e. refl) (λ e. refl)

pub asked_at : (n : ℕ) (p : Protocol) (r : ℕ) → r < n → (p.layer r).asked ≡ true → Kept n p → (p.layer r).epoch ≡ p.wave.line
asked_at n p r b asked h = omega (arith, (h.down r b).request, ap bit asked, (h.rank r b).least, RankMoves.bit_most p.wave.under_way)

abbrev pub turned : {S : Type 0} → Quiet S → ℕ → Turned S → Quiet S
turned q r t = record { rank = set_at q.rank r t.rank; channel = sends q.channel r t.did }

-- A rank that has not stopped, and that does not stop at this message, meets none that was sent after its sender's stop.
pub no_orphan : (n : ℕ) (p : Protocol) (s r : ℕ) (x : Packet) (rest : List Packet) → s < n → r < n → p.channel s r ≡ x ∷ rest → Kept n p → stops_at (p.layer r) x ≡ false → stopped_in p r ≡ false → is_after p.wave.line x ≡ false
no_orphan n p s r x rest a b is k goes_on on = false_from_ne_true (is_after p.wave.line x) (λ e. wrong e)
  where
    pair : PairKept p.wave.line (out_of (p.layer s) r) (in_of (p.layer r) s) (x ∷ rest) (p.control s r)
    pair = subst (λ q. PairKept p.wave.line (out_of (p.layer s) r) (in_of (p.layer r) s) q (p.control s r)) is (k.pair s r a b)

    wrong : is_after p.wave.line x ≡ true → ⊥
    wrong e = true≢false (sym stops ∙ goes_on)
      where
        both : ((x.1.epoch == suc p.wave.line) ≡ true) × (not x.1.logging ≡ true)
        both = and_parts (x.1.epoch == suc p.wave.line) (not x.1.logging) e

        at : x.1.epoch ≡ suc p.wave.line
        at = eqb-true x.1.epoch (suc p.wave.line) both.0

        told : p.wave.stop_told ≡ true
        told = (k.rank s a).stopped (omega (arith, pair.epochs.0, pair.sender, at)) (pair.flags.0 at (not-true x.1.logging both.1))

        saved : (p.layer r).epoch ≡ suc p.wave.line
        saved = ((k.rank r b).all_ready told).0

        logs : (p.layer r).logging ≡ true
        logs = ⊎_elim (λ d. d) (λ d. absurd (true≢false (sym (and_from ((p.layer r).epoch == suc p.wave.line) (not (p.layer r).logging) (eq-eqb (p.layer r).epoch (suc p.wave.line) saved) (ap not d)) ∙ on))) (cases_Bool (p.layer r).logging)

        stops : stops_at (p.layer r) x ≡ true
        stops = and_from (p.layer r).logging ((x.1.epoch == (p.layer r).epoch) && not x.1.logging) logs (and_from (x.1.epoch == (p.layer r).epoch) (not x.1.logging) (eq-eqb x.1.epoch (p.layer r).epoch (at ∙ sym saved)) both.1)

pub then_stop-channel : (p : Protocol) (r : ℕ) (x : Packet) → (then_stop p r x).channel ≡ p.channel
then_stop-channel p r x = cond_both (stops_at (p.layer r) x) (move_stop p r) p (λ q. q.channel ≡ p.channel) (λ e. refl) (λ e. refl)

pub safe_then_stop : (n : ℕ) (p : Protocol) (s r : ℕ) (x : Packet) (rest : List Packet) → s < n → r < n → p.channel s r ≡ x ∷ rest → Kept n p → stopped_in (then_stop p r x) r ≡ false → is_after (then_stop p r x).wave.line x ≡ false
safe_then_stop n p s r x rest a b is k = cond_both (stops_at (p.layer r) x) (move_stop p r) p (λ z. stopped_in z r ≡ false → is_after z.wave.line x ≡ false)
    (λ e on. absurd (true≢false (sym (subst (λ l. has_stopped p.wave.line l ≡ true) (sym (Changes.set_at-same p.layer r (record (p.layer r) { logging = false })))
    (and_from ((p.layer r).epoch == suc p.wave.line) true (eq-eqb (p.layer r).epoch (suc p.wave.line) (RankMoves.logs_at p.wave.line p.wave.under_way p.wave.stop_told (p.layer r).epoch (p.layer r).logging (p.layer r).was_ready (and_parts (p.layer r).logging ((x.1.epoch == (p.layer r).epoch) && not x.1.logging) e).0 (k.rank r b))) refl)) ∙ on)))
    (λ e on. no_orphan n p s r x rest a b is k e on)
