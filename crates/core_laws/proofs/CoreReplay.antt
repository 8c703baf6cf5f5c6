-- Without its protocol, the core goes on as the restoring machine does.
use Rattle.std.proofs.Common.{◌≡◌, ℕ, zero, suc, pred, ◌<◌, Bool, true, false, not, List, [], ◌∷◌, ◌++◌, Some, None, sym, refl, ap, ◌∙◌, arith}
use Rattle.std.specs.Prelude.{◌&&◌, ◌==◌, nat_lt, if◌then◌else◌}
use Rattle.std.proofs.lemmas.Bool.{cond_both, cond-true, and_from, lt-ltb, false≢true, true≢false}
use Rattle.late_logs.specs.declared.entry.Entry.{Entry}
use Rattle.late_logs.specs.declared.entry.Entry.TheVariants.{Late as Late_entry, Intra as Intra_entry}
use Rattle.mpi_words.specs.declared.control.Control.{Control}
use Rattle.mpi_words.specs.declared.control.Control.TheVariants.{Request, Count, Ready, Stop, Stopped, Restored}
use Rattle.mpi_words.specs.declared.message.Message.{Message}
use Rattle.core_laws.specs.Rows.{set_at, set_pair}
use Rattle.core_laws.specs.Protocol.{Packet, Layer, Protocol, Class, Late, Intra, Early, layer_arrive, class_of, layer_save, layer_send, move_send, move_skip, move_save, move_arrive, move_ready, move_stop, move_pop, move_asked, move_told, move_tell_restored}
use Rattle.core_laws.specs.Process.{Process, Did, Nothing, Sent, Local, Marked, turn, arrive}
use Rattle.core_laws.specs.Quiet.{Deliver}
use Rattle.core_laws.specs.Handling.{handles, then_ready, then_stop, ready_due, stops_at, protocol_after}
use Rattle.core_laws.specs.Stopping.{contents}
use Rattle.core_laws.specs.Replay.{Replaying, absorb, Back, back_channel, back_skip, back_turn, back_arrives, back_deliver, back_next}
use Rattle.core_laws.specs.Core.{Core, is_back, then_restored, one_turned, core_turned, accepts, landed, core_arrived, core_handled, back_of}
use Rattle.core_laws.proofs.QuietRuns.{contents-push, set_at-map, set_pair-map, contents_of, then_stop-channel, ready_channel}
use Rattle.core_laws.proofs.PlanKept.{set_same, back_path}
use Rattle.core_laws.proofs.Noting.{ready_cases, stopped_cases}

abbrev pub skips_of : Protocol → ℕ → ℕ → ℕ
skips_of p s r = (p.layer s).skip r

-- A change of one layer that leaves its skips.
pub skips_layer : (p p' : Protocol) (r : ℕ) (l : Layer) → p'.layer ≡ set_at p.layer r l → l.skip ≡ (p.layer r).skip → skips_of p' ≡ skips_of p
skips_layer p p' r l is same = ap (λ f s y. (f s).skip y) is ∙ set_at-map (λ l y. l.skip y) p.layer r l ∙ ap (λ k. set_at (skips_of p) r k) same ∙ set_same (skips_of p) r

skips_ready : (n : ℕ) (p : Protocol) (r : ℕ) → skips_of (then_ready n p r) ≡ skips_of p
skips_ready n p r = cond_both (ready_due n (p.layer r)) (move_ready p r) p (λ z. skips_of z ≡ skips_of p)
    (λ e. skips_layer p (move_ready p r) r (record (p.layer r) { was_ready = true; told = λ x. None }) refl refl) (λ e. refl)

skips_stop : (p : Protocol) (r : ℕ) (x : Packet) → skips_of (then_stop p r x) ≡ skips_of p
skips_stop p r x = cond_both (stops_at (p.layer r) x) (move_stop p r) p (λ z. skips_of z ≡ skips_of p)
    (λ e. skips_layer p (move_stop p r) r (record (p.layer r) { logging = false }) refl refl) (λ e. refl)

arrive_skips : (l : Layer) (s : ℕ) (cl : Class) → (layer_arrive l s cl).skip ≡ l.skip
arrive_skips l s Late = refl
arrive_skips l s Intra = refl
arrive_skips l s Early = refl

restored_skips : (was now : Bool) (p : Protocol) (r : ℕ) → skips_of (then_restored was now p r) ≡ skips_of p
restored_skips was now p r = cond_both (not was && now) (move_tell_restored p r) p (λ z. skips_of z ≡ skips_of p) (λ e. refl) (λ e. refl)

pub restored_channel : (was now : Bool) (p : Protocol) (r : ℕ) → (then_restored was now p r).channel ≡ p.channel
restored_channel was now p r = cond_both (not was && now) (move_tell_restored p r) p (λ z. z.channel ≡ p.channel) (λ e. refl) (λ e. refl)

pub restored_wave : (was now : Bool) (p : Protocol) (r : ℕ) → (then_restored was now p r).wave ≡ p.wave
restored_wave was now p r = cond_both (not was && now) (move_tell_restored p r) p (λ z. z.wave ≡ p.wave) (λ e. refl) (λ e. refl)

-- A turn.
turn_channel : (n : ℕ) (p : Protocol) (r : ℕ) (d : Did) → contents_of (protocol_after n p r d).channel ≡ back_channel (contents_of p.channel) (skips_of p) r d
turn_channel n p r Nothing = refl
turn_channel n p r Local = refl
turn_channel n p r Marked = ap contents_of (cond_both (p.layer r).asked (then_ready n (move_save p r) r) p (λ z. z.channel ≡ p.channel) (λ e. ready_channel n (move_save p r) r) (λ e. refl))
turn_channel n p r (Sent to m) = go (nat_lt 0 ((p.layer r).skip to))
  where
    x : Packet
    x = (m, record { epoch = (p.layer r).epoch; logging = (p.layer r).logging })

    go : (b : Bool) → contents_of (if b then move_skip p r to else move_send p r to m).channel ≡ (if b then contents_of p.channel else set_pair (contents_of p.channel) r to (contents (p.channel r to) ++ m ∷ []))
    go true = refl
    go false = set_pair-map contents p.channel r to (p.channel r to ++ x ∷ []) ∙ ap (λ l. set_pair (contents_of p.channel) r to l) (contents-push (p.channel r to) x)

pair_same : {A : Type 0} → (f : ℕ → ℕ → A) (a b : ℕ) → set_pair f a b (f a b) ≡ f
pair_same f a b = ap (λ g. set_at f a g) (set_same (f a) b) ∙ set_same f a

turn_skips : (n : ℕ) (p : Protocol) (r : ℕ) (d : Did) → skips_of (protocol_after n p r d) ≡ back_skip (skips_of p) r d
turn_skips n p r Nothing = refl
turn_skips n p r Local = refl
turn_skips n p r Marked = cond_both (p.layer r).asked (then_ready n (move_save p r) r) p (λ z. skips_of z ≡ skips_of p)
    (λ e. skips_ready n (move_save p r) r ∙ skips_layer p (move_save p r) r (layer_save (p.layer r)) refl refl) (λ e. refl)
turn_skips n p r (Sent to m) = cond_both (nat_lt 0 ((p.layer r).skip to)) (move_skip p r to) (move_send p r to m) (λ z. skips_of z ≡ back_skip (skips_of p) r (Sent to m))
    (λ e. set_at-map (λ l y. l.skip y) p.layer r (record (p.layer r) { sent = set_at (p.layer r).sent to (suc ((p.layer r).sent to)); skip = set_at (p.layer r).skip to (pred ((p.layer r).skip to)) }))
    (λ e. skips_layer p (move_send p r to m) r (layer_send (p.layer r) to) refl refl ∙ sym (ap (λ k. set_pair (skips_of p) r to k) (none ((p.layer r).skip to) e) ∙ pair_same (skips_of p) r to))
  where
    none : (k : ℕ) → nat_lt 0 k ≡ false → pred k ≡ k
    none zero e = refl
    none (suc k) e = absurd (true≢false (sym (lt-ltb 0 (suc k) (omega arith)) ∙ e))

pub along_turn : {S : Type 0} (P : Process S) (n : ℕ) (c : Core S) (r : ℕ) → back_of (core_turned n c r (turn P (c.one r).rank)) ≡ back_turn P (back_of c) r
along_turn {S} P n c r = back_path (set_at c.one r v) (set_at c.one r v) (contents_of p'.channel) (back_channel (contents_of c.protocol.channel) (skips_of c.protocol) r d) (skips_of p') (back_skip (skips_of c.protocol) r d) refl
    (ap contents_of (restored_channel (is_back (c.one r)) (is_back v) (protocol_after n c.protocol r d) r) ∙ turn_channel n c.protocol r d)
    (restored_skips (is_back (c.one r)) (is_back v) (protocol_after n c.protocol r d) r ∙ turn_skips n c.protocol r d)
  where
    d : Did
    d = (turn P (c.one r).rank).did

    v : Replaying S
    v = one_turned (c.one r) (turn P (c.one r).rank)

    p' : Protocol
    p' = then_restored (is_back (c.one r)) (is_back v) (protocol_after n c.protocol r d) r

-- A delivery.
pub along_arrival : {S : Type 0} (n : ℕ) (c : Core S) (s r : ℕ) (v : Replaying S) (x : Packet) (rest : List Packet) → back_of (core_arrived n c s r v x rest) ≡ back_arrives (back_of c) s r v x.0 (contents rest)
along_arrival {S} n c s r v x rest = back_path (set_at c.one r v) (set_at c.one r v) (contents_of (then_restored (is_back (c.one r)) (is_back v) ready r).channel) (set_pair (contents_of c.protocol.channel) s r (contents rest)) (skips_of (then_restored (is_back (c.one r)) (is_back v) ready r)) (skips_of c.protocol) refl
    (ap contents_of (restored_channel (is_back (c.one r)) (is_back v) ready r ∙ ready_channel n moved r ∙ ap (λ q. set_pair q s r rest) (then_stop-channel c.protocol r x)) ∙ set_pair-map contents c.protocol.channel s r rest)
    (restored_skips (is_back (c.one r)) (is_back v) ready r ∙ skips_ready n moved r ∙ skips_layer q moved r (layer_arrive (q.layer r) s (class_of (q.layer r).epoch x.1.epoch)) refl (arrive_skips (q.layer r) s (class_of (q.layer r).epoch x.1.epoch)) ∙ skips_stop c.protocol r x)
  where
    q : Protocol
    q = then_stop c.protocol r x

    moved : Protocol
    moved = move_arrive q s r x.1.epoch rest

    ready : Protocol
    ready = then_ready n moved r

pub accepted : {S : Type 0} (b : Back S) (s r : ℕ) (m : Message) (rest : List Message) (log : List Entry) (left : ℕ) → accepts log left s ≡ true → back_arrives b s r (landed (b.one r) log s m) m rest ≡ back_deliver b s r (m ∷ rest) log left
accepted b s r m rest [] zero e = refl
accepted b s r m rest [] (suc left) e = absurd (false≢true e)
accepted b s r m rest (Late_entry a x ∷ log) left e = absurd (false≢true e)
accepted b s r m rest (Intra_entry a ∷ log) left e = sym (cond-true (a == s) (back_arrives b s r (absorb (b.one r).left (arrive (b.one r).rank s m) log) m rest) b e)

pub along_deliver : {S : Type 0} (P : Process S) (n : ℕ) (c : Core S) (s r : ℕ) (x : Packet) (rest : List Packet) → s < n → r < n → c.protocol.channel s r ≡ x ∷ rest → accepts (c.one r).log (c.one r).left s ≡ true → back_of (core_arrived n c s r (landed (c.one r) (c.one r).log s x.0) x rest) ≡ back_next P n (back_of c) (Deliver s r)
along_deliver P n c s r x rest a b is e = along_arrival n c s r (landed (c.one r) (c.one r).log s x.0) x rest ∙ accepted (back_of c) s r x.0 (contents rest) (c.one r).log (c.one r).left e
    ∙ ap (λ q. back_deliver (back_of c) s r (contents q) (c.one r).log (c.one r).left) (sym is)
    ∙ sym (cond-true (nat_lt s n && nat_lt r n) (back_deliver (back_of c) s r (contents (c.protocol.channel s r)) (c.one r).log (c.one r).left) (back_of c) (and_from (nat_lt s n) (nat_lt r n) (lt-ltb s n a) (lt-ltb r n b)))

-- A control.
handles_channel : (n : ℕ) (p : Protocol) (s r : ℕ) (c : List Control) → (handles n p s r c).channel ≡ p.channel
handles_channel n p s r [] = refl
handles_channel n p s r (Request l ∷ rest) = refl
handles_channel n p s r (Count l k ∷ rest) = ready_channel n (move_told p s r k rest) r
handles_channel n p s r (Ready l ∷ rest) = ready_cases n p s r l rest (λ z. z.channel ≡ p.channel) (λ _ _. refl) (λ _ _. refl) (λ _. refl)
handles_channel n p s r (Stop l ∷ rest) = cond_both (p.layer r).logging (move_stop (move_pop p s r rest) r) (move_pop p s r rest) (λ z. z.channel ≡ p.channel) (λ e. refl) (λ e. refl)
handles_channel n p s r (Stopped l ∷ rest) = stopped_cases n p s r l rest (λ z. z.channel ≡ p.channel) (λ _ _. refl) (λ _ _. refl) (λ _. refl)
handles_channel n p s r (Restored ∷ rest) = refl

handles_skips : (n : ℕ) (p : Protocol) (s r : ℕ) (c : List Control) → skips_of (handles n p s r c) ≡ skips_of p
handles_skips n p s r [] = refl
handles_skips n p s r (Request l ∷ rest) = skips_layer p (move_asked p s r rest) r (record (p.layer r) { asked = true }) refl refl
handles_skips n p s r (Count l k ∷ rest) = skips_ready n (move_told p s r k rest) r ∙ skips_layer p (move_told p s r k rest) r (record (p.layer r) { told = set_at (p.layer r).told s (Some k) }) refl refl
handles_skips n p s r (Ready l ∷ rest) = ready_cases n p s r l rest (λ z. skips_of z ≡ skips_of p) (λ _ _. refl) (λ _ _. refl) (λ _. refl)
handles_skips n p s r (Stop l ∷ rest) = cond_both (p.layer r).logging (move_stop (move_pop p s r rest) r) (move_pop p s r rest) (λ z. skips_of z ≡ skips_of p)
    (λ e. skips_layer (move_pop p s r rest) (move_stop (move_pop p s r rest) r) r (record (p.layer r) { logging = false }) refl refl) (λ e. refl)
handles_skips n p s r (Stopped l ∷ rest) = stopped_cases n p s r l rest (λ z. skips_of z ≡ skips_of p) (λ _ _. refl) (λ _ _. refl) (λ _. refl)
handles_skips n p s r (Restored ∷ rest) = refl

pub along_handle : {S : Type 0} (n : ℕ) (c : Core S) (s r : ℕ) (l : List Control) → back_of (core_handled c (handles n c.protocol s r l)) ≡ back_of c
along_handle n c s r l = back_path c.one c.one (contents_of (handles n c.protocol s r l).channel) (contents_of c.protocol.channel) (skips_of (handles n c.protocol s r l)) (skips_of c.protocol) refl (ap contents_of (handles_channel n c.protocol s r l)) (handles_skips n c.protocol s r l)
