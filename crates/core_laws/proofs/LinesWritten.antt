-- The files have the images and logs that the core says it has written, and the committed line.
use Rattle.std.proofs.Common.{◌≡◌, ℕ, suc, pred, ◌<◌, Bool, true, false, not, List, [], ◌∷◌, ◌++◌, Some, None, length, drop, sym, refl, ap, ◌∙◌, subst, ⊎_elim, arith}
use Rattle.std.specs.Prelude.{◌&&◌, ◌==◌, nat_lt, if◌then◌else◌}
use Rattle.std.specs.List.{AllByRecursion}
use Rattle.std.proofs.lemmas.Bool.{cond_both, cond-true, cond-false, cases_Bool, and_parts, and_from, and_left, and_right, ltb-true, lt-ltb, le-ltb, not-true, eqb-true, eq-eqb, ne_eqb, false≢true, true≢false}
use Rattle.mpi_words.specs.declared.control.Control.{Control}
use Rattle.mpi_words.specs.declared.control.Control.TheVariants.{Request, Count, Ready, Stop, Stopped, Restored}
use Rattle.mpi_words.specs.declared.message.Message.{Message}
use Rattle.core_laws.specs.Rows.{set_at}
use Rattle.core_laws.specs.Protocol.{Packet, Layer, Protocol, Class, Late, Intra, Early, layer_arrive, class_of, layer_save, layer_send, move_send, move_skip, move_save, move_arrive, move_ready, move_stop, move_pop, move_asked, move_told, move_note_ready, move_note_stopped, move_tell_stop, move_commit, move_tell_restored, move_note_restored}
use Rattle.core_laws.specs.Process.{Ranks, ranks, Process, Rank, Did, Nothing, Sent, Local, Marked, Turned}
use Rattle.core_laws.specs.Quiet.{Event, Turn, Deliver, Handle, Begin_wave}
use Rattle.core_laws.specs.Written.{Written, written_turn, written_arrive}
use Rattle.core_laws.specs.Handling.{after_save, after_stop, all_below, handles, notes, then_commit, then_ready, then_stop, ready_due, stops_at, protocol_after}
use Rattle.core_laws.specs.Invariant.{DownKept, Invariant, bit}
use Rattle.core_laws.specs.Replay.{Replaying, may_turn}
use Rattle.core_laws.specs.Core.{Core, is_back, then_restored, one_turned, core_turned, accepts, landed, core_arrived, core_delivers, core_handled, may_begin, core_began, step_of, steps_of, last_line}
use Rattle.core_laws.specs.CoreEvents.{sweep_events, Core_event, Single, Sweep, Kill, next_of, start_of, restart_from, restart_of}
use Rattle.core_laws.specs.Kept.{IsKept}
use Rattle.core_laws.specs.Pausing.{Stepping, stepping, without_pauses}
use Rattle.core_laws.specs.PausingKept.{IsKeptWithin}
use Rattle.core_laws.specs.Effects.{Effect, Saves, Logs, Commits, writes, turn_effects, log_effects, arrival_effects, control_effects, step_effects_of, steps_effects_of, effects_of}
use Rattle.core_laws.specs.Files.{Files, with_effect, with_effects, cut_back, IsImage, IsLog, LinesFiled}
use Rattle.core_laws.proofs.Changes.{at_set, at_set_both, set_at-same, set_at-other}
use Rattle.core_laws.proofs.RankMoves as rank_laws
use Rattle.core_laws.proofs.QuietRuns.{asked_at, after_wave}
use Rattle.core_laws.proofs.WaveLines.{ready_wave}
use Rattle.core_laws.proofs.CommittedLine.{committed_saved}
use Rattle.core_laws.proofs.CoreReplay.{restored_wave}
use Rattle.core_laws.proofs.CoreKept.{step_kept}
use Rattle.core_laws.proofs.PausingCore.{NoTurn, step_still, no_sweep}
use Rattle.core_laws.proofs.EventsKept.{stopped_comes}
use Rattle.core_laws.proofs.Noting.{ready_cases}

-- what is needed of the core
pub record Sound {S : Type 0} (n : ℕ) (c : Core S) : Type 0 where
  pub protocol : Invariant n c.protocol
  pub early : c.protocol.wave.under_way ≡ true → (r : ℕ) → r < n → (c.protocol.layer r).epoch ≡ c.protocol.wave.line → (s : ℕ) → (c.written r).early s ≡ (c.protocol.layer r).early s

pub sound : {S : Type 0} (P : Process S) (n : ℕ) (c : Core S) → IsKept P n c → Sound n c
sound P n c h = record { protocol = h.protocol; early = λ w r b e s. let l = h.wave w in sym ((l.written r).early s) ∙ (l.line.unsaved r b e).early s }

-- A rank's epoch and flag.
record Flags (l l' : Layer) : Type 0 where
  epoch : l'.epoch ≡ l.epoch
  logging : l'.logging ≡ l.logging

flags_refl : (l : Layer) → Flags l l
flags_refl l = record { epoch = refl; logging = refl }

flags_trans : (l l' l'' : Layer) → Flags l l' → Flags l' l'' → Flags l l''
flags_trans l l' l'' a b = record { epoch = b.epoch ∙ a.epoch; logging = b.logging ∙ a.logging }

flags_set : (f : ℕ → Layer) (r : ℕ) (l : Layer) → Flags (f r) l → (x : ℕ) → Flags (f x) (set_at f r l x)
flags_set f r l h x = at_set (Flags (f x)) f r l x (λ e. subst (λ z. Flags (f z) l) (sym e) h) (λ _. flags_refl (f x))

flags_other : (f : ℕ → Layer) (r : ℕ) (l : Layer) (x : ℕ) → (x ≡ r → ⊥) → Flags (f x) (set_at f r l x)
flags_other f r l x e = subst (Flags (f x)) (sym (set_at-other f r l x e)) (flags_refl (f x))

save_same : (p p' : Protocol) (x : ℕ) → p'.wave.line ≡ p.wave.line → Flags (p.layer x) (p'.layer x) → after_save p' x ≡ after_save p x
save_same p p' x l h = ap (λ k. k == suc p'.wave.line) h.epoch ∙ ap (λ k. (p.layer x).epoch == suc k) l

stop_same : (p p' : Protocol) (x : ℕ) → p'.wave.line ≡ p.wave.line → Flags (p.layer x) (p'.layer x) → after_stop p' x ≡ after_stop p x
stop_same p p' x l h = ap (λ b. b && not (p'.layer x).logging) (save_same p p' x l h) ∙ ap (λ g. after_save p x && not g) h.logging

flags_ready : (n : ℕ) (p : Protocol) (r x : ℕ) → Flags (p.layer x) ((then_ready n p r).layer x)
flags_ready n p r x = cond_both (ready_due n (p.layer r)) (move_ready p r) p (λ q. Flags (p.layer x) (q.layer x))
    (λ e. flags_set p.layer r (record (p.layer r) { was_ready = true; told = λ x. None }) (record { epoch = refl; logging = refl }) x) (λ e. flags_refl (p.layer x))

flags_restored : (was now : Bool) (p : Protocol) (r x : ℕ) → Flags (p.layer x) ((then_restored was now p r).layer x)
flags_restored was now p r x = cond_both (not was && now) (move_tell_restored p r) p (λ q. Flags (p.layer x) (q.layer x)) (λ e. flags_refl (p.layer x)) (λ e. flags_refl (p.layer x))

flags_arrive : (l : Layer) (s : ℕ) (cl : Class) → Flags l (layer_arrive l s cl)
flags_arrive l s Late = record { epoch = refl; logging = refl }
flags_arrive l s Intra = record { epoch = refl; logging = refl }
flags_arrive l s Early = record { epoch = refl; logging = refl }

-- What stays in what is written.
image_refl : {S : Type 0} (w : Written S) → IsImage w w
image_refl w = record { image = refl; early = λ s. refl }

image_trans : {S : Type 0} (u v w : Written S) → IsImage u v → IsImage v w → IsImage u w
image_trans u v w a b = record { image = a.image ∙ b.image; early = λ s. a.early s ∙ b.early s }

log_refl : {S : Type 0} (w : Written S) → IsLog w w
log_refl w = record { log = refl; ops = refl }

log_trans : {S : Type 0} (u v w : Written S) → IsLog u v → IsLog v w → IsLog u w
log_trans u v w a b = record { log = a.log ∙ b.log; ops = a.ops ∙ b.ops }

turn_image : {S : Type 0} (stopped saved : Bool) (w : Written S) (t : Turned S) → saved ≡ true → IsImage w (written_turn stopped saved w t)
turn_image true saved w t e = image_refl w
turn_image false true w t e = record { image = refl; early = λ s. refl }
turn_image false false w t e = absurd (false≢true e)

turn_log : {S : Type 0} (stopped saved : Bool) (w : Written S) (t : Turned S) → stopped ≡ true → IsLog w (written_turn stopped saved w t)
turn_log true saved w t e = log_refl w
turn_log false saved w t e = absurd (false≢true e)

arrive_image : {S : Type 0} (stopped saved : Bool) (cl : Class) (w : Written S) (s : ℕ) (m : Message) → saved ≡ true → IsImage w (written_arrive stopped saved cl w s m)
arrive_image true saved cl w s m e = image_refl w
arrive_image false true cl w s m e = record { image = refl; early = λ s. refl }
arrive_image false false cl w s m e = absurd (false≢true e)

arrive_log : {S : Type 0} (stopped saved : Bool) (cl : Class) (w : Written S) (s : ℕ) (m : Message) → stopped ≡ true → IsLog w (written_arrive stopped saved cl w s m)
arrive_log true saved cl w s m e = log_refl w
arrive_log false saved cl w s m e = absurd (false≢true e)

-- An event that writes neither image nor log, and commits nothing.
filed_same : {S : Type 0} (n : ℕ) (f : Files S) (c c' : Core S) → c'.saved ≡ c.saved → c'.protocol.wave.line ≡ c.protocol.wave.line → ((x : ℕ) → x < n → Flags (c.protocol.layer x) (c'.protocol.layer x))
    → ((x : ℕ) → x < n → after_save c.protocol x ≡ true → IsImage (c.written x) (c'.written x)) → ((x : ℕ) → x < n → after_stop c.protocol x ≡ true → IsLog (c.written x) (c'.written x)) → LinesFiled n f c → LinesFiled n f c'
filed_same n f c c' saved line flags images logs h = record {
  images = λ x b e. let was = sym (save_same c.protocol c'.protocol x line (flags x b)) ∙ e in image_trans (f.new x) (c.written x) (c'.written x) (h.images x b was) (images x b was);
  logs = λ x b e. let was = sym (stop_same c.protocol c'.protocol x line (flags x b)) ∙ e in log_trans (f.new x) (c.written x) (c'.written x) (h.logs x b was) (logs x b was);
  line = h.line ∙ sym line;
  committed_images = λ e x b. subst (λ g. IsImage (f.committed x) (g x)) (sym saved) (h.committed_images (subst (λ k. 0 < k) line e) x b);
  committed_logs = λ e x b. subst (λ g. IsLog (f.committed x) (g x)) (sym saved) (h.committed_logs (subst (λ k. 0 < k) line e) x b);
}

no_writes : {S : Type 0} (n : ℕ) (f : Files S) (c : Core S) (r : ℕ) (bytes : List ℕ) → LinesFiled n f c → LinesFiled n (with_effects f (writes r bytes)) c
no_writes n f c r [] h = h
no_writes n f c r (b ∷ bytes) h = record { images = h.images; logs = h.logs; line = h.line; committed_images = h.committed_images; committed_logs = h.committed_logs }

-- A turn that saves nothing.
turned_filed : {S : Type 0} (n : ℕ) (f : Files S) (c : Core S) (r : ℕ) (t : Turned S) → ((x : ℕ) → Flags (c.protocol.layer x) ((protocol_after n c.protocol r t.did).layer x)) → LinesFiled n f c → LinesFiled n f (core_turned n c r t)
turned_filed {S} n f c r t flags h = filed_same n f c (core_turned n c r t) refl (ap (λ w. w.line) (restored_wave was now q r ∙ after_wave n c.protocol r t.did))
    (λ x b. flags_trans (c.protocol.layer x) (q.layer x) ((then_restored was now q r).layer x) (flags x) (flags_restored was now q r x))
    (λ x b e. at_set (IsImage (c.written x)) c.written r (written_turn (after_stop c.protocol r) (after_save c.protocol r) (c.written r) t) x
    (λ g. subst (λ z. IsImage (c.written z) (written_turn (after_stop c.protocol r) (after_save c.protocol r) (c.written r) t)) (sym g) (turn_image (after_stop c.protocol r) (after_save c.protocol r) (c.written r) t (ap (after_save c.protocol) (sym g) ∙ e))) (λ _. image_refl (c.written x)))
    (λ x b e. at_set (IsLog (c.written x)) c.written r (written_turn (after_stop c.protocol r) (after_save c.protocol r) (c.written r) t) x
    (λ g. subst (λ z. IsLog (c.written z) (written_turn (after_stop c.protocol r) (after_save c.protocol r) (c.written r) t)) (sym g) (turn_log (after_stop c.protocol r) (after_save c.protocol r) (c.written r) t (ap (after_stop c.protocol) (sym g) ∙ e))) (λ _. log_refl (c.written x)))
    h
  where
    was : Bool
    was = is_back (c.one r)

    now : Bool
    now = is_back (one_turned (c.one r) t)

    q : Protocol
    q = protocol_after n c.protocol r t.did

-- The turn that saves.
saved_filed : {S : Type 0} (n : ℕ) (f : Files S) (c : Core S) (r : ℕ) (k : Rank S) → r < n → Sound n c → (c.protocol.layer r).asked ≡ true → LinesFiled n f c
    → LinesFiled n (with_effect f (Saves r k (c.protocol.layer r).early)) (core_turned n c r (record { rank = k; did = Marked }))
saved_filed {S} n f c r k inside sound asked h = record {
  images = λ x b e. at_set_both IsImage f.new c.written r (record (f.new r) { image = k; early = (p.layer r).early }) w x
      (λ _. subst (IsImage (record (f.new r) { image = k; early = (p.layer r).early })) (sym unsaved) (record { image = refl; early = λ s. sym (sound.early way r inside at s) }))
      (λ g. h.images x b (sym (save_same p p' x line (others x g)) ∙ e));
  logs = λ x b e. at_set_both IsLog f.new c.written r (record (f.new r) { image = k; early = (p.layer r).early }) w x
      (λ g. absurd (true≢false (sym e ∙ and_right (after_save p' x) (not (p'.layer x).logging) (ap not (ap (λ z. (p'.layer z).logging) g ∙ logs)))))
      (λ g. h.logs x b (sym (stop_same p p' x line (others x g)) ∙ e));
  line = h.line ∙ sym line;
  committed_images = λ e x b. h.committed_images (subst (λ k. 0 < k) line e) x b;
  committed_logs = λ e x b. h.committed_logs (subst (λ k. 0 < k) line e) x b;
}
  where
    p : Protocol
    p = c.protocol

    t : Turned S
    t = record { rank = k; did = Marked }

    q : Protocol
    q = protocol_after n p r Marked

    p' : Protocol
    p' = then_restored (is_back (c.one r)) (is_back (one_turned (c.one r) t)) q r

    line : p'.wave.line ≡ p.wave.line
    line = ap (λ w. w.line) (restored_wave (is_back (c.one r)) (is_back (one_turned (c.one r) t)) q r ∙ after_wave n p r Marked)

    is : q ≡ then_ready n (move_save p r) r
    is = cond-true (p.layer r).asked (then_ready n (move_save p r) r) p asked

    others : (x : ℕ) → (x ≡ r → ⊥) → Flags (p.layer x) (p'.layer x)
    others x g = flags_trans (p.layer x) (q.layer x) (p'.layer x) (subst (λ z. Flags (p.layer x) (z.layer x)) (sym is) (flags_trans (p.layer x) ((move_save p r).layer x) ((then_ready n (move_save p r) r).layer x) (flags_other p.layer r (layer_save (p.layer r)) x g) (flags_ready n (move_save p r) r x)))
        (flags_restored (is_back (c.one r)) (is_back (one_turned (c.one r) t)) q r x)

    logs : (p'.layer r).logging ≡ true
    logs = (flags_restored (is_back (c.one r)) (is_back (one_turned (c.one r) t)) q r r).logging ∙ ap (λ z. (z.layer r).logging) is ∙ (flags_ready n (move_save p r) r r).logging ∙ ap (λ l. l.logging) (set_at-same p.layer r (layer_save (p.layer r)))

    at : (p.layer r).epoch ≡ p.wave.line
    at = asked_at n p r inside asked sound.protocol.kept

    way : p.wave.under_way ≡ true
    way = rank_laws.way_on p.wave.line p.wave.under_way p.wave.stop_told (p.layer r).epoch (p.control 0 r) (subst (λ a. DownKept p.wave.line p.wave.under_way p.wave.stop_told (p.layer r).epoch a (p.control 0 r)) asked (sound.protocol.kept.down r inside))

    w : Written S
    w = written_turn (after_stop p r) (after_save p r) (c.written r) t

    not_saved : after_save p r ≡ false
    not_saved = ne_eqb (p.layer r).epoch (suc p.wave.line) (λ e. omega (arith, e, at))

    unsaved : w ≡ record (c.written r) { image = k }
    unsaved = ap (λ b. written_turn b (after_save p r) (c.written r) t) (and_left (after_save p r) (not (p.layer r).logging) not_saved) ∙ ap (λ b. written_turn false b (c.written r) t) not_saved

turn_filed : {S : Type 0} (n : ℕ) (f : Files S) (c : Core S) (r : ℕ) (before : List ℕ) (k : Rank S) (d : Did) → r < n → Sound n c → LinesFiled n f c → LinesFiled n (with_effects f (turn_effects (c.protocol.layer r) r before k d)) (core_turned n c r (record { rank = k; did = d }))
turn_filed n f c r before k Nothing a sound h = turned_filed n f c r (record { rank = k; did = Nothing }) (λ x. flags_refl (c.protocol.layer x)) h
turn_filed n f c r before k Local a sound h = no_writes n f (core_turned n c r (record { rank = k; did = Local })) r (drop (length before) k.output) (turned_filed n f c r (record { rank = k; did = Local }) (λ x. flags_refl (c.protocol.layer x)) h)
turn_filed n f c r before k (Sent to m) a sound h = turned_filed n f c r (record { rank = k; did = Sent to m })
    (λ x. let p = c.protocol in cond_both (nat_lt 0 ((p.layer r).skip to)) (move_skip p r to) (move_send p r to m) (λ q. Flags (p.layer x) (q.layer x))
    (λ e. flags_set p.layer r (record (p.layer r) { sent = set_at (p.layer r).sent to (suc ((p.layer r).sent to)); skip = set_at (p.layer r).skip to (pred ((p.layer r).skip to)) }) (record { epoch = refl; logging = refl }) x)
    (λ e. flags_set p.layer r (layer_send (p.layer r) to) (record { epoch = refl; logging = refl }) x)) h
turn_filed {S} n f c r before k Marked a sound h = ⊎_elim
    (λ e. subst (λ l. LinesFiled n (with_effects f l) (core_turned n c r (record { rank = k; did = Marked }))) (sym (cond-true (c.protocol.layer r).asked one none e)) (saved_filed n f c r k a sound e h))
    (λ e. subst (λ l. LinesFiled n (with_effects f l) (core_turned n c r (record { rank = k; did = Marked }))) (sym (cond-false (c.protocol.layer r).asked one none e))
    (turned_filed n f c r (record { rank = k; did = Marked }) (λ x. subst (λ q. Flags (c.protocol.layer x) (q.layer x)) (sym (cond-false (c.protocol.layer r).asked (then_ready n (move_save c.protocol r) r) c.protocol e)) (flags_refl (c.protocol.layer x))) h))
    (cases_Bool (c.protocol.layer r).asked)
  where
    one : List (Effect S)
    one = Saves r k (c.protocol.layer r).early ∷ []

    none : List (Effect S)
    none = []

-- A log is written where a rank stops: the files have it, and what is written stays.
logged : {S : Type 0} (n : ℕ) (f : Files S) (c c' : Core S) (r : ℕ) → c'.saved ≡ c.saved → c'.written ≡ c.written → c'.protocol.wave.line ≡ c.protocol.wave.line → ((x : ℕ) → (c'.protocol.layer x).epoch ≡ (c.protocol.layer x).epoch) → ((x : ℕ) → (x ≡ r → ⊥) → Flags (c.protocol.layer x) (c'.protocol.layer x))
    → LinesFiled n f c → LinesFiled n (with_effect f (Logs r (c.written r).log (c.written r).ops)) c'
logged {S} n f c c' r saved written line epochs others h = record {
  images = λ x b e. subst (λ g. IsImage (set_at f.new r v x) (g x)) (sym written) (at_set (λ u. IsImage u (c.written x)) f.new r v x (λ g. subst (λ z. IsImage v (c.written z)) (sym g) (same (old r (subst (λ z. z < n) g b) (subst (λ z. after_save c'.protocol z ≡ true) g e)))) (λ _. old x b e));
  logs = λ x b e. subst (λ g. IsLog (set_at f.new r v x) (g x)) (sym written) (at_set (λ u. IsLog u (c.written x)) f.new r v x (λ g. subst (λ z. IsLog v (c.written z)) (sym g) (record { log = refl; ops = refl })) (λ g. h.logs x b (sym (stop_same c.protocol c'.protocol x line (others x g)) ∙ e)));
  line = h.line ∙ sym line;
  committed_images = λ e x b. subst (λ g. IsImage (f.committed x) (g x)) (sym saved) (h.committed_images (subst (λ k. 0 < k) line e) x b);
  committed_logs = λ e x b. subst (λ g. IsLog (f.committed x) (g x)) (sym saved) (h.committed_logs (subst (λ k. 0 < k) line e) x b);
}
  where
    v : Written S
    v = record (f.new r) { log = (c.written r).log; ops = (c.written r).ops }

    old : (x : ℕ) → x < n → after_save c'.protocol x ≡ true → IsImage (f.new x) (c.written x)
    old x b e = h.images x b (sym (ap (λ k. k == suc c'.protocol.wave.line) (epochs x) ∙ ap (λ k. (c.protocol.layer x).epoch == suc k) line) ∙ e)

    same : IsImage (f.new r) (c.written r) → IsImage v (c.written r)
    same i = record { image = i.image; early = i.early }

-- An arrival: the stop, if there is one, and then the rest.
rest_filed : {S : Type 0} (n : ℕ) (f : Files S) (c : Core S) (s r : ℕ) (v : Replaying S) (x : Packet) (rest : List Packet) → LinesFiled n f (record c { protocol = then_stop c.protocol r x }) → LinesFiled n f (core_arrived n c s r v x rest)
rest_filed {S} n f c s r v x rest h = filed_same n f (record c { protocol = q }) (core_arrived n c s r v x rest) refl
    (ap (λ w. w.line) (restored_wave (is_back (c.one r)) (is_back v) ready r ∙ ready_wave n moved r))
    (λ y b. flags_trans (q.layer y) (ready.layer y) ((then_restored (is_back (c.one r)) (is_back v) ready r).layer y)
    (flags_trans (q.layer y) (moved.layer y) (ready.layer y) (flags_set q.layer r (layer_arrive (q.layer r) s cl) (flags_arrive (q.layer r) s cl) y) (flags_ready n moved r y))
    (flags_restored (is_back (c.one r)) (is_back v) ready r y))
    (λ y b e. at_set (IsImage (c.written y)) c.written r (written_arrive (after_stop q r) (after_save q r) cl (c.written r) s x.0) y
    (λ g. subst (λ z. IsImage (c.written z) (written_arrive (after_stop q r) (after_save q r) cl (c.written r) s x.0)) (sym g) (arrive_image (after_stop q r) (after_save q r) cl (c.written r) s x.0 (ap (after_save q) (sym g) ∙ e))) (λ _. image_refl (c.written y)))
    (λ y b e. at_set (IsLog (c.written y)) c.written r (written_arrive (after_stop q r) (after_save q r) cl (c.written r) s x.0) y
    (λ g. subst (λ z. IsLog (c.written z) (written_arrive (after_stop q r) (after_save q r) cl (c.written r) s x.0)) (sym g) (arrive_log (after_stop q r) (after_save q r) cl (c.written r) s x.0 (ap (after_stop q) (sym g) ∙ e))) (λ _. log_refl (c.written y)))
    h
  where
    q : Protocol
    q = then_stop c.protocol r x

    moved : Protocol
    moved = move_arrive q s r x.1.epoch rest

    ready : Protocol
    ready = then_ready n moved r

    cl : Class
    cl = class_of (q.layer r).epoch x.1.epoch

stopped_filed : {S : Type 0} (n : ℕ) (f : Files S) (c : Core S) (p : Protocol) (r : ℕ) → p.layer ≡ c.protocol.layer → p.wave ≡ c.protocol.wave → LinesFiled n f c → LinesFiled n (with_effect f (Logs r (c.written r).log (c.written r).ops)) (record c { protocol = move_stop p r })
stopped_filed n f c p r layers wave h = logged n f c (record c { protocol = move_stop p r }) r refl refl (ap (λ w. w.line) wave)
    (λ x. at_set (λ l. l.epoch ≡ (c.protocol.layer x).epoch) p.layer r (record (p.layer r) { logging = false }) x (λ e. ap (λ g. (g r).epoch) layers ∙ ap (λ z. (c.protocol.layer z).epoch) (sym e)) (λ _. ap (λ g. (g x).epoch) layers))
    (λ x e. subst (λ l. Flags l ((move_stop p r).layer x)) (ap (λ g. g x) layers) (flags_other p.layer r (record (p.layer r) { logging = false }) x e)) h

arrival_filed : {S : Type 0} (n : ℕ) (f : Files S) (c : Core S) (s r : ℕ) (q : List Packet) → LinesFiled n f c → LinesFiled n (with_effects f (arrival_effects c r q)) (core_delivers n c s r q)
arrival_filed n f c s r [] h = h
arrival_filed {S} n f c s r (x ∷ rest) h = rest_filed n (with_effects f (log_effects r (c.written r) (stops_at (c.protocol.layer r) x))) c s r (landed (c.one r) (c.one r).log s x.0) x rest (go (stops_at (c.protocol.layer r) x))
  where
    go : (b : Bool) → LinesFiled n (with_effects f (log_effects r (c.written r) b)) (record c { protocol = if b then move_stop c.protocol r else c.protocol })
    go true = stopped_filed n f c c.protocol r refl refl h
    go false = record { images = h.images; logs = h.logs; line = h.line; committed_images = h.committed_images; committed_logs = h.committed_logs }

-- A control.
same_line : {S : Type 0} (c : Core S) (p : Protocol) → p.wave.line ≡ c.protocol.wave.line → (core_handled c p).saved ≡ c.saved
same_line c p e = cond-false (nat_lt c.protocol.wave.line p.wave.line) c.written c.saved (le-ltb c.protocol.wave.line p.wave.line (omega (arith, e)))

handled_same : {S : Type 0} (n : ℕ) (f : Files S) (c : Core S) (p : Protocol) → p.wave.line ≡ c.protocol.wave.line → ((x : ℕ) → Flags (c.protocol.layer x) (p.layer x)) → LinesFiled n f c → LinesFiled n f (core_handled c p)
handled_same n f c p line flags h = filed_same n f c (core_handled c p) (same_line c p line) line (λ x b. flags x) (λ x b e. image_refl (c.written x)) (λ x b e. log_refl (c.written x)) h

with_saved : {S : Type 0} (n : ℕ) (f : Files S) (c : Core S) (p : Protocol) → p.wave.line ≡ c.protocol.wave.line → LinesFiled n f (record c { protocol = p }) → LinesFiled n f (core_handled c p)
with_saved n f c p line h = record {
  images = h.images;
  logs = h.logs;
  line = h.line;
  committed_images = λ e x b. subst (λ g. IsImage (f.committed x) (g x)) (sym (same_line c p line)) (h.committed_images e x b);
  committed_logs = λ e x b. subst (λ g. IsLog (f.committed x) (g x)) (sym (same_line c p line)) (h.committed_logs e x b);
}

control_filed : {S : Type 0} (n : ℕ) (f : Files S) (c : Core S) (s r : ℕ) (l : List Control) → s < n → r < n → c.protocol.control s r ≡ l → Sound n c → LinesFiled n f c → LinesFiled n (with_effects f (control_effects n c s r l)) (core_handled c (handles n c.protocol s r l))
control_filed n f c s r [] a b is sound h = handled_same n f c c.protocol refl (λ x. flags_refl (c.protocol.layer x)) h
control_filed n f c s r (Request l ∷ rest) a b is sound h = handled_same n f c (move_asked c.protocol s r rest) refl (flags_set c.protocol.layer r (record (c.protocol.layer r) { asked = true }) (record { epoch = refl; logging = refl })) h
control_filed n f c s r (Count l k ∷ rest) a b is sound h = let q = move_told c.protocol s r k rest in handled_same n f c (then_ready n q r) (ap (λ w. w.line) (ready_wave n q r))
    (λ x. flags_trans (c.protocol.layer x) (q.layer x) ((then_ready n q r).layer x) (flags_set c.protocol.layer r (record (c.protocol.layer r) { told = set_at (c.protocol.layer r).told s (Some k) }) (record { epoch = refl; logging = refl }) x) (flags_ready n q r x)) h
control_filed n f c s r (Ready l ∷ rest) a b is sound h = let q = move_note_ready c.protocol s r rest in
    ready_cases n c.protocol s r l rest (λ p. LinesFiled n f (core_handled c p))
    (λ _ _. handled_same n f c (move_tell_stop q) refl (λ x. flags_refl (c.protocol.layer x)) h)
    (λ _ _. handled_same n f c q refl (λ x. flags_refl (c.protocol.layer x)) h)
    (λ _. handled_same n f c (move_pop c.protocol s r rest) refl (λ x. flags_refl (c.protocol.layer x)) h)
control_filed {S} n f c s r (Stop l ∷ rest) a b is sound h = go (c.protocol.layer r).logging
  where
    q : Protocol
    q = move_pop c.protocol s r rest

    go : (g : Bool) → LinesFiled n (with_effects f (log_effects r (c.written r) g)) (core_handled c (if g then move_stop q r else q))
    go true = with_saved n (with_effect f (Logs r (c.written r).log (c.written r).ops)) c (move_stop q r) refl (stopped_filed n f c q r refl refl h)
    go false = handled_same n f c q refl (λ x. flags_refl (c.protocol.layer x)) h
control_filed n f c s r (Restored ∷ rest) a b is sound h = handled_same n f c (move_note_restored c.protocol s r rest) refl (λ x. flags_refl (c.protocol.layer x)) h
control_filed {S} n f c s r (Stopped l ∷ rest) a b is sound h = ⊎_elim
    (λ e. subst (λ k. LinesFiled n (with_effects f k) (core_handled c (handles n c.protocol s r (Stopped l ∷ rest)))) (sym (writes_it ∙ cond-true (all_below n q.wave.stopped) one none e)) (commits e))
    (λ e. subst (λ k. LinesFiled n (with_effects f k) (core_handled c (handles n c.protocol s r (Stopped l ∷ rest)))) (sym (writes_it ∙ cond-false (all_below n q.wave.stopped) one none e))
    (subst (λ p. LinesFiled n f (core_handled c p)) (sym (noted ∙ cond-false (all_below n q.wave.stopped) (move_commit q) q e)) (handled_same n f c q refl (λ x. flags_refl (c.protocol.layer x)) h)))
    (cases_Bool (all_below n q.wave.stopped))
  where
    q : Protocol
    q = move_note_stopped c.protocol s r rest

    p' : Protocol
    p' = handles n c.protocol s r (Stopped l ∷ rest)

    comes : notes c.protocol.wave l (c.protocol.wave.stopped s) ≡ true
    comes = stopped_comes n c.protocol s r l rest a is sound.protocol

    noted : p' ≡ then_commit n q
    noted = cond-true (notes c.protocol.wave l (c.protocol.wave.stopped s)) (then_commit n q) (move_pop c.protocol s r rest) comes

    one : List (Effect S)
    one = Commits (suc c.protocol.wave.line) ∷ []

    none : List (Effect S)
    none = []

    writes_it : control_effects n c s r (Stopped l ∷ rest) ≡ (if all_below n q.wave.stopped then one else none)
    writes_it = ap (λ t. if t && all_below n q.wave.stopped then one else none) comes

    commits : all_below n q.wave.stopped ≡ true → LinesFiled n (record f { committed = f.new; line = suc c.protocol.wave.line }) (core_handled c p')
    commits e = record {
      images = λ x b g. absurd (later x b g);
      logs = λ x b g. absurd (later x b (and_parts (after_save p' x) (not (p'.layer x).logging) g).0);
      line = sym line;
      committed_images = λ g x b. subst (λ k. IsImage (f.new x) (k x)) (sym saved) (h.images x b (was_saved x b));
      committed_logs = λ g x b. subst (λ k. IsLog (f.new x) (k x)) (sym saved) (h.logs x b (and_from (after_save c.protocol x) (not (c.protocol.layer x).logging) (was_saved x b) (ap not (all x b).1)));
    }
      where
        is_commit : p' ≡ move_commit q
        is_commit = noted ∙ cond-true (all_below n q.wave.stopped) (move_commit q) q e

        line : p'.wave.line ≡ suc c.protocol.wave.line
        line = ap (λ z. z.wave.line) is_commit

        all : (x : ℕ) → x < n → ((c.protocol.layer x).epoch ≡ suc c.protocol.wave.line) × ((c.protocol.layer x).logging ≡ false)
        all = committed_saved n c.protocol s r (Stopped l ∷ rest) is sound.protocol (omega (arith, line))

        was_saved : (x : ℕ) → x < n → after_save c.protocol x ≡ true
        was_saved x b = eq-eqb (c.protocol.layer x).epoch (suc c.protocol.wave.line) (all x b).0

        later : (x : ℕ) → x < n → after_save p' x ≡ true → ⊥
        later x b g = absurd (omega (arith, (all x b).0, ap (λ z. (z.layer x).epoch) is_commit, line, eqb-true (p'.layer x).epoch (suc p'.wave.line) g))

        saved : (core_handled c p').saved ≡ c.written
        saved = cond-true (nat_lt c.protocol.wave.line p'.wave.line) c.written c.saved (lt-ltb c.protocol.wave.line p'.wave.line (omega (arith, line)))

-- A wave begins: nobody has saved yet.
begun_filed : {S : Type 0} (n : ℕ) (f : Files S) (c : Core S) → c.protocol.wave.under_way ≡ false → Sound n c → LinesFiled n f c → LinesFiled n f (core_began c)
begun_filed n f c none sound h = record {
  images = λ x b e. absurd (early x b e);
  logs = λ x b e. absurd (early x b (and_parts (after_save c.protocol x) (not (c.protocol.layer x).logging) e).0);
  line = h.line;
  committed_images = h.committed_images;
  committed_logs = h.committed_logs;
}
  where
    early : (x : ℕ) → x < n → after_save c.protocol x ≡ true → ⊥
    early x b e = absurd (omega (arith, (sound.protocol.kept.rank x b).most, ap bit none, eqb-true (c.protocol.layer x).epoch (suc c.protocol.wave.line) e))

pub step_filed : {S : Type 0} (P : Ranks S) (n : ℕ) (f : Files S) (c : Core S) (e : Event) → Sound n c → LinesFiled n f c → LinesFiled n (with_effects f (step_effects_of P n c e)) (step_of P n c e)
step_filed {S} P n f c (Turn r) sound h = go (nat_lt r n && (not (c.killed r) && may_turn (c.one r).log (c.one r).left)) refl
  where
    t : Turned S
    t = P.turn_of (c.one r).rank

    go : (b : Bool) → (nat_lt r n && (not (c.killed r) && may_turn (c.one r).log (c.one r).left)) ≡ b → LinesFiled n (with_effects f (if b then turn_effects (c.protocol.layer r) r (c.one r).rank.output t.rank t.did else [])) (if b then core_turned n c r t else c)
    go true e = turn_filed n f c r (c.one r).rank.output t.rank t.did (ltb-true r n (and_parts (nat_lt r n) (not (c.killed r) && may_turn (c.one r).log (c.one r).left) e).0) sound h
    go false e = h
step_filed {S} P n f c (Deliver s r) sound h = go (nat_lt s n && (nat_lt r n && (not (c.killed r) && accepts (c.one r).log (c.one r).left s)))
  where
    go : (b : Bool) → LinesFiled n (with_effects f (if b then arrival_effects c r (c.protocol.channel s r) else [])) (if b then core_delivers n c s r (c.protocol.channel s r) else c)
    go true = arrival_filed n f c s r (c.protocol.channel s r) h
    go false = h
step_filed {S} P n f c (Handle s r) sound h = go (nat_lt s n && (nat_lt r n && not (c.killed r))) refl
  where
    go : (b : Bool) → (nat_lt s n && (nat_lt r n && not (c.killed r))) ≡ b → LinesFiled n (with_effects f (if b then control_effects n c s r (c.protocol.control s r) else [])) (if b then core_handled c (handles n c.protocol s r (c.protocol.control s r)) else c)
    go true e = let one = and_parts (nat_lt s n) (nat_lt r n && not (c.killed r)) e in control_filed n f c s r (c.protocol.control s r) (ltb-true s n one.0) (ltb-true r n (and_parts (nat_lt r n) (not (c.killed r)) one.1).0) refl sound h
    go false e = h
step_filed {S} P n f c Begin_wave sound h = cond_both (may_begin n c) (core_began c) c (LinesFiled n f)
    (λ e. begun_filed n f c (not-true c.protocol.wave.under_way (and_parts (not c.protocol.wave.under_way) (nat_lt c.protocol.wave.line last_line && all_below n c.protocol.restored) (and_parts (not (c.killed 0)) (not c.protocol.wave.under_way && (nat_lt c.protocol.wave.line last_line && all_below n c.protocol.restored)) e).1).0) sound h)
    (λ e. h)

pub restart_lines : {S : Type 0} (P : Ranks S) (n : ℕ) (f : Files S) (c : Core S) → LinesFiled n f c → LinesFiled n (cut_back f) (restart_of P c)
restart_lines P n f c h = cond_both (c.protocol.wave.line == 0) (start_of P) (restart_from c.protocol.wave.line c.saved) (LinesFiled n (cut_back f))
    (λ e. record {
      images = λ x b g. absurd (false≢true g);
      logs = λ x b g. absurd (false≢true g);
      line = h.line ∙ eqb-true c.protocol.wave.line 0 e;
      committed_images = λ g. absurd (omega arith);
      committed_logs = λ g. absurd (omega arith);
    })
    (λ e. record {
      images = λ x b g. absurd (omega (arith, eqb-true c.protocol.wave.line (suc c.protocol.wave.line) g));
      logs = λ x b g. absurd (omega (arith, eqb-true c.protocol.wave.line (suc c.protocol.wave.line) (and_parts (c.protocol.wave.line == suc c.protocol.wave.line) true g).0));
      line = h.line;
      committed_images = h.committed_images;
      committed_logs = h.committed_logs;
    })

-- Every event of the core.
pub effects_more : {S : Type 0} (f : Files S) (a b : List (Effect S)) → with_effects f (a ++ b) ≡ with_effects (with_effects f a) b
effects_more f [] b = refl
effects_more f (e ∷ a) b = effects_more (with_effect f e) a b

steps_filed : {S : Type 0} (P : Process S) (n : ℕ) (es : List Event) (f : Files S) (c : Core S) → IsKept P n c → LinesFiled n f c → LinesFiled n (with_effects f (steps_effects_of (ranks P) n c es)) (steps_of (ranks P) n c es)
steps_filed P n [] f c k h = h
steps_filed P n (e ∷ es) f c k h = subst (λ g. LinesFiled n g (steps_of (ranks P) n (step_of (ranks P) n c e) es)) (sym (effects_more f (step_effects_of (ranks P) n c e) (steps_effects_of (ranks P) n (step_of (ranks P) n c e) es)))
    (steps_filed P n es (with_effects f (step_effects_of (ranks P) n c e)) (step_of (ranks P) n c e) (step_kept P n c e k) (step_filed (ranks P) n f c e (sound P n c k) h))

killed_filed : {S : Type 0} (n : ℕ) (f : Files S) (c : Core S) (r : ℕ) → LinesFiled n f c → LinesFiled n f (if nat_lt r n then record c { killed = set_at c.killed r true } else c)
killed_filed n f c r h = cond_both (nat_lt r n) (record c { killed = set_at c.killed r true }) c (LinesFiled n f) (λ e. record { images = h.images; logs = h.logs; line = h.line; committed_images = h.committed_images; committed_logs = h.committed_logs }) (λ e. h)

pub next_lines : {S : Type 0} (P : Process S) (n : ℕ) (f : Files S) (c : Core S) (e : Core_event) → IsKept P n c → LinesFiled n f c → LinesFiled n (with_effects f (effects_of (ranks P) n c e)) (next_of (ranks P) n c e)
next_lines P n f c (Single e) k h = step_filed (ranks P) n f c e (sound P n c k) h
next_lines P n f c Sweep k h = steps_filed P n (sweep_events n c.protocol) f c k h
next_lines P n f c (Kill r) k h = killed_filed n f c r h

-- the same with pauses
pub sound_pausing : {S : Type 0} (P : Stepping S) (n b most : ℕ) (c : Core S) → IsKeptWithin P n b most c → Sound n c
sound_pausing P n b most c h = record {
  protocol = subst (Invariant n) (sym h.is.protocol) h.kept.protocol;
  early = subst (λ p. p.wave.under_way ≡ true → (r : ℕ) → r < n → (p.layer r).epoch ≡ p.wave.line → (s : ℕ) → (c.written r).early s ≡ (p.layer r).early s) (sym h.is.protocol)
      (λ w r a e s. ap (λ g. g s) (h.is.written r).early ∙ (sound (without_pauses b P) n h.core h.kept).early w r a e s);
}

steps_filed_pausing : {S : Type 0} (P : Stepping S) (n b most : ℕ) (es : List Event) (f : Files S) (c : Core S) → AllByRecursion NoTurn es → IsKeptWithin P n b most c → LinesFiled n f c → LinesFiled n (with_effects f (steps_effects_of (stepping P) n c es)) (steps_of (stepping P) n c es)
steps_filed_pausing P n b most [] f c still k h = h
steps_filed_pausing P n b most (e ∷ es) f c still k h = subst (λ g. LinesFiled n g (steps_of (stepping P) n (step_of (stepping P) n c e) es)) (sym (effects_more f (step_effects_of (stepping P) n c e) (steps_effects_of (stepping P) n (step_of (stepping P) n c e) es)))
    (steps_filed_pausing P n b most es (with_effects f (step_effects_of (stepping P) n c e)) (step_of (stepping P) n c e) still.1 (step_still P n b most c e still.0 k) (step_filed (stepping P) n f c e (sound_pausing P n b most c k) h))

pub next_lines_paused : {S : Type 0} (P : Stepping S) (n b most : ℕ) (f : Files S) (c : Core S) (e : Core_event) → IsKeptWithin P n b most c → LinesFiled n f c → LinesFiled n (with_effects f (effects_of (stepping P) n c e)) (next_of (stepping P) n c e)
next_lines_paused P n b most f c (Single e) k h = step_filed (stepping P) n f c e (sound_pausing P n b most c k) h
next_lines_paused P n b most f c Sweep k h = steps_filed_pausing P n b most (sweep_events n c.protocol) f c (no_sweep n c.protocol) k h
next_lines_paused P n b most f c (Kill r) k h = killed_filed n f c r h
