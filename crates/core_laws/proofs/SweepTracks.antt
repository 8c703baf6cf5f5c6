-- In a wave in which every rank has saved, each event keeps what the sweeps brought about, and puts nothing on the channels for which the stage waits.
use Rattle.std.proofs.Common.{◌≡◌, ℕ, suc, ◌<◌, ◌≤◌, Bool, true, false, not, List, [], ◌∷◌, Some, None, sym, refl, ap, ◌∙◌, subst, arith}
use Rattle.std.specs.Prelude.{◌&&◌, ◌==◌, nat_lt}
use Rattle.std.proofs.lemmas.Bool.{cond_both, and_parts, and_from, not-true, not_from_false, ltb-true, lt-ltb, true≢false}
use Rattle.mpi_words.specs.declared.control.Control.{Control}
use Rattle.mpi_words.specs.declared.control.Control.TheVariants.{Request, Count, Ready, Stop, Stopped, Restored}
use Rattle.core_laws.specs.Rows.{set_at, set_pair}
use Rattle.core_laws.specs.Protocol.{Packet, Layer, Wave, Protocol, Class, Late, Intra, Early, class_of, layer_arrive, layer_send, move_send, move_skip, move_save, move_arrive, move_ready, move_stop, move_pop, move_told, move_note_ready, move_note_stopped, move_tell_stop, move_tell_restored}
use Rattle.core_laws.specs.Process.{Ranks, Did, Nothing, Sent, Local, Marked}
use Rattle.core_laws.specs.Quiet.{Event, Turn, Deliver, Handle, Begin_wave}
use Rattle.core_laws.specs.Handling.{handles, then_ready, then_stop, ready_due, is_told, stops_at, all_below, protocol_after}
use Rattle.core_laws.specs.Replay.{Replaying, may_turn}
use Rattle.core_laws.specs.Core.{Core, step_of, steps_of, is_back, then_restored, one_turned, landed, core_turned, core_delivers, core_handled, core_began, accepts, may_begin, last_line}
use Rattle.core_laws.specs.Kept.{Tells}
use Rattle.core_laws.specs.Invariant.{Kept, UpKept, up_kept, Invariant}
use Rattle.core_laws.specs.Prompt.{kind}
use Rattle.core_laws.specs.Sweeps.{of_epoch, Keeps, InWave, Track, Tracked, Goes_on, Over, with_handle, with_deliver, handles_in, delivers_in}
use Rattle.core_laws.proofs.Changes.{each_set}
use Rattle.core_laws.proofs.RankMoves
use Rattle.core_laws.proofs.EventsKept.{may_come}
use Rattle.core_laws.proofs.RestoredTold.{back_is, noted_back}
use Rattle.core_laws.proofs.QueuesBehind.{all_push_pair, all_push_row, all_pop, all_none, kind_ready, kind_stop, kind_stopped, of_other}
use Rattle.core_laws.proofs.PromptKept.{skipped, arrived_at, asked_once, wave_after, wave_arrived, wave_then_ready}
use Rattle.core_laws.proofs.Noting.{ready_cases, stopped_cases}

-- A change of one layer that neither saves nor goes back.
record Goes (l v : Layer) : Type 0 where
  epoch : v.epoch ≡ l.epoch
  ready : l.was_ready ≡ true → v.was_ready ≡ true
  stopped : l.logging ≡ false → v.logging ≡ false

in_set : (n i L : ℕ) (layer : ℕ → Layer) (w : Wave) (r : ℕ) (v : Layer) → Goes (layer r) v → InWave n i L layer w → InWave n i L (set_at layer r v) w
in_set n i L layer w r v g h = record {
  line = h.line;
  way = h.way;
  saved = each_set (λ x l. x < n → l.epoch ≡ suc L) layer r v (λ b. g.epoch ∙ h.saved r b) (λ x _. h.saved x);
  ready = λ e. each_set (λ x l. x < n → l.was_ready ≡ true) layer r v (λ b. g.ready (h.ready e r b)) (λ x _. h.ready e x);
  told = h.told;
  stopped = λ e. each_set (λ x l. x < n → l.logging ≡ false) layer r v (λ b. g.stopped (h.stopped e r b)) (λ x _. h.stopped e x);
  most = h.most;
}

in_wave : (n i L : ℕ) (layer : ℕ → Layer) (w w' : Wave) → w'.line ≡ w.line → w'.under_way ≡ w.under_way → (w.stop_told ≡ true → w'.stop_told ≡ true) → InWave n i L layer w → InWave n i L layer w'
in_wave n i L layer w w' a b c h = record { line = a ∙ h.line; way = b ∙ h.way; saved = h.saved; ready = h.ready; told = λ e. c (h.told e); stopped = h.stopped; most = h.most }

-- the moves that every event may add
track_then_ready : (n i L : ℕ) (k d : ℕ → ℕ → ℕ) (p : Protocol) (r : ℕ) → r < n → Track n i L k d p → Track n i L k d (then_ready n p r)
track_then_ready n i L k d p r b h = cond_both (ready_due n (p.layer r)) (move_ready p r) p (Track n i L k d)
    (λ e. record {
      wave = in_set n i L p.layer p.wave r (record (p.layer r) { was_ready = true; told = λ x. None }) (record { epoch = refl; ready = λ _. refl; stopped = λ f. f }) h.wave;
      controls = all_push_pair (kind i) n k p.control r 0 (Ready (p.layer r).epoch) (kind_ready i (p.layer r).epoch (λ g. absurd (true≢false (sym (h.wave.ready (omega (arith, g)) r b) ∙ fresh e)))) h.controls;
      packets = h.packets;
    })
    (λ e. h)
  where
    fresh : ready_due n (p.layer r) ≡ true → (p.layer r).was_ready ≡ false
    fresh e = let l = p.layer r in let all = all_below n (λ x. is_told (l.told x) (l.old x)) in not-true l.was_ready (and_parts (not l.was_ready) all (and_parts l.logging (not l.was_ready && all) e).1).0

track_stop : (n i L : ℕ) (k d : ℕ → ℕ → ℕ) (p : Protocol) (r : ℕ) → r < n → (p.layer r).logging ≡ true → Track n i L k d p → Track n i L k d (move_stop p r)
track_stop n i L k d p r b e h = record {
  wave = in_set n i L p.layer p.wave r (record (p.layer r) { logging = false }) (record { epoch = refl; ready = λ f. f; stopped = λ _. refl }) h.wave;
  controls = all_push_pair (kind i) n k p.control r 0 (Stopped (p.layer r).epoch) (kind_stopped i (p.layer r).epoch (λ g. absurd (true≢false (sym e ∙ h.wave.stopped (omega (arith, g)) r b)))) h.controls;
  packets = h.packets;
}

track_then_stop : (n i L : ℕ) (k d : ℕ → ℕ → ℕ) (p : Protocol) (r : ℕ) (x : Packet) → r < n → Track n i L k d p → Track n i L k d (then_stop p r x)
track_then_stop n i L k d p r x b h = cond_both (stops_at (p.layer r) x) (move_stop p r) p (Track n i L k d)
    (λ e. track_stop n i L k d p r b (and_parts (p.layer r).logging ((x.1.epoch == (p.layer r).epoch) && not x.1.logging) e).0 h)
    (λ e. h)

-- a turn: what is sent is of the new epoch, and no rank saves
track_after : (n i L : ℕ) (k d : ℕ → ℕ → ℕ) (p : Protocol) (r : ℕ) (did : Did) → r < n → Kept n p → Track n i L k d p → Track n i L k d (protocol_after n p r did)
track_after n i L k d p r Nothing b kept h = h
track_after n i L k d p r Local b kept h = h
track_after n i L k d p r (Sent to m) b kept h = cond_both (nat_lt 0 ((p.layer r).skip to)) (move_skip p r to) (move_send p r to m) (Track n i L k d)
    (λ e. record { wave = in_set n i L p.layer p.wave r (skipped (p.layer r) to) (record { epoch = refl; ready = λ f. f; stopped = λ f. f }) h.wave; controls = h.controls; packets = h.packets })
    (λ e. record {
      wave = in_set n i L p.layer p.wave r (layer_send (p.layer r) to) (record { epoch = refl; ready = λ f. f; stopped = λ f. f }) h.wave;
      controls = h.controls;
      packets = all_push_pair (of_epoch L) n d p.channel r to new (of_other L new (λ e. absurd (omega (arith, e, h.wave.saved r b)))) h.packets;
    })
  where
    new : Packet
    new = (m, record { epoch = (p.layer r).epoch; logging = (p.layer r).logging })
track_after n i L k d p r Marked b kept h = cond_both (p.layer r).asked (then_ready n (move_save p r) r) p (Track n i L k d)
    (λ e. absurd (true≢false (sym e ∙ asked_once p.wave.line p.wave.under_way p.wave.stop_told (p.layer r).epoch (p.layer r).asked (p.control 0 r) (h.wave.saved r b ∙ ap suc (sym h.wave.line)) (kept.down r b))))
    (λ e. h)

-- a delivery
arrive_goes : (l : Layer) (s : ℕ) (cl : Class) → Goes l (layer_arrive l s cl)
arrive_goes l s Late = record { epoch = refl; ready = λ f. f; stopped = λ f. f }
arrive_goes l s Intra = record { epoch = refl; ready = λ f. f; stopped = λ f. f }
arrive_goes l s Early = record { epoch = refl; ready = λ f. f; stopped = λ f. f }

track_arrived : (n i L : ℕ) (k d : ℕ → ℕ → ℕ) (p : Protocol) (s r : ℕ) (x : Packet) (rest : List Packet) → r < n → p.channel s r ≡ x ∷ rest
    → Track n i L k (set_pair d s r (suc (d s r))) p → Track n i L k d (arrived_at n p s r x rest)
track_arrived n i L k d p s r x rest b is h = track_then_ready n i L k d (move_arrive p' s r x.1.epoch rest) r b (record {
  wave = in_set n i L p'.layer p'.wave r (layer_arrive (p'.layer r) s cl) (arrive_goes (p'.layer r) s cl) stopped.wave;
  controls = stopped.controls;
  packets = all_pop (of_epoch L) n d p'.channel s r x rest (cond_both (stops_at (p.layer r) x) (move_stop p r) p (λ (q : Protocol). q.channel s r ≡ x ∷ rest) (λ _. is) (λ _. is)) stopped.packets;
})
  where
    p' : Protocol
    p' = then_stop p r x

    cl : Class
    cl = class_of (p'.layer r).epoch x.1.epoch

    stopped : Track n i L k (set_pair d s r (suc (d s r))) p'
    stopped = track_then_stop n i L k (set_pair d s r (suc (d s r))) p r x b h

-- a control
noted_once : (L l : ℕ) (stopped : Bool) (epoch : ℕ) (logging was_ready : Bool) (c : List Control) → UpKept L true stopped epoch logging was_ready (Ready l ∷ c) → ⊥
noted_once L l stopped epoch logging was_ready c h = absurd (omega (arith, h.readies, RankMoves.bit_most ((epoch == suc L) && was_ready)))

track_pop : (n i L : ℕ) (k d : ℕ → ℕ → ℕ) (p : Protocol) (s r : ℕ) (x : Control) (rest : List Control) → p.control s r ≡ x ∷ rest → Track n i L (set_pair k s r (suc (k s r))) d p → Track n i L k d (move_pop p s r rest)
track_pop n i L k d p s r x rest is h = record { wave = h.wave; controls = all_pop (kind i) n k p.control s r x rest is h.controls; packets = h.packets }

track_handles : (n i L : ℕ) (k d : ℕ → ℕ → ℕ) (p : Protocol) (s r : ℕ) (c : List Control) → s < n → r < n → p.control s r ≡ c → Invariant n p
    → Track n i L (set_pair k s r (suc (k s r))) d p → Tracked n i L k d (handles n p s r c)
track_handles n i L k d p s r [] a b is inv h = Goes_on (record { wave = h.wave; controls = all_none (kind i) n k p.control s r (λ _ _. is) h.controls; packets = h.packets })
track_handles n i L k d p s r (Request l ∷ rest) a b is inv h = let popped = track_pop n i L k d p s r (Request l) rest is h in
    Goes_on (record { wave = in_set n i L p.layer p.wave r (record (p.layer r) { asked = true }) (record { epoch = refl; ready = λ f. f; stopped = λ f. f }) h.wave; controls = popped.controls; packets = popped.packets })
track_handles n i L k d p s r (Count l j ∷ rest) a b is inv h = let popped = track_pop n i L k d p s r (Count l j) rest is h in
    Goes_on (track_then_ready n i L k d (move_told p s r j rest) r b
    (record { wave = in_set n i L p.layer p.wave r (record (p.layer r) { told = set_at (p.layer r).told s (Some j) }) (record { epoch = refl; ready = λ f. f; stopped = λ f. f }) h.wave; controls = popped.controls; packets = popped.packets }))
track_handles n i L k d p s r (Ready l ∷ rest) a b is inv h = ready_cases n p s r l rest (Tracked n i L k d)
    (λ _ _. Goes_on (record { wave = in_wave n i L p.layer p.wave (move_tell_stop p').wave refl refl (λ _. refl) h.wave; controls = all_push_row (kind i) n k p'.control 0 (λ y. Stop (suc p.wave.line)) (λ y. kind_stop i (suc p.wave.line) untold) popped.controls; packets = popped.packets }))
    (λ _ _. Goes_on (record { wave = in_wave n i L p.layer p.wave p'.wave refl refl (λ t. t) h.wave; controls = popped.controls; packets = popped.packets }))
    (λ _. Goes_on popped)
  where
    p' : Protocol
    p' = move_note_ready p s r rest

    popped : Track n i L k d (move_pop p s r rest)
    popped = track_pop n i L k d p s r (Ready l) rest is h

    untold : i ≡ 2 → ⊥
    untold e = noted_once p.wave.line l (p.wave.stopped s) (p.layer s).epoch (p.layer s).logging (p.layer s).was_ready rest
        (subst (λ t. up_kept p.wave t (p.wave.stopped s) (p.layer s) (Ready l ∷ rest)) (inv.kept.noted (h.wave.told (omega (arith, e))) s a)
        (subst (up_kept p.wave (p.wave.ready s) (p.wave.stopped s) (p.layer s)) (ap (p.control s) (sym (may_come n p s r (Ready l) rest is inv)) ∙ is) (inv.kept.up s a)))
track_handles n i L k d p s r (Stop l ∷ rest) a b is inv h = let popped = track_pop n i L k d p s r (Stop l) rest is h in
    cond_both (p.layer r).logging (move_stop (move_pop p s r rest) r) (move_pop p s r rest) (Tracked n i L k d)
    (λ e. Goes_on (track_stop n i L k d (move_pop p s r rest) r b e popped))
    (λ e. Goes_on popped)
track_handles n i L k d p s r (Stopped l ∷ rest) a b is inv h = let p' = move_note_stopped p s r rest in let popped = track_pop n i L k d p s r (Stopped l) rest is h in
    stopped_cases n p s r l rest (Tracked n i L k d)
    (λ _ _. Over (omega (arith, h.wave.line)))
    (λ _ _. Goes_on (record { wave = in_wave n i L p.layer p.wave p'.wave refl refl (λ t. t) h.wave; controls = popped.controls; packets = popped.packets }))
    (λ _. Goes_on popped)
track_handles n i L k d p s r (Restored ∷ rest) a b is inv h = let popped = track_pop n i L k d p s r Restored rest is h in Goes_on (record { wave = popped.wave; controls = popped.controls; packets = popped.packets })

-- In a wave no rank restores: where none is killed each event is to be taken.
pub back_in_wave : {S : Type 0} (n : ℕ) (c : Core S) → Tells n c.one c.protocol → c.protocol.wave.under_way ≡ true → (r : ℕ) → r < n → is_back (c.one r) ≡ true
back_in_wave n c h way r b = noted_back n c.one c.protocol r b h (h.wave way r b)

accepts_back : {S : Type 0} (v : Replaying S) (s : ℕ) → is_back v ≡ true → accepts v.log v.left s ≡ true
accepts_back v s e = let both = back_is v e in subst (λ l. accepts l v.left s ≡ true) (sym both.0) (subst (λ k. accepts [] k s ≡ true) (sym both.1) refl)

takes_handle : (n s r : ℕ) (killed : Bool) → s < n → r < n → killed ≡ false → (nat_lt s n && (nat_lt r n && not killed)) ≡ true
takes_handle n s r killed a b e = and_from (nat_lt s n) (nat_lt r n && not killed) (lt-ltb s n a) (and_from (nat_lt r n) (not killed) (lt-ltb r n b) (not_from_false killed e))

takes_message : (n s r : ℕ) (killed takes : Bool) → s < n → r < n → killed ≡ false → takes ≡ true → (nat_lt s n && (nat_lt r n && (not killed && takes))) ≡ true
takes_message n s r killed takes a b e t = and_from (nat_lt s n) (nat_lt r n && (not killed && takes)) (lt-ltb s n a) (and_from (nat_lt r n) (not killed && takes) (lt-ltb r n b) (and_from (not killed) takes (not_from_false killed e) t))

track_delivers : {S : Type 0} (n i L : ℕ) (k d : ℕ → ℕ → ℕ) (c : Core S) (s r : ℕ) (q : List Packet) → r < n → is_back (c.one r) ≡ true → c.protocol.channel s r ≡ q
    → Track n i L k (set_pair d s r (suc (d s r))) c.protocol → Track n i L k d (core_delivers n c s r q).protocol
track_delivers n i L k d c s r [] b back is h = record { wave = h.wave; controls = h.controls; packets = all_none (of_epoch L) n d c.protocol.channel s r (λ _ _. is) h.packets }
track_delivers n i L k d c s r (x ∷ rest) b back is h = let v = landed (c.one r) (c.one r).log s x.0 in
    subst (λ t. Track n i L k d (then_restored t (is_back v) (arrived_at n c.protocol s r x rest) r)) (sym back) (track_arrived n i L k d c.protocol s r x rest b is h)

pub track_step : {S : Type 0} (P : Ranks S) (n i L : ℕ) (k d : ℕ → ℕ → ℕ) (c : Core S) (e : Event) → Invariant n c.protocol → Tells n c.one c.protocol → ((r : ℕ) → r < n → c.killed r ≡ false)
    → Track n i L (with_handle e k) (with_deliver e d) c.protocol → Tracked n i L k d (step_of P n c e).protocol
track_step {S} P n i L k d c (Turn r) inv tells alive h = cond_both (nat_lt r n && (not (c.killed r) && may_turn (c.one r).log (c.one r).left)) (core_turned n c r (P.turn_of (c.one r).rank)) c (λ (x : Core S). Tracked n i L k d x.protocol)
    (λ e. let b : r < n = ltb-true r n (and_parts (nat_lt r n) (not (c.killed r) && may_turn (c.one r).log (c.one r).left) e).0 in
    Goes_on (subst (λ t. Track n i L k d (then_restored t (is_back (one_turned (c.one r) (P.turn_of (c.one r).rank))) (protocol_after n c.protocol r (P.turn_of (c.one r).rank).did) r)) (sym (back_in_wave n c tells h.wave.way r b))
    (track_after n i L k d c.protocol r (P.turn_of (c.one r).rank).did b inv.kept h)))
    (λ e. Goes_on h)
track_step {S} P n i L k d c (Deliver s r) inv tells alive h = cond_both (nat_lt s n && (nat_lt r n && (not (c.killed r) && accepts (c.one r).log (c.one r).left s))) (core_delivers n c s r (c.protocol.channel s r)) c (λ (x : Core S). Tracked n i L k d x.protocol)
    (λ e. let b : r < n = ltb-true r n (and_parts (nat_lt r n) (not (c.killed r) && accepts (c.one r).log (c.one r).left s) (and_parts (nat_lt s n) (nat_lt r n && (not (c.killed r) && accepts (c.one r).log (c.one r).left s)) e).1).0 in
    Goes_on (track_delivers n i L k d c s r (c.protocol.channel s r) b (back_in_wave n c tells h.wave.way r b) refl h))
    (λ e. Goes_on (record {
      wave = h.wave;
      controls = h.controls;
      packets = all_none (of_epoch L) n d c.protocol.channel s r
          (λ a b. absurd (true≢false (sym (takes_message n s r (c.killed r) (accepts (c.one r).log (c.one r).left s) a b (alive r b) (accepts_back (c.one r) s (back_in_wave n c tells h.wave.way r b))) ∙ e))) h.packets;
    }))
track_step {S} P n i L k d c (Handle s r) inv tells alive h = cond_both (nat_lt s n && (nat_lt r n && not (c.killed r))) (core_handled c (handles n c.protocol s r (c.protocol.control s r))) c (λ (x : Core S). Tracked n i L k d x.protocol)
    (λ e. let one = and_parts (nat_lt s n) (nat_lt r n && not (c.killed r)) e in
    track_handles n i L k d c.protocol s r (c.protocol.control s r) (ltb-true s n one.0) (ltb-true r n (and_parts (nat_lt r n) (not (c.killed r)) one.1).0) refl inv h)
    (λ e. Goes_on (record { wave = h.wave; controls = all_none (kind i) n k c.protocol.control s r (λ a b. absurd (true≢false (sym (takes_handle n s r (c.killed r) a b (alive r b)) ∙ e))) h.controls; packets = h.packets }))
track_step {S} P n i L k d c Begin_wave inv tells alive h = cond_both (may_begin n c) (core_began c) c (λ (x : Core S). Tracked n i L k d x.protocol)
    (λ e. let one = and_parts (not (c.killed 0)) (not c.protocol.wave.under_way && (nat_lt c.protocol.wave.line last_line && all_below n c.protocol.restored)) e in
    absurd (true≢false (sym h.wave.way ∙ not-true c.protocol.wave.under_way (and_parts (not c.protocol.wave.under_way) (nat_lt c.protocol.wave.line last_line && all_below n c.protocol.restored) one.1).0)))
    (λ e. Goes_on h)

-- no such event kills
pub step_killed : {S : Type 0} (P : Ranks S) (n : ℕ) (c : Core S) (e : Event) → (step_of P n c e).killed ≡ c.killed
step_killed {S} P n c (Turn r) = cond_both (nat_lt r n && (not (c.killed r) && may_turn (c.one r).log (c.one r).left)) (core_turned n c r (P.turn_of (c.one r).rank)) c (λ (x : Core S). x.killed ≡ c.killed) (λ e. refl) (λ e. refl)
step_killed {S} P n c (Deliver s r) = cond_both (nat_lt s n && (nat_lt r n && (not (c.killed r) && accepts (c.one r).log (c.one r).left s))) (core_delivers n c s r (c.protocol.channel s r)) c (λ (x : Core S). x.killed ≡ c.killed)
    (λ e. delivers (c.protocol.channel s r)) (λ e. refl)
  where
    delivers : (q : List Packet) → (core_delivers n c s r q).killed ≡ c.killed
    delivers [] = refl
    delivers (x ∷ q) = refl
step_killed {S} P n c (Handle s r) = cond_both (nat_lt s n && (nat_lt r n && not (c.killed r))) (core_handled c (handles n c.protocol s r (c.protocol.control s r))) c (λ (x : Core S). x.killed ≡ c.killed) (λ e. refl) (λ e. refl)
step_killed {S} P n c Begin_wave = cond_both (may_begin n c) (core_began c) c (λ (x : Core S). x.killed ≡ c.killed) (λ e. refl) (λ e. refl)

pub steps_killed : {S : Type 0} (P : Ranks S) (n : ℕ) (es : List Event) (c : Core S) → (steps_of P n c es).killed ≡ c.killed
steps_killed P n [] c = refl
steps_killed P n (e ∷ es) c = steps_killed P n es (step_of P n c e) ∙ step_killed P n c e

-- The line never falls, and rises by one at a time.
abbrev pub Rises : Wave → Wave → Type 0
Rises w v = (w.line ≤ v.line) × (v.line ≤ suc w.line)

same_line : (w v : Wave) → v ≡ w → Rises w v
same_line w v e = subst (Rises w) (sym e) (omega arith, omega arith)

pub line_handles : (n : ℕ) (p : Protocol) (s r : ℕ) (c : List Control) → Rises p.wave (handles n p s r c).wave
line_handles n p s r [] = (omega arith, omega arith)
line_handles n p s r (Request l ∷ rest) = (omega arith, omega arith)
line_handles n p s r (Count l k ∷ rest) = same_line p.wave (then_ready n (move_told p s r k rest) r).wave (wave_then_ready n (move_told p s r k rest) r)
line_handles n p s r (Ready l ∷ rest) = ready_cases n p s r l rest (λ (q : Protocol). Rises p.wave q.wave) (λ _ _. (omega arith, omega arith)) (λ _ _. (omega arith, omega arith)) (λ _. (omega arith, omega arith))
line_handles n p s r (Stop l ∷ rest) = cond_both (p.layer r).logging (move_stop (move_pop p s r rest) r) (move_pop p s r rest) (λ (q : Protocol). Rises p.wave q.wave) (λ e. (omega arith, omega arith)) (λ e. (omega arith, omega arith))
line_handles n p s r (Stopped l ∷ rest) = stopped_cases n p s r l rest (λ (q : Protocol). Rises p.wave q.wave) (λ _ _. (omega arith, omega arith)) (λ _ _. (omega arith, omega arith)) (λ _. (omega arith, omega arith))
line_handles n p s r (Restored ∷ rest) = (omega arith, omega arith)

pub restored_line : (was now : Bool) (p : Protocol) (r : ℕ) → (then_restored was now p r).wave ≡ p.wave
restored_line was now p r = cond_both (not was && now) (move_tell_restored p r) p (λ (q : Protocol). q.wave ≡ p.wave) (λ e. refl) (λ e. refl)

pub wave_delivers : {S : Type 0} (n : ℕ) (c : Core S) (s r : ℕ) (q : List Packet) → (core_delivers n c s r q).protocol.wave ≡ c.protocol.wave
wave_delivers n c s r [] = refl
wave_delivers n c s r (x ∷ rest) = restored_line (is_back (c.one r)) (is_back (landed (c.one r) (c.one r).log s x.0)) (arrived_at n c.protocol s r x rest) r ∙ wave_arrived n c.protocol s r x rest

pub line_step : {S : Type 0} (P : Ranks S) (n : ℕ) (c : Core S) (e : Event) → Rises c.protocol.wave (step_of P n c e).protocol.wave
line_step {S} P n c (Turn r) = let did = (P.turn_of (c.one r).rank).did in cond_both (nat_lt r n && (not (c.killed r) && may_turn (c.one r).log (c.one r).left)) (core_turned n c r (P.turn_of (c.one r).rank)) c (λ (x : Core S). Rises c.protocol.wave x.protocol.wave)
    (λ e. same_line c.protocol.wave (core_turned n c r (P.turn_of (c.one r).rank)).protocol.wave (restored_line (is_back (c.one r)) (is_back (one_turned (c.one r) (P.turn_of (c.one r).rank))) (protocol_after n c.protocol r did) r ∙ wave_after n c.protocol r did)) (λ e. (omega arith, omega arith))
line_step {S} P n c (Deliver s r) = cond_both (nat_lt s n && (nat_lt r n && (not (c.killed r) && accepts (c.one r).log (c.one r).left s))) (core_delivers n c s r (c.protocol.channel s r)) c (λ (x : Core S). Rises c.protocol.wave x.protocol.wave)
    (λ e. same_line c.protocol.wave (core_delivers n c s r (c.protocol.channel s r)).protocol.wave (wave_delivers n c s r (c.protocol.channel s r))) (λ e. (omega arith, omega arith))
line_step {S} P n c (Handle s r) = cond_both (nat_lt s n && (nat_lt r n && not (c.killed r))) (core_handled c (handles n c.protocol s r (c.protocol.control s r))) c (λ (x : Core S). Rises c.protocol.wave x.protocol.wave)
    (λ e. line_handles n c.protocol s r (c.protocol.control s r)) (λ e. (omega arith, omega arith))
line_step {S} P n c Begin_wave = cond_both (may_begin n c) (core_began c) c (λ (x : Core S). Rises c.protocol.wave x.protocol.wave) (λ e. (omega arith, omega arith)) (λ e. (omega arith, omega arith))

pub line_steps : {S : Type 0} (P : Ranks S) (n : ℕ) (es : List Event) (c : Core S) → c.protocol.wave.line ≤ (steps_of P n c es).protocol.wave.line
line_steps P n [] c = omega arith
line_steps P n (e ∷ es) c = omega (arith, line_steps P n es (step_of P n c e), (line_step P n c e).0)

-- a list of events
then_steps : {S : Type 0} (P : Ranks S) (n i L : ℕ) (k d : ℕ → ℕ → ℕ) (es : List Event) (c : Core S) (Q : Protocol → Type 0) → (Track n i L k d c.protocol → Q (steps_of P n c es).protocol)
    → (L < (steps_of P n c es).protocol.wave.line → Q (steps_of P n c es).protocol) → Tracked n i L k d c.protocol → Q (steps_of P n c es).protocol
then_steps P n i L k d es c Q f g (Goes_on t) = f t
then_steps P n i L k d es c Q f g (Over t) = g (omega (arith, t, line_steps P n es c))

pub track_steps : {S : Type 0} (P : Ranks S) (n i L : ℕ) (K : Core S → Type 0) → Keeps P n K → (es : List Event) (c : Core S) → K c → ((r : ℕ) → r < n → c.killed r ≡ false)
    → Track n i L (handles_in es) (delivers_in es) c.protocol → Tracked n i L (λ s r. 0) (λ s r. 0) (steps_of P n c es).protocol
track_steps P n i L K keeps [] c kept alive h = Goes_on h
track_steps P n i L K keeps (e ∷ es) c kept alive h = then_steps P n i L (handles_in es) (delivers_in es) es (step_of P n c e) (Tracked n i L (λ s r. 0) (λ s r. 0))
    (λ t. track_steps P n i L K keeps es (step_of P n c e) (keeps.step c e kept) (λ r b. ap (λ f. f r) (step_killed P n c e) ∙ alive r b) t)
    (λ t. Over t)
    (track_step P n i L (handles_in es) (delivers_in es) c e (keeps.invariant c kept) (keeps.tells c kept) alive h)
