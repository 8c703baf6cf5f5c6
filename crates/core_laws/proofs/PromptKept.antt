-- Each event keeps that no rank is due, and that rank 0 has answered what it noted.
use Rattle.std.proofs.Common.{◌≡◌, ℕ, zero, suc, pred, ◌<◌, ◌≤◌, Bool, true, false, not, List, [], ◌∷◌, ◌++◌, Some, None, sym, refl, ap, ◌∙◌, subst, ⊎_elim, arith}
use Rattle.std.specs.Prelude.{◌&&◌, ◌==◌, nat_lt}
use Rattle.std.proofs.lemmas.Bool.{cond_both, and_right, and_parts, cases_eq, ltb-true, false≢true, true≢false}
use Rattle.mpi_words.specs.declared.control.Control.{Control}
use Rattle.mpi_words.specs.declared.control.Control.TheVariants.{Request, Count, Ready, Stop, Stopped, Restored}
use Rattle.core_laws.specs.Rows.{set_at, set_pair}
use Rattle.core_laws.specs.Protocol.{Packet, Layer, Wave, Protocol, Class, Late, Intra, Early, class_of, layer_arrive, layer_send, layer_save, move_send, move_skip, move_save, move_arrive, move_ready, move_stop, move_pop, move_told, move_note_ready, move_tell_restored, restarted}
use Rattle.core_laws.specs.Process.{Ranks, Did, Nothing, Sent, Local, Marked}
use Rattle.core_laws.specs.Quiet.{Event, Turn, Deliver, Handle, Begin_wave}
use Rattle.core_laws.specs.Handling.{handles, then_ready, then_stop, ready_due, stops_at, all_below, protocol_after}
use Rattle.core_laws.specs.Replay.{may_turn}
use Rattle.core_laws.specs.Core.{Core, step_of, steps_of, restores, is_back, then_restored, one_turned, landed, core_turned, core_delivers, core_handled, core_began, accepts, may_begin}
use Rattle.core_laws.specs.CoreEvents.{Core_event, Single, Sweep, Kill, Session_event, Core_does, Restart, next_of, session_of, session_next_of, start_of, restart_from, one_from, sweep_events}
use Rattle.core_laws.specs.Invariant.{Kept, DownKept, Invariant}
use Rattle.core_laws.specs.Prompt.{kind, stops_on, Prompt}
use Rattle.core_laws.specs.Sweeps.{Keeps}
use Rattle.core_laws.proofs.Changes.{set_at-same, set_at-other, each_set, push_pair, push_row, pop_pair, set_pair-other_column}
use Rattle.core_laws.proofs.QueuesBehind.{behind-more}
use Rattle.core_laws.proofs.RankMoves
use Rattle.core_laws.proofs.Noting.{ready_cases, stopped_cases}

-- No rank is due.
abbrev NoneDue : ℕ → (ℕ → Layer) → Type 0
NoneDue n layer = (r : ℕ) → r < n → ready_due n (layer r) ≡ false

-- no other rank is
abbrev OthersNot : ℕ → (ℕ → Layer) → ℕ → Type 0
OthersNot n layer r = (x : ℕ) → x < n → (x ≡ r → ⊥) → ready_due n (layer x) ≡ false

others_set : (n : ℕ) (layer : ℕ → Layer) (r : ℕ) (v : Layer) → OthersNot n layer r → OthersNot n (set_at layer r v) r
others_set n layer r v h x b e = subst (λ l. ready_due n l ≡ false) (sym (set_at-other layer r v x e)) (h x b e)

due_set : (n : ℕ) (layer : ℕ → Layer) (r : ℕ) (v : Layer) → (r < n → ready_due n v ≡ false) → OthersNot n layer r → NoneDue n (set_at layer r v)
due_set n layer r v here h = each_set (λ x l. x < n → ready_due n l ≡ false) layer r v here (λ x e b. h x b e)

due_then_ready : (n : ℕ) (p : Protocol) (r : ℕ) → OthersNot n p.layer r → NoneDue n (then_ready n p r).layer
due_then_ready n p r h = cond_both (ready_due n (p.layer r)) (move_ready p r) p (λ (q : Protocol). NoneDue n q.layer)
    (λ e. due_set n p.layer r (record (p.layer r) { was_ready = true; told = λ x. None }) (λ b. and_right (p.layer r).logging false refl) h)
    (λ e x b. ⊎_elim (λ d. subst (λ z. ready_due n (p.layer z) ≡ false) (sym d) e) (λ d. h x b d) (cases_eq x r))

abbrev pub skipped : Layer → ℕ → Layer
skipped l to = record l { sent = set_at l.sent to (suc (l.sent to)); skip = set_at l.skip to (pred (l.skip to)) }

due_after : (n : ℕ) (p : Protocol) (r : ℕ) (d : Did) → NoneDue n p.layer → NoneDue n (protocol_after n p r d).layer
due_after n p r Nothing h = h
due_after n p r Local h = h
due_after n p r (Sent to m) h = cond_both (nat_lt 0 ((p.layer r).skip to)) (move_skip p r to) (move_send p r to m) (λ (q : Protocol). NoneDue n q.layer)
    (λ e. due_set n p.layer r (skipped (p.layer r) to) (h r) (λ x b e. h x b))
    (λ e. due_set n p.layer r (layer_send (p.layer r) to) (h r) (λ x b e. h x b))
due_after n p r Marked h = cond_both (p.layer r).asked (then_ready n (move_save p r) r) p (λ (q : Protocol). NoneDue n q.layer)
    (λ e. due_then_ready n (move_save p r) r (others_set n p.layer r (layer_save (p.layer r)) (λ x b e. h x b)))
    (λ e. h)

-- an arrival, with the stop and the ready that go with it
abbrev pub arrived_at : ℕ → Protocol → ℕ → ℕ → Packet → List Packet → Protocol
arrived_at n p s r x rest = then_ready n (move_arrive (then_stop p r x) s r x.1.epoch rest) r

due_arrived : (n : ℕ) (p : Protocol) (s r : ℕ) (x : Packet) (rest : List Packet) → NoneDue n p.layer → NoneDue n (arrived_at n p s r x rest).layer
due_arrived n p s r x rest h = due_then_ready n (move_arrive (then_stop p r x) s r x.1.epoch rest) r
    (others_set n (then_stop p r x).layer r (layer_arrive ((then_stop p r x).layer r) s (class_of ((then_stop p r x).layer r).epoch x.1.epoch))
    (cond_both (stops_at (p.layer r) x) (move_stop p r) p (λ (q : Protocol). OthersNot n q.layer r)
    (λ e. others_set n p.layer r (record (p.layer r) { logging = false }) (λ y b d. h y b))
    (λ e y b d. h y b)))

due_handles : (n : ℕ) (p : Protocol) (s r : ℕ) (c : List Control) → NoneDue n p.layer → NoneDue n (handles n p s r c).layer
due_handles n p s r [] h = h
due_handles n p s r (Request l ∷ rest) h = due_set n p.layer r (record (p.layer r) { asked = true }) (h r) (λ x b e. h x b)
due_handles n p s r (Count l k ∷ rest) h = due_then_ready n (move_told p s r k rest) r (others_set n p.layer r (record (p.layer r) { told = set_at (p.layer r).told s (Some k) }) (λ x b e. h x b))
due_handles n p s r (Ready l ∷ rest) h = ready_cases n p s r l rest (λ (q : Protocol). NoneDue n q.layer) (λ _ _. h) (λ _ _. h) (λ _. h)
due_handles n p s r (Stop l ∷ rest) h = cond_both (p.layer r).logging (move_stop (move_pop p s r rest) r) (move_pop p s r rest) (λ (q : Protocol). NoneDue n q.layer)
    (λ e. due_set n p.layer r (record (p.layer r) { logging = false }) (λ b. refl) (λ x b d. h x b))
    (λ e. h)
due_handles n p s r (Stopped l ∷ rest) h = stopped_cases n p s r l rest (λ (q : Protocol). NoneDue n q.layer) (λ _ _. h) (λ _ _. h) (λ _. h)
due_handles n p s r (Restored ∷ rest) h = h

-- Rank 0 has answered what it noted.
pub record Answers (n : ℕ) (w : Wave) : Type 0 where
  noted : all_below n w.ready ≡ true → w.stop_told ≡ true
  stopped : all_below n w.stopped ≡ false

none_below : (n : ℕ) → 0 < n → all_below n (λ x. false) ≡ false
none_below zero h = absurd (omega arith)
none_below (suc n) h = refl

pub wave_then_ready : (n : ℕ) (p : Protocol) (r : ℕ) → (then_ready n p r).wave ≡ p.wave
wave_then_ready n p r = cond_both (ready_due n (p.layer r)) (move_ready p r) p (λ (q : Protocol). q.wave ≡ p.wave) (λ e. refl) (λ e. refl)

pub wave_after : (n : ℕ) (p : Protocol) (r : ℕ) (d : Did) → (protocol_after n p r d).wave ≡ p.wave
wave_after n p r Nothing = refl
wave_after n p r Local = refl
wave_after n p r (Sent to m) = cond_both (nat_lt 0 ((p.layer r).skip to)) (move_skip p r to) (move_send p r to m) (λ (q : Protocol). q.wave ≡ p.wave) (λ e. refl) (λ e. refl)
wave_after n p r Marked = cond_both (p.layer r).asked (then_ready n (move_save p r) r) p (λ (q : Protocol). q.wave ≡ p.wave) (λ e. wave_then_ready n (move_save p r) r) (λ e. refl)

wave_then_stop : (p : Protocol) (r : ℕ) (x : Packet) → (then_stop p r x).wave ≡ p.wave
wave_then_stop p r x = cond_both (stops_at (p.layer r) x) (move_stop p r) p (λ (q : Protocol). q.wave ≡ p.wave) (λ e. refl) (λ e. refl)

pub wave_arrived : (n : ℕ) (p : Protocol) (s r : ℕ) (x : Packet) (rest : List Packet) → (arrived_at n p s r x rest).wave ≡ p.wave
wave_arrived n p s r x rest = wave_then_ready n (move_arrive (then_stop p r x) s r x.1.epoch rest) r ∙ wave_then_stop p r x

answers_handles : (n : ℕ) (p : Protocol) (s r : ℕ) (c : List Control) → 0 < n → Answers n p.wave → Answers n (handles n p s r c).wave
answers_handles n p s r [] some h = h
answers_handles n p s r (Request l ∷ rest) some h = h
answers_handles n p s r (Count l k ∷ rest) some h = subst (Answers n) (sym (wave_then_ready n (move_told p s r k rest) r)) h
answers_handles n p s r (Ready l ∷ rest) some h = ready_cases n p s r l rest (λ (q : Protocol). Answers n q.wave)
    (λ _ _. record { noted = λ d. refl; stopped = h.stopped })
    (λ _ e. record { noted = λ d. absurd (false≢true (sym e ∙ d)); stopped = h.stopped })
    (λ _. h)
answers_handles n p s r (Stop l ∷ rest) some h = cond_both (p.layer r).logging (move_stop (move_pop p s r rest) r) (move_pop p s r rest) (λ (q : Protocol). Answers n q.wave) (λ e. h) (λ e. h)
answers_handles n p s r (Stopped l ∷ rest) some h = stopped_cases n p s r l rest (λ (q : Protocol). Answers n q.wave)
    (λ _ _. record { noted = λ d. absurd (false≢true (sym (none_below n some) ∙ d)); stopped = none_below n some })
    (λ _ e. record { noted = h.noted; stopped = e })
    (λ _. h)
answers_handles n p s r (Restored ∷ rest) some h = h

-- Stop was told, and a rank logs yet: a Stop is on its channel.
abbrev HasStop : ℕ → Bool → (ℕ → Layer) → (ℕ → ℕ → List Control) → Type 0
HasStop n told layer control = told ≡ true → (r : ℕ) → r < n → (layer r).logging ≡ true → 1 ≤ stops_on (control 0 r)

stop_set : (n : ℕ) (told : Bool) (layer : ℕ → Layer) (control : ℕ → ℕ → List Control) (r : ℕ) (v : Layer) → (v.logging ≡ true → (layer r).logging ≡ true) → HasStop n told layer control → HasStop n told (set_at layer r v) control
stop_set n told layer control r v here h t = each_set (λ x l. x < n → l.logging ≡ true → 1 ≤ stops_on (control 0 x)) layer r v (λ b e. h t r b (here e)) (λ x _. h t x)

stop_push_pair : (n : ℕ) (told : Bool) (layer : ℕ → Layer) (control : ℕ → ℕ → List Control) (a b : ℕ) (x : Control) → HasStop n told layer control → HasStop n told layer (set_pair control a b (control a b ++ x ∷ []))
stop_push_pair n told layer control a b x h t r i e = push_pair (λ c. 1 ≤ stops_on c) control a b x 0 r (λ c old. omega (arith, old, behind-more (kind 2) c x)) (h t r i e)

stop_push_row : (n : ℕ) (told : Bool) (layer : ℕ → Layer) (control : ℕ → ℕ → List Control) (a : ℕ) (x : ℕ → Control) → HasStop n told layer control → HasStop n told layer (set_at control a (λ y. control a y ++ x y ∷ []))
stop_push_row n told layer control a x h t r i e = push_row (λ c. 1 ≤ stops_on c) control a x 0 r (λ c old. omega (arith, old, behind-more (kind 2) c (x r))) (h t r i e)

stop_pop : (n : ℕ) (told : Bool) (layer : ℕ → Layer) (control : ℕ → ℕ → List Control) (a b : ℕ) (x : Control) (rest : List Control) → control a b ≡ x ∷ rest → kind 2 x ≡ 0 → HasStop n told layer control → HasStop n told layer (set_pair control a b rest)
stop_pop n told layer control a b x rest is none h t r i e = pop_pair (λ c. 1 ≤ stops_on c) control a b x rest 0 r is (λ old. omega (arith, old, none)) (h t r i e)

abbrev Stops : ℕ → Protocol → Type 0
Stops n p = HasStop n p.wave.stop_told p.layer p.control

stops_then_ready : (n : ℕ) (p : Protocol) (r : ℕ) → Stops n p → Stops n (then_ready n p r)
stops_then_ready n p r h = cond_both (ready_due n (p.layer r)) (move_ready p r) p (Stops n)
    (λ e. stop_set n p.wave.stop_told p.layer (move_ready p r).control r (record (p.layer r) { was_ready = true; told = λ x. None }) (λ d. d) (stop_push_pair n p.wave.stop_told p.layer p.control r 0 (Ready (p.layer r).epoch) h))
    (λ e. h)

stops_stop : (n : ℕ) (p : Protocol) (r : ℕ) → Stops n p → Stops n (move_stop p r)
stops_stop n p r h = stop_set n p.wave.stop_told p.layer (move_stop p r).control r (record (p.layer r) { logging = false }) (λ d. absurd (false≢true d)) (stop_push_pair n p.wave.stop_told p.layer p.control r 0 (Stopped (p.layer r).epoch) h)

-- none that has saved is asked again
pub asked_once : (L : ℕ) (way told : Bool) (epoch : ℕ) (asked : Bool) (c : List Control) → epoch ≡ suc L → DownKept L way told epoch asked c → asked ≡ false
asked_once L way told epoch true c at h = absurd (omega (arith, h.request, RankMoves.bit_most way))
asked_once L way told epoch false c at h = refl

stops_after : (n : ℕ) (p : Protocol) (r : ℕ) (d : Did) → r < n → Kept n p → Stops n p → Stops n (protocol_after n p r d)
stops_after n p r Nothing b k h = h
stops_after n p r Local b k h = h
stops_after n p r (Sent to m) b k h = cond_both (nat_lt 0 ((p.layer r).skip to)) (move_skip p r to) (move_send p r to m) (Stops n)
    (λ e. stop_set n p.wave.stop_told p.layer p.control r (skipped (p.layer r) to) (λ d. d) h)
    (λ e. stop_set n p.wave.stop_told p.layer p.control r (layer_send (p.layer r) to) (λ d. d) h)
stops_after n p r Marked b k h = cond_both (p.layer r).asked (then_ready n (move_save p r) r) p (Stops n)
    (λ e. stops_then_ready n (move_save p r) r (λ t. absurd (true≢false (sym e ∙ asked_once p.wave.line p.wave.under_way p.wave.stop_told (p.layer r).epoch (p.layer r).asked (p.control 0 r) ((k.rank r b).all_ready t).0 (k.down r b)))))
    (λ e. h)

pub arrive_logging : (l : Layer) (s : ℕ) (cl : Class) → (layer_arrive l s cl).logging ≡ l.logging
arrive_logging l s Late = refl
arrive_logging l s Intra = refl
arrive_logging l s Early = refl

stops_arrived : (n : ℕ) (p : Protocol) (s r : ℕ) (x : Packet) (rest : List Packet) → Stops n p → Stops n (arrived_at n p s r x rest)
stops_arrived n p s r x rest h = let p' = then_stop p r x in let cl = class_of (p'.layer r).epoch x.1.epoch in
    stops_then_ready n (move_arrive p' s r x.1.epoch rest) r
    (stop_set n p'.wave.stop_told p'.layer p'.control r (layer_arrive (p'.layer r) s cl) (λ d. sym (arrive_logging (p'.layer r) s cl) ∙ d)
    (cond_both (stops_at (p.layer r) x) (move_stop p r) p (Stops n) (λ e. stops_stop n p r h) (λ e. h)))

stops_handles : (n : ℕ) (p : Protocol) (s r : ℕ) (c : List Control) → p.control s r ≡ c → Invariant n p → Stops n p → Stops n (handles n p s r c)
stops_handles n p s r [] is k h = h
stops_handles n p s r (Request l ∷ rest) is k h = stop_set n p.wave.stop_told p.layer (set_pair p.control s r rest) r (record (p.layer r) { asked = true }) (λ d. d) (stop_pop n p.wave.stop_told p.layer p.control s r (Request l) rest is refl h)
stops_handles n p s r (Count l j ∷ rest) is k h = stops_then_ready n (move_told p s r j rest) r (stop_set n p.wave.stop_told p.layer (set_pair p.control s r rest) r (record (p.layer r) { told = set_at (p.layer r).told s (Some j) }) (λ d. d) (stop_pop n p.wave.stop_told p.layer p.control s r (Count l j) rest is refl h))
stops_handles n p s r (Ready l ∷ rest) is k h = let p' = move_note_ready p s r rest in let popped = stop_pop n p.wave.stop_told p.layer p.control s r (Ready l) rest is refl h in ready_cases n p s r l rest (Stops n)
    (λ _ e t x b d. subst (λ g. 1 ≤ stops_on (g x)) (sym (set_at-same p'.control 0 (λ y. p'.control 0 y ++ Stop (suc p.wave.line) ∷ []))) (omega (arith, behind-more (kind 2) (p'.control 0 x) (Stop (suc p.wave.line)))))
    (λ _ _. popped) (λ _. popped)
stops_handles n p s r (Stop l ∷ rest) is k h = cond_both (p.layer r).logging (move_stop (move_pop p s r rest) r) (move_pop p s r rest) (Stops n)
    (λ e t. each_set (λ x v. x < n → v.logging ≡ true → 1 ≤ stops_on ((move_stop (move_pop p s r rest) r).control 0 x)) p.layer r (record (p.layer r) { logging = false })
    (λ b d. absurd (false≢true d))
    (λ x d b g. push_pair (λ c. 1 ≤ stops_on c) (set_pair p.control s r rest) r 0 (Stopped (p.layer r).epoch) 0 x (λ c old. omega (arith, old, behind-more (kind 2) c (Stopped (p.layer r).epoch))) (other t x d b g)))
    (λ e t x b g. ⊎_elim (λ d. absurd (false≢true (sym e ∙ ap (λ z. (p.layer z).logging) (sym d) ∙ g))) (λ d. other t x d b g) (cases_eq x r))
  where
    other : p.wave.stop_told ≡ true → (x : ℕ) → (x ≡ r → ⊥) → x < n → (p.layer x).logging ≡ true → 1 ≤ stops_on (set_pair p.control s r rest 0 x)
    other t x d b g = subst (λ c. 1 ≤ stops_on c) (sym (set_pair-other_column p.control s r rest 0 x d)) (h t x b g)
stops_handles n p s r (Stopped l ∷ rest) is k h = let popped = stop_pop n p.wave.stop_told p.layer p.control s r (Stopped l) rest is refl h in stopped_cases n p s r l rest (Stops n)
    (λ _ _ t. absurd (false≢true t))
    (λ _ _. popped) (λ _. popped)
stops_handles n p s r (Restored ∷ rest) is k h = stop_pop n p.wave.stop_told p.layer p.control s r Restored rest is refl h

-- All of it.
from_parts : (n : ℕ) (p : Protocol) → NoneDue n p.layer → Answers n p.wave → Stops n p → Prompt n p
from_parts n p a b c = record { due = a; noted = b.noted; stop = c; stopped = b.stopped }

answers_of : (n : ℕ) (p : Protocol) → Prompt n p → Answers n p.wave
answers_of n p h = record { noted = h.noted; stopped = h.stopped }

-- it ceases to restore
prompt_restored : (n : ℕ) (was now : Bool) (p : Protocol) (r : ℕ) → Prompt n p → Prompt n (then_restored was now p r)
prompt_restored n was now p r h = cond_both (not was && now) (move_tell_restored p r) p (Prompt n)
    (λ e. record { due = h.due; noted = h.noted; stop = stop_push_pair n p.wave.stop_told p.layer p.control r 0 Restored h.stop; stopped = h.stopped })
    (λ e. h)

prompt_delivers : {S : Type 0} (n : ℕ) (c : Core S) (s r : ℕ) (q : List Packet) → Prompt n c.protocol → Prompt n (core_delivers n c s r q).protocol
prompt_delivers n c s r [] h = h
prompt_delivers n c s r (x ∷ rest) h = let p = c.protocol in let v = landed (c.one r) (c.one r).log s x.0 in
    prompt_restored n (is_back (c.one r)) (is_back v) (arrived_at n p s r x rest) r
    (from_parts n (arrived_at n p s r x rest) (due_arrived n p s r x rest h.due) (subst (Answers n) (sym (wave_arrived n p s r x rest)) (answers_of n p h)) (stops_arrived n p s r x rest h.stop))

pub prompt_step : {S : Type 0} (P : Ranks S) (n : ℕ) (c : Core S) (e : Event) → 0 < n → Invariant n c.protocol → Prompt n c.protocol → Prompt n (step_of P n c e).protocol
prompt_step {S} P n c (Turn r) some k h = cond_both (nat_lt r n && (not (c.killed r) && may_turn (c.one r).log (c.one r).left)) (core_turned n c r (P.turn_of (c.one r).rank)) c (λ (d : Core S). Prompt n d.protocol)
    (λ e. let did = (P.turn_of (c.one r).rank).did in
    prompt_restored n (is_back (c.one r)) (is_back (one_turned (c.one r) (P.turn_of (c.one r).rank))) (protocol_after n c.protocol r did) r
    (from_parts n (protocol_after n c.protocol r did) (due_after n c.protocol r did h.due) (subst (Answers n) (sym (wave_after n c.protocol r did)) (answers_of n c.protocol h))
    (stops_after n c.protocol r did (ltb-true r n (and_parts (nat_lt r n) (not (c.killed r) && may_turn (c.one r).log (c.one r).left) e).0) k.kept h.stop)))
    (λ e. h)
prompt_step {S} P n c (Deliver s r) some k h = cond_both (nat_lt s n && (nat_lt r n && (not (c.killed r) && accepts (c.one r).log (c.one r).left s))) (core_delivers n c s r (c.protocol.channel s r)) c (λ (d : Core S). Prompt n d.protocol)
    (λ e. prompt_delivers n c s r (c.protocol.channel s r) h)
    (λ e. h)
prompt_step {S} P n c (Handle s r) some k h = cond_both (nat_lt s n && (nat_lt r n && not (c.killed r))) (core_handled c (handles n c.protocol s r (c.protocol.control s r))) c (λ (d : Core S). Prompt n d.protocol)
    (λ e. let q = c.protocol.control s r in from_parts n (handles n c.protocol s r q) (due_handles n c.protocol s r q h.due) (answers_handles n c.protocol s r q some (answers_of n c.protocol h)) (stops_handles n c.protocol s r q refl k h.stop))
    (λ e. h)
prompt_step {S} P n c Begin_wave some k h = cond_both (may_begin n c) (core_began c) c (λ (d : Core S). Prompt n d.protocol)
    (λ e. record { due = h.due; noted = λ d. absurd (false≢true (sym (none_below n some) ∙ d)); stop = λ t. absurd (false≢true t); stopped = none_below n some })
    (λ e. h)

pub prompt_steps : {S : Type 0} (P : Ranks S) (n : ℕ) (K : Core S → Type 0) → Keeps P n K → (es : List Event) (c : Core S) → 0 < n → K c → Prompt n c.protocol → Prompt n (steps_of P n c es).protocol
prompt_steps P n K keeps [] c some k h = h
prompt_steps P n K keeps (e ∷ es) c some k h = prompt_steps P n K keeps es (step_of P n c e) some (keeps.step c e k) (prompt_step P n c e some (keeps.invariant c k) h)

pub prompt_next : {S : Type 0} (P : Ranks S) (n : ℕ) (K : Core S → Type 0) → Keeps P n K → (c : Core S) (e : Core_event) → 0 < n → K c → Prompt n c.protocol → Prompt n (next_of P n c e).protocol
prompt_next P n K keeps c (Single e) some k h = prompt_step P n c e some (keeps.invariant c k) h
prompt_next P n K keeps c Sweep some k h = prompt_steps P n K keeps (sweep_events n c.protocol) c some k h
prompt_next {S} P n K keeps c (Kill r) some k h = cond_both (nat_lt r n) (record c { killed = set_at c.killed r true }) c (λ (d : Core S). Prompt n d.protocol) (λ e. h) (λ e. h)

-- after a restart
pub prompt_restarted : (n L : ℕ) (early : ℕ → ℕ → ℕ) (restores : ℕ → Bool) → 0 < n → Prompt n (restarted L early restores)
prompt_restarted n L early restores some = record { due = λ r b. refl; noted = λ d. absurd (false≢true (sym (none_below n some) ∙ d)); stop = λ t. absurd (false≢true t); stopped = none_below n some }

pub prompt_start : {S : Type 0} (P : Ranks S) (n : ℕ) → 0 < n → Prompt n (start_of P).protocol
prompt_start P n some = let h = prompt_restarted n 0 (λ r x. 0) (λ r. true) some in record { due = h.due; noted = h.noted; stop = h.stop; stopped = h.stopped }

pub prompt_session : {S : Type 0} (P : Ranks S) (n : ℕ) (K : Core S → Type 0) → Keeps P n K → ((c : Core S) (e : Session_event) → K c → K (session_next_of P n c e)) → (es : List Session_event) (c : Core S) → 0 < n → K c → Prompt n c.protocol → Prompt n (session_of P n c es).protocol
prompt_session P n K keeps each [] c some k h = h
prompt_session {S} P n K keeps each (e ∷ es) c some k h = prompt_session P n K keeps each es (session_next_of P n c e) some (each c e k) (one e)
  where
    one : (e : Session_event) → Prompt n (session_next_of P n c e).protocol
    one (Core_does e) = prompt_next P n K keeps c e some k h
    one Restart = cond_both (c.protocol.wave.line == 0) (start_of P) (restart_from c.protocol.wave.line c.saved) (λ (d : Core S). Prompt n d.protocol) (λ e. prompt_start P n some)
        (λ e. prompt_restarted n c.protocol.wave.line (λ r. (c.saved r).early) (λ r. restores (one_from (c.saved r)).log (one_from (c.saved r)).left) some)
