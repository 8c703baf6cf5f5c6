-- What code holds after each single event, from what it holds before and the parts that the event changes.
use Rattle.std.proofs.Common.{◌≡◌, ℕ, suc, ◌+◌, ◌<◌, Bool, true, false, not, List, [], ◌∷◌, length, sym, refl, ap, ◌∙◌, subst, slice_set, get_or, ⊎_elim, arith}
use Rattle.std.specs.Prelude.{◌&&◌, nat_lt, if◌then◌else◌}
use Rattle.std.proofs.lemmas.Bool.{cond_both, cases_eq, false≢true}
use Rattle.std.proofs.lemmas.List.{get_or-set_same, get_or-set_other}
use Rattle.mpi_words.specs.declared.control.Control.{Control}
use Rattle.mpi_words.specs.declared.control.Control.TheVariants.{Request, Count, Ready, Stop, Stopped, Restored}
use Rattle.core_laws.specs.Rows.{set_at}
use Rattle.core_laws.specs.Ties.{AreBy}
use Rattle.core_laws.specs.Protocol.{Packet, Layer, Wave, Protocol, Class, class_of, layer_arrive, layer_send, layer_skip, layer_ready, layer_stop, layer_asked, layer_told, layer_save, move_send, move_skip, move_save, move_arrive, move_ready, move_stop, move_pop, move_asked, move_told, move_tell_restored}
use Rattle.core_laws.specs.Process.{Did, Nothing, Sent, Local, Marked, Turned, is_operation}
use Rattle.core_laws.specs.Written.{Written, written_arrive, written_turn}
use Rattle.core_laws.specs.Handling.{after_save, after_stop, handles, then_ready, then_stop, ready_due, stops_at, protocol_after}
use Rattle.core_laws.specs.Replay.{Replaying}
use Rattle.core_laws.specs.Core.{Core, then_restored, one_turned, core_turned, core_arrived, core_handled, core_began, is_back}
use Rattle.core_laws.specs.CoreTies.{Running, IsRunning, Placed, Network, IsNetwork, Held, Holds, Regular, logs_of}
use Rattle.core_laws.proofs.Changes.{set_at-same, set_at-other, at_set}
use Rattle.core_laws.proofs.PromptKept.{arrive_logging}
use Rattle.core_laws.proofs.Noting.{ready_cases, stopped_cases}
use Rattle.core_laws.proofs.CoreTied.{are_by_set, turn_ops, save_log, arrive_ops, idle_log}

-- no rank begins to log
abbrev pub Quieter : Protocol → Protocol → Type 0
Quieter p q = (x : ℕ) → (q.layer x).logging ≡ true → (p.layer x).logging ≡ true

quieter_set : (p q : Protocol) (r : ℕ) (l : Layer) → q.layer ≡ set_at p.layer r l → (l.logging ≡ true → (p.layer r).logging ≡ true) → Quieter p q
quieter_set p q r l is here x e = at_set (λ (z : Layer). z.logging ≡ true → (p.layer x).logging ≡ true) p.layer r l x (λ g d. subst (λ y. (p.layer y).logging ≡ true) (sym g) (here d)) (λ _ d. d) (subst (λ (f : ℕ → Layer). (f x).logging ≡ true) is e)

quieter_ready : (n : ℕ) (p : Protocol) (r : ℕ) → Quieter p (then_ready n p r)
quieter_ready n p r = cond_both (ready_due n (p.layer r)) (move_ready p r) p (Quieter p) (λ _. quieter_set p (move_ready p r) r (layer_ready (p.layer r)) refl (λ d. d)) (λ _ x e. e)

quieter_stop : (p : Protocol) (r : ℕ) (x : Packet) → Quieter p (then_stop p r x)
quieter_stop p r x = cond_both (stops_at (p.layer r) x) (move_stop p r) p (Quieter p) (λ _. quieter_set p (move_stop p r) r (layer_stop (p.layer r)) refl (λ d. absurd (false≢true d))) (λ _ x e. e)

quieter_restored : (was now : Bool) (p : Protocol) (r : ℕ) → Quieter p (then_restored was now p r)
quieter_restored was now p r = cond_both (not was && now) (move_tell_restored p r) p (Quieter p) (λ _ x e. e) (λ _ x e. e)

quieter_arrived : {S : Type 0} (n : ℕ) (c : Core S) (s r : ℕ) (v : Replaying S) (x : Packet) (rest : List Packet) → Quieter c.protocol (core_arrived n c s r v x rest).protocol
quieter_arrived n c s r v x rest y e = quieter_stop c.protocol r x y (quieter_set q (move_arrive q s r x.1.epoch rest) r (layer_arrive (q.layer r) s cl) refl (λ d. sym (arrive_logging (q.layer r) s cl) ∙ d) y
    (quieter_ready n (move_arrive q s r x.1.epoch rest) r y (quieter_restored (is_back (c.one r)) (is_back v) (then_ready n (move_arrive q s r x.1.epoch rest) r) r y e)))
  where
    q : Protocol
    q = then_stop c.protocol r x

    cl : Class
    cl = class_of (q.layer r).epoch x.1.epoch

quieter_handles : (n : ℕ) (p : Protocol) (s r : ℕ) (c : List Control) → Quieter p (handles n p s r c)
quieter_handles n p s r [] = λ x e. e
quieter_handles n p s r (Request l ∷ rest) = quieter_set p (move_asked p s r rest) r (layer_asked (p.layer r)) refl (λ d. d)
quieter_handles n p s r (Count l k ∷ rest) = λ x e. quieter_set p (move_told p s r k rest) r (layer_told (p.layer r) s k) refl (λ d. d) x (quieter_ready n (move_told p s r k rest) r x e)
quieter_handles n p s r (Ready l ∷ rest) = ready_cases n p s r l rest (Quieter p) (λ _ _ x e. e) (λ _ _ x e. e) (λ _ x e. e)
quieter_handles n p s r (Stop l ∷ rest) = cond_both (p.layer r).logging (move_stop (move_pop p s r rest) r) (move_pop p s r rest) (Quieter p)
    (λ _. quieter_set p (move_stop (move_pop p s r rest) r) r (layer_stop (p.layer r)) refl (λ d. absurd (false≢true d))) (λ _ x e. e)
quieter_handles n p s r (Stopped l ∷ rest) = stopped_cases n p s r l rest (Quieter p) (λ _ _ x e. e) (λ _ _ x e. e) (λ _ x e. e)
quieter_handles n p s r (Restored ∷ rest) = λ x e. e

-- whether a turn saves
abbrev pub saves : Layer → Did → Bool
saves l Nothing = false
saves l (Sent to m) = false
saves l Local = false
saves l Marked = l.asked

quieter_after : (n : ℕ) (p : Protocol) (r : ℕ) (did : Did) → saves (p.layer r) did ≡ false → Quieter p (protocol_after n p r did)
quieter_after n p r Nothing none = λ x e. e
quieter_after n p r Local none = λ x e. e
quieter_after n p r (Sent to m) none = cond_both (nat_lt 0 ((p.layer r).skip to)) (move_skip p r to) (move_send p r to m) (Quieter p)
    (λ _. quieter_set p (move_skip p r to) r (layer_skip (p.layer r) to) refl (λ d. d)) (λ _. quieter_set p (move_send p r to m) r (layer_send (p.layer r) to) refl (λ d. d))
quieter_after n p r Marked none = cond_both (p.layer r).asked (then_ready n (move_save p r) r) p (Quieter p) (λ e. absurd (false≢true (sym none ∙ e))) (λ _ x e. e)

-- A control, and whatever else changes neither ranks nor what was counted.
pub holds_same : {S K W : Type 0} (IsLayer : K → Placed → Type 0) (IsWave : W → Wave → (ℕ → Bool) → Type 0) (n : ℕ) (first : ℕ → ℕ) (h : Held S K W) (c after : Core S) (net : Network K W)
    → after.one ≡ c.one → after.killed ≡ c.killed → after.written ≡ c.written → Quieter c.protocol after.protocol → IsNetwork IsLayer IsWave n net after.protocol (logs_of after) → Holds IsLayer IsWave n first h c → Holds IsLayer IsWave n first (record h { network = net }) after
holds_same {S} IsLayer IsWave n first h c after net one killed written quieter network was = record {
  ranks = subst (AreBy IsRunning n h.ranks) (sym one) was.ranks;
  ops = λ r d b e. was.ops r d b (quieter r e) ∙ ap (λ (w : ℕ → Written S). first r + (w r).ops) (sym written);
  killed = subst (AreBy (λ x y. x ≡ y) n h.killed) (sym killed) was.killed;
  network = network;
}

pub holds_handled : {S K W : Type 0} (IsLayer : K → Placed → Type 0) (IsWave : W → Wave → (ℕ → Bool) → Type 0) (n : ℕ) (first : ℕ → ℕ) (h : Held S K W) (c : Core S) (s r : ℕ) (l : List Control) (net : Network K W)
    → IsNetwork IsLayer IsWave n net (handles n c.protocol s r l) (logs_of c) → Holds IsLayer IsWave n first h c → Holds IsLayer IsWave n first (record h { network = net }) (core_handled c (handles n c.protocol s r l))
holds_handled IsLayer IsWave n first h c s r l net network was = holds_same IsLayer IsWave n first h c (core_handled c (handles n c.protocol s r l)) net refl refl refl (quieter_handles n c.protocol s r l) network was

-- the counts of operations after a write of one rank
count_set : {S : Type 0} (items : List (Running S)) (r : ℕ) (k : Running S) (g : ℕ → ℕ) (x : ℕ) (d : Running S) → r < length items → (x ≡ r → k.ops ≡ g r) → ((x ≡ r → ⊥) → (get_or items x d).ops ≡ g x) → (get_or (slice_set items r k) x d).ops ≡ g x
count_set {S} items r k g x d inside here other = ⊎_elim
    (λ e. ap (λ z. (get_or (slice_set items r k) z d).ops) e ∙ ap (λ (z : Running S). z.ops) (get_or-set_same items r k d inside) ∙ here e ∙ sym (ap g e))
    (λ e. ap (λ (z : Running S). z.ops) (get_or-set_other items r x k d e) ∙ other e)
    (cases_eq x r)

-- An arrival.
pub holds_arrived : {S K W : Type 0} (IsLayer : K → Placed → Type 0) (IsWave : W → Wave → (ℕ → Bool) → Type 0) (n : ℕ) (first : ℕ → ℕ) (h : Held S K W) (c : Core S) (s r : ℕ) (v : Replaying S) (x : Packet) (rest : List Packet) (k d : Running S) (net : Network K W)
    → r < n → IsRunning k v → k.ops ≡ (get_or h.ranks r d).ops → IsNetwork IsLayer IsWave n net (core_arrived n c s r v x rest).protocol (logs_of (core_arrived n c s r v x rest)) → Holds IsLayer IsWave n first h c
    → Holds IsLayer IsWave n first (record h { ranks = slice_set h.ranks r k; network = net }) (core_arrived n c s r v x rest)
holds_arrived {S} IsLayer IsWave n first h c s r v x rest k d net b is ops network was = record {
  ranks = are_by_set IsRunning n h.ranks c.one r k v b is was.ranks;
  ops = λ y d' b' e. count_set h.ranks r k (λ z. first z + (after.written z).ops) y d' (omega (arith, b, was.ranks.size))
      (λ g. ops ∙ was.ops r d b (quieter_arrived n c s r v x rest r (subst (λ z. (after.protocol.layer z).logging ≡ true) g e)) ∙ ap (λ z. first r + z) (sym (same r)))
      (λ _. was.ops y d' b' (quieter_arrived n c s r v x rest y e) ∙ ap (λ z. first y + z) (sym (same y)));
  killed = was.killed;
  network = network;
}
  where
    after : Core S
    after = core_arrived n c s r v x rest

    q : Protocol
    q = then_stop c.protocol r x

    same : (z : ℕ) → (after.written z).ops ≡ (c.written z).ops
    same z = at_set (λ (w : Written S). w.ops ≡ (c.written z).ops) c.written r (written_arrive (after_stop q r) (after_save q r) (class_of (q.layer r).epoch x.1.epoch) (c.written r) s x.0) z
        (λ e. arrive_ops (after_stop q r) (after_save q r) (class_of (q.layer r).epoch x.1.epoch) (c.written r) s x.0 ∙ ap (λ y. (c.written y).ops) (sym e)) (λ _. refl)

-- A turn that doesn't save.
one_more : (b : Bool) (o f w : ℕ) → o ≡ f + w → (if b then suc o else o) ≡ f + (if b then suc w else w)
one_more true o f w e = omega (arith, e)
one_more false o f w e = e

pub holds_turned : {S K W : Type 0} (IsLayer : K → Placed → Type 0) (IsWave : W → Wave → (ℕ → Bool) → Type 0) (n : ℕ) (first : ℕ → ℕ) (h : Held S K W) (c : Core S) (r : ℕ) (t : Turned S) (k d : Running S) (net : Network K W)
    → r < n → Regular n c → saves (c.protocol.layer r) t.did ≡ false → IsRunning k (one_turned (c.one r) t) → k.ops ≡ (if is_operation t.did then suc (get_or h.ranks r d).ops else (get_or h.ranks r d).ops)
    → IsNetwork IsLayer IsWave n net (core_turned n c r t).protocol (logs_of (core_turned n c r t)) → Holds IsLayer IsWave n first h c
    → Holds IsLayer IsWave n first (record h { ranks = slice_set h.ranks r k; network = net }) (core_turned n c r t)
holds_turned {S} IsLayer IsWave n first h c r t k d net b regular none is ops network was = record {
  ranks = are_by_set IsRunning n h.ranks c.one r k (one_turned (c.one r) t) b is was.ranks;
  ops = λ y d' b' e. count_set h.ranks r k (λ z. first z + (after.written z).ops) y d' (omega (arith, b, was.ranks.size))
      (λ g. let logs = quieter r (subst (λ z. (after.protocol.layer z).logging ≡ true) g e) in
      ops ∙ one_more (is_operation t.did) (get_or h.ranks r d).ops (first r) (c.written r).ops (was.ops r d b logs) ∙ ap (λ z. first r + z) (sym (ap (λ (w : Written S). w.ops) (set_at-same c.written r now) ∙ turn_ops n c r t b regular logs)))
      (λ g. was.ops y d' b' (quieter y e) ∙ ap (λ (w : Written S). first y + w.ops) (sym (set_at-other c.written r now y g)));
  killed = was.killed;
  network = network;
}
  where
    after : Core S
    after = core_turned n c r t

    now : Written S
    now = written_turn (after_stop c.protocol r) (after_save c.protocol r) (c.written r) t

    quieter : Quieter c.protocol after.protocol
    quieter x e = quieter_after n c.protocol r t.did none x (quieter_restored (is_back (c.one r)) (is_back (one_turned (c.one r) t)) (protocol_after n c.protocol r t.did) r x e)

-- A turn that saves.
saves_asked : (l : Layer) (did : Did) → saves l did ≡ true → l.asked ≡ true
saves_asked l Nothing e = absurd (false≢true e)
saves_asked l Local e = absurd (false≢true e)
saves_asked l (Sent to m) e = absurd (false≢true e)
saves_asked l Marked e = e

others_after : (n : ℕ) (p : Protocol) (r : ℕ) (did : Did) (y : ℕ) → (y ≡ r → ⊥) → ((protocol_after n p r did).layer y).logging ≡ true → (p.layer y).logging ≡ true
others_after n p r Nothing y ne e = e
others_after n p r Local y ne e = e
others_after n p r (Sent to m) y ne e = quieter_after n p r (Sent to m) refl y e
others_after n p r Marked y ne e = cond_both (p.layer r).asked (then_ready n (move_save p r) r) p (λ (q : Protocol). (q.layer y).logging ≡ true → (p.layer y).logging ≡ true)
    (λ _ g. subst (λ (l : Layer). l.logging ≡ true) (set_at-other p.layer r (layer_save (p.layer r)) y ne) (quieter_ready n (move_save p r) r y g)) (λ _ g. g) e

pub holds_saved : {S K W : Type 0} (IsLayer : K → Placed → Type 0) (IsWave : W → Wave → (ℕ → Bool) → Type 0) (n : ℕ) (first : ℕ → ℕ) (h : Held S K W) (c : Core S) (r : ℕ) (t : Turned S) (k : Running S) (net : Network K W)
    → r < n → Regular n c → saves (c.protocol.layer r) t.did ≡ true → IsRunning k (one_turned (c.one r) t)
    → IsNetwork IsLayer IsWave n net (core_turned n c r t).protocol (logs_of (core_turned n c r t)) → Holds IsLayer IsWave n first h c
    → Holds IsLayer IsWave n (set_at first r k.ops) (record h { ranks = slice_set h.ranks r k; network = net }) (core_turned n c r t)
holds_saved {S} IsLayer IsWave n first h c r t k net b regular some is network was = record {
  ranks = are_by_set IsRunning n h.ranks c.one r k (one_turned (c.one r) t) b is was.ranks;
  ops = λ y d' b' e. count_set h.ranks r k (λ z. set_at first r k.ops z + (after.written z).ops) y d' (omega (arith, b, was.ranks.size))
      (λ _. omega (arith, set_at-same first r k.ops, ap (λ (w : Written S). w.ops) (set_at-same c.written r now), (save_log n c r t b regular (saves_asked (c.protocol.layer r) t.did some)).1))
      (λ g. was.ops y d' b' (others_after n c.protocol r t.did y g (quieter_restored (is_back (c.one r)) (is_back (one_turned (c.one r) t)) (protocol_after n c.protocol r t.did) r y e))
      ∙ ap (λ z. z + (c.written y).ops) (sym (set_at-other first r k.ops y g)) ∙ ap (λ (w : Written S). set_at first r k.ops y + w.ops) (sym (set_at-other c.written r now y g)));
  killed = was.killed;
  network = network;
}
  where
    after : Core S
    after = core_turned n c r t

    now : Written S
    now = written_turn (after_stop c.protocol r) (after_save c.protocol r) (c.written r) t

-- and a rank that logs already isn't the one
pub saved_first : {S : Type 0} (n : ℕ) (first : ℕ → ℕ) (c : Core S) (r o : ℕ) (did : Did) → r < n → Regular n c → saves (c.protocol.layer r) did ≡ true → (y : ℕ) → y < n → (c.protocol.layer y).logging ≡ true → set_at first r o y ≡ first y
saved_first n first c r o did b regular some y b' logs = set_at-other first r o y (λ e. absurd (false≢true (sym (regular.asked r b (saves_asked (c.protocol.layer r) did some)).1 ∙ (regular.logs r b (subst (λ z. (c.protocol.layer z).logging ≡ true) e logs)).1)))

-- The beginning of a wave.
pub holds_began : {S K W : Type 0} (IsLayer : K → Placed → Type 0) (IsWave : W → Wave → (ℕ → Bool) → Type 0) (n : ℕ) (first : ℕ → ℕ) (h : Held S K W) (c : Core S) (net : Network K W)
    → Regular n c → c.protocol.wave.under_way ≡ false → IsNetwork IsLayer IsWave n net (core_began c).protocol (logs_of (core_began c)) → Holds IsLayer IsWave n first h c → Holds IsLayer IsWave n first (record h { network = net }) (core_began c)
holds_began IsLayer IsWave n first h c net regular none network was = record {
  ranks = was.ranks;
  ops = λ r d b e. absurd (false≢true (sym (idle_log n c r b regular none) ∙ e));
  killed = was.killed;
  network = network;
}

-- A kill.
pub holds_killed : {S K W : Type 0} (IsLayer : K → Placed → Type 0) (IsWave : W → Wave → (ℕ → Bool) → Type 0) (n : ℕ) (first : ℕ → ℕ) (h : Held S K W) (c : Core S) (r : ℕ) → r < n → Holds IsLayer IsWave n first h c
    → Holds IsLayer IsWave n first (record h { killed = slice_set h.killed r true }) (record c { killed = set_at c.killed r true })
holds_killed IsLayer IsWave n first h c r b was = record { ranks = was.ranks; ops = was.ops; killed = are_by_set (λ x y. x ≡ y) n h.killed c.killed r true true b refl was.killed; network = was.network }
