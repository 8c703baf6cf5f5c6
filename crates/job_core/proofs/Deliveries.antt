-- What a core in code comes to at a delivery, from what its parts come to.
use Rattle.std.proofs.Common.{◌≡◌, ℕ, suc, ◌+◌, ◌<◌, ◌≤◌, Bool, true, false, not, List, [], ◌∷◌, map, slice_set, length, Option, Some, None, Result, Ok, Err, OnOk, get_or, ⊎_elim, sym, refl, ap, ◌∙◌, subst}
use Rattle.std.specs.Prelude.{◌&&◌, ◌==◌, nat_lt, if◌then◌else◌}
use Rattle.std.proofs.lemmas.Bool.{cond_both, cases_eq, lt-ltb, le-ltb}
use Rattle.std.proofs.lemmas.List.{get_or-map, get_or_default, get_or-set_same, get_or-set_other, map-set}
use Rattle.mpi_words.specs.declared.operation.End.{End}
use Rattle.mpi_words.specs.declared.message.Message.{Message}
use Rattle.image_text.specs.declared.state.RankState.{RankState}
use Rattle.late_logs.specs.declared.entry.Entry.{Entry}
use Rattle.late_logs.specs.declared.entry.Entry.TheVariants.{Late, Intra}
use Rattle.core_laws.specs.Rows.{set_at}
use Rattle.core_laws.specs.Ties.{AreBy}
use Rattle.core_laws.specs.Protocol.{Class, Packet, Layer, Protocol, class_of, layer_arrive, layer_ready, move_arrive, move_ready, move_tell_restored}
use Rattle.core_laws.specs.Process.{Rank, Ranks, arrive}
use Rattle.core_laws.specs.Written.{Written}
use Rattle.core_laws.specs.Handling.{ready_due, stops_on, stops_at, then_ready, then_stop}
use Rattle.core_laws.specs.Quiet.{Deliver}
use Rattle.core_laws.specs.Replay.{Replaying, absorb}
use Rattle.core_laws.specs.Core as definition
use Rattle.core_laws.specs.Core.{accepts, is_back, restores, landed, then_restored, core_arrived, core_delivers}
use Rattle.core_laws.specs.CoreEvents.{Single, next_of}
use Rattle.core_laws.specs.CoreTies.{EachIs, Running, IsRunning, Holds, IsNetwork, Regular, logs_of}
use Rattle.core_laws.specs.Effects.{arrival_effects, log_effects}
use Rattle.core_laws.proofs.Changes.{at_set}
use Rattle.core_laws.proofs.CoreTied.{are_by_set, network_logs, arrival_logs}
use Rattle.core_laws.proofs.CoreHeld.{Quieter, holds_arrived}
use Rattle.core_laws.proofs.PromptKept.{arrive_logging}
use Rattle.epoch_protocol.specs.Layers.{log_of}
use Rattle.job_network.specs.declared.network.Network.{Network}
use Rattle.job_network.specs.declared.member.Member.{Member}
use Rattle.job_network.specs.Members.{IsMember, running_of}
use Rattle.job_network.specs.Networks.{IsLed, IsPlaced, IsNet, network_of, log_at, logs_with}
use Rattle.job_core.specs.declared.job.Core.{Core}
use Rattle.job_core.specs.declared.effect.Effect.{Effect}
use Rattle.job_core.specs.Effects.{IsEffect, logged_by}
use Rattle.job_core.specs.Cores.{held_of, IsCore, Comes, HasMet, Stay, awaits}
use Rattle.job_core.proofs.Events.{quiet, first_of, below}

-- No rank begins to log at an arrival once it may have stopped.
pub quieter_set : (p q : Protocol) (r : ℕ) (l : Layer) → q.layer ≡ set_at p.layer r l → (l.logging ≡ true → (p.layer r).logging ≡ true) → Quieter p q
quieter_set p q r l is here x e = at_set (λ (z : Layer). z.logging ≡ true → (p.layer x).logging ≡ true) p.layer r l x (λ g d. subst (λ y. (p.layer y).logging ≡ true) (sym g) (here d)) (λ _ d. d) (subst (λ (f : ℕ → Layer). (f x).logging ≡ true) is e)

pub quieter_ready : (n : ℕ) (p : Protocol) (r : ℕ) → Quieter p (then_ready n p r)
quieter_ready n p r = cond_both (ready_due n (p.layer r)) (move_ready p r) p (Quieter p) (λ _. quieter_set p (move_ready p r) r (layer_ready (p.layer r)) refl (λ d. d)) (λ _ x e. e)

pub quieter_restored : (was now : Bool) (p : Protocol) (r : ℕ) → Quieter p (then_restored was now p r)
quieter_restored was now p r = cond_both (not was && now) (move_tell_restored p r) p (Quieter p) (λ _ x e. e) (λ _ x e. e)

pub quieter_landed : (n : ℕ) (q : Protocol) (s r epoch : ℕ) (rest : List Packet) (was now : Bool) → Quieter q (then_restored was now (then_ready n (move_arrive q s r epoch rest) r) r)
quieter_landed n q s r epoch rest was now y e = quieter_set q (move_arrive q s r epoch rest) r (layer_arrive (q.layer r) s cl) refl (λ d. sym (arrive_logging (q.layer r) s cl) ∙ d) y
    (quieter_ready n (move_arrive q s r epoch rest) r y (quieter_restored was now (then_ready n (move_arrive q s r epoch rest) r) r y e))
  where
    cl : Class
    cl = class_of (q.layer r).epoch epoch

-- A message that lands changes neither the machine nor the output.
absorb_machine : {S : Type 0} (left : ℕ) (k : Rank S) (log : List Entry) → (absorb left k log).rank.machine ≡ k.machine
absorb_machine left k [] = refl
absorb_machine left k (Late s m ∷ log) = absorb_machine left (arrive k s m) log
absorb_machine left k (Intra s ∷ log) = refl

absorb_output : {S : Type 0} (left : ℕ) (k : Rank S) (log : List Entry) → (absorb left k log).rank.output ≡ k.output
absorb_output left k [] = refl
absorb_output left k (Late s m ∷ log) = absorb_output left (arrive k s m) log
absorb_output left k (Intra s ∷ log) = refl

landed_machine : {S : Type 0} (v : Replaying S) (log : List Entry) (s : ℕ) (m : Message) → (landed v log s m).rank.machine ≡ v.rank.machine
landed_machine v [] s m = refl
landed_machine v (e ∷ log) s m = absorb_machine v.left (arrive v.rank s m) log

landed_output : {S : Type 0} (v : Replaying S) (log : List Entry) (s : ℕ) (m : Message) → (landed v log s m).rank.output ≡ v.rank.output
landed_output v [] s m = refl
landed_output v (e ∷ log) s m = absorb_output v.left (arrive v.rank s m) log

pub member_landed : {S : Type 0} (ended : S → Option End) (bytes among : S → ℕ) (n : ℕ) (was now : Member S) (v : Replaying S) (s : ℕ) (m : Message) → IsMember ended bytes among n was v → IsRunning (running_of now) (landed v v.log s m) → now.end ≡ was.end
    → IsMember ended bytes among n now (landed v v.log s m)
member_landed {S} ended bytes among n was now v s m h running end = record {
  running = running;
  end = end ∙ h.end ∙ ap ended (sym same);
  out = ap bytes same ∙ h.out ∙ h.running.bytes ∙ ap length (sym (landed_output v v.log s m)) ∙ sym running.bytes;
  ranks = ap among same ∙ h.ranks;
}
  where
    same : now.machine ≡ was.machine
    same = running.machine ∙ landed_machine v v.log s m ∙ sym h.running.machine

pub met_stays : {S : Type 0} (ended : S → Option End) (bytes among : S → ℕ) (n s r : ℕ) (m : Message) (one : ℕ → Replaying S) (p : Protocol) (logs : ℕ → List Entry) (old new : Core S) → r < n → AreBy (IsMember ended bytes among n) n old.members.items one → HasMet ended bytes among n s r m one p logs old new
    → Stay n old.members.items new.members.items
met_stays {S} ended bytes among n s r m one p logs old new b members h x d i = subst (λ z. Stays_at old.members.items z x d) (sym h.members) (⊎_elim here other (cases_eq x r))
  where
    Stays_at : List (Member S) → List (Member S) → ℕ → Member S → Type 0
    Stays_at was now x d = ((get_or now x d).ops ≡ (get_or was x d).ops) × ((get_or now x d).machine ≡ (get_or was x d).machine)

    inside : r < length old.members.items
    inside = subst (λ z. r < z) (sym members.size) b

    was : IsMember ended bytes among n (get_or old.members.items r d) (one r)
    was = members.each r d b

    machine : h.member.machine ≡ (get_or old.members.items r d).machine
    machine = h.is.running.machine ∙ landed_machine (one r) (one r).log s m ∙ sym was.running.machine

    here : x ≡ r → Stays_at old.members.items (slice_set old.members.items r h.member) x d
    here e = subst (λ z. Stays_at old.members.items (slice_set old.members.items r h.member) z d) (sym e)
        (subst (λ (z : Member S). (z.ops ≡ (get_or old.members.items r d).ops) × (z.machine ≡ (get_or old.members.items r d).machine)) (sym (get_or-set_same old.members.items r h.member d inside))
        (h.ops ∙ ap (λ (z : Member S). z.ops) (get_or_default old.members.items r h.member d inside), machine))

    other : (x ≡ r → ⊥) → Stays_at old.members.items (slice_set old.members.items r h.member) x d
    other e = subst (λ (z : Member S). (z.ops ≡ (get_or old.members.items x d).ops) × (z.machine ≡ (get_or old.members.items x d).machine)) (sym (get_or-set_other old.members.items r x h.member d e)) (refl, refl)

pub on_any : {A E : Type 0} (r : Result A E) (Q : Type 0) → Q → OnOk r Q
on_any (Ok x) Q h = h
on_any (Err e) Q h = tt

-- where no message is delivered, and where there is none
pub comes_not_delivered : {S : Type 0} (ended : S → Option End) (bytes among : S → ℕ) (saved : S → RankState) (P : Ranks S) (n : ℕ) (first : ℕ → ℕ) (c : definition.Core S) (k : Core S) (s r : ℕ) → (nat_lt s n && awaits n c s r) ≡ false → IsCore ended bytes among n first k c
    → Comes ended bytes among saved P n first c (Single (Deliver s r)) k []
comes_not_delivered ended bytes among saved P n first c k s r none h = quiet ended bytes among saved P n first c c (Single (Deliver s r)) k
    (ap (λ z. if z then core_delivers n c s r (c.protocol.channel s r) else c) none) (ap (λ z. if z then arrival_effects c r (c.protocol.channel s r) else []) none) h.ranks h.members h.holds

pub past : {S : Type 0} (n : ℕ) (c : definition.Core S) (s r : ℕ) → n ≤ s → (nat_lt s n && awaits n c s r) ≡ false
past n c s r d = ap (λ z. z && awaits n c s r) (le-ltb s n d)

pub unmet : {S : Type 0} (n : ℕ) (c : definition.Core S) (s r : ℕ) → awaits n c s r ≡ false → (nat_lt s n && awaits n c s r) ≡ false
unmet n c s r e = ap (λ z. nat_lt s n && z) e ∙ no_both (nat_lt s n)
  where
    no_both : (a : Bool) → (a && false) ≡ false
    no_both true = refl
    no_both false = refl

met : {S : Type 0} (n : ℕ) (c : definition.Core S) (s r : ℕ) → s < n → awaits n c s r ≡ true → (nat_lt s n && awaits n c s r) ≡ true
met n c s r b e = ap (λ z. z && awaits n c s r) (lt-ltb s n b) ∙ e

pub comes_empty : {S : Type 0} (ended : S → Option End) (bytes among : S → ℕ) (saved : S → RankState) (P : Ranks S) (n : ℕ) (first : ℕ → ℕ) (c : definition.Core S) (k : Core S) (s r : ℕ) (net : Network) → s < n → awaits n c s r ≡ true → c.protocol.channel s r ≡ []
    → IsNet n net c.protocol (logs_of c) → IsCore ended bytes among n first k c → Comes ended bytes among saved P n first c (Single (Deliver s r)) (record k { network = net }) []
comes_empty ended bytes among saved P n first c k s r net b e none now h = quiet ended bytes among saved P n first c c (Single (Deliver s r)) (record k { network = net })
    (ap (λ z. if z then core_delivers n c s r (c.protocol.channel s r) else c) (met n c s r b e) ∙ ap (core_delivers n c s r) none)
    (ap (λ z. if z then arrival_effects c r (c.protocol.channel s r) else []) (met n c s r b e) ∙ ap (arrival_effects c r) none)
    now.ranks h.members (record { ranks = h.holds.ranks; ops = h.holds.ops; killed = h.holds.killed; network = now.stands })

-- A message arrives.
arrival_written : {S : Type 0} (saved : S → RankState) (line : ℕ → ℕ) (n r ops epoch : ℕ) (first : ℕ → ℕ) (w : Written S) (stops : Bool) → (stops ≡ true → ops ≡ first r + w.ops)
    → EachIs (IsEffect {S = S} saved n line first) (logged_by r (if stops then Some (log_of n r epoch ops w.log) else None)) (log_effects r w stops)
arrival_written saved line n r ops epoch first w true e = ((refl, record { ranks = refl; rank = refl; stop = e refl; entries_are = refl }), tt)
arrival_written saved line n r ops epoch first w false e = tt

pub comes_met : {S : Type 0} (ended : S → Option End) (bytes among : S → ℕ) (saved : S → RankState) (P : Ranks S) (n : ℕ) (first : ℕ → ℕ) (c : definition.Core S) (k old new : Core S) (s r ops : ℕ) (x : Packet) (rest : List Packet) (net : Network) (effects : List Effect)
    → Regular n c → k ≡ record old { network = net } → IsCore ended bytes among n first k c → s < n → r < n → awaits n c s r ≡ true → ((c.protocol.layer r).logging ≡ true → ops ≡ first r + (c.written r).ops) → c.protocol.channel s r ≡ x ∷ rest
    → effects ≡ logged_by r (log_at n r ops c.protocol (logs_of c) x.1)
    → HasMet ended bytes among n s r x.0 c.one (then_ready n (move_arrive (then_stop c.protocol r x) s r x.1.epoch rest) r) (logs_with c.protocol (logs_of c) s r x.1 x.0) old new
    → Comes ended bytes among saved P n first c (Single (Deliver s r)) new effects
comes_met {S} ended bytes among saved P n first c k old new s r ops x rest net effects regular from h a b takes counted channel written m = record {
  ranks = m.net.ranks;
  does = record {
    now = first;
    same = λ y i logs. refl;
    comes = record {
      core = subst (Holds (IsPlaced n) (IsLed n) n first (held_of new)) (sym is) holds;
      effects = subst (EachIs (IsEffect saved n line first) effects) (sym (ap (λ z. if z then arrival_effects c r (c.protocol.channel s r) else []) (met n c s r a takes) ∙ ap (arrival_effects c r) channel))
          (subst (λ z. EachIs (IsEffect saved n line first) z (log_effects r (c.written r) (stops_at (c.protocol.layer r) x))) (sym written)
          (arrival_written saved line n r ops (c.protocol.layer r).epoch first (c.written r) (stops_on (c.protocol.layer r) x.1) (λ e. counted (first_of (c.protocol.layer r).logging ((x.1.epoch == (c.protocol.layer r).epoch) && not x.1.logging) e))));
    };
  };
  members = subst (λ (z : definition.Core S). AreBy (IsMember ended bytes among n) n new.members.items z.one) (sym is)
      (subst (λ z. AreBy (IsMember ended bytes among n) n z after.one) (sym m.members) (are_by_set (IsMember ended bytes among n) n old.members.items c.one r m.member v b m.is members));
}
  where
    line : ℕ → ℕ
    line y = suc (c.protocol.layer y).epoch

    v : Replaying S
    v = landed (c.one r) (c.one r).log s x.0

    after : definition.Core S
    after = core_arrived n c s r v x rest

    is : next_of P n c (Single (Deliver s r)) ≡ after
    is = ap (λ z. if z then core_delivers n c s r (c.protocol.channel s r) else c) (met n c s r a takes) ∙ ap (core_delivers n c s r) channel

    members : AreBy (IsMember ended bytes among n) n old.members.items c.one
    members = subst (λ (z : Core S). AreBy (IsMember ended bytes among n) n z.members.items c.one) from h.members

    before : Holds (IsPlaced n) (IsLed n) n first (held_of (record old { network = net })) c
    before = subst (λ z. Holds (IsPlaced n) (IsLed n) n first (held_of z) c) from h.holds

    network : IsNetwork (IsPlaced n) (IsLed n) n (network_of new.network) after.protocol (logs_of after)
    network = network_logs (IsPlaced n) (IsLed n) n (network_of new.network) after.protocol (logs_with c.protocol (logs_of c) s r x.1 x.0) (logs_of after)
        (λ y i logging. arrival_logs n c s r v x rest b regular y (quieter_landed n (then_stop c.protocol r x) s r x.1.epoch rest (is_back (c.one r)) (is_back v) y logging)) m.net.stands

    same_ops : m.member.ops ≡ (get_or (map running_of old.members.items) r (running_of m.member)).ops
    same_ops = m.ops ∙ sym (ap (λ (z : Running S). z.ops) (get_or-map running_of old.members.items r m.member (running_of m.member) (subst (λ z. r < z) (sym members.size) b)))

    put : Holds (IsPlaced n) (IsLed n) n first (record { ranks = slice_set (map running_of old.members.items) r (running_of m.member); killed = old.killed.items; network = network_of new.network }) after
    put = holds_arrived (IsPlaced n) (IsLed n) n first (held_of (record old { network = net })) c s r v x rest (running_of m.member) (running_of m.member) (network_of new.network) b m.is.running same_ops network before

    holds : Holds (IsPlaced n) (IsLed n) n first (held_of new) after
    holds = subst (λ z. Holds (IsPlaced n) (IsLed n) n first (record { ranks = z; killed = new.killed.items; network = network_of new.network }) after) (sym (ap (map running_of) m.members ∙ map-set running_of old.members.items r m.member))
        (subst (λ z. Holds (IsPlaced n) (IsLed n) n first (record { ranks = slice_set (map running_of old.members.items) r (running_of m.member); killed = z; network = network_of new.network }) after) (sym (ap (λ z. z.items) m.killed)) put)

-- whether a member restores no more
pub back_is : {S : Type 0} (k : Running S) (v : Replaying S) (b : Bool) → b ≡ not (restores k.log k.left) → IsRunning k v → b ≡ is_back v
back_is k v b e h = e ∙ ap (λ z. not (restores z k.left)) h.log ∙ ap (λ z. not (restores v.log z)) h.left

pub told_back : (n : ℕ) (k : Network) (p : Protocol) (logs : ℕ → List Entry) (r : ℕ) (was now a b : Bool) → was ≡ a → now ≡ b → IsNet n k (then_restored was now p r) logs → IsNet n k (then_restored a b p r) logs
told_back n k p logs r was now a b e f h = subst (λ z. IsNet n k (then_restored z b p r) logs) e (subst (λ z. IsNet n k (then_restored was z p r) logs) f h)

-- the member at a rank's place, whatever is asked for beyond the last
pub member_at : {S : Type 0} (items : List (Member S)) (at r : ℕ) (now other : Member S) → at ≡ r → now ≡ get_or items at now → r < length items → now ≡ get_or items r other
member_at items at r now other same is b = is ∙ ap (λ z. get_or items z now) same ∙ get_or_default items r now other b

pub awaits_below : {S : Type 0} (n : ℕ) (c : definition.Core S) (s r : ℕ) → awaits n c s r ≡ true → r < n
awaits_below n c s r e = below r n (first_of (nat_lt r n) (not (c.killed r) && accepts (c.one r).log (c.one r).left s) e)
