-- What a core in code comes to at a turn, from what its parts come to.
use Rattle.std.proofs.Common.{◌≡◌, ℕ, suc, ◌+◌, ◌^◌, ◌<◌, ◌≤◌, Bool, true, false, not, List, [], ◌∷◌, ◌++◌, map, slice_set, length, drop, Option, Result, Ok, Err, IfOk, OnOk, get_or, ⊎_elim, sym, refl, ap, ◌∙◌, subst, arith}
use Rattle.std.specs.Prelude.{◌&&◌, nat_lt, if◌then◌else◌}
use Rattle.std.proofs.lemmas.Bool.{cond_both, cases_Bool, cases_eq, false≢true}
use Rattle.std.proofs.lemmas.List.{get_or-map, get_or-set_same, get_or-set_other, map-set, drop_at}
use Rattle.mpi_words.specs.declared.operation.End.{End}
use Rattle.mpi_words.specs.declared.operation.Reply.{Reply}
use Rattle.mpi_words.specs.declared.message.Message.{Message}
use Rattle.image_text.specs.declared.state.RankState.{RankState}
use Rattle.late_logs.specs.declared.entry.Entry.{Entry}
use Rattle.core_laws.specs.Rows.{set_at}
use Rattle.core_laws.specs.Ties.{AreBy}
use Rattle.core_laws.specs.Protocol.{Layer, Protocol, move_save, move_send, move_skip}
use Rattle.core_laws.specs.Process.{Did, Nothing, Sent, Local, Marked, Rank, Ranks, Turned, Want, is_operation}
use Rattle.core_laws.specs.Pausing.{Asks, Stepped, Stepping, stepping, step_turn}
use Rattle.core_laws.specs.Handling.{protocol_after, then_ready}
use Rattle.core_laws.specs.Quiet.{Turn}
use Rattle.core_laws.specs.Replay.{Replaying, may_turn}
use Rattle.core_laws.specs.Core as definition
use Rattle.core_laws.specs.Core.{core_turned, is_back, one_turned, then_restored}
use Rattle.core_laws.specs.CoreEvents.{Single, next_of}
use Rattle.core_laws.specs.CoreTies.{Does, EachIs, Running, Holds, IsNetwork, Regular, logs_of}
use Rattle.core_laws.specs.Effects.{turn_effects, writes, step_effects_of, Saves}
use Rattle.core_laws.proofs.Changes.{set_at-same}
use Rattle.core_laws.proofs.CoreTied.{are_by_set, network_logs, turn_logs}
use Rattle.core_laws.proofs.CoreHeld.{holds_turned, holds_saved, saved_first, saves}
use Rattle.core_laws.proofs.Regularity.{regular_pausing}
use Rattle.job_network.specs.declared.member.Did.{Did as Done}
use Rattle.job_network.specs.declared.member.Did.TheVariants as done
use Rattle.job_network.specs.declared.member.Member.{Member}
use Rattle.job_network.specs.declared.network.Network.{Network}
use Rattle.job_network.specs.Members.{IsMember, MakesTurn, GoesTo, did_of, running_of, stepping_of}
use Rattle.job_network.specs.Networks.{IsLed, IsPlaced, IsNet, network_of}
use Rattle.job_network.specs.Sound.{Sound}
use Rattle.job_network.proofs.Counts.{counted_more, counted_save, counted_then_ready, counted_then_send, room_to_save, room_to_send}
use Rattle.job_core.specs.declared.job.Core.{Core}
use Rattle.job_core.specs.declared.effect.Effect.{Effect}
use Rattle.job_core.specs.declared.effect.Effect.TheVariants.{Save}
use Rattle.image_text.specs.declared.image.Image.{Image}
use Rattle.job_core.specs.Effects.{IsEffect, IsImage}
use Rattle.job_core.specs.Cores.{held_of, IsCore, IsWithin, Comes, StandsSo}
use Rattle.job_core.specs.Turns.{AreWritten, HasFollowed, HasTurned, RoomToTurn, SendsBelow, has_turn, output_of}
use Rattle.job_core.proofs.Deliveries.{member_at}
use Rattle.job_core.proofs.Events.{quiet, first_of, below}
use Rattle.job_core.proofs.Standing.{Bounded, Last, bounded_restored, last_ready, stands_by, within_more}

-- What follows from what a rank did.
quietly : {S : Type 0} (saved : S → RankState) (n r ops : ℕ) (p : Protocol) (logs : ℕ → List Entry) (before : List ℕ) (k : Rank S) (did : Did) (net : Network) → protocol_after n p r did ≡ p → turn_effects (p.layer r) r before k did ≡ [] → IsNet n net p logs
    → HasFollowed saved n r p logs before k did ops net []
quietly {S} saved n r ops p logs before k did net same none h = record {
  net = subst (λ q. IsNet n net q logs) (sym same) h;
  written = λ line first _ _. subst (EachIs (IsEffect saved n line first) []) (sym none) tt;
}

written_none : {S : Type 0} (r : ℕ) (before output : List ℕ) → before ++ [] ≡ output → writes {S = S} r (drop (length before) output) ≡ []
written_none {S} r before output is = ap (λ l. writes {S = S} r l) (ap (drop (length before)) (sym is) ∙ drop_at before [] (length before) refl)

pub followed_nothing : {S : Type 0} (ended : S → Option End) (bytes among : S → ℕ) (saved : S → RankState) (n r ops : ℕ) (p : Protocol) (logs : ℕ → List Entry) (m : Member S) (v : Replaying S) (t : Turned S) (net : Network) → MakesTurn ended bytes among n ops m done.Nothing v t → IsNet n net p logs
    → HasFollowed saved n r p logs v.rank.output t.rank t.did m.ops net []
followed_nothing ended bytes among saved n r ops p logs m v t net h now = subst (λ d. HasFollowed saved n r p logs v.rank.output t.rank d m.ops net []) h.did (quietly saved n r m.ops p logs v.rank.output t.rank Nothing net refl refl now)

pub followed_took : {S : Type 0} (ended : S → Option End) (bytes among : S → ℕ) (saved : S → RankState) (n r ops : ℕ) (p : Protocol) (logs : ℕ → List Entry) (m : Member S) (v : Replaying S) (t : Turned S) (net : Network) → MakesTurn ended bytes among n ops m done.Took v t → IsNet n net p logs
    → HasFollowed saved n r p logs v.rank.output t.rank t.did m.ops net []
followed_took ended bytes among saved n r ops p logs m v t net h now = subst (λ d. HasFollowed saved n r p logs v.rank.output t.rank d m.ops net []) h.did
    (quietly saved n r m.ops p logs v.rank.output t.rank Local net refl (written_none r v.rank.output t.rank.output h.printed) now)

pub followed_sent : {S : Type 0} (ended : S → Option End) (bytes among : S → ℕ) (saved : S → RankState) (n r ops to : ℕ) (message : Message) (p : Protocol) (logs : ℕ → List Entry) (m : Member S) (v : Replaying S) (t : Turned S) (net : Network) → MakesTurn ended bytes among n ops m (done.Sent to message) v t
    → IsNet n net (protocol_after n p r (Sent to message)) logs → HasFollowed saved n r p logs v.rank.output t.rank t.did m.ops net []
followed_sent ended bytes among saved n r ops to message p logs m v t net h now = subst (λ d. HasFollowed saved n r p logs v.rank.output t.rank d m.ops net []) h.did (record { net = now; written = λ line first _ _. tt })

output_written : {S : Type 0} (saved : S → RankState) (n r : ℕ) (line first : ℕ → ℕ) (bytes : List ℕ) → EachIs (IsEffect {S = S} saved n line first) (output_of r bytes) (writes r bytes)
output_written saved n r line first [] = tt
output_written saved n r line first (b ∷ bytes) = ((refl, refl), tt)

pub followed_printed : {S : Type 0} (ended : S → Option End) (bytes among : S → ℕ) (saved : S → RankState) (n r ops : ℕ) (text : List ℕ) (p : Protocol) (logs : ℕ → List Entry) (m : Member S) (v : Replaying S) (t : Turned S) (net : Network) (effects : List Effect) → MakesTurn ended bytes among n ops m (done.Printed text) v t
    → IsNet n net p logs → effects ≡ output_of r text → HasFollowed saved n r p logs v.rank.output t.rank t.did m.ops net effects
followed_printed {S} ended bytes among saved n r ops text p logs m v t net effects h now is = subst (λ d. HasFollowed saved n r p logs v.rank.output t.rank d m.ops net effects) h.did (record {
  net = now;
  written = λ line first _ _. subst (λ l. EachIs (IsEffect {S = S} saved n line first) l (writes r (drop (length v.rank.output) t.rank.output))) (sym is)
      (subst (λ l. EachIs (IsEffect {S = S} saved n line first) (output_of r text) (writes r l)) (sym (ap (drop (length v.rank.output)) (sym h.printed) ∙ drop_at v.rank.output text (length v.rank.output) refl)) (output_written saved n r line first text));
})

pub followed_marked : {S : Type 0} (ended : S → Option End) (bytes among : S → ℕ) (saved : S → RankState) (n r ops : ℕ) (p : Protocol) (logs : ℕ → List Entry) (m : Member S) (v : Replaying S) (t : Turned S) (net : Network) (effects : List Effect) → MakesTurn ended bytes among n ops m done.Marked v t
    → HasFollowed saved n r p logs v.rank.output t.rank Marked m.ops net effects → HasFollowed saved n r p logs v.rank.output t.rank t.did m.ops net effects
followed_marked ended bytes among saved n r ops p logs m v t net effects h now = subst (λ d. HasFollowed saved n r p logs v.rank.output t.rank d m.ops net effects) h.did now

-- At a mark.
pub marked_only : {S : Type 0} (saved : S → RankState) (n r ops : ℕ) (p : Protocol) (logs : ℕ → List Entry) (before : List ℕ) (k : Rank S) (net : Network) → (p.layer r).asked ≡ false → IsNet n net p logs → HasFollowed saved n r p logs before k Marked ops net []
marked_only saved n r ops p logs before k net asked h = quietly saved n r ops p logs before k Marked net (ap (λ z. if z then then_ready n (move_save p r) r else p) asked) (ap (λ z. if z then Saves r k (p.layer r).early ∷ [] else []) asked) h

pub marked_saved : {S : Type 0} (saved : S → RankState) (n r ops : ℕ) (p : Protocol) (logs : ℕ → List Entry) (before : List ℕ) (k : Rank S) (net : Network) (effects : List Effect) → (p.layer r).asked ≡ true → IsNet n net (then_ready n (move_save p r) r) logs
    → ((line first : ℕ → ℕ) → line r ≡ suc (p.layer r).epoch → first r ≡ ops → EachIs (IsEffect saved n line first) effects (Saves r k (p.layer r).early ∷ [])) → HasFollowed saved n r p logs before k Marked ops net effects
marked_saved {S} saved n r ops p logs before k net effects asked h written = record {
  net = subst (λ q. IsNet n net q logs) (sym (ap (λ z. if z then then_ready n (move_save p r) r else p) asked)) h;
  written = λ line first at made. subst (EachIs (IsEffect {S = S} saved n line first) effects) (sym (ap (λ z. if z then Saves r k (p.layer r).early ∷ [] else []) asked)) (written line first at (made refl asked));
}

pub save_written : {S : Type 0} (saved : S → RankState) (n r ops at : ℕ) (line first : ℕ → ℕ) (k : Rank S) (early : ℕ → ℕ) (image : Image) (effects : List Effect) → line r ≡ at → first r ≡ ops → IsImage saved n r at ops image k early → effects ≡ Save r image ∷ []
    → EachIs (IsEffect saved n line first) effects (Saves r k early ∷ [])
save_written saved n r ops at line first k early image effects same counted is made = subst (λ l. EachIs (IsEffect saved n line first) l (Saves r k early ∷ [])) (sym made)
    ((refl, subst (λ z. IsImage saved n r z (first r) image k early) (sym same) (subst (λ z. IsImage saved n r at z image k early) (sym counted) is)), tt)

-- The room that a sound protocol has for a turn.
pub room_to_turn : (n events r : ℕ) (p : Protocol) (logs : ℕ → List Entry) → events < 200000 → r < n → Sound n events p → ((p.layer r).asked ≡ true → logs r ≡ []) → RoomToTurn r n p logs
room_to_turn n events r p logs few b h empty = record { inside = b; sends = λ to d. room_to_send n events r to p few b d h; saves = λ asked. record { line = room_to_save n events r p b asked h; empty = empty asked } }

pub goes_within : {S : Type 0} (ended : S → Option End) (bytes among : S → ℕ) (n ops : ℕ) (m : Member S) (made : Done) (v : Replaying S) (t : Turned S) → MakesTurn ended bytes among n ops m made v t → SendsBelow n t.did
goes_within ended bytes among n ops m made v t h = subst (SendsBelow n) h.did (go made h.goes)
  where
    go : (d : Done) → GoesTo n d → SendsBelow n (did_of d)
    go done.Nothing g = tt
    go (done.Sent to message) g = g
    go (done.Printed text) g = tt
    go done.Took g = tt
    go done.Marked g = tt

-- The member that was read at a rank's place, and what its turn leaves.
pub member_is : {S : Type 0} (ended : S → Option End) (bytes among : S → ℕ) (n : ℕ) (items : List (Member S)) (one : ℕ → Replaying S) (at r : ℕ) (now : Member S) → at ≡ r → now ≡ get_or items at now → r < n → AreBy (IsMember ended bytes among n) n items one → IsMember ended bytes among n now (one r)
member_is ended bytes among n items one at r now same is b h = subst (λ k. IsMember ended bytes among n k (one r)) (sym (is ∙ ap (λ z. get_or items z now) same)) (h.each r now b)

pub turned_is : {S : Type 0} (ended : S → Option End) (bytes among serial : S → ℕ) (saved : S → RankState) (n r : ℕ) (c : definition.Core S) (t : Turned S) (old new : Core S) (was now : Member S) (made : Done) (effects : List Effect) (at : ℕ) → at ≡ r → was ≡ get_or old.members.items at was → r < length old.members.items
    → new.members.items ≡ slice_set old.members.items at now → new.killed ≡ old.killed → MakesTurn ended bytes among n was.ops now made (c.one r) t → serial now.machine ≤ serial was.machine + 2 ^ 25 + 2 ^ 17
    → IsNet n new.network (then_restored (is_back (c.one r)) (is_back (one_turned (c.one r) t)) (protocol_after n c.protocol r t.did) r) (logs_of c) → AreWritten saved n r c.protocol (c.one r).rank.output t.rank t.did now.ops effects → HasTurned ended bytes among serial saved n r c t old new effects
turned_is {S} ended bytes among serial saved n r c t old new was now made effects at same is inside members killed makes serials net written = record {
  member = now;
  members = members ∙ ap (λ z. slice_set old.members.items z now) same;
  killed = killed;
  is = makes.member;
  goes = goes_within ended bytes among n was.ops now made (c.one r) t makes;
  ops = makes.ops ∙ ap (λ (z : Member S). if is_operation t.did then suc z.ops else z.ops) there;
  serials = subst (λ (z : Member S). serial now.machine ≤ serial z.machine + 2 ^ 25 + 2 ^ 17) there serials;
  net = net;
  written = written;
}
  where
    there : was ≡ get_or old.members.items r now
    there = member_at old.members.items at r was now same is inside

pub turn_below : {S : Type 0} (n : ℕ) (c : definition.Core S) (r : ℕ) → has_turn n c r ≡ true → r < n
turn_below n c r e = below r n (first_of (nat_lt r n) (not (c.killed r) && may_turn (c.one r).log (c.one r).left) e)

-- The core after a turn.
pub comes_waits : {S : Type 0} (ended : S → Option End) (bytes among : S → ℕ) (saved : S → RankState) (P : Ranks S) (n : ℕ) (first : ℕ → ℕ) (c : definition.Core S) (k : Core S) (r : ℕ) → has_turn n c r ≡ false → IsCore ended bytes among n first k c → Comes ended bytes among saved P n first c (Single (Turn r)) k []
comes_waits ended bytes among saved P n first c k r none h = quiet ended bytes among saved P n first c c (Single (Turn r)) k
    (ap (λ z. if z then core_turned n c r (P.turn_of (c.one r).rank) else c) none)
    (ap (λ z. if z then turn_effects (c.protocol.layer r) r (c.one r).rank.output (P.turn_of (c.one r).rank).rank (P.turn_of (c.one r).rank).did else []) none) h.ranks h.members h.holds

marks : (l : Layer) (did : Did) → did ≡ Marked → l.asked ≡ true → saves l did ≡ true
marks l did e asked = ap (saves l) e ∙ asked

pub comes_turned : {S : Type 0} (ended : S → Option End) (bytes among serial : S → ℕ) (saved : S → RankState) (P : Ranks S) (n : ℕ) (first : ℕ → ℕ) (c : definition.Core S) (old new : Core S) (r : ℕ) (effects : List Effect) → Regular n c → IsCore ended bytes among n first old c → r < n → has_turn n c r ≡ true
    → HasTurned ended bytes among serial saved n r c (P.turn_of (c.one r).rank) old new effects → Comes ended bytes among saved P n first c (Single (Turn r)) new effects
comes_turned {S} ended bytes among serial saved P n first c old new r effects regular h b some m = record {
  ranks = m.net.ranks;
  does = ⊎_elim saving still (cases_Bool (saves (c.protocol.layer r) t.did));
  members = subst (λ (z : definition.Core S). AreBy (IsMember ended bytes among n) n new.members.items z.one) (sym is)
      (subst (λ z. AreBy (IsMember ended bytes among n) n z after.one) (sym m.members) (are_by_set (IsMember ended bytes among n) n old.members.items c.one r m.member (one_turned (c.one r) t) b m.is h.members));
}
  where
    t : Turned S
    t = P.turn_of (c.one r).rank

    after : definition.Core S
    after = core_turned n c r t

    line : ℕ → ℕ
    line y = suc (c.protocol.layer y).epoch

    is : next_of P n c (Single (Turn r)) ≡ after
    is = ap (λ z. if z then core_turned n c r t else c) some

    writes_so : step_effects_of P n c (Turn r) ≡ turn_effects (c.protocol.layer r) r (c.one r).rank.output t.rank t.did
    writes_so = ap (λ z. if z then turn_effects (c.protocol.layer r) r (c.one r).rank.output t.rank t.did else []) some

    network : IsNetwork (IsPlaced n) (IsLed n) n (network_of new.network) after.protocol (logs_of after)
    network = network_logs (IsPlaced n) (IsLed n) n (network_of new.network) after.protocol (logs_of c) (logs_of after) (λ y _ _. turn_logs n c r t y) m.net.stands

    held : (now : ℕ → ℕ) → Holds (IsPlaced n) (IsLed n) n now (record { ranks = slice_set (map running_of old.members.items) r (running_of m.member); killed = old.killed.items; network = network_of new.network }) after → Holds (IsPlaced n) (IsLed n) n now (held_of new) (next_of P n c (Single (Turn r)))
    held now put = subst (Holds (IsPlaced n) (IsLed n) n now (held_of new)) (sym is)
        (subst (λ z. Holds (IsPlaced n) (IsLed n) n now (record { ranks = z; killed = new.killed.items; network = network_of new.network }) after) (sym (ap (map running_of) m.members ∙ map-set running_of old.members.items r m.member))
        (subst (λ z. Holds (IsPlaced n) (IsLed n) n now (record { ranks = slice_set (map running_of old.members.items) r (running_of m.member); killed = z; network = network_of new.network }) after) (sym (ap (λ z. z.items) m.killed)) put))

    written : (now : ℕ → ℕ) → (t.did ≡ Marked → (c.protocol.layer r).asked ≡ true → now r ≡ m.member.ops) → EachIs (IsEffect saved n line now) effects (step_effects_of P n c (Turn r))
    written now counts = subst (EachIs (IsEffect saved n line now) effects) (sym writes_so) (m.written line now refl counts)

    ops_are : m.member.ops ≡ (if is_operation t.did then suc (get_or (map running_of old.members.items) r (running_of m.member)).ops else (get_or (map running_of old.members.items) r (running_of m.member)).ops)
    ops_are = m.ops ∙ ap (λ z. if is_operation t.did then suc z else z) (sym (ap (λ (z : Running S). z.ops) (get_or-map running_of old.members.items r m.member (running_of m.member) (subst (λ z. r < z) (sym h.members.size) b))))

    saving : saves (c.protocol.layer r) t.did ≡ true → Does (IsPlaced n) (IsLed n) (IsEffect saved n line) P n first c (Single (Turn r)) (held_of new) effects
    saving e = record {
      now = set_at first r m.member.ops;
      same = λ y i logs. saved_first n first c r m.member.ops t.did b regular e y i logs;
      comes = record {
        core = held (set_at first r m.member.ops) (holds_saved (IsPlaced n) (IsLed n) n first (held_of old) c r t (running_of m.member) (network_of new.network) b regular e m.is.running network h.holds);
        effects = written (set_at first r m.member.ops) (λ _ _. set_at-same first r m.member.ops);
      };
    }

    still : saves (c.protocol.layer r) t.did ≡ false → Does (IsPlaced n) (IsLed n) (IsEffect saved n line) P n first c (Single (Turn r)) (held_of new) effects
    still e = record {
      now = first;
      same = λ y i logs. refl;
      comes = record {
        core = held first (holds_turned (IsPlaced n) (IsLed n) n first (held_of old) c r t (running_of m.member) (running_of m.member) (network_of new.network) b regular e m.is.running ops_are network h.holds);
        effects = written first (λ d asked. absurd (false≢true (sym e ∙ marks (c.protocol.layer r) t.did d asked)));
      };
    }

-- The bounds after a turn.
bounded_after : (n most r : ℕ) (p : Protocol) (did : Did) → r < n → SendsBelow n did → Bounded n most p → Bounded n (suc most) (protocol_after n p r did)
bounded_after n most r p Nothing b goes h = record { last = h.last; counted = counted_more n most (suc most) p (omega arith) h.counted }
bounded_after n most r p Local b goes h = record { last = h.last; counted = counted_more n most (suc most) p (omega arith) h.counted }
bounded_after n most r p (Sent to message) b goes h = record {
  last = cond_both (nat_lt 0 ((p.layer r).skip to)) (move_skip p r to) (move_send p r to message) Last (λ _. h.last) (λ _. h.last);
  counted = counted_then_send n most r to p message b goes h.counted;
}
bounded_after n most r p Marked b goes h = cond_both (p.layer r).asked (then_ready n (move_save p r) r) p (Bounded n (suc most))
    (λ _. record { last = last_ready n r (move_save p r) h.last; counted = counted_more n most (suc most) (then_ready n (move_save p r) r) (omega arith) (counted_then_ready n most r (move_save p r) (counted_save n most r p h.counted)) })
    (λ _. record { last = h.last; counted = counted_more n most (suc most) p (omega arith) h.counted })

within_turned : {S : Type 0} (serial : S → ℕ) (line events : ℕ) (was now : Member S) (operation : Bool) → now.ops ≡ (if operation then suc was.ops else was.ops) → serial now.machine ≤ serial was.machine + 2 ^ 25 + 2 ^ 17 → IsWithin serial line events was → IsWithin serial line (suc events) now
within_turned serial line events was now true ops serials h = record { ops = omega (arith, ops, h.ops); serials = omega (arith, serials, h.serials) }
within_turned serial line events was now false ops serials h = record { ops = omega (arith, ops, h.ops); serials = omega (arith, serials, h.serials) }

within_each : {S : Type 0} (ended : S → Option End) (bytes among serial : S → ℕ) (saved : S → RankState) (n r line events : ℕ) (c : definition.Core S) (t : Turned S) (old new : Core S) (effects : List Effect) → r < length old.members.items → HasTurned ended bytes among serial saved n r c t old new effects
    → ((x : ℕ) (d : Member S) → x < n → IsWithin serial line events (get_or old.members.items x d)) → (x : ℕ) (d : Member S) → x < n → IsWithin serial line (suc events) (get_or new.members.items x d)
within_each {S} ended bytes among serial saved n r line events c t old new effects inside m each x d i = subst (λ z. IsWithin serial line (suc events) (get_or z x d)) (sym m.members) (⊎_elim here other (cases_eq x r))
  where
    here : x ≡ r → IsWithin serial line (suc events) (get_or (slice_set old.members.items r m.member) x d)
    here e = subst (λ z. IsWithin serial line (suc events) (get_or (slice_set old.members.items r m.member) z d)) (sym e) (subst (IsWithin serial line (suc events)) (sym (get_or-set_same old.members.items r m.member d inside))
        (within_turned serial line events (get_or old.members.items r m.member) m.member (is_operation t.did) m.ops m.serials (each r m.member (subst (λ z. z < n) e i))))

    other : (x ≡ r → ⊥) → IsWithin serial line (suc events) (get_or (slice_set old.members.items r m.member) x d)
    other e = subst (IsWithin serial line (suc events)) (sym (get_or-set_other old.members.items r x m.member d e)) (within_more serial line line events (suc events) (get_or old.members.items x d) (omega arith) (omega arith) (each x d i))

bounded_turned : {S : Type 0} (P : Ranks S) (n most r : ℕ) (c : definition.Core S) → r < n → has_turn n c r ≡ true → SendsBelow n (P.turn_of (c.one r).rank).did → Bounded n most c.protocol → Bounded n (suc most) (next_of P n c (Single (Turn r))).protocol
bounded_turned {S} P n most r c b some goes h = subst (λ (z : definition.Core S). Bounded n (suc most) z.protocol) (sym (ap (λ z. if z then core_turned n c r t else c) some))
    (bounded_restored n (suc most) r (is_back (c.one r)) (is_back (one_turned (c.one r) t)) (protocol_after n c.protocol r t.did) (bounded_after n most r c.protocol t.did b goes h))
  where
    t : Turned S
    t = P.turn_of (c.one r).rank

pub stands_turned : {S : Type 0} (ended : S → Option End) (bytes among serial : S → ℕ) (saved : S → RankState) (turned : ℕ → S → Stepped S) (answered : S → Reply → S) (again : (limit : ℕ) (s : S) (w : Want) → (turned limit s).stop ≡ Asks w → turned limit (turned limit s).machine ≡ turned limit s) (events r : ℕ) {E : Type 0} (result : Result (List Effect) E) (was now : Core S) → StandsSo ended bytes among serial turned answered again events was
    → ((n : ℕ) (first : ℕ → ℕ) (c : definition.Core S) → IsCore ended bytes among n first was c → (r < n) × (has_turn n c r ≡ true))
    → ((begin : ℕ → S) (n : ℕ) (first : ℕ → ℕ) (c : definition.Core S) → Regular n c → IsCore ended bytes among n first was c → IfOk result (HasTurned ended bytes among serial saved n r c (step_turn (stepping_of begin turned answered again) (c.one r).rank) was now)) → OnOk result (StandsSo ended bytes among serial turned answered again (suc events) now)
stands_turned {S} ended bytes among serial saved turned answered again events r (Ok effects) was now h some turns = stands_by ended bytes among serial saved turned answered again h.6 n (suc events) h.1 c (Single (Turn r)) was now effects h.4 h.7 h.3
    (subst (λ z. Bounded n z (next_of (stepping P) n c (Single (Turn r))).protocol) (omega arith) (bounded_turned (stepping P) n (2 ^ 31 + events) r c its.0 its.1 m.goes (record { last = h.5.last; counted = h.5.counted })))
    (within_each ended bytes among serial saved n r was.network.line events c t was now effects (subst (λ z. r < z) (sym h.3.members.size) its.0) m h.8)
    (comes_turned ended bytes among serial saved (stepping P) n h.1 c was now r effects regular h.3 its.0 its.1 m)
  where
    n : ℕ
    n = h.0

    c : definition.Core S
    c = h.2

    P : Stepping S
    P = stepping_of h.6 turned answered again

    regular : Regular n c
    regular = regular_pausing P n c h.7

    t : Turned S
    t = step_turn P (c.one r).rank

    its : (r < n) × (has_turn n c r ≡ true)
    its = some n h.1 c h.3

    m : HasTurned ended bytes among serial saved n r c t was now effects
    m = turns h.6 n h.1 c regular h.3
stands_turned ended bytes among serial saved turned answered again events r (Err x) was now h some turns = tt
