-- What a core in code comes to at an event, from what its parts come to.
use Rattle.std.proofs.Common.{◌≡◌, ℕ, suc, ◌+◌, ◌<◌, Bool, true, false, not, List, [], ◌∷◌, map, Option, length, get_or, ◌≤◌, ⊎_elim, sym, refl, ap, ◌∙◌, subst, slice_set}
use Rattle.std.specs.Prelude.{◌&&◌, nat_lt, if◌then◌else◌}
use Rattle.std.specs.Vec.{with_item}
use Rattle.std.proofs.lemmas.Bool.{cases_lt, lt-ltb, le-ltb, false≢true}
use Rattle.std.proofs.lemmas.List.{get_or-map}
use Rattle.mpi_words.specs.declared.operation.End.{End}
use Rattle.image_text.specs.declared.state.RankState.{RankState}
use Rattle.core_laws.specs.Rows.{set_at}
use Rattle.core_laws.specs.Protocol.{move_start}
use Rattle.core_laws.specs.Handling.{all_below, handles, notes}
use Rattle.core_laws.specs.Ties.{AreBy}
use Rattle.core_laws.specs.Process.{Ranks}
use Rattle.mpi_words.specs.declared.control.Control.{Control}
use Rattle.mpi_words.specs.declared.control.Control.TheVariants.{Request, Count, Ready, Stop, Stopped, Restored}
use Rattle.core_laws.specs.Written.{Written}
use Rattle.core_laws.specs.Quiet.{Handle, Begin_wave}
use Rattle.core_laws.specs.Core as definition
use Rattle.core_laws.specs.Core.{may_begin, core_began, core_handled}
use Rattle.core_laws.specs.CoreEvents.{Core_event, Single, Kill, next_of}
use Rattle.core_laws.specs.CoreTies.{EachIs, Running, Holds, Regular, logs_of}
use Rattle.core_laws.specs.Effects.{Commits, effects_of, control_effects, log_effects}
use Rattle.core_laws.proofs.CoreTied.{network_logs, begin_logs}
use Rattle.core_laws.proofs.CoreHeld.{holds_killed, holds_began, holds_handled}
use Rattle.epoch_protocol.specs.Layers.{log_of}
use Rattle.job_core.specs.declared.job.Core.{Core}
use Rattle.job_network.specs.declared.network.Network.{Network}
use Rattle.job_core.specs.declared.effect.Effect.{Effect}
use Rattle.job_network.specs.declared.handling.Handled.TheVariants as came
use Rattle.job_core.specs.Effects.{IsEffect, written_by}
use Rattle.job_network.specs.declared.member.Member.{Member}
use Rattle.job_network.specs.Members.{IsMember, running_of}
use Rattle.job_network.specs.Networks.{IsLed, IsPlaced, IsNet, network_of}
use Rattle.job_network.specs.Controls.{may_start, outcome_of}
use Rattle.job_core.specs.Cores.{held_of, IsCore, Comes}

-- an event that saves nothing, writes nothing, and after which the core is `after`
pub quiet : {S : Type 0} (ended : S → Option End) (bytes among : S → ℕ) (saved : S → RankState) (P : Ranks S) (n : ℕ) (first : ℕ → ℕ) (c after : definition.Core S) (e : Core_event) (k : Core S) → next_of P n c e ≡ after → effects_of P n c e ≡ [] → k.network.ranks ≡ n
    → AreBy (IsMember ended bytes among n) n k.members.items after.one → Holds (IsPlaced n) (IsLed n) n first (held_of k) after → Comes ended bytes among saved P n first c e k []
quiet ended bytes among saved P n first c after e k is none ranks members holds = record {
  ranks = ranks;
  does = record {
    now = first;
    same = λ r b logs. refl;
    comes = record {
      core = subst (Holds (IsPlaced n) (IsLed n) n first (held_of k)) (sym is) holds;
      effects = rw none tt;
    };
  };
  members = subst (λ z. AreBy (IsMember ended bytes among n) n k.members.items z.one) (sym is) members;
}

-- A kill.
pub comes_killed : {S : Type 0} (ended : S → Option End) (bytes among : S → ℕ) (saved : S → RankState) (P : Ranks S) (n : ℕ) (first : ℕ → ℕ) (c : definition.Core S) (k : Core S) (at r : ℕ) → at ≡ r → r < n → IsCore ended bytes among n first k c
    → Comes ended bytes among saved P n first c (Kill r) (record k { killed = with_item k.killed at true }) []
comes_killed ended bytes among saved P n first c k at r same b h = quiet ended bytes among saved P n first c (record c { killed = set_at c.killed r true }) (Kill r) (record k { killed = with_item k.killed at true })
    (ap (λ z. if z then record c { killed = set_at c.killed r true } else c) (lt-ltb r n b)) refl h.ranks h.members
    (subst (λ z. Holds (IsPlaced n) (IsLed n) n first (record (held_of k) { killed = slice_set k.killed.items z true }) (record c { killed = set_at c.killed r true })) (sym same) (holds_killed (IsPlaced n) (IsLed n) n first (held_of k) c r b h.holds))

pub comes_no_rank : {S : Type 0} (ended : S → Option End) (bytes among : S → ℕ) (saved : S → RankState) (P : Ranks S) (n : ℕ) (first : ℕ → ℕ) (c : definition.Core S) (k : Core S) (r : ℕ) → nat_lt r n ≡ false → IsCore ended bytes among n first k c → Comes ended bytes among saved P n first c (Kill r) k []
comes_no_rank ended bytes among saved P n first c k r past h = quiet ended bytes among saved P n first c c (Kill r) k (ap (λ z. if z then record c { killed = set_at c.killed r true } else c) past) refl h.ranks h.members h.holds

-- The beginning of a wave, and where none may begin.
not_under_way : (u a : Bool) → (not u && a) ≡ true → u ≡ false
not_under_way true a e = absurd (false≢true e)
not_under_way false a e = refl

pub comes_no_wave : {S : Type 0} (ended : S → Option End) (bytes among : S → ℕ) (saved : S → RankState) (P : Ranks S) (n : ℕ) (first : ℕ → ℕ) (c : definition.Core S) (k : Core S) → may_begin n c ≡ false → IsCore ended bytes among n first k c → Comes ended bytes among saved P n first c (Single Begin_wave) k []
comes_no_wave ended bytes among saved P n first c k none h = quiet ended bytes among saved P n first c c (Single Begin_wave) k (ap (λ z. if z then core_began c else c) none) refl h.ranks h.members h.holds

pub comes_began : {S : Type 0} (ended : S → Option End) (bytes among : S → ℕ) (saved : S → RankState) (P : Ranks S) (n : ℕ) (first : ℕ → ℕ) (c : definition.Core S) (k : Core S) (net : Network) → Regular n c → c.killed 0 ≡ false → IsCore ended bytes among n first k c
    → IsNet n net (if may_start n c.protocol then move_start c.protocol else c.protocol) (logs_of c) → Comes ended bytes among saved P n first c (Single Begin_wave) (record k { network = net }) []
comes_began {S} ended bytes among saved P n first c k net regular alive h now = cond_known (may_start n c.protocol)
    (λ e. subst (λ z. IsNet n net (if z then move_start c.protocol else c.protocol) (logs_of c) → Comes ended bytes among saved P n first c (Single Begin_wave) (record k { network = net }) []) (sym e) (begins e))
    (λ e. subst (λ z. IsNet n net (if z then move_start c.protocol else c.protocol) (logs_of c) → Comes ended bytes among saved P n first c (Single Begin_wave) (record k { network = net }) []) (sym e) (stays e)) now
  where
    cond_known : {A : Type 0} (b : Bool) → (b ≡ true → A) → (b ≡ false → A) → A
    cond_known true f g = f refl
    cond_known false f g = g refl

    test : (b : Bool) → may_start n c.protocol ≡ b → may_begin n c ≡ b
    test b e = ap (λ z. not z && may_start n c.protocol) alive ∙ e

    begins : may_start n c.protocol ≡ true → IsNet n net (move_start c.protocol) (logs_of c) → Comes ended bytes among saved P n first c (Single Begin_wave) (record k { network = net }) []
    begins e net_is =
        let idle : c.protocol.wave.under_way ≡ false = not_under_way c.protocol.wave.under_way (nat_lt c.protocol.wave.line definition.last_line && all_below n c.protocol.restored) e in
        quiet ended bytes among saved P n first c (core_began c) (Single Begin_wave) (record k { network = net }) (ap (λ z. if z then core_began c else c) (test true e)) refl net_is.ranks h.members
        (holds_began (IsPlaced n) (IsLed n) n first (held_of k) c (network_of net) regular idle
        (network_logs (IsPlaced n) (IsLed n) n (network_of net) (move_start c.protocol) (logs_of c) (logs_of (core_began c)) (λ r b logging. begin_logs n c r b regular idle logging) net_is.stands) h.holds)

    stays : may_start n c.protocol ≡ false → IsNet n net c.protocol (logs_of c) → Comes ended bytes among saved P n first c (Single Begin_wave) (record k { network = net }) []
    stays e net_is = quiet ended bytes among saved P n first c c (Single Begin_wave) (record k { network = net }) (ap (λ z. if z then core_began c else c) (test false e)) refl net_is.ranks h.members
        (record { ranks = h.holds.ranks; ops = h.holds.ops; killed = h.holds.killed; network = net_is.stands })

-- A control, and where none is handled.
log_written : {S : Type 0} (saved : S → RankState) (line : ℕ → ℕ) (n r ops epoch : ℕ) (first : ℕ → ℕ) (w : Written S) (logging : Bool) → (logging ≡ true → ops ≡ first r + w.ops)
    → EachIs (IsEffect {S = S} saved n line first) (written_by r (if logging then came.Stopped (log_of n r epoch ops w.log) else came.Nothing)) (log_effects r w logging)
log_written saved line n r ops epoch first w true e = ((refl, record { ranks = refl; rank = refl; stop = e refl; entries_are = refl }), tt)
log_written saved line n r ops epoch first w false e = tt

commit_written : (S : Type 0) (saved : S → RankState) (line : ℕ → ℕ) (n r at : ℕ) (first : ℕ → ℕ) (commits : Bool) → EachIs (IsEffect {S = S} saved n line first) (written_by r (if commits then came.Committed at else came.Nothing)) (if commits then Commits at ∷ [] else [])
commit_written S saved line n r at first true = (refl, tt)
commit_written S saved line n r at first false = tt

control_written : {S : Type 0} (saved : S → RankState) (line : ℕ → ℕ) (n s r ops : ℕ) (first : ℕ → ℕ) (c : definition.Core S) (l : List Control) → ((c.protocol.layer r).logging ≡ true → ops ≡ first r + (c.written r).ops)
    → EachIs (IsEffect saved n line first) (written_by r (outcome_of n s r ops c.protocol (logs_of c) l)) (control_effects n c s r l)
control_written {S} saved line n s r ops first c [] e = tt
control_written {S} saved line n s r ops first c (Request k ∷ rest) e = tt
control_written {S} saved line n s r ops first c (Count k j ∷ rest) e = tt
control_written {S} saved line n s r ops first c (Ready k ∷ rest) e = tt
control_written {S} saved line n s r ops first c (Stop k ∷ rest) e = log_written saved line n r ops (c.protocol.layer r).epoch first (c.written r) (c.protocol.layer r).logging e
control_written {S} saved line n s r ops first c (Stopped k ∷ rest) e = commit_written S saved line n r (suc c.protocol.wave.line) first (notes c.protocol.wave k (c.protocol.wave.stopped s) && all_below n (set_at c.protocol.wave.stopped s true))
control_written {S} saved line n s r ops first c (Restored ∷ rest) e = tt

abbrev pub takes : {S : Type 0} → ℕ → definition.Core S → ℕ → ℕ → Bool
takes n c s r = nat_lt s n && (nat_lt r n && not (c.killed r))

pub comes_not_handled : {S : Type 0} (ended : S → Option End) (bytes among : S → ℕ) (saved : S → RankState) (P : Ranks S) (n : ℕ) (first : ℕ → ℕ) (c : definition.Core S) (k : Core S) (s r : ℕ) → takes n c s r ≡ false → IsCore ended bytes among n first k c → Comes ended bytes among saved P n first c (Single (Handle s r)) k []
comes_not_handled ended bytes among saved P n first c k s r none h = quiet ended bytes among saved P n first c c (Single (Handle s r)) k
    (ap (λ z. if z then core_handled c (handles n c.protocol s r (c.protocol.control s r)) else c) none) (ap (λ z. if z then control_effects n c s r (c.protocol.control s r) else []) none) h.ranks h.members h.holds

pub comes_handled : {S : Type 0} (ended : S → Option End) (bytes among : S → ℕ) (saved : S → RankState) (P : Ranks S) (n : ℕ) (first : ℕ → ℕ) (c : definition.Core S) (k : Core S) (s r ops : ℕ) (net : Network) (effects : List Effect) → takes n c s r ≡ true → ((c.protocol.layer r).logging ≡ true → ops ≡ first r + (c.written r).ops)
    → IsCore ended bytes among n first k c → effects ≡ written_by r (outcome_of n s r ops c.protocol (logs_of c) (c.protocol.control s r)) → IsNet n net (handles n c.protocol s r (c.protocol.control s r)) (logs_of c)
    → Comes ended bytes among saved P n first c (Single (Handle s r)) (record k { network = net }) effects
comes_handled {S} ended bytes among saved P n first c k s r ops net effects some counted h written now = record {
  ranks = now.ranks;
  does = record {
    now = first;
    same = λ y b logs. refl;
    comes = record {
      core = subst (Holds (IsPlaced n) (IsLed n) n first (held_of (record k { network = net }))) (sym after) (holds_handled (IsPlaced n) (IsLed n) n first (held_of k) c s r (c.protocol.control s r) (network_of net) now.stands h.holds);
      effects = subst (EachIs (IsEffect saved n line first) effects) (sym (ap (λ z. if z then control_effects n c s r (c.protocol.control s r) else []) some))
          (subst (λ z. EachIs (IsEffect saved n line first) z (control_effects n c s r (c.protocol.control s r))) (sym written) (control_written saved line n s r ops first c (c.protocol.control s r) counted));
    };
  };
  members = subst (λ (z : definition.Core S). AreBy (IsMember ended bytes among n) n k.members.items z.one) (sym after) h.members;
}
  where
    line : ℕ → ℕ
    line x = suc (c.protocol.layer x).epoch

    after : next_of P n c (Single (Handle s r)) ≡ core_handled c (handles n c.protocol s r (c.protocol.control s r))
    after = ap (λ z. if z then core_handled c (handles n c.protocol s r (c.protocol.control s r)) else c) some

-- which ranks take part
no_both : (a : Bool) → (a && false) ≡ false
no_both true = refl
no_both false = refl

pub first_of : (a b : Bool) → (a && b) ≡ true → a ≡ true
first_of true b e = refl
first_of false b e = e

pub below : (a b : ℕ) → nat_lt a b ≡ true → a < b
below a b e = ⊎_elim (λ d. d) (λ d. absurd (false≢true (sym (le-ltb a b d) ∙ e))) (cases_lt a b)

pub part_is : {S : Type 0} (ended : S → Option End) (bytes among : S → ℕ) (n : ℕ) (first : ℕ → ℕ) (k : Core S) (c : definition.Core S) (r : ℕ) → IsCore ended bytes among n first k c → (nat_lt r k.network.ranks && not (get_or k.killed.items r false)) ≡ (nat_lt r n && not (c.killed r))
part_is ended bytes among n first k c r h = ap (λ z. nat_lt r z && not (get_or k.killed.items r false)) h.ranks ∙ ⊎_elim
    (λ d. ap (λ z. nat_lt r n && not z) (h.holds.killed.each r false d))
    (λ d. let past : nat_lt r n ≡ false = le-ltb r n d in ap (λ z. z && not (get_or k.killed.items r false)) past ∙ sym (ap (λ z. z && not (c.killed r)) past))
    (cases_lt r n)

pub takes_none : {S : Type 0} (n : ℕ) (c : definition.Core S) (s r : ℕ) → (nat_lt r n && not (c.killed r)) ≡ false → takes n c s r ≡ false
takes_none n c s r e = ap (λ z. nat_lt s n && z) e ∙ no_both (nat_lt s n)

pub takes_past : {S : Type 0} (n : ℕ) (c : definition.Core S) (s r : ℕ) → n ≤ s → takes n c s r ≡ false
takes_past n c s r d = ap (λ z. z && (nat_lt r n && not (c.killed r))) (le-ltb s n d)

pub takes_all : {S : Type 0} (n : ℕ) (c : definition.Core S) (s r : ℕ) → s < n → (nat_lt r n && not (c.killed r)) ≡ true → takes n c s r ≡ true
takes_all n c s r d e = ap (λ z. z && (nat_lt r n && not (c.killed r))) (lt-ltb s n d) ∙ e

-- the operations of the member at a rank's place
pub member_ops : {S : Type 0} (items : List (Member S)) (at r : ℕ) (now : Member S) → at ≡ r → now ≡ get_or items at now → r < length items → now.ops ≡ (get_or (map running_of items) r (running_of now)).ops
member_ops {S} items at r now same is b = ap (λ (m : Member S). m.ops) (is ∙ ap (λ z. get_or items z now) same) ∙ sym (ap (λ (k : Running S). k.ops) (get_or-map running_of items r now (running_of now) b))
