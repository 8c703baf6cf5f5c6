-- What stands for a core that is kept stands for one after each event too.
use Rattle.std.proofs.Common.{◌≡◌, ℕ, suc, ◌+◌, ◌*◌, ◌<◌, ◌≤◌, ◌^◌, get_or, arith, Bool, true, not, List, [], ◌∷◌, Option, Result, Ok, Err, IfOk, OnOk, sym, refl, ap, ◌∙◌, subst}
use Rattle.std.specs.Prelude.{◌&&◌, nat_lt}
use Rattle.std.proofs.lemmas.Bool.{cond_both, and_parts, ltb-true, false≢true}
use Rattle.mpi_words.specs.declared.operation.End.{End}
use Rattle.mpi_words.specs.declared.operation.Reply.{Reply}
use Rattle.mpi_words.specs.declared.control.Control.{Control}
use Rattle.mpi_words.specs.declared.control.Control.TheVariants.{Request, Count, Ready, Stop, Stopped, Restored}
use Rattle.image_text.specs.declared.state.RankState.{RankState}
use Rattle.core_laws.specs.Invariant.{Invariant}
use Rattle.core_laws.specs.Rows.{set_at}
use Rattle.core_laws.specs.Protocol.{Packet, Protocol, move_arrive, move_pop, move_ready, move_start, move_stop, move_tell_restored, move_told}
use Rattle.core_laws.specs.Process.{Want}
use Rattle.core_laws.specs.Pausing.{Asks, Stepped, Stepping, stepping}
use Rattle.core_laws.specs.PausingKept.{IsKeptPausing}
use Rattle.core_laws.specs.Handling.{all_below, handles, ready_due, stops_at, then_ready, then_stop}
use Rattle.core_laws.specs.Quiet.{Turn, Deliver, Handle, Begin_wave}
use Rattle.core_laws.specs.Core as definition
use Rattle.core_laws.specs.Core.{accepts, core_began, core_delivers, core_handled, is_back, landed, last_line, may_begin, then_restored}
use Rattle.core_laws.specs.CoreEvents.{Core_event, Core_does, Kill, Single, Sweep, next_of}
use Rattle.core_laws.specs.CoreTies.{Regular}
use Rattle.core_laws.specs.Process.{Ranks}
use Rattle.core_laws.proofs.Regularity.{regular_pausing}
use Rattle.core_laws.proofs.KeptForSweeps.{each_on, keeps_on}
use Rattle.core_laws.proofs.LineRises.{rises}
use Rattle.core_laws.proofs.Noting.{ready_cases, stopped_cases}
use Rattle.job_network.specs.declared.member.Member.{Member}
use Rattle.job_network.specs.Members.{stepping_of}
use Rattle.job_network.specs.Sound.{Counted}
use Rattle.job_network.proofs.Counts.{counted_arrive, counted_beside, counted_handles, counted_more, counted_then_ready, counted_then_stop}
use Rattle.job_core.specs.declared.job.Core.{Core}
use Rattle.job_core.specs.declared.effect.Effect.{Effect}
use Rattle.job_core.specs.Cores.{IsCore, IsWithin, Comes, StandsSo, Stay}

-- the line of a wave under way is no last one
abbrev pub Last : Protocol → Type 0
Last p = p.wave.under_way ≡ true → p.wave.line < 65535

-- counts that are as bounded, and a line that is none of the last
pub record Bounded (n most : ℕ) (p : Protocol) : Type 0 where
  pub last : Last p
  pub counted : Counted n most p

pub bounded_restored : (n most r : ℕ) (was now : Bool) (p : Protocol) → Bounded n most p → Bounded n most (then_restored was now p r)
bounded_restored n most r was now p h = cond_both (not was && now) (move_tell_restored p r) p (Bounded n most) (λ _. record { last = h.last; counted = counted_beside n most p (move_tell_restored p r) refl refl h.counted }) (λ _. h)

pub last_ready : (n r : ℕ) (p : Protocol) → Last p → Last (then_ready n p r)
last_ready n r p h = cond_both (ready_due n (p.layer r)) (move_ready p r) p Last (λ _. h) (λ _. h)

stop_channel : (p : Protocol) (r : ℕ) (x : Packet) → (then_stop p r x).channel ≡ p.channel
stop_channel p r x = cond_both (stops_at (p.layer r) x) (move_stop p r) p (λ q. q.channel ≡ p.channel) (λ _. refl) (λ _. refl)

bounded_arrived : (n most s r : ℕ) (was now : Bool) (p : Protocol) (x : Packet) (rest : List Packet) → s < n → r < n → p.channel s r ≡ x ∷ rest → Bounded n most p
    → Bounded n most (then_restored was now (then_ready n (move_arrive (then_stop p r x) s r x.1.epoch rest) r) r)
bounded_arrived n most s r was now p x rest a b is h = bounded_restored n most r was now (then_ready n (move_arrive (then_stop p r x) s r x.1.epoch rest) r) (record {
  last = last_ready n r (move_arrive (then_stop p r x) s r x.1.epoch rest) (cond_both (stops_at (p.layer r) x) (move_stop p r) p Last (λ _. h.last) (λ _. h.last));
  counted = counted_then_ready n most r (move_arrive (then_stop p r x) s r x.1.epoch rest) (counted_arrive n most s r (then_stop p r x) x rest a b (ap (λ q. q s r) (stop_channel p r x) ∙ is) (counted_then_stop n most r p x h.counted));
})

last_handles : (n : ℕ) (p : Protocol) (s r : ℕ) (l : List Control) → Last p → Last (handles n p s r l)
last_handles n p s r [] h = h
last_handles n p s r (Request k ∷ rest) h = h
last_handles n p s r (Count k j ∷ rest) h = last_ready n r (move_told p s r j rest) h
last_handles n p s r (Ready k ∷ rest) h = ready_cases n p s r k rest Last (λ _ _. h) (λ _ _. h) (λ _. h)
last_handles n p s r (Stop k ∷ rest) h = cond_both (p.layer r).logging (move_stop (move_pop p s r rest) r) (move_pop p s r rest) Last (λ _. h) (λ _. h)
last_handles n p s r (Stopped k ∷ rest) h = stopped_cases n p s r k rest Last (λ _ _ e. absurd (false≢true e)) (λ _ _. h) (λ _. h)
last_handles n p s r (Restored ∷ rest) h = h

-- events but a turn and a sweep
abbrev pub Moves : Core_event → Type 0
Moves (Single (Turn r)) = ⊥
Moves (Single (Deliver s r)) = Unit {0}
Moves (Single (Handle s r)) = Unit {0}
Moves (Single Begin_wave) = Unit {0}
Moves Sweep = ⊥
Moves (Kill r) = Unit {0}

begins_below : {S : Type 0} (n : ℕ) (c : definition.Core S) → may_begin n c ≡ true → c.protocol.wave.line < 65535
unfolding last_line
begins_below n c e = ltb-true c.protocol.wave.line 65535 (and_parts (nat_lt c.protocol.wave.line last_line) (all_below n c.protocol.restored) (and_parts (not c.protocol.wave.under_way) (nat_lt c.protocol.wave.line last_line && all_below n c.protocol.restored) (and_parts (not (c.killed 0)) (not c.protocol.wave.under_way && (nat_lt c.protocol.wave.line last_line && all_below n c.protocol.restored)) e).1).1).0

bounded_next : {S : Type 0} (P : Stepping S) (n most : ℕ) (c : definition.Core S) (e : Core_event) → Moves e → Bounded n most c.protocol → Bounded n most (next_of (stepping P) n c e).protocol
bounded_next {S} P n most c (Single (Turn r)) moves h = absurd moves
bounded_next {S} P n most c Sweep moves h = absurd moves
bounded_next {S} P n most c (Single (Deliver s r)) moves h = cond_both (nat_lt s n && (nat_lt r n && (not (c.killed r) && accepts (c.one r).log (c.one r).left s))) (core_delivers n c s r (c.protocol.channel s r)) c (λ (z : definition.Core S). Bounded n most z.protocol)
    (λ e. let one = and_parts (nat_lt s n) (nat_lt r n && (not (c.killed r) && accepts (c.one r).log (c.one r).left s)) e in
    go (c.protocol.channel s r) refl (ltb-true s n one.0) (ltb-true r n (and_parts (nat_lt r n) (not (c.killed r) && accepts (c.one r).log (c.one r).left s) one.1).0)) (λ _. h)
  where
    go : (q : List Packet) → c.protocol.channel s r ≡ q → s < n → r < n → Bounded n most (core_delivers n c s r q).protocol
    go [] is a b = h
    go (x ∷ rest) is a b = bounded_arrived n most s r (is_back (c.one r)) (is_back (landed (c.one r) (c.one r).log s x.0)) c.protocol x rest a b is h
bounded_next {S} P n most c (Single (Handle s r)) moves h = cond_both (nat_lt s n && (nat_lt r n && not (c.killed r))) (core_handled c (handles n c.protocol s r (c.protocol.control s r))) c (λ (z : definition.Core S). Bounded n most z.protocol)
    (λ _. record { last = last_handles n c.protocol s r (c.protocol.control s r) h.last; counted = counted_handles n most s r c.protocol (c.protocol.control s r) h.counted }) (λ _. h)
bounded_next {S} P n most c (Single Begin_wave) moves h = cond_both (may_begin n c) (core_began c) c (λ (z : definition.Core S). Bounded n most z.protocol)
    (λ e. record { last = λ _. begins_below n c e; counted = counted_beside n most c.protocol (move_start c.protocol) refl refl h.counted }) (λ _. h)
bounded_next {S} P n most c (Kill r) moves h = cond_both (nat_lt r n) (record c { killed = set_at c.killed r true }) c (λ (z : definition.Core S). Bounded n most z.protocol) (λ _. h) (λ _. h)

invariant_of : {S : Type 0} (P : Stepping S) (n : ℕ) (c : definition.Core S) → IsKeptPausing P n c → Invariant n c.protocol
invariant_of P n c h = let within = (h 0).3 in subst (Invariant n) (sym within.is.protocol) within.kept.protocol

line_of : {S : Type 0} (ended : S → Option End) (bytes among : S → ℕ) (n : ℕ) (first : ℕ → ℕ) (k : Core S) (c : definition.Core S) → IsCore ended bytes among n first k c → k.network.line ≡ c.protocol.wave.line
line_of ended bytes among n first k c h = h.holds.network.wave.line

-- A line that is no lower, more events, and as many operations of a machine that stays, keep a member within its bounds.
pub within_more : {S : Type 0} (serial : S → ℕ) (line after events more : ℕ) (m : Member S) → line ≤ after → events ≤ more → IsWithin serial line events m → IsWithin serial after more m
within_more serial line after events more m up later h = record { ops = omega (arith, up, later, h.ops); serials = omega (arith, up, later, h.serials) }

within_same : {S : Type 0} (serial : S → ℕ) (line events : ℕ) (m now : Member S) → now.ops ≡ m.ops → now.machine ≡ m.machine → IsWithin serial line events m → IsWithin serial line events now
within_same serial line events m now ops machine h = record { ops = omega (arith, ops, h.ops); serials = subst (λ z. serial z ≤ 2 ^ 43 * line + suc events * (2 ^ 25 + 2 ^ 17)) (sym machine) h.serials }

-- what stands after an event, from the bounds then
pub stands_by : {S : Type 0} (ended : S → Option End) (bytes among serial : S → ℕ) (saved : S → RankState) (turned : ℕ → S → Stepped S) (answered : S → Reply → S) (again : (limit : ℕ) (s : S) (w : Want) → (turned limit s).stop ≡ Asks w → turned limit (turned limit s).machine ≡ turned limit s) (begin : ℕ → S)
    (n more : ℕ) (first : ℕ → ℕ) (c : definition.Core S) (e : Core_event) (was now : Core S) (effects : List Effect) → 0 < n → IsKeptPausing (stepping_of begin turned answered again) n c → IsCore ended bytes among n first was c
    → Bounded n (2 ^ 31 + more) (next_of (stepping (stepping_of begin turned answered again)) n c e).protocol → ((r : ℕ) (m : Member S) → r < n → IsWithin serial was.network.line more (get_or now.members.items r m))
    → Comes ended bytes among saved (stepping (stepping_of begin turned answered again)) n first c e now effects → StandsSo ended bytes among serial turned answered again more now
stands_by {S} ended bytes among serial saved turned answered again begin n more first c e was now effects some kept core bounds within comes = (
  n,
  comes.does.now,
  next_of (stepping P) n c e,
  is,
  some,
  record { kept = invariant_of P n (next_of (stepping P) n c e) after; last = bounds.last; counted = bounds.counted },
  begin,
  after,
  λ r m b. within_more serial was.network.line now.network.line more more (get_or now.members.items r m) up (omega arith) (within r m b),
)
  where
    P : Stepping S
    P = stepping_of begin turned answered again

    after : IsKeptPausing P n (next_of (stepping P) n c e)
    after = each_on P n c (Core_does e) kept

    is : IsCore ended bytes among n comes.does.now now (next_of (stepping P) n c e)
    is = record { ranks = comes.ranks; members = comes.members; holds = comes.does.comes.core }

    up : was.network.line ≤ now.network.line
    up = omega (arith, line_of ended bytes among n first was c core, line_of ended bytes among n comes.does.now now (next_of (stepping P) n c e) is, (rises (stepping P) n (IsKeptPausing P n) (keeps_on P n) c (Core_does e) kept).0)

pub stands_next : {S : Type 0} (ended : S → Option End) (bytes among serial : S → ℕ) (saved : S → RankState) (turned : ℕ → S → Stepped S) (answered : S → Reply → S) (again : (limit : ℕ) (s : S) (w : Want) → (turned limit s).stop ≡ Asks w → turned limit (turned limit s).machine ≡ turned limit s) (events : ℕ) (was now : Core S) (e : Core_event) (effects : List Effect) → Moves e → StandsSo ended bytes among serial turned answered again events was
    → ((n : ℕ) (first : ℕ → ℕ) (c : definition.Core S) → IsCore ended bytes among n first was c → Stay n was.members.items now.members.items)
    → ((turns : Ranks S) (n : ℕ) (first : ℕ → ℕ) (c : definition.Core S) → Regular n c → IsCore ended bytes among n first was c → Comes ended bytes among saved turns n first c e now effects) → StandsSo ended bytes among serial turned answered again events now
stands_next {S} ended bytes among serial saved turned answered again events was now e effects moves h stay comes = stands_by ended bytes among serial saved turned answered again h.6 h.0 events h.1 h.2 e was now effects h.4 h.7 h.3
    (bounded_next P h.0 (2 ^ 31 + events) h.2 e moves (record { last = h.5.last; counted = h.5.counted }))
    (λ r m b. let same = stay h.0 h.1 h.2 h.3 r m b in within_same serial was.network.line events (get_or was.members.items r m) (get_or now.members.items r m) same.0 same.1 (h.8 r m b))
    (comes (stepping P) h.0 h.1 h.2 (regular_pausing P h.0 h.2 h.7) h.3)
  where
    P : Stepping S
    P = stepping_of h.6 turned answered again

pub stands_on : {S : Type 0} (ended : S → Option End) (bytes among serial : S → ℕ) (saved : S → RankState) (turned : ℕ → S → Stepped S) (answered : S → Reply → S) (again : (limit : ℕ) (s : S) (w : Want) → (turned limit s).stop ≡ Asks w → turned limit (turned limit s).machine ≡ turned limit s) (events : ℕ) {E : Type 0} (result : Result (List Effect) E) (was now : Core S) (e : Core_event) → Moves e → StandsSo ended bytes among serial turned answered again events was
    → ((n : ℕ) (first : ℕ → ℕ) (c : definition.Core S) → IsCore ended bytes among n first was c → OnOk result (Stay n was.members.items now.members.items))
    → ((turns : Ranks S) (n : ℕ) (first : ℕ → ℕ) (c : definition.Core S) → Regular n c → IsCore ended bytes among n first was c → IfOk result (λ effects. Comes ended bytes among saved turns n first c e now effects)) → OnOk result (StandsSo ended bytes among serial turned answered again events now)
stands_on ended bytes among serial saved turned answered again events (Ok effects) was now e moves h stay comes = stands_next ended bytes among serial saved turned answered again events was now e effects moves h stay comes
stands_on ended bytes among serial saved turned answered again events (Err x) was now e moves h stay comes = tt

-- what stands after so many events stands after more
pub stands_more : {S : Type 0} (ended : S → Option End) (bytes among serial : S → ℕ) (turned : ℕ → S → Stepped S) (answered : S → Reply → S) (again : (limit : ℕ) (s : S) (w : Want) → (turned limit s).stop ≡ Asks w → turned limit (turned limit s).machine ≡ turned limit s) (events more : ℕ) (k : Core S) → events ≤ more → StandsSo ended bytes among serial turned answered again events k → StandsSo ended bytes among serial turned answered again more k
stands_more {S} ended bytes among serial turned answered again events more k later h = (
  h.0,
  h.1,
  h.2,
  h.3,
  h.4,
  record { kept = h.5.kept; last = h.5.last; counted = counted_more h.0 (2 ^ 31 + events) (2 ^ 31 + more) h.2.protocol (omega (arith, later)) h.5.counted },
  h.6,
  h.7,
  λ r m b. within_more serial k.network.line k.network.line events more (get_or k.members.items r m) (omega arith) later (h.8 r m b),
)

-- the members themselves
pub stay_same : {S : Type 0} (n : ℕ) (members : List (Member S)) → Stay n members members
stay_same n members r m b = (refl, refl)
