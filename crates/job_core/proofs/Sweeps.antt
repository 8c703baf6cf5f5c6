-- What the single events of a sweep come to, one after the other.
use Rattle.std.proofs.Common.{◌≡◌, ℕ, suc, ◌+◌, ◌<◌, Bool, true, false, not, List, [], ◌∷◌, ◌++◌, Option, length, append_assoc, sym, refl, ap, ◌∙◌, subst, arith}
use Rattle.std.specs.Prelude.{◌&&◌, ◌==◌, nat_lt, if◌then◌else◌}
use Rattle.std.proofs.lemmas.Bool.{cond_both, and_parts, ltb-true, false≢true}
use Rattle.std.proofs.lemmas.List.{append-nil}
use Rattle.mpi_words.specs.declared.operation.End.{End}
use Rattle.mpi_words.specs.declared.operation.Reply.{Reply}
use Rattle.mpi_words.specs.declared.control.Control.{Control}
use Rattle.mpi_words.specs.declared.control.Control.TheVariants.{Request, Count, Ready, Stop, Stopped, Restored}
use Rattle.image_text.specs.declared.state.RankState.{RankState}
use Rattle.core_laws.specs.Rows.{set_at}
use Rattle.core_laws.specs.Ties.{AreBy}
use Rattle.core_laws.specs.Protocol.{Packet, Protocol, layer_asked, layer_stop, layer_told, move_asked, move_pop, move_stop, move_told}
use Rattle.core_laws.specs.Process.{Ranks, Want}
use Rattle.core_laws.specs.Pausing.{Asks, Stepped, Stepping, stepping}
use Rattle.core_laws.specs.PausingKept.{IsKeptPausing}
use Rattle.core_laws.specs.Written.{Written}
use Rattle.core_laws.specs.Handling.{all_below, handles, notes, stops_at, then_stop}
use Rattle.core_laws.specs.Quiet.{Event}
use Rattle.core_laws.specs.Core as definition
use Rattle.core_laws.specs.Core.{accepts, core_delivers, core_handled, is_back, landed, step_of, steps_of}
use Rattle.core_laws.specs.CoreEvents.{Core_does, Single, Sweep, below, pair_events, row_events, sweep_events, times}
use Rattle.core_laws.specs.CoreTies.{EachIs, Held, Holds, Pairs, Regular}
use Rattle.core_laws.specs.Effects.{Commits, Logs, Saves, Writes, arrival_effects, control_effects, log_effects, step_effects_of}
use Rattle.core_laws.specs.Effects as effects
use Rattle.core_laws.proofs.CoreHeld.{Quieter}
use Rattle.core_laws.proofs.CoreTied.{does_more, steps-append, times_more, row_more, pair_more}
use Rattle.core_laws.proofs.KeptForSweeps.{each_on}
use Rattle.core_laws.proofs.Noting.{ready_cases, stopped_cases}
use Rattle.core_laws.proofs.Regularity.{regular_pausing}
use Rattle.epoch_protocol.specs.Layers.{Kept}
use Rattle.job_network.specs.Members.{IsMember, stepping_of}
use Rattle.job_network.specs.Networks.{IsLed, IsPlaced, Led}
use Rattle.job_core.specs.declared.job.Core.{Core}
use Rattle.job_core.specs.declared.effect.Effect.{Effect}
use Rattle.job_core.specs.declared.effect.Effect.TheVariants.{Output, Save, WriteLog, Commit}
use Rattle.job_core.specs.declared.sweep.Traffic.{Traffic}
use Rattle.job_core.specs.declared.sweep.Traffic.TheVariants.{Controls, Messages}
use Rattle.job_core.specs.Effects.{IsEffect}
use Rattle.job_core.specs.Cores.{held_of, IsCore, Comes, StandsSo}
use Rattle.job_core.specs.Sweeping.{taken, Swept}
use Rattle.job_core.proofs.Deliveries.{quieter_landed, quieter_ready, quieter_set}

-- Effects that no later save changes: whose operations at its last save were `now r` were `first r` then too.
abbrev Fixed : {S : Type 0} → (now first : ℕ → ℕ) → effects.Effect S → Type 0
Fixed now first (Writes r its) = Unit {0}
Fixed now first (Saves r k early) = ⊥
Fixed now first (Logs r entries ops) = now r ≡ first r
Fixed now first (Commits its) = Unit {0}

abbrev AllFixed : {S : Type 0} → (now first : ℕ → ℕ) → List (effects.Effect S) → Type 0
AllFixed now first [] = Unit {0}
AllFixed now first (x ∷ xs) = Fixed now first x × AllFixed now first xs

effect_fixed : {S : Type 0} (saved : S → RankState) (n : ℕ) (line its now first : ℕ → ℕ) (e : Effect) (x : effects.Effect S) → Fixed now first x → IsEffect saved n line now e x → IsEffect saved n its first e x
effect_fixed saved n line its now first (Output rank bytes) (Writes r written) f h = h
effect_fixed saved n line its now first (Output rank bytes) (Saves r k early) f h = h
effect_fixed saved n line its now first (Output rank bytes) (Logs r entries ops) f h = h
effect_fixed saved n line its now first (Output rank bytes) (Commits at) f h = h
effect_fixed saved n line its now first (Save rank image) (Writes r written) f h = h
effect_fixed saved n line its now first (Save rank image) (Saves r k early) f h = absurd f
effect_fixed saved n line its now first (Save rank image) (Logs r entries ops) f h = h
effect_fixed saved n line its now first (Save rank image) (Commits at) f h = h
effect_fixed saved n line its now first (WriteLog rank log) (Writes r written) f h = h
effect_fixed saved n line its now first (WriteLog rank log) (Saves r k early) f h = h
effect_fixed saved n line its now first (WriteLog rank log) (Logs r entries ops) f h = (h.0, record { ranks = h.1.ranks; rank = h.1.rank; stop = h.1.stop ∙ ap (λ z. z + ops) f; entries_are = h.1.entries_are })
effect_fixed saved n line its now first (WriteLog rank log) (Commits at) f h = h
effect_fixed saved n line its now first (Commit committed) (Writes r written) f h = h
effect_fixed saved n line its now first (Commit committed) (Saves r k early) f h = h
effect_fixed saved n line its now first (Commit committed) (Logs r entries ops) f h = h
effect_fixed saved n line its now first (Commit committed) (Commits at) f h = h

each_fixed : {S : Type 0} (saved : S → RankState) (n : ℕ) (line its now first : ℕ → ℕ) (done : List Effect) (says : List (effects.Effect S)) → AllFixed now first says → EachIs (IsEffect saved n line now) done says → EachIs (IsEffect saved n its first) done says
each_fixed saved n line its now first [] [] f h = tt
each_fixed saved n line its now first [] (x ∷ says) f h = absurd h
each_fixed saved n line its now first (e ∷ done) [] f h = absurd h
each_fixed saved n line its now first (e ∷ done) (x ∷ says) f h = (effect_fixed saved n line its now first e x f.0 h.0, each_fixed saved n line its now first done says f.1 h.1)

log_fixed : {S : Type 0} (now first : ℕ → ℕ) (r : ℕ) (w : Written S) (stops : Bool) → (stops ≡ true → now r ≡ first r) → AllFixed now first (log_effects r w stops)
log_fixed now first r w true e = (e refl, tt)
log_fixed now first r w false e = tt

-- the operations at their last saves of ranks that log
abbrev Same : {S : Type 0} → ℕ → definition.Core S → (now first : ℕ → ℕ) → Type 0
Same n c now first = (r : ℕ) → r < n → (c.protocol.layer r).logging ≡ true → now r ≡ first r

arrival_fixed : {S : Type 0} (n : ℕ) (c : definition.Core S) (now first : ℕ → ℕ) (r : ℕ) (q : List Packet) → r < n → Same n c now first → AllFixed now first (arrival_effects c r q)
arrival_fixed n c now first r [] b same = tt
arrival_fixed n c now first r (x ∷ rest) b same = log_fixed now first r (c.written r) (stops_at (c.protocol.layer r) x) (λ e. same r b (and_parts (c.protocol.layer r).logging ((x.1.epoch == (c.protocol.layer r).epoch) && not x.1.logging) e).0)

commit_fixed : (S : Type 0) (now first : ℕ → ℕ) (at : ℕ) (commits : Bool) → AllFixed {S = S} now first (if commits then Commits at ∷ [] else [])
commit_fixed S now first at true = (tt, tt)
commit_fixed S now first at false = tt

control_fixed : {S : Type 0} (n : ℕ) (c : definition.Core S) (now first : ℕ → ℕ) (s r : ℕ) (l : List Control) → r < n → Same n c now first → AllFixed now first (control_effects n c s r l)
control_fixed {S} n c now first s r [] b same = tt
control_fixed {S} n c now first s r (Request k ∷ rest) b same = tt
control_fixed {S} n c now first s r (Count k j ∷ rest) b same = tt
control_fixed {S} n c now first s r (Ready k ∷ rest) b same = tt
control_fixed {S} n c now first s r (Stop k ∷ rest) b same = log_fixed now first r (c.written r) (c.protocol.layer r).logging (same r b)
control_fixed {S} n c now first s r (Stopped k ∷ rest) b same = commit_fixed S now first (suc c.protocol.wave.line) (notes c.protocol.wave k (c.protocol.wave.stopped s) && all_below n (set_at c.protocol.wave.stopped s true))
control_fixed {S} n c now first s r (Restored ∷ rest) b same = tt

abbrev part : {S : Type 0} → ℕ → definition.Core S → ℕ → ℕ → Bool
part n c s r = nat_lt s n && (nat_lt r n && not (c.killed r))

abbrev gets : {S : Type 0} → ℕ → definition.Core S → ℕ → ℕ → Bool
gets n c s r = nat_lt s n && (nat_lt r n && (not (c.killed r) && accepts (c.one r).log (c.one r).left s))

second_below : (a r n : ℕ) (rest : Bool) → (nat_lt a n && (nat_lt r n && rest)) ≡ true → r < n
second_below a r n rest e = ltb-true r n (and_parts (nat_lt r n) rest (and_parts (nat_lt a n) (nat_lt r n && rest) e).1).0

taken_fixed : {S : Type 0} (P : Ranks S) (n : ℕ) (c : definition.Core S) (now first : ℕ → ℕ) (t : Traffic) (s r : ℕ) → Same n c now first → AllFixed now first (step_effects_of P n c (taken t s r))
taken_fixed {S} P n c now first Controls s r same = cond_both (part n c s r) (control_effects n c s r (c.protocol.control s r)) [] (AllFixed {S = S} now first)
    (λ e. control_fixed n c now first s r (c.protocol.control s r) (second_below s r n (not (c.killed r)) e) same) (λ _. tt)
taken_fixed {S} P n c now first Messages s r same = cond_both (gets n c s r) (arrival_effects c r (c.protocol.channel s r)) [] (AllFixed {S = S} now first)
    (λ e. arrival_fixed n c now first r (c.protocol.channel s r) (second_below s r n (not (c.killed r) && accepts (c.one r).log (c.one r).left s) e) same) (λ _. tt)

-- No rank begins to log in a sweep.
quieter_stop : (p : Protocol) (r : ℕ) (x : Packet) → Quieter p (then_stop p r x)
quieter_stop p r x = cond_both (stops_at (p.layer r) x) (move_stop p r) p (Quieter p) (λ _. quieter_set p (move_stop p r) r (layer_stop (p.layer r)) refl (λ d. absurd (false≢true d))) (λ _ y e. e)

quieter_delivers : {S : Type 0} (n : ℕ) (c : definition.Core S) (s r : ℕ) (q : List Packet) → Quieter c.protocol (core_delivers n c s r q).protocol
quieter_delivers n c s r [] = λ y e. e
quieter_delivers n c s r (x ∷ rest) = λ y e. quieter_stop c.protocol r x y (quieter_landed n (then_stop c.protocol r x) s r x.1.epoch rest (is_back (c.one r)) (is_back (landed (c.one r) (c.one r).log s x.0)) y e)

quieter_handles : (n : ℕ) (p : Protocol) (s r : ℕ) (l : List Control) → Quieter p (handles n p s r l)
quieter_handles n p s r [] = λ y e. e
quieter_handles n p s r (Request k ∷ rest) = quieter_set p (move_asked p s r rest) r (layer_asked (p.layer r)) refl (λ d. d)
quieter_handles n p s r (Count k j ∷ rest) = λ y e. quieter_set p (move_told p s r j rest) r (layer_told (p.layer r) s j) refl (λ d. d) y (quieter_ready n (move_told p s r j rest) r y e)
quieter_handles n p s r (Ready k ∷ rest) = ready_cases n p s r k rest (Quieter p) (λ _ _ y e. e) (λ _ _ y e. e) (λ _ y e. e)
quieter_handles n p s r (Stop k ∷ rest) = cond_both (p.layer r).logging (move_stop (move_pop p s r rest) r) (move_pop p s r rest) (Quieter p)
    (λ _. quieter_set p (move_stop (move_pop p s r rest) r) r (layer_stop (p.layer r)) refl (λ d. absurd (false≢true d))) (λ _ y e. e)
quieter_handles n p s r (Stopped k ∷ rest) = stopped_cases n p s r k rest (Quieter p) (λ _ _ y e. e) (λ _ _ y e. e) (λ _ y e. e)
quieter_handles n p s r (Restored ∷ rest) = λ y e. e

quieter_taken : {S : Type 0} (P : Ranks S) (n : ℕ) (c : definition.Core S) (t : Traffic) (s r : ℕ) → Quieter c.protocol (step_of P n c (taken t s r)).protocol
quieter_taken {S} P n c Controls s r = cond_both (part n c s r) (core_handled c (handles n c.protocol s r (c.protocol.control s r))) c (λ (z : definition.Core S). Quieter c.protocol z.protocol)
    (λ _. quieter_handles n c.protocol s r (c.protocol.control s r)) (λ _ y e. e)
quieter_taken {S} P n c Messages s r = cond_both (gets n c s r) (core_delivers n c s r (c.protocol.channel s r)) c (λ (z : definition.Core S). Quieter c.protocol z.protocol)
    (λ _. quieter_delivers n c s r (c.protocol.channel s r)) (λ _ y e. e)

-- Nothing is saved, so what each rank had made at its save stays.
holds_fixed : {S : Type 0} (n : ℕ) (now first : ℕ → ℕ) (h : Held S Kept Led) (c after : definition.Core S) → Same n c now first → Quieter c.protocol after.protocol → Holds (IsPlaced n) (IsLed n) n now h after → Holds (IsPlaced n) (IsLed n) n first h after
holds_fixed n now first h c after same quieter is = record {
  ranks = is.ranks;
  ops = λ r d b e. is.ops r d b e ∙ ap (λ z. z + (after.written r).ops) (same r b (quieter r e));
  killed = is.killed;
  network = is.network;
}

is_core : {S : Type 0} (ended : S → Option End) (bytes among : S → ℕ) (saved : S → RankState) (P : Ranks S) (n : ℕ) (first : ℕ → ℕ) (c : definition.Core S) (es : List Event) (k : Core S) (done : List Effect) → Swept ended bytes among saved P n first c es k done → IsCore ended bytes among n first k (steps_of P n c es)
is_core ended bytes among saved P n first c es k done h = record { ranks = h.ranks; members = h.members; holds = h.does.core }

swept_none : {S : Type 0} (ended : S → Option End) (bytes among : S → ℕ) (saved : S → RankState) (P : Ranks S) (n : ℕ) (first : ℕ → ℕ) (c : definition.Core S) (k : Core S) → IsCore ended bytes among n first k c → Swept ended bytes among saved P n first c [] k []
swept_none ended bytes among saved P n first c k h = record { ranks = h.ranks; does = record { core = h.holds; effects = tt }; members = h.members }

swept_more : {S : Type 0} (ended : S → Option End) (bytes among : S → ℕ) (saved : S → RankState) (P : Ranks S) (n : ℕ) (first : ℕ → ℕ) (c : definition.Core S) (es : List Event) (t : Traffic) (s r : ℕ) (old new : Core S) (done more : List Effect)
    → Swept ended bytes among saved P n first c es old done → Comes ended bytes among saved P n first (steps_of P n c es) (Single (taken t s r)) new more → Swept ended bytes among saved P n first c (es ++ taken t s r ∷ []) new (done ++ more)
swept_more {S} ended bytes among saved P n first c es t s r old new done more was comes = record {
  ranks = comes.ranks;
  does = does_more (IsPlaced n) (IsLed n) (IsEffect saved n line) P n first c es (taken t s r ∷ []) (held_of new) done more was.does.effects (record {
    core = holds_fixed n comes.does.now first (held_of new) at (step_of P n at (taken t s r)) comes.does.same (quieter_taken P n at t s r) comes.does.comes.core;
    effects = subst (EachIs (IsEffect saved n line first) more) (sym (append-nil (step_effects_of P n at (taken t s r))))
        (each_fixed saved n (λ x. suc (at.protocol.layer x).epoch) line comes.does.now first more (step_effects_of P n at (taken t s r)) (taken_fixed P n at comes.does.now first t s r comes.does.same) comes.does.comes.effects);
  });
  members = subst (λ (z : definition.Core S). AreBy (IsMember ended bytes among n) n new.members.items z.one) (sym (steps-append P n c es (taken t s r ∷ []))) comes.members;
}
  where
    line : ℕ → ℕ
    line x = suc (c.protocol.layer x).epoch

    at : definition.Core S
    at = steps_of P n c es

swept_all : {S : Type 0} (ended : S → Option End) (bytes among : S → ℕ) (saved : S → RankState) (P : Ranks S) (n : ℕ) (first : ℕ → ℕ) (c : definition.Core S) (k : Core S) (done : List Effect) → Swept ended bytes among saved P n first c (sweep_events n c.protocol) k done → Comes ended bytes among saved P n first c Sweep k done
swept_all ended bytes among saved P n first c k done h = record {
  ranks = h.ranks;
  does = record { now = first; same = λ r b logs. refl; comes = h.does };
  members = h.members;
}

-- each event keeps what is kept
kept_steps : {S : Type 0} (P : Stepping S) (n : ℕ) (c : definition.Core S) (es : List Event) → IsKeptPausing P n c → IsKeptPausing P n (steps_of (stepping P) n c es)
kept_steps P n c [] h = h
kept_steps P n c (e ∷ es) h = kept_steps P n (step_of (stepping P) n c e) es (each_on P n c (Core_does (Single e)) h)

regular_steps : {S : Type 0} (P : Stepping S) (n : ℕ) (c : definition.Core S) (es : List Event) → IsKeptPausing P n c → Regular n (steps_of (stepping P) n c es)
regular_steps P n c es h = regular_pausing P n (steps_of (stepping P) n c es) (kept_steps P n c es h)

-- one event more, one receiver more, and one sender more
times_then : (es : List Event) (k : ℕ) (e : Event) → (es ++ times k e) ++ e ∷ [] ≡ es ++ times (k + 1) e
times_then es k e = let next : suc k ≡ k + 1 = omega arith in append_assoc es (times k e) (e ∷ []) ∙ ap (λ l. es ++ l) (sym (times_more k e)) ∙ ap (λ z. es ++ times z e) next

pub row_then : (es : List Event) (e : ℕ → Event) (count : ℕ → ℕ) (i k : ℕ) → k ≡ count i → (es ++ row_events e count (below i)) ++ times k (e i) ≡ es ++ row_events e count (below (i + 1))
row_then es e count i k same = let next : suc i ≡ i + 1 = omega arith in
    ap (λ z. (es ++ row_events e count (below i)) ++ times z (e i)) same ∙ append_assoc es (row_events e count (below i)) (times (count i) (e i)) ∙ ap (λ l. es ++ l) (sym (row_more e count i)) ∙ ap (λ z. es ++ row_events e count (below z)) next

pub pairs_then : (n : ℕ) (es : List Event) (e : ℕ → ℕ → Event) (count : ℕ → ℕ → ℕ) (i : ℕ) → (es ++ pair_events n e count (below i)) ++ row_events (e i) (count i) (below n) ≡ es ++ pair_events n e count (below (i + 1))
pairs_then n es e count i = let next : suc i ≡ i + 1 = omega arith in
    append_assoc es (pair_events n e count (below i)) (row_events (e i) (count i) (below n)) ∙ ap (λ l. es ++ l) (sym (pair_more n e count i)) ∙ ap (λ z. es ++ pair_events n e count (below z)) next

pub swept_as : {S : Type 0} {ended : S → Option End} {bytes among : S → ℕ} {saved : S → RankState} {P : Ranks S} {n : ℕ} {first : ℕ → ℕ} {c : definition.Core S} {es fs : List Event} {k : Core S} {done : List Effect} → es ≡ fs → Swept ended bytes among saved P n first c es k done → Swept ended bytes among saved P n first c fs k done
swept_as {S} {ended} {bytes} {among} {saved} {P} {n} {first} {c} {es} {fs} {k} {done} e h = subst (λ z. Swept ended bytes among saved P n first c z k done) e h

pub swept_times : {S : Type 0} (ended : S → Option End) (bytes among : S → ℕ) (saved : S → RankState) (P : Stepping S) (n : ℕ) (first : ℕ → ℕ) (c : definition.Core S) (es : List Event) (i : ℕ) (t : Traffic) (s r : ℕ) (old new : Core S) (done more all : List Effect)
    → all ≡ done ++ more → IsKeptPausing P n c → Swept ended bytes among saved (stepping P) n first c (es ++ times i (taken t s r)) old done
    → ((turns : Ranks S) (n : ℕ) (first : ℕ → ℕ) (c : definition.Core S) → Regular n c → IsCore ended bytes among n first old c → Comes ended bytes among saved turns n first c (Single (taken t s r)) new more)
    → Swept ended bytes among saved (stepping P) n first c (es ++ times (i + 1) (taken t s r)) new all
swept_times ended bytes among saved P n first c es i t s r old new done more all is kept was comes = let so_far = es ++ times i (taken t s r) in
    subst (λ z. Swept ended bytes among saved (stepping P) n first c (es ++ times (i + 1) (taken t s r)) new z) (sym is) (swept_as (times_then es i (taken t s r))
    (swept_more ended bytes among saved (stepping P) n first c so_far t s r old new done more was
    (comes (stepping P) n first (steps_of (stepping P) n c so_far) (regular_steps P n c so_far kept) (is_core ended bytes among saved (stepping P) n first c so_far old done was))))

-- what each part of a sweep leaves as it is
pub record StillStands {S : Type 0} (ended : S → Option End) (bytes among serial : S → ℕ) (turned : ℕ → S → Stepped S) (answered : S → Reply → S) (again : (limit : ℕ) (s : S) (w : Want) → (turned limit s).stop ≡ Asks w → turned limit (turned limit s).machine ≡ turned limit s) (old new : Core S) : Type 0 where
  pub stands : StandsSo ended bytes among serial turned answered again old.events new
  pub events : new.events ≡ old.events
  pub ranks : new.network.ranks ≡ old.network.ranks

pub still_now : {S : Type 0} (ended : S → Option End) (bytes among serial : S → ℕ) (turned : ℕ → S → Stepped S) (answered : S → Reply → S) (again : (limit : ℕ) (s : S) (w : Want) → (turned limit s).stop ≡ Asks w → turned limit (turned limit s).machine ≡ turned limit s) (old new : Core S) → StillStands ended bytes among serial turned answered again old new
    → StandsSo ended bytes among serial turned answered again new.events new
still_now ended bytes among serial turned answered again old new h = subst (λ z. StandsSo ended bytes among serial turned answered again z new) (sym h.events) h.stands

pub still_then : {S : Type 0} (ended : S → Option End) (bytes among serial : S → ℕ) (turned : ℕ → S → Stepped S) (answered : S → Reply → S) (again : (limit : ℕ) (s : S) (w : Want) → (turned limit s).stop ≡ Asks w → turned limit (turned limit s).machine ≡ turned limit s) (old now new : Core S) → StillStands ended bytes among serial turned answered again old now
    → StandsSo ended bytes among serial turned answered again now.events new → new.events ≡ now.events → new.network.ranks ≡ now.network.ranks → StillStands ended bytes among serial turned answered again old new
still_then ended bytes among serial turned answered again old now new h stands events ranks = record {
  stands = subst (λ z. StandsSo ended bytes among serial turned answered again z new) h.events stands;
  events = events ∙ h.events;
  ranks = ranks ∙ h.ranks;
}

-- an event keeps the number of ranks
pub ranks_kept : {S : Type 0} (ended : S → Option End) (bytes among serial : S → ℕ) (saved : S → RankState) (turned : ℕ → S → Stepped S) (answered : S → Reply → S) (again : (limit : ℕ) (s : S) (w : Want) → (turned limit s).stop ≡ Asks w → turned limit (turned limit s).machine ≡ turned limit s) (events : ℕ) (t : Traffic) (s r : ℕ) (old new : Core S) (more : List Effect)
    → StandsSo ended bytes among serial turned answered again events old → ((turns : Ranks S) (n : ℕ) (first : ℕ → ℕ) (c : definition.Core S) → Regular n c → IsCore ended bytes among n first old c → Comes ended bytes among saved turns n first c (Single (taken t s r)) new more) → new.network.ranks ≡ old.network.ranks
ranks_kept ended bytes among serial saved turned answered again events t s r old new more h comes =
    let P = stepping_of h.6 turned answered again in
    (comes (stepping P) h.0 h.1 h.2 (regular_pausing P h.0 h.2 h.7) h.3).ranks ∙ sym h.3.ranks

-- how many items each pair has, as a table of so many ranks says
pub counted : {A : Type 0} (ranks n now : ℕ) (rows : List (List (List A))) (held : ℕ → ℕ → List A) (counts table : List (List ℕ)) → ranks ≡ n → now ≡ ranks → table ≡ counts → Pairs n rows held → (Pairs ranks rows held → Pairs ranks counts (λ s r. length (held s r))) → Pairs now table (λ s r. length (held s r))
counted ranks n now rows held counts table ranks_is now_is table_is h count = subst (λ z. Pairs z table (λ s r. length (held s r))) (sym now_is)
    (subst (λ z. Pairs ranks z (λ s r. length (held s r))) (sym table_is) (count (subst (λ z. Pairs z rows held) (sym ranks_is) h)))

-- first all controls and then all messages
pub swept_both : {S : Type 0} (ended : S → Option End) (bytes among : S → ℕ) (saved : S → RankState) (P : Ranks S) (n : ℕ) (first : ℕ → ℕ) (c : definition.Core S) (old half new : Core S) (none some all : List Effect) → none ≡ [] → IsCore ended bytes among n first old c
    → (Swept ended bytes among saved P n first c [] old none → Swept ended bytes among saved P n first c ([] ++ pair_events n (taken Controls) (λ s r. length (c.protocol.control s r)) (below n)) half some)
    → ((es : List Event) → Swept ended bytes among saved P n first c es half some → Swept ended bytes among saved P n first c (es ++ pair_events n (taken Messages) (λ s r. length (c.protocol.channel s r)) (below n)) new all)
    → Comes ended bytes among saved P n first c Sweep new all
swept_both ended bytes among saved P n first c old half new none some all is h controls messages = swept_all ended bytes among saved P n first c new all
    (messages (pair_events n (taken Controls) (λ s r. length (c.protocol.control s r)) (below n)) (controls (subst (λ z. Swept ended bytes among saved P n first c [] old z) (sym is) (swept_none ended bytes among saved P n first c old h))))
