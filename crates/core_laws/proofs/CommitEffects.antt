-- Where an event takes the line on, its effects say so.
use Rattle.std.proofs.Common.{◌≡◌, ℕ, suc, ◌<◌, Bool, true, false, not, List, [], ◌∷◌, ◌++◌, sym, refl, ap, ◌∙◌, subst, ⊎_elim, arith}
use Rattle.std.specs.Prelude.{◌&&◌, nat_lt, if◌then◌else◌}
use Rattle.std.proofs.lemmas.Bool.{cond_both, cond-true, and_from, cases_eq}
use Rattle.std.proofs.lemmas.List.{append_assoc}
use Rattle.mpi_words.specs.declared.control.Control.{Control}
use Rattle.mpi_words.specs.declared.control.Control.TheVariants.{Request, Count, Ready, Stop, Stopped, Restored}
use Rattle.core_laws.specs.Rows.{set_at}
use Rattle.core_laws.specs.Protocol.{Protocol, move_told, move_pop, move_stop}
use Rattle.core_laws.specs.Process.{Ranks}
use Rattle.core_laws.specs.Quiet.{Event, Turn, Deliver, Handle, Begin_wave}
use Rattle.core_laws.specs.Handling.{notes, handles, all_below, protocol_after}
use Rattle.core_laws.specs.Replay.{may_turn}
use Rattle.core_laws.specs.Core.{Core, step_of, steps_of, core_turned, core_delivers, core_handled, core_began, may_begin, accepts, is_back, one_turned}
use Rattle.core_laws.specs.CoreEvents.{Core_event, Single, Sweep, Kill, next_of, sweep_events}
use Rattle.core_laws.specs.Effects.{Effect, Commits, control_effects, step_effects_of, steps_effects_of, effects_of, Has}
use Rattle.core_laws.proofs.PromptKept.{wave_after, wave_then_ready}
use Rattle.core_laws.proofs.SweepTracks.{line_step, wave_delivers, restored_line}
use Rattle.core_laws.proofs.Noting.{ready_cases, stopped_cases}

has_left : {A : Type 0} (xs ys : List A) (x : A) → Has xs x → Has (xs ++ ys) x
has_left xs ys x h = record { before = h.before; after = h.after ++ ys; split = ap (λ l. l ++ ys) h.split ∙ append_assoc h.before (x ∷ h.after) ys }

has_right : {A : Type 0} (xs ys : List A) (x : A) → Has ys x → Has (xs ++ ys) x
has_right xs ys x h = record { before = xs ++ h.before; after = h.after; split = ap (λ l. xs ++ l) h.split ∙ sym (append_assoc xs h.before (x ∷ h.after)) }

handled_commits : {S : Type 0} (n : ℕ) (c : Core S) (s r : ℕ) (q : List Control) → (handles n c.protocol s r q).wave.line ≡ suc c.protocol.wave.line → Has (control_effects n c s r q) (Commits (suc c.protocol.wave.line))
handled_commits n c s r [] h = absurd (omega (arith, h))
handled_commits n c s r (Request l ∷ rest) h = absurd (omega (arith, h))
handled_commits n c s r (Count l k ∷ rest) h = absurd (omega (arith, h, ap (λ w. w.line) (wave_then_ready n (move_told c.protocol s r k rest) r)))
handled_commits n c s r (Ready l ∷ rest) h = absurd (omega (arith, h, ready_cases n c.protocol s r l rest (λ (q : Protocol). q.wave.line ≡ c.protocol.wave.line) (λ _ _. refl) (λ _ _. refl) (λ _. refl)))
handled_commits n c s r (Stop l ∷ rest) h = absurd (omega (arith, h, cond_both (c.protocol.layer r).logging (move_stop (move_pop c.protocol s r rest) r) (move_pop c.protocol s r rest) (λ (q : Protocol). q.wave.line ≡ c.protocol.wave.line) (λ e. refl) (λ e. refl)))
handled_commits {S} n c s r (Stopped l ∷ rest) h = let one : List (Effect S) = Commits (suc c.protocol.wave.line) ∷ [] in
    stopped_cases n c.protocol s r l rest (λ (q : Protocol). q.wave.line ≡ suc c.protocol.wave.line → Has {A = Effect S} (control_effects n c s r (Stopped l ∷ rest)) (Commits (suc c.protocol.wave.line)))
    (λ noted e _. subst (λ es. Has {A = Effect S} es (Commits (suc c.protocol.wave.line))) (sym (cond-true (notes c.protocol.wave l (c.protocol.wave.stopped s) && all_below n (set_at c.protocol.wave.stopped s true)) one [] (and_from (notes c.protocol.wave l (c.protocol.wave.stopped s)) (all_below n (set_at c.protocol.wave.stopped s true)) noted e))) (record { before = []; after = []; split = refl }))
    (λ _ _ e. absurd (omega (arith, e)))
    (λ _ e. absurd (omega (arith, e)))
    h
handled_commits n c s r (Restored ∷ rest) h = absurd (omega (arith, h))

step_commits : {S : Type 0} (P : Ranks S) (n : ℕ) (c : Core S) (e : Event) → (step_of P n c e).protocol.wave.line ≡ suc c.protocol.wave.line → Has (step_effects_of P n c e) (Commits (suc c.protocol.wave.line))
step_commits {S} P n c (Turn r) h = absurd (omega (
  arith,
  h,
  cond_both (nat_lt r n && (not (c.killed r) && may_turn (c.one r).log (c.one r).left)) (core_turned n c r (P.turn_of (c.one r).rank)) c (λ (d : Core S). d.protocol.wave.line ≡ c.protocol.wave.line)
      (λ e. ap (λ w. w.line) (restored_line (is_back (c.one r)) (is_back (one_turned (c.one r) (P.turn_of (c.one r).rank))) (protocol_after n c.protocol r (P.turn_of (c.one r).rank).did) r ∙ wave_after n c.protocol r (P.turn_of (c.one r).rank).did)) (λ e. refl),
))
step_commits {S} P n c (Deliver s r) h = absurd (omega (
  arith,
  h,
  cond_both (nat_lt s n && (nat_lt r n && (not (c.killed r) && accepts (c.one r).log (c.one r).left s))) (core_delivers n c s r (c.protocol.channel s r)) c (λ (d : Core S). d.protocol.wave.line ≡ c.protocol.wave.line)
      (λ e. ap (λ w. w.line) (wave_delivers n c s r (c.protocol.channel s r))) (λ e. refl),
))
step_commits {S} P n c (Handle s r) h = go (nat_lt s n && (nat_lt r n && not (c.killed r))) h
  where
    go : (b : Bool) → (if b then core_handled c (handles n c.protocol s r (c.protocol.control s r)) else c).protocol.wave.line ≡ suc c.protocol.wave.line → Has {A = Effect S} (if b then control_effects n c s r (c.protocol.control s r) else []) (Commits (suc c.protocol.wave.line))
    go true e = handled_commits n c s r (c.protocol.control s r) e
    go false e = absurd (omega (arith, e))
step_commits {S} P n c Begin_wave h = absurd (omega (arith, h, cond_both (may_begin n c) (core_began c) c (λ (d : Core S). d.protocol.wave.line ≡ c.protocol.wave.line) (λ e. refl) (λ e. refl)))

steps_commits : {S : Type 0} (P : Ranks S) (n L : ℕ) (es : List Event) (c : Core S) → c.protocol.wave.line ≡ L → L < (steps_of P n c es).protocol.wave.line → Has (steps_effects_of P n c es) (Commits (suc L))
steps_commits P n L [] c at h = absurd (omega (arith, at, h))
steps_commits {S} P n L (e ∷ es) c at h = ⊎_elim
    (λ d. has_right (step_effects_of P n c e) (steps_effects_of P n (step_of P n c e) es) (Commits (suc L)) (steps_commits P n L es (step_of P n c e) d h))
    (λ d. has_left (step_effects_of P n c e) (steps_effects_of P n (step_of P n c e) es) (Commits (suc L)) (subst (λ k. Has {A = Effect S} (step_effects_of P n c e) (Commits (suc k))) at (step_commits P n c e (omega (arith, at, d, line_step P n c e)))))
    (cases_eq (step_of P n c e).protocol.wave.line L)

pub next_commits : {S : Type 0} (P : Ranks S) (n : ℕ) (c : Core S) (e : Core_event) → c.protocol.wave.line < (next_of P n c e).protocol.wave.line → Has (effects_of P n c e) (Commits (suc c.protocol.wave.line))
next_commits P n c (Single e) h = step_commits P n c e (omega (arith, h, line_step P n c e))
next_commits P n c Sweep h = steps_commits P n c.protocol.wave.line (sweep_events n c.protocol) c refl h
next_commits {S} P n c (Kill r) h = absurd (omega (arith, h, cond_both (nat_lt r n) (record c { killed = set_at c.killed r true }) c (λ (d : Core S). d.protocol.wave.line ≡ c.protocol.wave.line) (λ e. refl) (λ e. refl)))
