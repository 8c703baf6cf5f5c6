-- Rank 0's wave takes what the wave of the definition takes.
use Rattle.std.proofs.Common.{◌+◌, replicate, ◌≡◌, ℕ, suc, ◌<◌, Bool, true, false, not, ◌&&◌, cond, eqb, List, get_or, slice_set, Some, None, sym, refl, ap, ◌∙◌, subst, arith}
use Rattle.std.proofs.lemmas.Bool.{eqb-true, and_parts, lt-ltb}
use Rattle.mpi_words.specs.declared.control.Control.TheVariants.{Ready, Stopped}
use Rattle.core_laws.specs.Rows.{set_at}
use Rattle.core_laws.specs.Protocol.{Wave, wave_start, wave_note_ready, wave_note_stopped}
use Rattle.core_laws.specs.Handling.{all_below, notes}
use Rattle.core_laws.specs.Ties.{Are}
use Rattle.core_laws.specs.Core.{last_line}
use Rattle.core_laws.proofs.Tied.{are_set, are_all}
use Rattle.wave_commit.specs.declared.wave.Started.TheVariants.{Started, NotNow}
use Rattle.wave_commit.specs.declared.wave.NotNow.TheVariants.{LastLine}
use Rattle.wave_commit.specs.declared.wave.Next.TheVariants.{Nothing, TellStop, Commit}
use Rattle.wave_commit.specs.Waves.{Noted, IsWave, first_failing, lowest_failing, is_new, next_of, wave_after, line_of, start_of}

new_is : (u : Bool) (its line : ℕ) (b noted : Bool) → (u ≡ true → b ≡ noted) → is_new (cond u (Some (suc its)) None) line b ≡ (u && (eqb line (suc its) && not noted))
new_is true its line b noted h = rw (h refl) refl
new_is false its line b noted h = refl

-- whether a word is noted, by what code keeps
pub new_ready : (n : ℕ) (k : Noted) (w : Wave) (told : ℕ → Bool) (s line : ℕ) (d : Bool) → s < n → IsWave n k w told → is_new k.line line (get_or k.ready s d) ≡ notes w line (w.ready s)
new_ready n k w told s line d b h = ap (λ x. is_new x line (get_or k.ready s d)) h.line ∙ new_is w.under_way w.line line (get_or k.ready s d) (w.ready s) (λ u. (h.ready u).each s d b)

pub new_stopped : (n : ℕ) (k : Noted) (w : Wave) (told : ℕ → Bool) (s line : ℕ) (d : Bool) → s < n → IsWave n k w told → is_new k.line line (get_or k.stopped s d) ≡ notes w line (w.stopped s)
new_stopped n k w told s line d b h = ap (λ x. is_new x line (get_or k.stopped s d)) h.line ∙ new_is w.under_way w.line line (get_or k.stopped s d) (w.stopped s) (λ u. (h.stopped u).each s d b)

notes_line : (w : Wave) (line : ℕ) (noted : Bool) → notes w line noted ≡ true → line ≡ suc w.line
notes_line w line noted e = eqb-true line (suc w.line) (and_parts (eqb line (suc w.line)) (not noted) (and_parts w.under_way (eqb line (suc w.line) && not noted) e).1).0

some_fails : (b : Bool) (r m : ℕ) → Some r ≡ cond b None (Some m) → b ≡ false
some_fails true r m e = cc
some_fails false r m e = refl

none_passes : (b : Bool) (m : ℕ) → cond b None (Some m) ≡ None → b ≡ true
none_passes true m e = refl
none_passes false m e = cc

-- One that is noted, while others are waited for, and the last one. Code reads one flag, and then writes it.
noted_ready : (n : ℕ) (k : Noted) (w : Wave) (told : ℕ → Bool) (s line from : ℕ) (b : Bool) → s < n → IsWave n k w told → from ≡ s → b ≡ get_or k.ready from b → is_new k.line line b ≡ true → notes w line (w.ready s) ≡ true
noted_ready n k w told s line from b inside h place read new = sym (new_ready n k w told s line b inside h) ∙ ap (λ x. is_new k.line line x) (sym (read ∙ ap (λ x. get_or k.ready x b) place)) ∙ new

noted_stopped : (n : ℕ) (k : Noted) (w : Wave) (told : ℕ → Bool) (s line from : ℕ) (b : Bool) → s < n → IsWave n k w told → from ≡ s → b ≡ get_or k.stopped from b → is_new k.line line b ≡ true → notes w line (w.stopped s) ≡ true
noted_stopped n k w told s line from b inside h place read new = sym (new_stopped n k w told s line b inside h) ∙ ap (λ x. is_new k.line line x) (sym (read ∙ ap (λ x. get_or k.stopped x b) place)) ∙ new

under : (w : Wave) (line : ℕ) (noted : Bool) → notes w line noted ≡ true → w.under_way ≡ true
under w line noted e = (and_parts w.under_way (eqb line (suc w.line) && not noted) e).0

now_ready : (n : ℕ) (k : Noted) (w : Wave) (told : ℕ → Bool) (s at : ℕ) → s < n → at ≡ s → IsWave n k w told → IsWave n (record k { ready = slice_set k.ready at true }) (wave_note_ready w s) told
now_ready n k w told s at b place h = record { line = h.line; restored = h.restored; ready = λ u. subst (λ x. Are n (slice_set k.ready x true) (set_at w.ready s true)) (sym place) (are_set n k.ready w.ready s true b (h.ready u)); stopped = h.stopped }

now_stopped : (n : ℕ) (k : Noted) (w : Wave) (told : ℕ → Bool) (s at : ℕ) → s < n → at ≡ s → IsWave n k w told → IsWave n (record k { stopped = slice_set k.stopped at true }) (wave_note_stopped w s) told
now_stopped n k w told s at b place h = record { line = h.line; restored = h.restored; ready = h.ready; stopped = λ u. subst (λ x. Are n (slice_set k.stopped x true) (set_at w.stopped s true)) (sym place) (are_set n k.stopped w.stopped s true b (h.stopped u)) }

pub ready_more : (n : ℕ) (k : Noted) (w : Wave) (told : ℕ → Bool) (s line from at r : ℕ) (b : Bool) → s < n → IsWave n k w told → from ≡ s → at ≡ s → b ≡ get_or k.ready from b → is_new k.line line b ≡ true
    → ((m : ℕ) (f : ℕ → Bool) → Are m (slice_set k.ready at true) f → Some r ≡ first_failing m f)
    → (Nothing ≡ next_of n w s (Ready line)) × IsWave n (record k { ready = slice_set k.ready at true }) (wave_after n w s (Ready line)) told
ready_more n k w told s line from at r b inside h place place' read new first = rw (noted, some_fails (all_below n (set_at w.ready s true)) r (lowest_failing n (set_at w.ready s true)) (first n (set_at w.ready s true) (after.ready (under w line (w.ready s) noted)))) (refl, after)
  where
    noted : notes w line (w.ready s) ≡ true
    noted = noted_ready n k w told s line from b inside h place read new

    after : IsWave n (record k { ready = slice_set k.ready at true }) (wave_note_ready w s) told
    after = now_ready n k w told s at inside place' h

pub ready_last : (n : ℕ) (k : Noted) (w : Wave) (told : ℕ → Bool) (s line from at : ℕ) (b : Bool) → s < n → IsWave n k w told → from ≡ s → at ≡ s → b ≡ get_or k.ready from b → is_new k.line line b ≡ true
    → ((m : ℕ) (f : ℕ → Bool) → Are m (slice_set k.ready at true) f → None ≡ first_failing m f)
    → (TellStop line ≡ next_of n w s (Ready line)) × IsWave n (record k { ready = slice_set k.ready at true }) (wave_after n w s (Ready line)) told
ready_last n k w told s line from at b inside h place place' read new first = rw (noted, none_passes (all_below n (set_at w.ready s true)) (lowest_failing n (set_at w.ready s true)) (sym (first n (set_at w.ready s true) (after.ready (under w line (w.ready s) noted)))))
    (ap TellStop (notes_line w line (w.ready s) noted), record { line = after.line; restored = after.restored; ready = after.ready; stopped = after.stopped })
  where
    noted : notes w line (w.ready s) ≡ true
    noted = noted_ready n k w told s line from b inside h place read new

    after : IsWave n (record k { ready = slice_set k.ready at true }) (wave_note_ready w s) told
    after = now_ready n k w told s at inside place' h

pub stopped_more : (n : ℕ) (k : Noted) (w : Wave) (told : ℕ → Bool) (s line from at r : ℕ) (b : Bool) → s < n → IsWave n k w told → from ≡ s → at ≡ s → b ≡ get_or k.stopped from b → is_new k.line line b ≡ true
    → ((m : ℕ) (f : ℕ → Bool) → Are m (slice_set k.stopped at true) f → Some r ≡ first_failing m f)
    → (Nothing ≡ next_of n w s (Stopped line)) × IsWave n (record k { stopped = slice_set k.stopped at true }) (wave_after n w s (Stopped line)) told
stopped_more n k w told s line from at r b inside h place place' read new first = rw (noted, some_fails (all_below n (set_at w.stopped s true)) r (lowest_failing n (set_at w.stopped s true)) (first n (set_at w.stopped s true) (after.stopped (under w line (w.stopped s) noted)))) (refl, after)
  where
    noted : notes w line (w.stopped s) ≡ true
    noted = noted_stopped n k w told s line from b inside h place read new

    after : IsWave n (record k { stopped = slice_set k.stopped at true }) (wave_note_stopped w s) told
    after = now_stopped n k w told s at inside place' h

pub stopped_last : (n : ℕ) (k : Noted) (w : Wave) (told : ℕ → Bool) (s line from at : ℕ) (b : Bool) → s < n → IsWave n k w told → from ≡ s → at ≡ s → b ≡ get_or k.stopped from b → is_new k.line line b ≡ true
    → ((m : ℕ) (f : ℕ → Bool) → Are m (slice_set k.stopped at true) f → None ≡ first_failing m f)
    → (Commit line ≡ next_of n w s (Stopped line)) × IsWave n (record k { line = None; stopped = slice_set k.stopped at true }) (wave_after n w s (Stopped line)) told
stopped_last n k w told s line from at b inside h place place' read new first = rw (noted, none_passes (all_below n (set_at w.stopped s true)) (lowest_failing n (set_at w.stopped s true)) (sym (first n (set_at w.stopped s true) (after.stopped (under w line (w.stopped s) noted)))))
    (ap Commit (notes_line w line (w.stopped s) noted), record { line = refl; restored = h.restored; ready = λ u. cc; stopped = λ u. cc })
  where
    noted : notes w line (w.stopped s) ≡ true
    noted = noted_stopped n k w told s line from b inside h place read new

    after : IsWave n (record k { stopped = slice_set k.stopped at true }) (wave_note_stopped w s) told
    after = now_stopped n k w told s at inside place' h

-- A rank that restores no more.
pub restored_noted : (n : ℕ) (k : Noted) (w : Wave) (told : ℕ → Bool) (s at : ℕ) → s < n → at ≡ s → IsWave n k w told → IsWave n (record k { restored = slice_set k.restored at true }) w (set_at told s true)
restored_noted n k w told s at b place h = record { line = h.line; restored = subst (λ x. Are n (slice_set k.restored x true) (set_at told s true)) (sym place) (are_set n k.restored told s true b h.restored); ready = h.ready; stopped = h.stopped }

-- A start.
idle : (u : Bool) (line : ℕ) → cond u (Some (suc line)) None ≡ None → u ≡ false
idle true line e = cc
idle false line e = refl

all_told : (n : ℕ) (told : ℕ → Bool) → first_failing n told ≡ None → all_below n told ≡ true
all_told n told e = none_passes (all_below n told) (lowest_failing n told) e

pub start_last : (n : ℕ) (w : Wave) (told : ℕ → Bool) → first_failing n told ≡ None → line_of w ≡ None → w.line ≡ 65535 → NotNow LastLine ≡ start_of n w told
unfolding last_line
start_last n w told first line last = rw (all_told n told first, idle w.under_way w.line line, last) refl

pub start_begins : (n : ℕ) (w : Wave) (told : ℕ → Bool) → first_failing n told ≡ None → line_of w ≡ None → w.line < 65535 → Started ≡ start_of n w told
unfolding last_line
start_begins n w told first line before = rw (all_told n told first, idle w.under_way w.line line, lt-ltb w.line 65535 before) refl

pub begun_wave : (n line : ℕ) (k : Noted) (w : Wave) (told : ℕ → Bool) (ready stopped : List Bool) → line ≡ w.line → IsWave n k w told → ready ≡ replicate n false → stopped ≡ replicate n false
    → IsWave n (record { line = Some (line + 1); restored = k.restored; ready = ready; stopped = stopped }) (wave_start w) told
begun_wave n line k w told ready stopped at h r s = record {
  line = ap Some (omega (arith, at));
  restored = h.restored;
  ready = λ u. subst (λ l. Are n l (λ x. false)) (sym r) (are_all n false);
  stopped = λ u. subst (λ l. Are n l (λ x. false)) (sym s) (are_all n false);
}
