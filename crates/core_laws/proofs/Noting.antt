-- A Ready or Stopped that rank 0 handles: it is noted, and may be the last of its kind, or it is left out.
use Rattle.std.proofs.Common.{◌≡◌, ℕ, true, false, List, ◌∷◌}
use Rattle.std.proofs.lemmas.Bool.{cond_both}
use Rattle.mpi_words.specs.declared.control.Control.{Control}
use Rattle.mpi_words.specs.declared.control.Control.TheVariants.{Ready, Stopped}
use Rattle.core_laws.specs.Rows.{set_at}
use Rattle.core_laws.specs.Protocol.{Protocol, move_pop, move_note_ready, move_note_stopped, move_tell_stop, move_commit}
use Rattle.core_laws.specs.Handling.{handles, all_below, notes, then_tell_stop, then_commit}

pub ready_cases : (n : ℕ) (p : Protocol) (s r l : ℕ) (rest : List Control) (Q : Protocol → Type 0)
    → (notes p.wave l (p.wave.ready s) ≡ true → all_below n (set_at p.wave.ready s true) ≡ true → Q (move_tell_stop (move_note_ready p s r rest)))
    → (notes p.wave l (p.wave.ready s) ≡ true → all_below n (set_at p.wave.ready s true) ≡ false → Q (move_note_ready p s r rest))
    → (notes p.wave l (p.wave.ready s) ≡ false → Q (move_pop p s r rest))
    → Q (handles n p s r (Ready l ∷ rest))
ready_cases n p s r l rest Q last more none = let q = move_note_ready p s r rest in
    cond_both (notes p.wave l (p.wave.ready s)) (then_tell_stop n q) (move_pop p s r rest) Q (λ e. cond_both (all_below n q.wave.ready) (move_tell_stop q) q Q (last e) (more e)) none

pub stopped_cases : (n : ℕ) (p : Protocol) (s r l : ℕ) (rest : List Control) (Q : Protocol → Type 0)
    → (notes p.wave l (p.wave.stopped s) ≡ true → all_below n (set_at p.wave.stopped s true) ≡ true → Q (move_commit (move_note_stopped p s r rest)))
    → (notes p.wave l (p.wave.stopped s) ≡ true → all_below n (set_at p.wave.stopped s true) ≡ false → Q (move_note_stopped p s r rest))
    → (notes p.wave l (p.wave.stopped s) ≡ false → Q (move_pop p s r rest))
    → Q (handles n p s r (Stopped l ∷ rest))
stopped_cases n p s r l rest Q last more none = let q = move_note_stopped p s r rest in
    cond_both (notes p.wave l (p.wave.stopped s)) (then_commit n q) (move_pop p s r rest) Q (λ e. cond_both (all_below n q.wave.stopped) (move_commit q) q Q (last e) (more e)) none
