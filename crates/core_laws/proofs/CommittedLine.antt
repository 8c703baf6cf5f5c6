-- Where an event commits a line, the images and logs stand for the cut.
use Rattle.std.proofs.Common.{◌≡◌, ℕ, suc, ◌<◌, true, false, not, List, [], ◌∷◌, sym, refl, subst, arith}
use Rattle.std.specs.Prelude.{◌&&◌, ◌==◌}
use Rattle.std.proofs.lemmas.Bool.{cond_both, and_parts}
use Rattle.mpi_words.specs.declared.control.Control.{Control}
use Rattle.mpi_words.specs.declared.control.Control.TheVariants.{Request, Count, Ready, Stop, Stopped, Restored}
use Rattle.core_laws.specs.Protocol.{Protocol, move_stop, move_pop, move_told, move_note_stopped}
use Rattle.core_laws.specs.Written.{Written}
use Rattle.core_laws.specs.Process.{Process, Rank}
use Rattle.core_laws.specs.Handling.{handles, all_below}
use Rattle.core_laws.proofs.RankMoves
use Rattle.core_laws.specs.Invariant.{up_kept, Kept, Invariant, Allowed}
use Rattle.std.specs.List.{AllByRecursion}
use Rattle.core_laws.specs.Line.{quiet_of}
use Rattle.core_laws.specs.Kept.{HasLine, Committed}
use Rattle.core_laws.proofs.MovesKept.{kept_note_stopped}
use Rattle.core_laws.proofs.EventsKept.{all_below-at, stopped_comes}
use Rattle.core_laws.proofs.WaveLines.{commits, line_calm, calm_refl, ready_wave}
use Rattle.core_laws.proofs.Noting.{ready_cases, stopped_cases}

never : {X : Type 0} → (L : ℕ) → L < L → X
never L e = absurd (omega arith)

pub committed_handle : {S : Type 0} (P : Process S) (n : ℕ) (rank : ℕ → Rank S) (p : Protocol) (v : ℕ → Written S) (s r : ℕ) (c : List Control) → s < n → p.control s r ≡ c → Invariant n p → (p.wave.under_way ≡ true → HasLine P n rank p v) → p.wave.line < (handles n p s r c).wave.line → Committed P n v
committed_handle P n rank p v s r [] a is i h e = never p.wave.line e
committed_handle P n rank p v s r (Request l ∷ rest) a is i h e = never p.wave.line e
committed_handle P n rank p v s r (Count l k ∷ rest) a is i h e = never p.wave.line (subst (λ w. p.wave.line < w.line) (ready_wave n (move_told p s r k rest) r) e)
committed_handle P n rank p v s r (Ready l ∷ rest) a is i h e = never p.wave.line (subst (λ y. p.wave.line < y) (ready_cases n p s r l rest (λ z. z.wave.line ≡ p.wave.line) (λ _ _. refl) (λ _ _. refl) (λ _. refl)) e)
committed_handle P n rank p v s r (Stop l ∷ rest) a is i h e = never p.wave.line (subst (λ y. p.wave.line < y) (cond_both (p.layer r).logging (move_stop (move_pop p s r rest) r) (move_pop p s r rest) (λ z. z.wave.line ≡ p.wave.line) (λ d. refl) (λ d. refl)) e)
committed_handle P n rank p v s r (Restored ∷ rest) a is i h e = never p.wave.line e
committed_handle {S} P n rank p v s r (Stopped l ∷ rest) a is i h e = stopped_cases n p s r l rest (λ q. p.wave.line < q.wave.line → Committed P n v) (λ _ d _. yes d) (λ _ _. never p.wave.line) (λ _. never p.wave.line) e
  where
    noted : Protocol
    noted = move_note_stopped p s r rest

    zero_is : r ≡ 0
    zero_is = (subst (λ c. AllByRecursion (Allowed s r) c) is (i.origins s r)).0

    way : p.wave.under_way ≡ true
    way = (and_parts p.wave.under_way ((l == suc p.wave.line) && not (p.wave.stopped s)) (stopped_comes n p s r l rest a is i)).0

    kept : Kept n noted
    kept = subst (λ z. p.control s z ≡ Stopped l ∷ rest → Kept n (move_note_stopped p s z rest)) (sym zero_is) (λ w. kept_note_stopped n p s l rest w i.kept) is

    line : HasLine P n rank noted v
    line = line_calm P n rank p noted v (calm_refl n p noted refl refl (λ w. (w, refl))) way (h way)

    yes : all_below n noted.wave.stopped ≡ true → Committed P n v
    yes d = record { journal = line.cut.journal; written = line.written; line = quiet_of line.cut; stand = commits P n rank noted v (all_below-at n noted.wave.stopped d) kept line }

-- then all have saved, and stopped
pub committed_saved : (n : ℕ) (p : Protocol) (s r : ℕ) (c : List Control) → p.control s r ≡ c → Invariant n p → p.wave.line < (handles n p s r c).wave.line → (x : ℕ) → x < n → ((p.layer x).epoch ≡ suc p.wave.line) × ((p.layer x).logging ≡ false)
committed_saved n p s r [] is i e = never p.wave.line e
committed_saved n p s r (Request l ∷ rest) is i e = never p.wave.line e
committed_saved n p s r (Count l k ∷ rest) is i e = never p.wave.line (subst (λ w. p.wave.line < w.line) (ready_wave n (move_told p s r k rest) r) e)
committed_saved n p s r (Ready l ∷ rest) is i e = never p.wave.line (subst (λ y. p.wave.line < y) (ready_cases n p s r l rest (λ z. z.wave.line ≡ p.wave.line) (λ _ _. refl) (λ _ _. refl) (λ _. refl)) e)
committed_saved n p s r (Stop l ∷ rest) is i e = never p.wave.line (subst (λ y. p.wave.line < y) (cond_both (p.layer r).logging (move_stop (move_pop p s r rest) r) (move_pop p s r rest) (λ z. z.wave.line ≡ p.wave.line) (λ d. refl) (λ d. refl)) e)
committed_saved n p s r (Restored ∷ rest) is i e = never p.wave.line e
committed_saved n p s r (Stopped l ∷ rest) is i e = stopped_cases n p s r l rest (λ q. p.wave.line < q.wave.line → (x : ℕ) → x < n → ((p.layer x).epoch ≡ suc p.wave.line) × ((p.layer x).logging ≡ false)) (λ _ d _. yes d) (λ _ _. never p.wave.line) (λ _. never p.wave.line) e
  where
    noted : Protocol
    noted = move_note_stopped p s r rest

    kept : Kept n noted
    kept = subst (λ z. p.control s z ≡ Stopped l ∷ rest → Kept n (move_note_stopped p s z rest)) (sym (subst (λ c. AllByRecursion (Allowed s r) c) is (i.origins s r)).0) (λ w. kept_note_stopped n p s l rest w i.kept) is

    yes : all_below n noted.wave.stopped ≡ true → (x : ℕ) → x < n → ((p.layer x).epoch ≡ suc p.wave.line) × ((p.layer x).logging ≡ false)
    yes d x a = RankMoves.noted_is_stopped p.wave.line (noted.wave.ready x) (p.layer x).epoch (p.layer x).logging (p.layer x).was_ready (noted.control x 0) (subst (λ t. up_kept noted.wave (noted.wave.ready x) t (p.layer x) (noted.control x 0)) (all_below-at n noted.wave.stopped d x a) (kept.up x a))
