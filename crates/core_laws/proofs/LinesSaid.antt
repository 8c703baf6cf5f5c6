-- Each Ready and Stopped on the way says the line of the wave under way.
use Rattle.std.proofs.Common.{◌≡◌, ℕ, suc, ◌<◌, Bool, true, false, not, List, [], ◌∷◌, ◌++◌, ap, subst, arith}
use Rattle.std.specs.Prelude.{◌&&◌, ◌==◌}
use Rattle.std.specs.List.{AllByRecursion}
use Rattle.mpi_words.specs.declared.control.Control.{Control}
use Rattle.mpi_words.specs.declared.control.Control.TheVariants.{Request, Count, Ready, Stop, Stopped, Restored}
use Rattle.core_laws.specs.Rows.{set_at, set_pair}
use Rattle.core_laws.specs.Protocol.{Protocol, move_commit, told_restored}
use Rattle.core_laws.specs.Invariant.{Kept, bit, up_kept, readies_on, stoppeds_on}
use Rattle.core_laws.specs.Says.{OfLine, Says}
use Rattle.core_laws.proofs.Changes.{push_pair, push_row, pop_pair}
use Rattle.core_laws.proofs.PairMoves.{all-push}
use Rattle.core_laws.proofs.RankMoves as rank_laws

-- the channels to rank 0 after a change
abbrev pub Said : ℕ → ℕ → (ℕ → ℕ → List Control) → Type 0
Said n L c = (x : ℕ) → x < n → AllByRecursion (OfLine L) (c x 0)

pub said_push : (n L : ℕ) (c : ℕ → ℕ → List Control) (a b : ℕ) (y : Control) → OfLine L y → Said n L c → Said n L (set_pair c a b (c a b ++ y ∷ []))
said_push n L c a b y e h x d = push_pair (AllByRecursion (OfLine L)) c a b y x 0 (λ l k. all-push (OfLine L) l y k e) (h x d)

pub said_row : (n L : ℕ) (c : ℕ → ℕ → List Control) (a : ℕ) (y : ℕ → Control) → OfLine L (y 0) → Said n L c → Said n L (set_at c a (λ z. c a z ++ y z ∷ []))
said_row n L c a y e h x d = push_row (AllByRecursion (OfLine L)) c a y x 0 (λ l k. all-push (OfLine L) l (y 0) k e) (h x d)

pub said_pop : (n L : ℕ) (c : ℕ → ℕ → List Control) (a b : ℕ) (y : Control) (rest : List Control) → c a b ≡ y ∷ rest → Said n L c → Said n L (set_pair c a b rest)
said_pop n L c a b y rest is h x d = pop_pair (AllByRecursion (OfLine L)) c a b y rest x 0 is (λ k. k.1) (h x d)

-- with no Ready and no Stopped on it, a channel says what one likes
nothing_said : (L : ℕ) (c : List Control) → readies_on c ≡ 0 → stoppeds_on c ≡ 0 → AllByRecursion (OfLine L) c
nothing_said L [] a b = tt
nothing_said L (Ready l ∷ c) a b = absurd (omega arith)
nothing_said L (Stopped l ∷ c) a b = absurd (omega arith)
nothing_said L (Request l ∷ c) a b = (tt, nothing_said L c a b)
nothing_said L (Count l k ∷ c) a b = (tt, nothing_said L c a b)
nothing_said L (Stop l ∷ c) a b = (tt, nothing_said L c a b)
nothing_said L (Restored ∷ c) a b = (tt, nothing_said L c a b)

pub said_commit : (n : ℕ) (q : Protocol) → ((x : ℕ) → x < n → q.wave.stopped x ≡ true) → Kept n q → Says n (move_commit q)
said_commit n q all kept x d = nothing_said (suc (suc q.wave.line)) (q.control x 0)
    (omega (arith, (kept.up x d).readies, ap bit (kept.noted ((kept.rank x d).stopped noted.0 noted.1) x d), rank_laws.bit_most (((q.layer x).epoch == suc q.wave.line) && (q.layer x).was_ready)))
    (omega (arith, (kept.up x d).stoppeds, ap bit (all x d), rank_laws.bit_most (((q.layer x).epoch == suc q.wave.line) && not (q.layer x).logging)))
  where
    noted : ((q.layer x).epoch ≡ suc q.wave.line) × ((q.layer x).logging ≡ false)
    noted = rank_laws.noted_is_stopped q.wave.line (q.wave.ready x) (q.layer x).epoch (q.layer x).logging (q.layer x).was_ready (q.control x 0) (subst (λ t. up_kept q.wave (q.wave.ready x) t (q.layer x) (q.control x 0)) (all x d) (kept.up x d))

pub said_restored : (L : ℕ) (b : Bool) → AllByRecursion (OfLine L) (told_restored b)
said_restored L true = tt
said_restored L false = (tt, tt)
