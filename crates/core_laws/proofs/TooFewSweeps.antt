-- Three sweeps are too few, already for one rank; and the definitions compute.
use Rattle.std.proofs.Common.{◌≡◌, ◌<◌, ℕ, zero, suc, List, [], ◌∷◌, ◌++◌, refl, arith}
use Rattle.mpi_words.specs.declared.operation.Op.TheVariants.{Output, Mark}
use Rattle.core_laws.specs.Rows.{set_at}
use Rattle.core_laws.specs.Process.{Process, Want, Wants, turn}
use Rattle.core_laws.specs.Quiet.{Turn, Begin_wave}
use Rattle.core_laws.specs.Sweeps.{AllSaved}
use Rattle.core_laws.specs.Core.{Core, last_line}
use Rattle.core_laws.specs.CoreEvents.{Single, Sweep, Session_event, Core_does, session, start}

-- rank 0 makes one output and then marks, the others mark
abbrev first : ℕ → ℕ
first zero = 1
first (suc r) = 0

abbrev wanted : ℕ → Want
wanted zero = Wants Mark
wanted (suc k) = Wants (Output [])

abbrev less : ℕ → ℕ
less zero = zero
less (suc k) = k

abbrev marks : Process ℕ
marks = record { begin = first; want = wanted; answer = λ s _. less s }

abbrev after : ℕ → List Session_event → Core ℕ
after n es = session marks n (start marks) es

abbrev s : Session_event
s = Core_does Sweep

-- w s t0*2
abbrev one_saved : List Session_event
one_saved = Core_does (Single Begin_wave) ∷ s ∷ Core_does (Single (Turn 0)) ∷ Core_does (Single (Turn 0)) ∷ []

-- w s t0*2 t1
abbrev two_saved : List Session_event
two_saved = one_saved ++ Core_does (Single (Turn 1)) ∷ []

pub three : (after 1 (one_saved ++ s ∷ s ∷ s ∷ [])).protocol.wave.line ≡ 0
unfolding set_at turn last_line
three = refl

pub four : (after 1 (one_saved ++ s ∷ s ∷ s ∷ s ∷ [])).protocol.wave.line ≡ 1
unfolding set_at turn last_line
four = refl

pub three_of_two : (after 2 (two_saved ++ s ∷ s ∷ s ∷ [])).protocol.wave.line ≡ 0
unfolding set_at turn last_line
three_of_two = refl

pub four_of_two : (after 2 (two_saved ++ s ∷ s ∷ s ∷ s ∷ [])).protocol.wave.line ≡ 1
unfolding set_at turn last_line
four_of_two = refl

-- the state before the sweeps is one of those that are meant
below_two : (r : ℕ) → r < 2 → ((after 2 two_saved).protocol.layer r).epoch ≡ 1
unfolding set_at turn last_line
below_two zero b = refl
below_two (suc zero) b = refl
below_two (suc (suc r)) b = absurd (omega arith)

pub saved_of_two : AllSaved 2 (after 2 two_saved)
unfolding set_at turn last_line
saved_of_two = record { way = refl; saved = below_two; alive = λ r b. refl }
