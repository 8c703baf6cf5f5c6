-- The entries of files after a stop.
use Rattle.std.proofs.Common.{◌≡◌, ℕ, Bool, true, false, ◌==◌, if◌then◌else◌, List, [], ◌∷◌, ◌++◌, refl, ◌∙◌, ap}
use Rattle.disk_model.specs.declared.calls.Choice.{Choice}
use Rattle.disk_model.specs.declared.calls.Choice.TheVariants.{Written, Old, Fill, Short}
use Rattle.disk_model.specs.declared.file.MemFile.{MemFile}
use Rattle.disk_model.specs.Files.{at_rest, left_by}
use Rattle.disk_model.specs.Stored.{state, state_in}

-- the same files, each stopped
abbrev pub AreStopped : Choice → List MemFile → List MemFile → Type 0
AreStopped choice [] [] = Unit {0}
AreStopped choice [] (n ∷ ns) = ⊥
AreStopped choice (m ∷ ms) [] = ⊥
AreStopped choice (m ∷ ms) (n ∷ ns) = (n.number ≡ m.number) × (state n ≡ at_rest (left_by choice (state m))) × AreStopped choice ms ns

pub stopped-push : (choice : Choice) (ms ns : List MemFile) (m n : MemFile) → AreStopped choice ms ns → n.number ≡ m.number → state n ≡ at_rest (left_by choice (state m)) → AreStopped choice (ms ++ m ∷ []) (ns ++ n ∷ [])
stopped-push choice [] [] m n are number is = (number, is, tt)
stopped-push choice [] (y ∷ ns) m n are number is = absurd are
stopped-push choice (x ∷ ms) [] m n are number is = absurd are
stopped-push choice (x ∷ ms) (y ∷ ns) m n are number is = (are.0, are.1, stopped-push choice ms ns m n are.2 number is)

none-left : (choice : Choice) → at_rest [] ≡ at_rest (left_by choice (at_rest []))
none-left Written = refl
none-left Old = refl
none-left (Fill byte) = refl
none-left Short = refl

pub stopped-state : (choice : Choice) (ms ns : List MemFile) → AreStopped choice ms ns → (f : ℕ) → state_in ns f ≡ at_rest (left_by choice (state_in ms f))
stopped-state choice [] [] are f = none-left choice
stopped-state choice [] (n ∷ ns) are f = absurd are
stopped-state choice (m ∷ ms) [] are f = absurd are
stopped-state choice (m ∷ ms) (n ∷ ns) are f = ap (λ k. if k == f then state n else state_in ns f) are.0 ∙ here (m.number == f) (stopped-state choice ms ns are.2 f)
  where
    here : (own : Bool) → state_in ns f ≡ at_rest (left_by choice (state_in ms f)) → (if own then state n else state_in ns f) ≡ at_rest (left_by choice (if own then state m else state_in ms f))
    here true rest = are.1
    here false rest = rest
