-- The entries of a disk in memory.
use Rattle.std.proofs.Common.{◌≡◌, ◌≢◌, ℕ, suc, ◌<◌, ◌≤◌, true, false, ◌==◌, if◌then◌else◌, List, [], ◌∷◌, ◌++◌, length, set, get_or, refl, sym, ◌∙◌, ap, arith, eq-eqb, eqb-true}
use Rattle.std.proofs.lemmas.Bool.{false_from_ne_true, true≢false}
use Rattle.disk_model.specs.declared.file.MemFile.{MemFile}
use Rattle.disk_model.specs.Files.{FileState, at_rest}
use Rattle.disk_model.specs.Stored.{state, state_in, place_of}

differs : (m n : ℕ) → m ≢ n → (m == n) ≡ false
differs m n other = false_from_ne_true (m == n) (λ is. other (eqb-true m n is))

pub place-length : (file : ℕ) (files : List MemFile) → place_of file files ≤ length files
place-length file [] = omega arith
place-length file (m ∷ files) = elim (m.number == file) as (λ t. (if t then 0 else suc (place_of file files)) ≤ suc (length files)) [
  | true ↦ omega arith
  | false ↦ omega (arith, place-length file files)
]

-- a new entry of an empty file
module _ (new : MemFile) (empty : state new ≡ at_rest []) where
  pub push-state : (files : List MemFile) (f : ℕ) → state_in (files ++ new ∷ []) f ≡ state_in files f
  push-state [] f = elim (new.number == f) as (λ t. (if t then state new else at_rest []) ≡ at_rest []) [ true ↦ empty | false ↦ refl ]
  push-state (m ∷ files) f = ap (λ (s : FileState). if m.number == f then state m else s) (push-state files f)

pub push-place : (new : MemFile) (file : ℕ) → new.number ≡ file → (files : List MemFile) → place_of file files ≡ length files → place_of file (files ++ new ∷ []) ≡ length files
push-place new file same [] is = rw (eq-eqb new.number file same) refl
push-place new file same (m ∷ files) is = elim (m.number == file) as (λ t. (if t then 0 else suc (place_of file files)) ≡ suc (length files) → (if t then 0 else suc (place_of file (files ++ new ∷ []))) ≡ suc (length files)) [
  | true ↦ λ is. absurd (omega (arith, is))
  | false ↦ λ is. ap suc (push-place new file same files (omega (arith, is)))
] is

-- the entry's number
pub entry-number : (file : ℕ) (files : List MemFile) (d : MemFile) → place_of file files < length files → (get_or files (place_of file files) d).number ≡ file
entry-number file [] d lt = absurd (omega (arith, lt))
entry-number file (m ∷ files) d lt = elim (m.number == file) as (λ t. (m.number == file) ≡ t → (if t then 0 else suc (place_of file files)) < suc (length files)
    → (get_or (m ∷ files) (if t then 0 else suc (place_of file files)) d).number ≡ file) [
      | true ↦ λ is lt. eqb-true m.number file is
      | false ↦ λ is lt. entry-number file files d (omega (arith, lt))
    ] refl lt

-- the entry after a change of its file
pub set-state : (file : ℕ) (new : MemFile) (files : List MemFile) → new.number ≡ file → place_of file files < length files → (f : ℕ)
    → state_in (set files (place_of file files) new) f ≡ (if f == file then state new else state_in files f)
set-state file new [] same lt f = absurd (omega (arith, lt))
set-state file new (m ∷ files) same lt f = elim (m.number == file) as (λ t. (m.number == file) ≡ t → (if t then 0 else suc (place_of file files)) < suc (length files)
    → state_in (set (m ∷ files) (if t then 0 else suc (place_of file files)) new) f ≡ (if f == file then state new else state_in (m ∷ files) f)) [
      | true ↦ λ is lt. here (eqb-true m.number file is)
      | false ↦ λ is lt. there is (set-state file new files same (omega (arith, lt)) f)
    ] refl lt
  where
    here : m.number ≡ file → (if new.number == f then state new else state_in files f) ≡ (if f == file then state new else state_in (m ∷ files) f)
    here is = elim (f == file) as (λ t. (f == file) ≡ t → (if new.number == f then state new else state_in files f) ≡ (if t then state new else state_in (m ∷ files) f)) [
      | true ↦ λ e. rw (eq-eqb new.number f (same ∙ sym (eqb-true f file e))) refl
      | false ↦ λ e. rw (differs new.number f (λ own. true≢false (sym (eq-eqb f file (sym own ∙ same)) ∙ e)), differs m.number f (λ own. true≢false (sym (eq-eqb f file (sym own ∙ is)) ∙ e))) refl
    ] refl

    there : (m.number == file) ≡ false → state_in (set files (place_of file files) new) f ≡ (if f == file then state new else state_in files f)
        → (if m.number == f then state m else state_in (set files (place_of file files) new) f) ≡ (if f == file then state new else state_in (m ∷ files) f)
    there other is = rw is (elim (m.number == f) as (λ t. (m.number == f) ≡ t → (if t then state m else (if f == file then state new else state_in files f)) ≡ (if f == file then state new else (if t then state m else state_in files f))) [
      | true ↦ λ own. rw (differs f file (λ e. true≢false (sym (eq-eqb m.number file (eqb-true m.number f own ∙ e)) ∙ other))) refl
      | false ↦ λ own. refl
    ] refl)

-- its state
pub entry-state : (file : ℕ) (files : List MemFile) (d : MemFile) → place_of file files < length files → state (get_or files (place_of file files) d) ≡ state_in files file
entry-state file [] d lt = absurd (omega (arith, lt))
entry-state file (m ∷ files) d lt = elim (m.number == file) as (λ t. (if t then 0 else suc (place_of file files)) < suc (length files)
    → state (get_or (m ∷ files) (if t then 0 else suc (place_of file files)) d) ≡ (if t then state m else state_in files file)) [
      | true ↦ λ lt. refl
      | false ↦ λ lt. entry-state file files d (omega (arith, lt))
    ] lt

pub no_entry : (file : ℕ) (files : List MemFile) → place_of file files ≡ length files → state_in files file ≡ at_rest []
no_entry file [] is = refl
no_entry file (m ∷ files) is = elim (m.number == file) as (λ t. (if t then 0 else suc (place_of file files)) ≡ suc (length files) → (if t then state m else state_in files file) ≡ at_rest []) [
  | true ↦ λ is. absurd (omega (arith, is))
  | false ↦ λ is. no_entry file files (omega (arith, is))
] is

-- a change of one file alone
pub here-only : (f file : ℕ) (a : FileState) (g : ℕ → FileState) (h : FileState → FileState) → a ≡ h (g file) → (if f == file then a else g f) ≡ (if f == file then h (g f) else g f)
here-only f file a g h is = elim (f == file) as (λ t. (f == file) ≡ t → (if t then a else g f) ≡ (if t then h (g f) else g f)) [
  | true ↦ λ e. is ∙ ap (λ n. h (g n)) (sym (eqb-true f file e))
  | false ↦ λ e. refl
] refl
