-- Variables that a call adds, one after another.
use Rattle.std.proofs.Common.{◌≡◌, ℕ, zero, suc, ◌+◌, ◌<◌, List, [], ◌∷◌, ◌++◌, length, take, get_or, replicate, refl, arith, add-one}
use Rattle.std.proofs.lemmas.List.{length-replicate}
use Rattle.c_memory.specs.Memory.{Memory, Object, cells_in, fresh, total, add_variable, add_variables, used, null}

pub cells_end : (os : List Object) (o : Object) → cells_in (os ++ o ∷ []) ≡ cells_in os + length o.cells
cells_end [] o = omega arith
cells_end (x ∷ os) o = let r : cells_in (os ++ o ∷ []) ≡ cells_in os + length o.cells = cells_end os o in omega (arith, r)

pub added_used : (m : Memory) (ns : List ℕ) → used (add_variables m ns) ≡ used m + total ns
added_used m [] = omega arith
added_used m (n ∷ ns) =
    let r : used (add_variables (add_variable m n) ns) ≡ used (add_variable m n) + total ns = added_used (add_variable m n) ns in
    let e : cells_in (m.variables ++ fresh m.next n ∷ []) ≡ cells_in m.variables + length (replicate n null) = cells_end m.variables (fresh m.next n) in
    let l : length (replicate n null) ≡ n = length-replicate n null in
    omega (arith, r, e, l)

pub added_next : (m : Memory) (ns : List ℕ) → (add_variables m ns).next ≡ m.next + length ns
added_next m [] = omega arith
added_next m (n ∷ ns) = let r : (add_variables (add_variable m n) ns).next ≡ (add_variable m n).next + length ns = added_next (add_variable m n) ns in omega (arith, r)

added_last : (m : Memory) (ns : List ℕ) (i d : ℕ) → i < length ns → add_variables m (take (suc i) ns) ≡ add_variable (add_variables m (take i ns)) (get_or ns i d)
added_last m [] i d l = let no : ⊥ = omega (arith, l) in absurd no
added_last m (n ∷ ns) zero d l = refl
added_last m (n ∷ ns) (suc i) d l = added_last (add_variable m n) ns i d (omega (arith, l))

pub added_one : (m : Memory) (ns : List ℕ) (i d : ℕ) → i < length ns → add_variables m (take (i + 1) ns) ≡ add_variable (add_variables m (take i ns)) (get_or ns i d)
added_one m ns i d l = rw (add-one i) (added_last m ns i d l)
