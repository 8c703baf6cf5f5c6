-- The block of a serial goes.
use Rattle.std.proofs.Common.{◌≡◌, ◌≢◌, ◌<◌, ℕ, zero, suc, nat_eq, true, false, List, [], ◌∷◌, ◌++◌, length, take, drop, get_or, refl, arith}
use Rattle.std.proofs.lemmas.Bool.Decides.{nat_tests}
use Rattle.flat_code.specs.Placed.{without_block}
use Rattle.variable_stack.specs.declared.Descriptor.{Descriptor}
use Rattle.rank_machine.specs.Blocks.{blocks_of}

pub removed : (bs : List Descriptor) (i serial : ℕ) (d : Descriptor) → ((k : ℕ) (e : Descriptor) → k < i → (get_or bs k e).serial ≢ serial) → i < length bs → (get_or bs i d).serial ≡ serial → blocks_of (take i bs ++ drop (suc i) bs) ≡ without_block (blocks_of bs) serial
removed [] i serial d h l e = let no : ⊥ = omega (arith, l) in absurd no
removed (b ∷ bs) zero serial d h l e =
    let t : nat_eq b.serial serial ≡ true = grind (arith, nat_tests, e) in
    rw t refl
removed (b ∷ bs) (suc i) serial d h l e =
    let p : b.serial ≢ serial = h zero d (omega arith) in
    let t : nat_eq b.serial serial ≡ false = grind (arith, nat_tests, p) in
    let r : blocks_of (take i bs ++ drop (suc i) bs) ≡ without_block (blocks_of bs) serial = removed bs i serial d (λ k f m. h (suc k) f (omega (arith, m))) (omega (arith, l)) e in
    rw (t, r) refl

pub missing : (bs : List Descriptor) (serial : ℕ) (d : Descriptor) → ((k : ℕ) (e : Descriptor) → k < length bs → (get_or bs k e).serial ≢ serial) → blocks_of bs ≡ without_block (blocks_of bs) serial
missing [] serial d h = refl
missing (b ∷ bs) serial d h =
    let p : b.serial ≢ serial = h zero d (omega arith) in
    let t : nat_eq b.serial serial ≡ false = grind (arith, nat_tests, p) in
    let r : blocks_of bs ≡ without_block (blocks_of bs) serial = missing bs serial d (λ k f m. h (suc k) f (omega (arith, m))) in
    rw (t, ← r) refl
