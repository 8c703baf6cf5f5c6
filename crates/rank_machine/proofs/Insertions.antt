-- A block comes among the others.
use Rattle.std.proofs.Common.{◌≡◌, ◌<◌, ◌≤◌, ℕ, zero, suc, true, false, List, [], ◌∷◌, ◌++◌, length, take, drop, get_or, refl, arith}
use Rattle.std.specs.Prelude.{nat_lt}
use Rattle.std.proofs.lemmas.Bool.Decides.{nat_tests}
use Rattle.flat_code.specs.Placed.{insert_block}
use Rattle.variable_stack.specs.declared.Descriptor.{Descriptor}
use Rattle.rank_machine.specs.Blocks.{block_of, blocks_of}

pub inserted : (bs : List Descriptor) (i : ℕ) (b d : Descriptor) → ((k : ℕ) (e : Descriptor) → k < i → (get_or bs k e).place ≤ b.place) → i < length bs → b.place < (get_or bs i d).place → blocks_of (take i bs ++ b ∷ drop i bs) ≡ insert_block (block_of b) (blocks_of bs)
inserted [] i b d h l e = let no : ⊥ = omega (arith, l) in absurd no
inserted (c ∷ cs) zero b d h l e =
    let t : nat_lt b.place c.place ≡ true = grind (arith, nat_tests, e) in
    rw t refl
inserted (c ∷ cs) (suc i) b d h l e =
    let p : c.place ≤ b.place = h zero d (omega arith) in
    let t : nat_lt b.place c.place ≡ false = grind (arith, nat_tests, p) in
    let r : blocks_of (take i cs ++ b ∷ drop i cs) ≡ insert_block (block_of b) (blocks_of cs) = inserted cs i b d (λ k f m. h (suc k) f (omega (arith, m))) (omega (arith, l)) e in
    rw (t, r) refl

pub added : (bs : List Descriptor) (b d : Descriptor) → ((k : ℕ) (e : Descriptor) → k < length bs → (get_or bs k e).place ≤ b.place) → blocks_of (take (length bs) bs ++ b ∷ drop (length bs) bs) ≡ insert_block (block_of b) (blocks_of bs)
added [] b d h = refl
added (c ∷ cs) b d h =
    let p : c.place ≤ b.place = h zero d (omega arith) in
    let t : nat_lt b.place c.place ≡ false = grind (arith, nat_tests, p) in
    let r : blocks_of (take (length cs) cs ++ b ∷ drop (length cs) cs) ≡ insert_block (block_of b) (blocks_of cs) = added cs b d (λ k f m. h (suc k) f (omega (arith, m))) in
    rw (t, r) refl
