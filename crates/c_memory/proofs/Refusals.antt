-- Where malloc gives NULL.
use Rattle.std.proofs.Common.{◌≡◌, ℕ, ◌+◌, ◌<◌, ◌≤◌, Bool, true, false, ◌&&◌, if◌then◌else◌, nat_eq, nat_lt, pos, refl, ap, sym, ◌∙◌, arith}
use Rattle.std.proofs.lemmas.Bool.Decides.{nat_tests}
use Rattle.c3_base.specs.declared.cell.Cell.{Cell}
use Rattle.c_memory.specs.Memory.{Memory, null, pointer, cells_in, asked_with, grant, refuse, may_refuse, is_full, allocated}

-- ---- the cells that malloc was ever asked for

within_by : (k asked n : ℕ) (t : Bool) → nat_lt 65536 (asked + n) ≡ t → k ≤ 65536 → k ≤ asked + n → k ≤ asked_with asked n
within_by k asked n true e h l = rw e (omega (arith, h))
within_by k asked n false e h l = rw e l

-- those of the objects that live are no more
pub live_within : (k asked n : ℕ) → k ≤ 65536 → k ≤ asked + n → k ≤ asked_with asked n
live_within k asked n h l = within_by k asked n (nat_lt 65536 (asked + n)) refl h l

-- ---- the choice by the heap's room is one of those that are allowed

over_by : (k : ℕ) (t : Bool) → nat_lt 65536 k ≡ t → 65536 < k → nat_lt 65536 (if t then 65537 else k) ≡ true
over_by k true e h = refl
over_by k false e h = let no : ⊥ = grind (arith, nat_tests, e, h) in absurd no

full_over : (live n : ℕ) → nat_lt 65536 (live + n) ≡ true → 65536 < live + n
full_over live n e = grind (arith, nat_tests, e)

pub full_not : (live n : ℕ) → nat_lt 65536 (live + n) ≡ false → live + n ≤ 65536
full_not live n e = grind (arith, nat_tests, e)

pub full_may : (m : Memory) (n : ℕ) → cells_in m.heap ≤ m.asked → is_full m n ≡ true → may_refuse m n ≡ true
full_may m n l e =
    let f : 65536 < cells_in m.heap + n = full_over (cells_in m.heap) n e in
    over_by (m.asked + n) (nat_lt 65536 (m.asked + n)) refl (omega (arith, f, l))

abbrev given_by : Bool → Memory → ℕ → Memory × Cell
given_by t m n = if t then (refuse m n, null) else (grant m n, pointer m.next (pos 0))

pub refused_full : (m : Memory) (n : ℕ) → cells_in m.heap ≤ m.asked → is_full m n ≡ true → (refuse m n, null) ≡ allocated is_full m n
refused_full m n l e = sym (ap (λ t. given_by (t && is_full m n) m n) (full_may m n l e) ∙ ap (λ t. given_by t m n) e)

and_false : (a b : Bool) → b ≡ false → (a && b) ≡ false
and_false true b e = e
and_false false b e = refl

pub granted_room : (m : Memory) (n : ℕ) → is_full m n ≡ false → (grant m n, pointer m.next (pos 0)) ≡ allocated is_full m n
granted_room m n e = sym (ap (λ t. given_by t m n) (and_false (may_refuse m n) (is_full m n) e))

pub granted_serial : (m : Memory) (n : ℕ) (given : Cell) → 1 ≤ m.next → is_full m n ≡ false → given ≡ pointer m.next (pos 0) → nat_eq given.serial 0 ≡ is_full m n
granted_serial m n given l e g =
    let f : nat_eq m.next 0 ≡ false = grind (arith, nat_tests, l) in
    ap (λ c. nat_eq c.serial 0) g ∙ f ∙ sym e
