-- Where no place fits, malloc may give NULL.
use Rattle.std.proofs.Common.{◌≡◌, ℕ, zero, suc, ◌+◌, ◌<◌, ◌≤◌, List, [], ◌∷◌, Option, Some, None, Bool, true, false, ◌&&◌, refl, sym, ap, ◌∙◌, subst, arith}
use Rattle.std.specs.Prelude.{nat_lt, if◌then◌else◌}
use Rattle.std.proofs.lemmas.Bool.Decides.{nat_tests}
use Rattle.c_memory.specs.Memory.{Memory, asked_with, may_refuse, is_refused}
use Rattle.flat_code.specs.Placed.{Block, first_fit, none_fits}

-- all end at a place or below it
abbrev pub EndBelow : List Block → ℕ → Type 0
EndBelow [] high = Unit {0}
EndBelow (b ∷ bs) high = (b.place + b.length ≤ high) × EndBelow bs high

by_first : (from n high : ℕ) (t : Bool) → nat_lt 65536 (from + n) ≡ t → from ≤ high → ◌≡◌ {A = Option ℕ} (if t then None else Some from) None → 65536 < high + n
by_first from n high true e l h = grind (arith, nat_tests, e, l)
by_first from n high false e l h = absurd (cc h)

by_place : (from n high : ℕ) (later : Option ℕ) (t : Bool) → (later ≡ None → 65536 < high + n) → (if t then later else Some from) ≡ None → 65536 < high + n
by_place from n high later true rec h = rec h
by_place from n high later false rec h = absurd (cc h)

refused : (bs : List Block) (from n high : ℕ) → from ≤ high → EndBelow bs high → first_fit bs from n ≡ None → 65536 < high + n
refused [] from n high l h e = by_first from n high (nat_lt 65536 (from + n)) refl l e
refused (b ∷ bs) from n high l h e = by_place from n high (first_fit bs (b.place + b.length) n) (nat_lt b.place (from + n)) (refused bs (b.place + b.length) n high h.0 h.1) e

abbrev is_none : Option ℕ → Bool
is_none None = true
is_none (Some at) = false

none_by : (o : Option ℕ) → (elim o [ None ↦ true | Some at ↦ false ]) ≡ true → o ≡ None
none_by None e = refl
none_by (Some at) e = absurd (cc e)

asked_over : (asked n : ℕ) → 65536 < asked + n → nat_lt 65536 (asked_with asked n) ≡ true
asked_over asked n h =
    let t : nat_lt 65536 (asked + n) ≡ true = grind (arith, nat_tests, h) in
    ap (λ b. nat_lt 65536 (if b then 65537 else asked + n)) t

by_fit : (m : Memory) (n : ℕ) (t : Bool) → (t ≡ true → may_refuse m n ≡ true) → may_refuse m n && t ≡ t
by_fit m n true h = ap (λ b. b && true) (h refl)
by_fit m n false h = false_and (may_refuse m n)
  where
    false_and : (b : Bool) → b && false ≡ false
    false_and true = refl
    false_and false = refl

-- malloc gives NULL exactly where none fits, as long as the blocks end below the cells that it was asked for
pub null_where_none_fits : (heap : List Block) (m : Memory) (n : ℕ) → EndBelow heap m.asked → is_refused (none_fits heap) m n ≡ none_fits heap m n
null_where_none_fits heap m n h =
    let zero_below : 0 ≤ m.asked = omega arith in
    by_fit m n (none_fits heap m n) (λ e. asked_over m.asked n (refused heap 0 n m.asked zero_below h (none_by (first_fit heap 0 n) e)))
