-- Sizes of arrays.
use Rattle.std.proofs.Common.{◌≡◌, ℕ, ◌<◌, ◌*◌, Bool, true, false, List, [], ◌∷◌, Option, Some, None, refl, arith}
use Rattle.std.specs.Prelude.{All, nat_lt, if◌then◌else◌}
use Rattle.std.proofs.lemmas.List.Elements.{All-nil, All-cons}
use Rattle.std.proofs.lemmas.Bool.Decides.{nat_tests}
use Rattle.c_rules.specs.Types.{room, is_array_size}

pub no_room : (cells : ℕ) (ns : List ℕ) → 8192 < cells → room cells ns ≡ None
no_room cells [] h = grind (arith, nat_tests)
no_room cells (n ∷ ns) h = grind (arith, nat_tests)

not_then : {X : Type 0} (b : Bool) (o : Option X) (x : X) → (if b then None else o) ≡ Some x → o ≡ Some x
not_then true o x e = cc
not_then false o x e = e

not_else : {X : Type 0} (b : Bool) (o : Option X) (x : X) → (if b then o else None) ≡ Some x → (b ≡ true) × (o ≡ Some x)
not_else true o x e = (refl, e)
not_else false o x e = cc

narrow : (n : ℕ) → is_array_size n ≡ true → n < 8193
narrow n e = grind (arith, nat_tests)

pub narrow_sizes : (cells k : ℕ) (ns : List ℕ) → room cells ns ≡ Some k → All (λ n. n < 8193) ns
narrow_sizes cells k [] e = All-nil (λ n. n < 8193)
narrow_sizes cells k (n ∷ ns) e =
    let inner = not_else (is_array_size n) (room (cells * n) ns) k (not_then (nat_lt 8192 cells) _ k e) in
    All-cons (λ n. n < 8193) n ns (narrow n inner.0) (narrow_sizes (cells * n) k ns inner.1)
