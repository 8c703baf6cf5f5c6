-- The turns of a round.
use Rattle.std.proofs.Common.{◌≡◌, ℕ, ◌+◌, List, [], ◌∷◌, ◌++◌, map, sym, ap, ◌∙◌, append_assoc, arith}
use Rattle.std.specs.List.{range_with_len}
use Rattle.std.proofs.lemmas.List.FromFn.{map-range_with_len_more}

pub one_more : {X : Type 0} (f : ℕ → X) (before now : List X) (n : ℕ) → now ≡ before ++ map f (range_with_len 0 n) → now ++ f n ∷ [] ≡ before ++ map f (range_with_len 0 (n + 1))
one_more f before now n e = ap (λ l. l ++ f n ∷ []) e ∙ append_assoc before (map f (range_with_len 0 n)) (f n ∷ []) ∙ ap (λ l. before ++ l) (sym (map-range_with_len_more f 0 n n (omega arith)))
