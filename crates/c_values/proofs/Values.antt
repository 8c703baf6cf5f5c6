-- Values that are found one after another.
use Rattle.std.proofs.Common.{◌≡◌, ap, refl, ℕ, List, [], ◌∷◌, ◌++◌, Result, Ok, Err}
use Rattle.std.proofs.lemmas.List.{append_assoc}
use Rattle.c3_base.specs.declared.cell.Cell.{Cell}
use Rattle.c_memory.specs.Memory.{map_ok}
use Rattle.c_values.specs.Value.{and_then}

abbrev pub Several : Type 0
Several = Result (List Cell) ℕ

-- values that follow others
abbrev pub after : List Cell → Several → Several
after found rest = map_ok (λ vs. found ++ vs) rest

pub one_more : (found : List Cell) (a : Cell) (rest : Several) → after (found ++ a ∷ []) rest ≡ after found (and_then (Ok a) rest)
one_more found a (Err code) = refl
one_more found a (Ok vs) = ap Ok (append_assoc found (a ∷ []) vs)
