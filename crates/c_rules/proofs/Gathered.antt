-- What is gathered in order.
use Rattle.std.proofs.Common.{◌≡◌, List, [], ◌∷◌, ◌++◌, Option, Some, None, refl, ap, append_assoc, append-nil}
use Rattle.c_rules.specs.Judged.{more, gathered}

-- what was gathered and the rest
abbrev pub joined : {A : Type 0} → Option (List A) → Option (List A) → Option (List A)
joined (Some xs) (Some ys) = Some (xs ++ ys)
joined _ _ = None

pub joined_more : {A : Type 0} (all : Option (List A)) (x : Option A) (rest : Option (List A)) → joined (gathered all x) rest ≡ joined all (more x rest)
joined_more None x rest = refl
joined_more (Some xs) None rest = refl
joined_more (Some xs) (Some x) None = refl
joined_more (Some xs) (Some x) (Some ys) = ap Some (append_assoc xs (x ∷ []) ys)

pub joined_end : {A : Type 0} (all : Option (List A)) → joined all (Some []) ≡ all
joined_end None = refl
joined_end (Some xs) = ap Some (append-nil xs)
