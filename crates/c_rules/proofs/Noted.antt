-- What a node is found to be, by the breaches that were noted.
use Rattle.std.proofs.Common.{◌≡◌, ◌<◌, List, [], ◌∷◌, ◌++◌, length, None, refl, ap, append-nil, ◌∙◌, arith}
use Rattle.c_rules.specs.declared.breach.Breach.{Breach}
use Rattle.c_rules.specs.Judged.{sound}

pub none_found : {A : Type 0} (old new fs : List Breach) (x : A) → new ≡ old ++ fs → length old < length new → None ≡ sound fs x
none_found old new [] x e more = absurd (omega (arith, ap length (e ∙ append-nil old)))
none_found old new (f ∷ fs) x e more = refl
