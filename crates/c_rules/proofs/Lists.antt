-- Lists that are gone through together.
use Rattle.std.proofs.Common.{◌≡◌, ℕ, ◌<◌, length, drop, length-drop, List, [], ◌∷◌, false, refl, ap, arith}
use Rattle.c_kernel.specs.declared.types.CType.{CType}
use Rattle.c_rules.specs.declared.found.Found.{Found}
use Rattle.c_rules.specs.Types.{same_types}
use Rattle.c_rules.specs.Rules.{passed}
use Rattle.c_rules.specs.declared.rules.roles.Role.{Role}
use Rattle.c_rules.specs.Roles.{roles_rules, roles_values}

fewer : (ts us : List CType) → length us < 1 → 0 < length ts → same_types ts us ≡ false
fewer [] us e h = absurd (omega (arith, h))
fewer (t ∷ ts) [] e h = refl
fewer (t ∷ ts) (u ∷ us) e h = absurd (omega (arith, e))

pub fewer_types : (ts us : List CType) (i : ℕ) → length us < 1 → i < length ts → same_types (drop i ts) us ≡ false
fewer_types ts us i e h = fewer (drop i ts) us e (omega (arith, length-drop i ts, h))

pub none_passed : (ts : List CType) (vs : List Found) → length vs < 1 → passed ts vs ≡ []
none_passed [] vs e = refl
none_passed (t ∷ ts) [] e = refl
none_passed (t ∷ ts) (v ∷ vs) e = absurd (omega (arith, e))

pub none_ruled : (rs : List Role) (vs : List Found) → length vs < 1 → roles_rules rs vs ≡ []
none_ruled [] vs e = refl
none_ruled (r ∷ rs) [] e = refl
none_ruled (r ∷ rs) (v ∷ vs) e = absurd (omega (arith, e))

pub none_valued : (rs : List Role) (vs : List Found) → vs ≡ [] → roles_values rs vs ≡ []
none_valued [] vs e = refl
none_valued (r ∷ rs) [] e = refl
none_valued (r ∷ rs) (v ∷ vs) e = absurd (omega (arith, ap length e))
