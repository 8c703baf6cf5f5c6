-- What follows where an option has a value.
use Rattle.std.proofs.Common.{◌≡◌, ℕ, Bool, true, false, cond, eqb, Option, Some, None, refl}
use Rattle.std.specs.Prelude.{option_map, option_and_then}
use Rattle.std.proofs.lemmas.Bool.{eqb-true}
use Rattle.std.proofs.lemmas.Option.{none-some, same_Some}

pub map_some : {A B : Type 0} (f : A → B) (o : Option A) (y : B) → option_map f o ≡ Some y → (x : A) × (o ≡ Some x) × (f x ≡ y)
map_some f None y e = absurd (none-some y e)
map_some f (Some x) y e = (x, refl, same_Some (f x) y e)

pub then_some : {A B : Type 0} (f : A → Option B) (o : Option A) (y : B) → option_and_then f o ≡ Some y → (x : A) × (o ≡ Some x) × (f x ≡ Some y)
then_some f None y e = absurd (none-some y e)
then_some f (Some x) y e = (x, refl, e)

chosen : {A P : Type 0} (l k : ℕ) (b : Bool) (x y : Option A) (z : A) → eqb l k ≡ b → (l ≡ k → x ≡ Some z → P) → (y ≡ Some z → P) → cond b x y ≡ Some z → P
chosen l k true x y z e f g h = f (eqb-true l k e) h
chosen l k false x y z e f g h = g h

-- the first of a chain of tests that passes
pub choose : {A P : Type 0} (l k : ℕ) (x y : Option A) (z : A) → (l ≡ k → x ≡ Some z → P) → (y ≡ Some z → P) → cond (eqb l k) x y ≡ Some z → P
choose l k x y z f g h = chosen l k (eqb l k) x y z refl f g h
