-- Rows, taken apart from the front.
use Rattle.std.proofs.Common.{◌≡◌, refl, ap, ◌∙◌, sym, ℕ, zero, suc, ◌-◌, List, [], ◌∷◌, Bool, true, false, Option, Some, None}
use Rattle.c_tree.specs.declared.token.Class.TheVariants as class
use Rattle.c_tree.specs.declared.tree.Access.{Access}
use Rattle.c_tree.specs.declared.tree.Access.TheVariants as access
use Rattle.c_tree.specs.declared.tree.Constant.{Constant}
use Rattle.c_tree.specs.declared.tree.Constant.TheVariants as constant
use Rattle.c_tree.specs.declared.tree.MemberName.TheVariants as member_name
use Rattle.c_tree.specs.declared.tree.Name.{Name}
use Rattle.c_tree.specs.declared.tree.PlainType.{PlainType}
use Rattle.c_tree.specs.declared.tree.PlainType.TheVariants as plain_type
use Rattle.c_tree.specs.declared.tree.TypeName.{TypeName}
use Rattle.c_tree.specs.declared.tree.TypeSpecifier.{TypeSpecifier}
use Rattle.c_tree.specs.declared.tree.TypeSpecifier.TheVariants as specifier
use Rattle.c_grammar.specs.Grammar.{Part}
use Rattle.c_grammar.specs.Meaning.{Forest, none, node, ◌+++◌}
use Rattle.c_grammar.specs.Trees.{Shape, at_grade, lifted, each, given, star_row, name_row, number_row, number_class, member_name_row, constant_class, access_class, plain_class, specifier_row, specifier_tree, type_name_row}
use Rattle.c_grammar.proofs.Grades.{forest_assoc}

-- rows that begin with the row of an x are told apart
abbrev pub Peels : {X : Type 0} → (X → Forest) → Type 0
Peels {X} row = (x y : X) (f g : Forest) → row x +++ f ≡ row y +++ g → (x ≡ y) × (f ≡ g)

-- the forest begins with no row of an x
abbrev pub Free : {X : Type 0} → (X → Forest) → Forest → Type 0
Free {X} row f = (x : X) (g : Forest) → f ≡ row x +++ g → ⊥

abbrev pub NoStar : Forest → Type 0
NoStar f = (g : Forest) → f ≡ star_row 1 +++ g → ⊥

pub each_peels : {X : Type 0} (row : X → Forest) → Peels row → (f g : Forest) → Free row f → Free row g → (xs ys : List X) → each row xs +++ f ≡ each row ys +++ g → (xs ≡ ys) × (f ≡ g)
each_peels row peels f g a b [] [] h = (refl, h)
each_peels row peels f g a b [] (y ∷ ys) h = absurd (a y _ (h ∙ forest_assoc (row y) (each row ys) g))
each_peels row peels f g a b (x ∷ xs) [] h = absurd (b x _ (sym h ∙ forest_assoc (row x) (each row xs) f))
each_peels row peels f g a b (x ∷ xs) (y ∷ ys) h =
    let first = peels x y _ _ (sym (forest_assoc (row x) (each row xs) f) ∙ h ∙ forest_assoc (row y) (each row ys) g) in
    let rest = each_peels row peels f g a b xs ys first.1 in
    (λ i. first.0 i ∷ rest.0 i, rest.1)

pub stars_peel : (f g : Forest) → NoStar f → NoStar g → (n m : ℕ) → star_row n +++ f ≡ star_row m +++ g → (n ≡ m) × (f ≡ g)
stars_peel f g a b zero zero h = (refl, h)
stars_peel f g a b zero (suc m) h = absurd (a _ h)
stars_peel f g a b (suc n) zero h = absurd (b _ (sym h))
stars_peel f g a b (suc n) (suc m) h = let rest = stars_peel f g a b n m (cc) in (ap suc rest.0, rest.1)

name_same : (x y : Name) → x.at ≡ y.at → x.bytes ≡ y.bytes → x ≡ y
name_same x y p q = λ i. record { at = p i; bytes = q i }

pub name_peels : Peels name_row
name_peels x y f g h = (name_same x y (cc) (cc), cc)

class_of_number : (a b : Bool) → number_class a ≡ number_class b → a ≡ b
class_of_number true true h = refl
class_of_number false false h = refl
class_of_number a b h = absurd (cc)

pub number_peels : Peels number_row
number_peels x y f g h =
    let long : x.long ≡ y.long = class_of_number x.long y.long (cc) in
    let at : x.at ≡ y.at = cc in
    let number : x.value ≡ y.value = cc in
    (λ i. record { at = at i; value = number i; long = long i }, cc)

pub member_name_peels : Peels member_name_row
member_name_peels (member_name.Name n) (member_name.Name m) f g h = let same = name_peels n m f g h in (ap member_name.Name same.0, same.1)
member_name_peels (member_name.Source n) (member_name.Source m) f g h = (cc, cc)
member_name_peels (member_name.Tag n) (member_name.Tag m) f g h = (cc, cc)
member_name_peels n m f g h = absurd (cc)

pub constant_one : (a b : Constant) → constant_class a ≡ constant_class b → a ≡ b
constant_one constant.Null constant.Null h = refl
constant_one constant.AnySource constant.AnySource h = refl
constant_one constant.AnyTag constant.AnyTag h = refl
constant_one constant.ProcNull constant.ProcNull h = refl
constant_one a b h = absurd (cc)

pub access_one : (a b : Access) → access_class a ≡ access_class b → a ≡ b
access_one access.Dot access.Dot h = refl
access_one access.Arrow access.Arrow h = refl
access_one a b h = absurd (cc)

pub plain_type_one : (a b : PlainType) → plain_class a ≡ plain_class b → a ≡ b
plain_type_one plain_type.Char plain_type.Char h = refl
plain_type_one plain_type.Int plain_type.Int h = refl
plain_type_one plain_type.Long plain_type.Long h = refl
plain_type_one plain_type.Void plain_type.Void h = refl
plain_type_one plain_type.Status plain_type.Status h = refl
plain_type_one a b h = absurd (cc)

no_struct : (a : PlainType) → plain_class a ≡ class.Struct → ⊥
no_struct plain_type.Char h = cc
no_struct plain_type.Int h = cc
no_struct plain_type.Long h = cc
no_struct plain_type.Void h = cc
no_struct plain_type.Status h = cc

pub specifier_peels : Peels specifier_row
specifier_peels (specifier.Plain at p) (specifier.Plain to q) f g h = let same : p ≡ q = plain_type_one p q (cc) in (cc, cc)
specifier_peels (specifier.Struct at n) (specifier.Struct to m) f g h =
    let place : at ≡ to = cc in
    let same = name_peels n m f g (cc) in
    (λ i. specifier.Struct (place i) (same.0 i), same.1)
specifier_peels (specifier.Plain at p) (specifier.Struct to m) f g h = absurd (no_struct p (cc))
specifier_peels (specifier.Struct at n) (specifier.Plain to q) f g h = absurd (no_struct q (cc))

pub specifier_tree_peels : Peels specifier_tree
specifier_tree_peels x y f g h = (specifier_one x y (cc), cc)
  where
    specifier_one : (x y : TypeSpecifier) → specifier_row x ≡ specifier_row y → x ≡ y
    specifier_one x y e = (specifier_peels x y none none (ap (λ r. r +++ none) e)).0

pub type_name_peels : (f g : Forest) → NoStar f → NoStar g → (x y : TypeName) → type_name_row x +++ f ≡ type_name_row y +++ g → (x ≡ y) × (f ≡ g)
type_name_peels f g a b x y h =
    let first = specifier_tree_peels x.specifier y.specifier (star_row x.stars +++ f) (star_row y.stars +++ g) h in
    let rest = stars_peel f g a b x.stars y.stars first.1 in
    (λ i. record { specifier = first.0 i; stars = rest.0 i }, rest.1)

-- one node of an expression
pub lifted_peels : (k g : ℕ) (row : Forest) (l h : ℕ) (other f e : Forest) → lifted k g row +++ f ≡ lifted l h other +++ e → (lifted k g row ≡ lifted l h other) × (f ≡ e)
lifted_peels zero g row zero h other f e same = (cc, cc)
lifted_peels zero g row (suc l) h other f e same = (cc, cc)
lifted_peels (suc k) g row zero h other f e same = (cc, cc)
lifted_peels (suc k) g row (suc l) h other f e same = (cc, cc)

pub at_grade_peels : (v w : ℕ) (s t : Shape) (f e : Forest) → at_grade v s +++ f ≡ at_grade w t +++ e → (at_grade v s ≡ at_grade w t) × (f ≡ e)
at_grade_peels v w s t f e = lifted_peels (v - s.grade) s.grade s.row (w - t.grade) t.grade t.row f e

-- ---- one row, a list and an option at the end, and one node

pub one : {X : Type 0} (row : X → Forest) → Peels row → (x y : X) → row x ≡ row y → x ≡ y
one row peels x y h = (peels x y none none (ap (λ f. f +++ none) h)).0

pub each_one : {X : Type 0} (row : X → Forest) → Peels row → Free row none → (xs ys : List X) → each row xs ≡ each row ys → xs ≡ ys
each_one row peels free xs ys h = (each_peels row peels none none free free xs ys (ap (λ f. f +++ none) h)).0

pub given_peels : {X : Type 0} (row : X → Forest) → Peels row → (f g : Forest) → Free row f → Free row g → (o q : Option X) → given row o +++ f ≡ given row q +++ g → (o ≡ q) × (f ≡ g)
given_peels row peels f g a b None None h = (refl, h)
given_peels row peels f g a b None (Some y) h = absurd (a y g h)
given_peels row peels f g a b (Some x) None h = absurd (b x f (sym h))
given_peels row peels f g a b (Some x) (Some y) h = let same = peels x y f g h in (ap Some same.0, same.1)

pub given_one : {X : Type 0} (row : X → Forest) → Peels row → Free row none → (o q : Option X) → given row o ≡ given row q → o ≡ q
given_one row peels free o q h = (given_peels row peels none none free free o q (ap (λ f. f +++ none) h)).0

pub node_peels : {X : Type 0} (p : Part) (row : X → Forest) → ((x y : X) → row x ≡ row y → x ≡ y) → Peels (λ x. node p (row x) none)
node_peels p row one x y f g h = (one x y (cc), cc)
