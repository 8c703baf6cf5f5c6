-- Types, and the conversions of their values.
use Rattle.std.specs.Prelude.{ℕ, suc, ◌-◌, ◌*◌, ◌/◌, ◌^◌, min, Bool, true, false, not, ◌&&◌, ◌||◌, List, [], ◌∷◌, length, nat_eq, nat_lt, Option, Some, None, is_none, option_map, if◌then◌else◌}
use Rattle.std.specs.Str.{bytes_eq}
use Rattle.c_tree.specs.declared.tree.TypeSpecifier.{TypeSpecifier}
use Rattle.c_tree.specs.declared.tree.TypeSpecifier.TheVariants as specifier
use Rattle.c_tree.specs.declared.tree.PlainType.{PlainType}
use Rattle.c_tree.specs.declared.tree.PlainType.TheVariants as plain
use Rattle.c_tree.specs.declared.tree.MemberName.{MemberName}
use Rattle.c_tree.specs.declared.tree.MemberName.TheVariants as member_name
use Rattle.c_tree.specs.declared.kind.Kind.TheVariants.{UnknownName}
use Rattle.c_kernel.specs.declared.types.CType.{CType}
use Rattle.c_kernel.specs.declared.types.Base.{Base}
use Rattle.c_kernel.specs.declared.types.Base.TheVariants.{Integer, Void, Struct}
use Rattle.c_kernel.specs.declared.types.IntegerType.{IntegerType}
use Rattle.c_kernel.specs.declared.types.IntegerType.TheVariants.{Char, Int, Long}
use Rattle.c_kernel.specs.declared.types.ObjectType.{ObjectType}
use Rattle.c_kernel.specs.declared.types.Struct.{Struct as Structure}
use Rattle.c_kernel.specs.declared.types.Member.{Member}
use Rattle.c_kernel.specs.declared.program.Scalar.{Scalar}
use Rattle.c_kernel.specs.declared.program.Scalar.TheVariants as scalar
use Rattle.c_kernel.specs.declared.program.Expr.{Expr}
use Rattle.c_kernel.specs.declared.program.Expr.TheVariants as typed
use Rattle.c_kernel.specs.Extent.{extent}
use Rattle.c_rules.specs.declared.breach.Breach.{Breach}
use Rattle.c_rules.specs.Judged.{breaks}
use Rattle.c_rules.specs.Scope.{Bytes}

-- ---- structs by their names (C99 6.2.3)

-- the number of the first struct of a name, counted from 0
abbrev pub number_of : List Structure → Bytes → Option ℕ
number_of [] name = None
number_of (s ∷ structs) name = if bytes_eq s.name name then Some 0 else option_map suc (number_of structs name)

-- the name of a struct that is being defined; its number is the next
abbrev pub own_number : ℕ → Option Bytes → Bytes → Option ℕ
own_number next None name = None
own_number next (Some own) name = if bytes_eq own name then Some next else None

abbrev pub or_own : Option ℕ → Option ℕ → Option ℕ
or_own (Some n) own = Some n
or_own None own = own

abbrev pub known_number : List Structure → Option Bytes → Bytes → Option ℕ
known_number structs own name = or_own (number_of structs name) (own_number (length structs) own name)

-- ---- types as they are written: a specifier and stars

abbrev pub base_of_word : PlainType → Base
base_of_word plain.Char = Integer Char
base_of_word plain.Int = Integer Int
base_of_word plain.Long = Integer Long
base_of_word plain.Void = Void
base_of_word plain.Status = Struct 0

abbrev pub struct_base : Option ℕ → Base
struct_base None = Void
struct_base (Some n) = Struct n

-- among these structs, perhaps inside the one of this name
abbrev pub base_of : List Structure → Option Bytes → TypeSpecifier → Base
base_of structs own (specifier.Plain at word) = base_of_word word
base_of structs own (specifier.Struct at name) = struct_base (known_number structs own name.bytes)

abbrev pub type_of : List Structure → Option Bytes → TypeSpecifier → ℕ → CType
type_of structs own t stars = record { base = base_of structs own t; stars = stars }

abbrev pub specifier_rules : List Structure → Option Bytes → TypeSpecifier → List Breach
specifier_rules structs own (specifier.Plain at word) = []
specifier_rules structs own (specifier.Struct at name) = breaks (is_none (known_number structs own name.bytes)) UnknownName name.at

-- the specifier's first byte
abbrev pub specifier_at : TypeSpecifier → ℕ
specifier_at (specifier.Plain at word) = at
specifier_at (specifier.Struct at name) = at

-- ---- kinds of types (6.2.5)

abbrev pub is_number : Base → Bool
is_number (Integer kind) = true
is_number Void = false
is_number (Struct n) = false

abbrev pub is_void_base : Base → Bool
is_void_base (Integer kind) = false
is_void_base Void = true
is_void_base (Struct n) = false

abbrev pub is_struct_base : Base → Bool
is_struct_base (Integer kind) = false
is_struct_base Void = false
is_struct_base (Struct n) = true

abbrev pub is_pointer : CType → Bool
is_pointer t = nat_lt 0 t.stars

abbrev pub is_integer : CType → Bool
is_integer t = not (is_pointer t) && is_number t.base

abbrev pub is_scalar : CType → Bool
is_scalar t = is_pointer t || is_number t.base

abbrev pub is_void : CType → Bool
is_void t = not (is_pointer t) && is_void_base t.base

abbrev pub is_struct : CType → Bool
is_struct t = not (is_pointer t) && is_struct_base t.base

-- the type of NULL
abbrev pub null_type : CType
null_type = record { base = Void; stars = 1 }

abbrev pub is_null : CType → Bool
is_null t = is_pointer t && is_void_base t.base

-- a pointer to something
abbrev pub is_target : CType → Bool
is_target t = is_pointer t && not (is_void_base t.base)

-- one star more. No text has so many that the bound counts
abbrev pub pointer_to : CType → CType
pointer_to t = record { base = t.base; stars = min (suc t.stars) (2 ^ 64 - 1) }

-- what a pointer points to
abbrev pub target : CType → CType
target t = record { base = t.base; stars = t.stars - 1 }

abbrev pub integer : IntegerType → CType
integer kind = record { base = Integer kind; stars = 0 }

abbrev pub base_integer : Base → IntegerType
base_integer (Integer kind) = kind
base_integer Void = Int
base_integer (Struct n) = Int

-- the integer type that a type is
abbrev pub integer_of : CType → IntegerType
integer_of t = base_integer t.base

-- what a cell of the type is read as
abbrev pub scalar_of : CType → Scalar
scalar_of t = if is_pointer t then scalar.Pointer else scalar.Number (integer_of t)

-- the cells that an element takes
abbrev pub element_cells : List Structure → CType → ℕ
element_cells structs t = (extent structs t).cells

-- void or a pointer to it, or what takes no room: by value a struct whose definition hasn't ended
abbrev pub is_incomplete : List Structure → CType → Bool
is_incomplete structs t = is_void_base t.base || nat_eq (element_cells structs t) 0

-- ---- equality

abbrev pub same_integer : IntegerType → IntegerType → Bool
same_integer Char Char = true
same_integer Int Int = true
same_integer Long Long = true
same_integer _ _ = false

abbrev pub same_base : Base → Base → Bool
same_base (Integer a) (Integer b) = same_integer a b
same_base Void Void = true
same_base (Struct m) (Struct n) = nat_eq m n
same_base _ _ = false

abbrev pub same_type : CType → CType → Bool
same_type a b = same_base a.base b.base && nat_eq a.stars b.stars

abbrev pub same_types : List CType → List CType → Bool
same_types [] [] = true
same_types (t ∷ ts) (u ∷ us) = same_type t u && same_types ts us
same_types _ _ = false

-- ---- objects: arrays, the outermost size first, and single elements

abbrev pub is_array_size : ℕ → Bool
is_array_size n = nat_lt 0 n && nat_lt n 8193

-- the cells of arrays of elements with so many each; none, where a size isn't 1 to 8,192 or there are more than 8,192 cells
abbrev pub room : ℕ → List ℕ → Option ℕ
room cells [] = if nat_lt 8192 cells then None else Some cells
room cells (n ∷ ns) = if nat_lt 8192 cells then None else if is_array_size n then room (cells * n) ns else None

abbrev pub one_object : List Structure → CType → ObjectType
one_object structs t = record { element = t; sizes = []; cells = element_cells structs t }

abbrev pub sized : CType → List ℕ → Option ℕ → ObjectType
sized t ns None = record { element = t; sizes = []; cells = 0 }
sized t ns (Some cells) = record { element = t; sizes = ns; cells = cells }

abbrev pub object_type : List Structure → CType → List ℕ → ObjectType
object_type structs t ns = sized t ns (room (element_cells structs t) ns)

abbrev pub is_too_large : List Structure → CType → List ℕ → Bool
is_too_large structs t ns = is_none (room (element_cells structs t) ns)

abbrev pub is_array : ObjectType → Bool
is_array o = elim o.sizes [ [] ↦ false | n ∷ ns ↦ true ]

-- an array's element; a single object is its own
abbrev pub element_of : CType → List ℕ → ℕ → ObjectType
element_of t [] cells = record { element = t; sizes = []; cells = cells }
element_of t (n ∷ ns) cells = record { element = t; sizes = ns; cells = cells / n }

abbrev pub element : ObjectType → ObjectType
element o = element_of o.element o.sizes o.cells

-- the type of its value: an array is a pointer to its first element, and an array of arrays has none (6.3.2.1)
abbrev pub decayed : CType → List ℕ → CType
decayed t [] = t
decayed t (n ∷ []) = pointer_to t
decayed t (n ∷ m ∷ ns) = record { base = Void; stars = 0 }

abbrev pub value_type : ObjectType → CType
value_type o = decayed o.element o.sizes

-- ---- members (6.5.2.3)

-- MPI_SOURCE and MPI_TAG
abbrev pub source_name : Bytes
source_name = 77 ∷ 80 ∷ 73 ∷ 95 ∷ 83 ∷ 79 ∷ 85 ∷ 82 ∷ 67 ∷ 69 ∷ []

abbrev pub tag_name : Bytes
tag_name = 77 ∷ 80 ∷ 73 ∷ 95 ∷ 84 ∷ 65 ∷ 71 ∷ []

abbrev pub member_bytes : MemberName → Bytes
member_bytes (member_name.Name n) = n.bytes
member_bytes (member_name.Source at) = source_name
member_bytes (member_name.Tag at) = tag_name

abbrev pub member_at : MemberName → ℕ
member_at (member_name.Name n) = n.at
member_at (member_name.Source at) = at
member_at (member_name.Tag at) = at

-- ---- MPI_Status (MPI 3.1 3.2.5), the first struct: four ints, of which a program names two

-- MPI_Status
abbrev pub status_name : Bytes
status_name = 77 ∷ 80 ∷ 73 ∷ 95 ∷ 83 ∷ 116 ∷ 97 ∷ 116 ∷ 117 ∷ 115 ∷ []

abbrev pub status_member : Bytes → ℕ → Member
status_member name place = record { name = name; kind = record { element = integer Int; sizes = []; cells = 1 }; place = place }

abbrev pub status_struct : Structure
status_struct = record {
  name = status_name;
  members = status_member source_name 0 ∷ status_member tag_name 1 ∷ status_member [] 2 ∷ status_member [] 3 ∷ [];
  extent = record { cells = 4; size = 16 };
}

abbrev pub status_type : CType
status_type = record { base = Struct 0; stars = 0 }

-- the structs that stand before those of a text
abbrev pub first_structs : List Structure
first_structs = status_struct ∷ []

-- a member by its name, with its number
abbrev pub numbered : ℕ → List Member → Bytes → Option (ℕ × Member)
numbered k [] name = None
numbered k (m ∷ ms) name = if bytes_eq m.name name then Some (k, m) else numbered (suc k) ms name

-- ---- conversions (6.3.1)

-- char computes as int
abbrev pub promoted : IntegerType → IntegerType
promoted Char = Int
promoted Int = Int
promoted Long = Long

-- the type at which two operands meet: long if one is long
abbrev pub common : IntegerType → IntegerType → IntegerType
common Long b = Long
common a b = promoted b

-- what a value is converted to, where that changes its type
abbrev pub change : IntegerType → IntegerType → Option IntegerType
change to from = if same_integer to from then None else Some to

-- a conversion, which stands only where the type changes
abbrev pub converted : IntegerType → IntegerType → Expr → Expr
converted to from e = if same_integer to from then e else typed.Convert to e
