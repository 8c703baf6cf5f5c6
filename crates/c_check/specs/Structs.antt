-- The structs of a program, and the rules of their definitions (C99 6.7.2.1).
use Rattle.std.specs.Prelude.{ℕ, ◌+◌, ◌*◌, ◌/◌, Bool, false, ◌&&◌, ◌||◌, not, List, [], ◌∷◌, ◌++◌, map, nat_lt, Some, is_some, if◌then◌else◌}
use Rattle.c_tree.specs.declared.tree.Item.{Item}
use Rattle.c_tree.specs.declared.tree.Item.TheVariants as item
use Rattle.c_tree.specs.declared.tree.Name.{Name}
use Rattle.c_tree.specs.declared.tree.MemberDeclaration.{MemberDeclaration}
use Rattle.c_tree.specs.declared.tree.MemberDeclarator.{MemberDeclarator}
use Rattle.c_tree.specs.declared.tree.TypeSpecifier.{TypeSpecifier}
use Rattle.c_tree.specs.declared.kind.Kind.TheVariants.{Redeclared, ArraySize, IncompleteType}
use Rattle.c_kernel.specs.declared.types.CType.{CType}
use Rattle.c_kernel.specs.declared.types.Extent.{Extent}
use Rattle.c_kernel.specs.declared.types.ObjectType.{ObjectType}
use Rattle.c_kernel.specs.declared.types.Struct.{Struct}
use Rattle.c_kernel.specs.Extent.{extent, nothing}
use Rattle.c_rules.specs.declared.breach.Breach.{Breach}
use Rattle.c_rules.specs.Judged.{breaks}
use Rattle.c_rules.specs.Scope.{Bytes}
use Rattle.c_rules.specs.Types.{number_of, type_of, specifier_rules, is_incomplete, object_type, is_too_large, member_bytes, member_at, numbered}
use Rattle.c_check.specs.declared.structs.Laid.{Laid}

-- ---- members one after the other, without padding

abbrev pub none_laid : Laid
none_laid = record { members = []; extent = nothing; full = false }

-- an object of so many cells, of elements that take this room each
abbrev pub room_of : Extent → ℕ → Extent
room_of each cells = record { cells = cells; size = cells / each.cells * each.size }

-- 8,192 cells, which have at most 16 bytes each
abbrev pub is_within : Extent → Bool
is_within e = nat_lt e.cells 8193 && nat_lt e.size 131073

abbrev pub added : Extent → Extent → Extent
added a b = record { cells = a.cells + b.cells; size = a.size + b.size }

abbrev pub member_type : List Struct → Bytes → TypeSpecifier → MemberDeclarator → CType
member_type structs own t d = type_of structs (Some own) t d.stars

abbrev pub member_sizes : MemberDeclarator → List ℕ
member_sizes d = map (λ n. n.value) d.sizes

abbrev pub member_object : List Struct → Bytes → TypeSpecifier → MemberDeclarator → ObjectType
member_object structs own t d = object_type structs (member_type structs own t d) (member_sizes d)

abbrev pub placed : Laid → Bytes → ObjectType → Extent → Laid
placed laid name kind room =
    let fits = is_within (added laid.extent room) in
    record {
      members = laid.members ++ record { name = name; kind = kind; place = laid.extent.cells } ∷ [];
      extent = if fits then added laid.extent room else laid.extent;
      full = laid.full || not fits;
    }

abbrev pub with_member : List Struct → Bytes → TypeSpecifier → Laid → MemberDeclarator → Laid
with_member structs own t laid d =
    let kind = member_object structs own t d in
    placed laid (member_bytes d.name) kind (room_of (extent structs kind.element) kind.cells)

abbrev pub with_members : List Struct → Bytes → TypeSpecifier → Laid → List MemberDeclarator → Laid
with_members structs own t laid [] = laid
with_members structs own t laid (d ∷ ds) = with_members structs own t (with_member structs own t laid d) ds

abbrev pub laid_out : List Struct → Bytes → Laid → List MemberDeclaration → Laid
laid_out structs own laid [] = laid
laid_out structs own laid (d ∷ ds) = laid_out structs own (with_members structs own d.specifier laid d.declarators) ds

abbrev pub struct_of : Bytes → Laid → Struct
struct_of name laid = record { name = name; members = laid.members; extent = laid.extent }

-- the structs with those that an item defines
abbrev pub with_item : List Struct → Item → List Struct
with_item structs (item.Include at header) = structs
with_item structs (item.Struct at name members) = structs ++ struct_of name.bytes (laid_out structs name.bytes none_laid members) ∷ []
with_item structs (item.Prototype h) = structs
with_item structs (item.Function h body) = structs

abbrev pub all_structs : List Struct → List Item → List Struct
all_structs structs [] = structs
all_structs structs (i ∷ is) = all_structs (with_item structs i) is

-- ---- rules

abbrev pub member_rules : List Struct → Bytes → TypeSpecifier → Laid → MemberDeclarator → List Breach
member_rules structs own t laid d =
    breaks (is_some (numbered 0 laid.members (member_bytes d.name))) Redeclared (member_at d.name)
    ++ breaks (is_too_large structs (member_type structs own t d) (member_sizes d)) ArraySize (member_at d.name)
    ++ breaks (is_incomplete structs (member_type structs own t d)) IncompleteType (member_at d.name)

abbrev pub members_rules : List Struct → Bytes → TypeSpecifier → Laid → List MemberDeclarator → List Breach
members_rules structs own t laid [] = []
members_rules structs own t laid (d ∷ ds) = member_rules structs own t laid d ++ members_rules structs own t (with_member structs own t laid d) ds

abbrev pub parts_rules : List Struct → Bytes → Laid → List MemberDeclaration → List Breach
parts_rules structs own laid [] = []
parts_rules structs own laid (d ∷ ds) =
    specifier_rules structs (Some own) d.specifier
    ++ members_rules structs own d.specifier laid d.declarators
    ++ parts_rules structs own (with_members structs own d.specifier laid d.declarators) ds

-- nothing is said of its size where a member breaks a rule
abbrev pub size_rules : List Breach → Bool → ℕ → List Breach
size_rules [] full at = breaks full ArraySize at
size_rules (f ∷ fs) full at = []

abbrev pub struct_rules : List Struct → Name → List MemberDeclaration → List Breach
struct_rules structs name ds =
    let parts = parts_rules structs name.bytes none_laid ds in
    breaks (is_some (number_of structs name.bytes)) Redeclared name.at
    ++ parts
    ++ size_rules parts (laid_out structs name.bytes none_laid ds).full name.at
