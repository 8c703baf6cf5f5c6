-- The functions that can be called, and the rules of their headers (C99 6.7.5.3, 6.9.1).
use Rattle.std.specs.Prelude.{ℕ, suc, Bool, true, false, not, ◌||◌, ◌&&◌, List, [], ◌∷◌, ◌++◌, map, length, nat_eq, ◌==◌, Option, Some, None, is_some, is_none, if◌then◌else◌}
use Rattle.std.specs.Option.{option_or}
use Rattle.std.specs.Str.{bytes_eq}
use Rattle.c_tree.specs.declared.tree.Item.{Item}
use Rattle.c_tree.specs.declared.tree.Item.TheVariants as item
use Rattle.c_tree.specs.declared.tree.Heading.{Heading}
use Rattle.c_tree.specs.declared.tree.Parameter.{Parameter}
use Rattle.c_tree.specs.declared.tree.Bound.{Bound}
use Rattle.c_tree.specs.declared.tree.Bound.TheVariants as bound
use Rattle.c_tree.specs.declared.tree.Name.{Name}
use Rattle.c_tree.specs.declared.tree.TypeSpecifier.{TypeSpecifier}
use Rattle.c_tree.specs.declared.tree.TypeSpecifier.TheVariants as specifier
use Rattle.c_tree.specs.declared.tree.PlainType.{PlainType}
use Rattle.c_tree.specs.declared.tree.PlainType.TheVariants as word
use Rattle.c_tree.specs.declared.kind.Kind.TheVariants.{Redeclared, BadMain, ArraySize, IncompleteType, PrototypeDiffers}
use Rattle.c_kernel.specs.declared.types.CType.{CType}
use Rattle.c_kernel.specs.declared.types.Struct.{Struct}
use Rattle.c_rules.specs.declared.breach.Breach.{Breach}
use Rattle.c_rules.specs.declared.signature.Signature.{Signature}
use Rattle.c_rules.specs.Judged.{breaks, unless_broken}
use Rattle.c_rules.specs.Scope.{Bytes, Scope, is_here, declare, hide, start}
use Rattle.c_rules.specs.Types.{type_of, specifier_rules, specifier_at, is_void_base, is_struct, is_null, pointer_to, same_type, same_types, is_array_size, one_object}
use Rattle.c_rules.specs.Rules.{main_name}
use Rattle.c_check.specs.Structs.{with_item}

-- ---- headers

abbrev pub is_word : TypeSpecifier → PlainType → Bool
is_word (specifier.Struct at name) w = false
is_word (specifier.Plain at word.Char) word.Char = true
is_word (specifier.Plain at word.Int) word.Int = true
is_word (specifier.Plain at word.Void) word.Void = true
is_word (specifier.Plain at _) _ = false

-- void alone is no parameter
abbrev pub is_nothing : Parameter → Bool
is_nothing p = is_word p.specifier word.Void && nat_eq p.stars 0 && is_none p.name && is_none p.array

abbrev pub parameters_of : List Parameter → List Parameter
parameters_of [] = []
parameters_of (p ∷ []) = if is_nothing p then [] else p ∷ []
parameters_of (p ∷ q ∷ ps) = p ∷ q ∷ ps

-- an array parameter is a pointer
abbrev pub parameter_type : List Struct → Parameter → CType
parameter_type structs p = elim p.array [
  | None ↦ type_of structs None p.specifier p.stars
  | Some size ↦ pointer_to (type_of structs None p.specifier p.stars)
]

abbrev pub types_of : List Struct → Heading → List CType
types_of structs h = map (parameter_type structs) (parameters_of h.parameters)

abbrev pub result_of : List Struct → Heading → CType
result_of structs h = type_of structs None h.specifier h.stars

abbrev pub is_main : Heading → Bool
is_main h = bytes_eq h.name.bytes main_name

-- ---- main (5.1.2.2.1): two named parameters, int and char ** or char *[]

abbrev pub is_count : Parameter → Bool
is_count p = is_word p.specifier word.Int && nat_eq p.stars 0 && is_some p.name && is_none p.array

abbrev pub is_vector : Parameter → Bool
is_vector p = is_word p.specifier word.Char && nat_eq p.stars (if is_some p.array then 1 else 2) && is_some p.name

abbrev pub are_mains : List Parameter → Bool
are_mains [] = true
are_mains (p ∷ []) = false
are_mains (p ∷ q ∷ []) = is_count p && is_vector q
are_mains (p ∷ q ∷ r ∷ ps) = false

abbrev pub is_mains : Heading → Bool
is_mains h = is_word h.specifier word.Int && nat_eq h.stars 0 && are_mains (parameters_of h.parameters)

-- ---- the rules of a header by itself

-- a parameter's name, or its type where it has none
abbrev pub parameter_at : Parameter → ℕ
parameter_at p = elim p.name [ None ↦ specifier_at p.specifier | Some n ↦ n.at ]

abbrev pub is_bad_bound : Option Bound → Bool
is_bad_bound None = false
is_bad_bound (Some bound.Open) = false
is_bad_bound (Some (bound.Size n)) = not (is_array_size n.value)

-- void, a pointer to void or a struct by value, or in a definition without a name
abbrev pub is_unfit : List Struct → Bool → Parameter → Bool
is_unfit structs defined p =
    let t = parameter_type structs p in
    is_void_base t.base || is_struct t || (defined && is_none p.name)

-- a name of this scope, if there is one
abbrev pub is_named_here : Scope → Option Name → Bool
is_named_here s None = false
is_named_here s (Some n) = is_here s n.bytes

abbrev pub parameter_rules : List Struct → Bool → Scope → Parameter → List Breach
parameter_rules structs defined s p =
    specifier_rules structs None p.specifier
    ++ breaks (is_named_here s p.name) Redeclared (parameter_at p)
    ++ unless_broken (specifier_rules structs None p.specifier) (breaks (is_bad_bound p.array) ArraySize (parameter_at p) ++ breaks (is_unfit structs defined p) IncompleteType (parameter_at p))

-- a parameter comes into scope; those of main are no variables
abbrev pub with_name : List Struct → Bool → Option Name → CType → Scope → Scope
with_name structs main None c_type s = s
with_name structs true (Some n) c_type s = hide s n.bytes
with_name structs false (Some n) c_type s = declare s n.bytes (one_object structs c_type)

abbrev pub with_parameter : List Struct → Bool → Parameter → Scope → Scope
with_parameter structs main p s = with_name structs main p.name (parameter_type structs p) s

abbrev pub parameters_rules : List Struct → Bool → Bool → Scope → List Parameter → List Breach
parameters_rules structs main defined s [] = []
parameters_rules structs main defined s (p ∷ ps) = parameter_rules structs defined s p ++ parameters_rules structs main defined (with_parameter structs main p s) ps

abbrev pub with_parameters : List Struct → Bool → Scope → List Parameter → Scope
with_parameters structs main s [] = s
with_parameters structs main s (p ∷ ps) = with_parameters structs main (with_parameter structs main p s) ps

-- its parts: the result's specifier and the parameters
abbrev pub parts_rules : List Struct → Bool → Heading → List Breach
parts_rules structs defined h =
    specifier_rules structs None h.specifier
    ++ parameters_rules structs (is_main h) defined start (parameters_of h.parameters)

-- a struct, or a pointer to void
abbrev pub is_bad_result : CType → Bool
is_bad_result t = is_struct t || is_null t

-- no rule is broken but by other headers
abbrev pub is_sound : List Struct → Bool → Heading → Bool
is_sound structs defined h = (length (parts_rules structs defined h) == 0) && not (is_bad_result (result_of structs h))

-- ---- the functions that can be called, wherever they stand

abbrev pub heading_in : Item → Option Heading
heading_in (item.Include at header) = None
heading_in (item.Struct at name members) = None
heading_in (item.Prototype h) = Some h
heading_in (item.Function h body) = Some h

abbrev pub is_definition : Item → Bool
is_definition (item.Include at header) = false
is_definition (item.Struct at name members) = false
is_definition (item.Prototype h) = false
is_definition (item.Function h body) = true

-- definitions are numbered in the text's order
abbrev pub next_number : ℕ → Item → ℕ
next_number k i = if is_definition i then suc k else k

abbrev pub signature_of : List Struct → ℕ → Bool → Heading → Signature
signature_of structs k defined h = record {
  result = result_of structs h;
  parameters = types_of structs h;
  sound = is_sound structs defined h;
  number = if defined then Some k else None;
}

-- what an item says of a name
abbrev pub said_by : List Struct → ℕ → Bool → Option Heading → Bytes → Option Signature
said_by structs k defined None name = None
said_by structs k defined (Some h) name = if bytes_eq h.name.bytes name then Some (signature_of structs k defined h) else None

-- the first header gives the types, and the first definition the number
abbrev pub joined : Option Signature → Option Signature → Option Signature
joined None later = later
joined (Some f) None = Some f
joined (Some f) (Some g) = Some (record f { number = option_or f.number g.number })

-- of the items that follow these structs and k definitions
abbrev pub signatures : List Struct → ℕ → List Item → Bytes → Option Signature
signatures structs k [] name = None
signatures structs k (i ∷ is) name = joined (said_by structs k (is_definition i) (heading_in i) name) (signatures (with_item structs i) (next_number k i) is name)

abbrev pub number_in : Option Signature → Option ℕ
number_in None = None
number_in (Some f) = f.number

-- ---- the rules of a header

-- against the first header of its name
abbrev pub differs : List Struct → Heading → Option Signature → Bool
differs structs h None = false
differs structs h (Some f) = not (same_type (result_of structs h) f.result && same_types (types_of structs h) f.parameters)

-- a second definition of its name
abbrev pub is_second : ℕ → Bool → Option ℕ → Bool
is_second k defined None = false
is_second k defined (Some first) = defined && not (nat_eq first k)

-- its name
abbrev pub name_rules : (Bytes → Option Signature) → ℕ → Bool → Heading → List Breach
name_rules functions k defined h =
    breaks (is_second k defined (number_in (functions h.name.bytes))) Redeclared h.name.at
    ++ breaks (is_main h && not (defined && is_mains h)) BadMain h.name.at

module _ (functions : Bytes → Option Signature) (structs : List Struct) where
  -- its types as a whole
  abbrev pub type_rules : Heading → List Breach
  type_rules h =
      breaks (is_bad_result (result_of structs h)) IncompleteType h.name.at
      ++ breaks (differs structs h (functions h.name.bytes)) PrototypeDiffers h.name.at

  -- the header of an item, which is the k-th definition or stands before it
  abbrev pub heading_rules : ℕ → Bool → Heading → List Breach
  heading_rules k defined h =
      parts_rules structs defined h
      ++ name_rules functions k defined h
      ++ unless_broken (parts_rules structs defined h) (type_rules h)
