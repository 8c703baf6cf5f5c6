-- Types and rules, tried on small cases.
use Rattle.std.proofs.Common.{◌≡◌, refl, ℕ, pos, negsuc, List, [], ◌∷◌, Some, None, true, false, codes}
use Rattle.c_tree.specs.declared.tree.TypeSpecifier.TheVariants as specifier
use Rattle.c_tree.specs.declared.tree.PlainType.TheVariants as plain_type
use Rattle.c_tree.specs.declared.tree.Constant.TheVariants as word
use Rattle.c_tree.specs.declared.tree.MemberName.{MemberName}
use Rattle.c_tree.specs.declared.tree.MemberName.TheVariants as member_name
use Rattle.c_tree.specs.declared.kind.Kind.{Kind}
use Rattle.c_tree.specs.declared.kind.Kind.TheVariants.{UnknownName, NotScalar, NotStruct, NotPlace, NotPointer, NotInteger, TypeMismatch, Datatype}
use Rattle.c_kernel.specs.declared.types.CType.{CType}
use Rattle.c_kernel.specs.declared.types.Base.TheVariants.{Void, Struct}
use Rattle.c_kernel.specs.declared.types.IntegerType.TheVariants.{Char, Int, Long}
use Rattle.c_kernel.specs.declared.types.ObjectType.{ObjectType}
use Rattle.c_kernel.specs.declared.types.Struct.{Struct as Structure}
use Rattle.c_kernel.specs.declared.types.Member.{Member}
use Rattle.c_kernel.specs.declared.program.Expr.{Expr}
use Rattle.c_kernel.specs.declared.program.Expr.TheVariants as typed
use Rattle.c_kernel.specs.declared.program.Scalar.TheVariants as scalar
use Rattle.c_kernel.specs.declared.program.Place.{Place}
use Rattle.c_kernel.specs.declared.program.Root.TheVariants as root
use Rattle.c_kernel.specs.declared.program.Selection.TheVariants as selection
use Rattle.c_kernel.specs.declared.program.BinaryOperator.TheVariants as binary
use Rattle.c_kernel.specs.declared.program.Way.TheVariants.{Forward}
use Rattle.c_rules.specs.declared.breach.Breach.{Breach}
use Rattle.c_rules.specs.declared.found.Found.{Found}
use Rattle.c_rules.specs.declared.scope.Entity.TheVariants.{Parameter}
use Rattle.c_rules.specs.declared.rules.roles.Role.TheVariants as role
use Rattle.c_rules.specs.Judged.{by, refused}
use Rattle.c_rules.specs.Scope.{start, hide, visible}
use Rattle.c_rules.specs.Types.{room, object_type, element, value_type, number_of, known_number, numbered, integer, null_type, pointer_to, is_incomplete, type_of, status_type, first_structs}
use Rattle.c_rules.specs.Rules as rules
use Rattle.c_rules.specs.Rules.{clash, choice_type, literal, character, constant_word, plain, place, variable, value_of_place, index, dot, arrow, dereference, address, plus, minus, begin}
use Rattle.c_rules.specs.Roles.{role_rules, role_value, roles_rules}

-- ---- struct Pair { int first; long rest[2]; };

abbrev one : CType → ℕ → ObjectType
one t n = record { element = t; sizes = []; cells = n }

abbrev pair : CType
pair = record { base = Struct 0; stars = 0 }

abbrev first : Member
first = record { name = codes "first"; kind = one (integer Int) 1; place = 0 }

abbrev rest : Member
rest = record { name = codes "rest"; kind = record { element = integer Long; sizes = 2 ∷ []; cells = 2 }; place = 1 }

abbrev pair_struct : Structure
pair_struct = record { name = codes "Pair"; members = first ∷ rest ∷ []; extent = record { cells = 3; size = 20 } }

abbrev structs : List Structure
structs = pair_struct ∷ []

known : number_of structs (codes "Pair") ≡ Some 0
known = refl

unknown : number_of structs (codes "List") ≡ None
unknown = refl

-- inside struct List {}, and inside another struct Pair {}
own : known_number structs (Some (codes "List")) (codes "List") ≡ Some 1
own = refl

earlier : known_number structs (Some (codes "Pair")) (codes "Pair") ≡ Some 0
earlier = refl

other : known_number structs (Some (codes "List")) (codes "Tree") ≡ None
other = refl

-- struct List; and struct List *; inside struct List {}
own_value : is_incomplete structs (record { base = Struct 1; stars = 0 }) ≡ true
own_value = refl

own_pointer : is_incomplete structs (record { base = Struct 1; stars = 1 }) ≡ false
own_pointer = refl

-- void *
pointer_to_void : is_incomplete structs null_type ≡ true
pointer_to_void = refl

-- ---- room

grid : room 2 (2 ∷ 3 ∷ []) ≡ Some 12
grid = refl

single : room 3 [] ≡ Some 3
single = refl

most : room 1 (8192 ∷ []) ≡ Some 8192
most = refl

no_size : room 1 (0 ∷ []) ≡ None
no_size = refl

large_size : room 1 (8193 ∷ []) ≡ None
large_size = refl

many_cells : room 3 (2731 ∷ []) ≡ None
many_cells = refl

large_element : room 8193 [] ≡ None
large_element = refl

-- ---- arrays

abbrev row : ObjectType
row = record { element = pair; sizes = 2 ∷ []; cells = 6 }

abbrev rows : ObjectType
rows = record { element = pair; sizes = 3 ∷ 2 ∷ []; cells = 18 }

sizes : object_type structs pair (3 ∷ 2 ∷ []) ≡ rows
sizes = refl

too_large : object_type structs pair (8000 ∷ []) ≡ one pair 0
too_large = refl

inner : element rows ≡ row
inner = refl

innermost : element row ≡ one pair 3
innermost = refl

decays : value_type row ≡ pointer_to pair
decays = refl

decays_no_further : value_type rows ≡ record { base = Void; stars = 0 }
decays_no_further = refl

itself : value_type (one pair 3) ≡ pair
itself = refl

-- an array's value is the address of its first element
first_address : value_of_place row (variable 4) ≡ typed.Address (record { root = root.Variable 4; steps = selection.Element (typed.Number (pos 0) Int) 3 ∷ [] })
first_address = refl

load : value_of_place (one (pointer_to pair) 1) (variable 4) ≡ typed.Load (variable 4) scalar.Pointer
load = refl

-- ---- which types go together

abbrev long_pointer : CType
long_pointer = pointer_to (integer Long)

abbrev int_pointer : CType
int_pointer = pointer_to (integer Int)

same_pointers : clash int_pointer false int_pointer ≡ false
same_pointers = refl

two_pointers : clash int_pointer false long_pointer ≡ true
two_pointers = refl

pointer_and_number : clash int_pointer false (integer Int) ≡ true
pointer_and_number = refl

number_and_pointer : clash (integer Int) false int_pointer ≡ true
number_and_pointer = refl

two_numbers : clash (integer Char) false (integer Long) ≡ false
two_numbers = refl

zero : clash int_pointer true (integer Int) ≡ false
zero = refl

null : clash int_pointer false null_type ≡ false
null = refl

-- a struct is NotScalar
structure : clash int_pointer false pair ≡ false
structure = refl

numbers_meet : choice_type (integer Char) (integer Long) ≡ integer Long
numbers_meet = refl

chars_meet : choice_type (integer Char) (integer Char) ≡ integer Int
chars_meet = refl

null_first : choice_type null_type int_pointer ≡ int_pointer
null_first = refl

zero_first : choice_type (integer Int) int_pointer ≡ int_pointer
zero_first = refl

zero_last : choice_type int_pointer (integer Int) ≡ int_pointer
zero_last = refl

null_and_zero : choice_type null_type (integer Int) ≡ null_type
null_and_zero = refl

-- ---- members

first_member : numbered 0 pair_struct.members (codes "first") ≡ Some (0, first)
first_member = refl

second_member : numbered 0 pair_struct.members (codes "rest") ≡ Some (1, rest)
second_member = refl

no_member : numbered 0 pair_struct.members (codes "pair") ≡ None
no_member = refl

-- ---- operators on pair (variable 0), p (variable 1) and row (variable 2)

abbrev pair_found : Found
pair_found = place 10 (one pair 3) (variable 0)

abbrev p_found : Found
p_found = place 10 (one (pointer_to pair) 1) (variable 1)

abbrev row_found : Found
row_found = place 10 row (variable 2)

abbrev p_value : Expr
p_value = typed.Load (variable 1) scalar.Pointer

abbrev row_value : Expr
row_value = typed.Address (record { root = root.Variable 2; steps = selection.Element (typed.Number (pos 0) Int) 3 ∷ [] })

abbrev member_named : ℕ → List ℕ → MemberName
member_named at name = member_name.Name (record { at = at; bytes = name })

abbrev rest_of : Place Expr → Place Expr
rest_of p = rules.step_to p (selection.Member 0 1 1)

-- pair.rest
dot_rest : dot structs pair_found (member_named 15 (codes "rest")) ≡ by [] (place 10 rest.kind (rest_of (variable 0)))
unfolding dot
dot_rest = refl

-- pair.last
dot_unknown : dot structs pair_found (member_named 15 (codes "last")) ≡ refused UnknownName 15
unfolding dot
dot_unknown = refl

-- p.rest, row.rest
dot_pointer : dot structs p_found (member_named 12 (codes "rest")) ≡ refused NotStruct 10
unfolding dot
dot_pointer = refl

dot_array : dot structs row_found (member_named 14 (codes "rest")) ≡ refused NotStruct 10
unfolding dot
dot_array = refl

-- p->rest, row->rest
arrow_rest : arrow structs p_found (member_named 13 (codes "rest")) ≡ by [] (place 10 rest.kind (rest_of (record { root = root.Variable 1; steps = selection.Follow ∷ [] })))
unfolding arrow
arrow_rest = refl

arrow_array : arrow structs row_found (member_named 15 (codes "rest")) ≡ by [] (place 10 rest.kind (rest_of (record { root = root.Variable 2; steps = selection.Element (typed.Number (pos 0) Int) 3 ∷ selection.Checked ∷ [] })))
unfolding arrow
arrow_array = refl

-- i->rest of an int *i, and NULL->rest
arrow_number : (arrow structs (place 10 (one int_pointer 1) (variable 3)) (member_named 13 (codes "rest"))).breaches ≡ record { kind = NotStruct; at = 10 } ∷ []
unfolding arrow
arrow_number = refl

arrow_null : (arrow structs (plain 10 null_type typed.Null) (member_named 16 (codes "rest"))).breaches ≡ record { kind = NotPointer; at = 10 } ∷ []
unfolding arrow
arrow_null = refl

-- row[1], p[1]
index_array : index structs row_found (rules.constant 14 (pos 1) Int) ≡ by [] (place 10 (one pair 3) (record { root = root.Variable 2; steps = selection.Element (typed.Number (pos 1) Int) 3 ∷ [] }))
unfolding index
index_array = refl

index_pointer : index structs p_found (rules.constant 12 (pos 1) Int) ≡ by [] (place 10 (one pair 3) (record { root = root.Variable 1; steps = selection.Follow ∷ selection.Element (typed.Number (pos 1) Int) 3 ∷ [] }))
unfolding index
index_pointer = refl

-- *p, *row, *(p + 1)
follow : dereference structs 9 p_found ≡ by [] (place 9 (one pair 3) (record { root = root.Variable 1; steps = selection.Follow ∷ [] }))
unfolding dereference
follow = refl

follow_array : dereference structs 9 row_found ≡ by [] (place 9 (one pair 3) (record { root = root.Variable 2; steps = selection.Element (typed.Number (pos 0) Int) 3 ∷ selection.Checked ∷ [] }))
unfolding dereference
follow_array = refl

follow_value : dereference structs 9 (plain 10 (pointer_to pair) row_value) ≡ by [] (place 9 (one pair 3) (record { root = root.Target row_value; steps = [] }))
unfolding dereference
follow_value = refl

-- &row, &pair
address_array : address 9 row_found ≡ by (record { kind = NotPlace; at = 10 } ∷ []) (plain 9 (pointer_to pair) (typed.Address (variable 2)))
unfolding address
address_array = refl

address_struct : address 9 pair_found ≡ by [] (plain 9 (pointer_to pair) (typed.Address (variable 0)))
unfolding address
address_struct = refl

-- p + 1, NULL + 1, p - row, 0 - p, 5 - p
plus_number : (plus structs (begin p_found) (rules.constant 14 (pos 1) Int)).found ≡ Some (rules.extended (begin p_found) (pointer_to pair) (record { conversion = None; operator = binary.Advance Forward 3; operand = typed.Number (pos 1) Int }))
unfolding plus
plus_number = refl

plus_null : (plus structs (begin (plain 10 null_type typed.Null)) (rules.constant 17 (pos 1) Int)).breaches ≡ record { kind = NotInteger; at = 10 } ∷ []
unfolding plus
plus_null = refl

difference : (minus structs (begin p_found) row_found).found ≡ Some (rules.extended (begin p_found) (integer Long) (record { conversion = None; operator = binary.Distance 3; operand = row_value }))
unfolding minus
difference = refl

zero_minus : (minus structs (begin (literal 8 0 Int)) p_found).found ≡ Some (rules.extended (record (begin (literal 8 0 Int)) { first = typed.Null }) (integer Long) (record { conversion = None; operator = binary.Distance 3; operand = p_value }))
unfolding minus
zero_minus = refl

number_minus : (minus structs (begin (literal 8 5 Int)) p_found).breaches ≡ record { kind = TypeMismatch; at = 8 } ∷ []
unfolding minus
number_minus = refl

-- ---- constants

literal_five : literal 8 5 Long ≡ plain 8 (integer Long) (typed.Number (pos 5) Long)
literal_five = refl

-- a character of -1
character_minus : character 8 18446744073709551615 ≡ by [] (plain 8 (integer Int) (typed.Number (negsuc 0) Int))
character_minus = refl

any_source : constant_word 8 word.AnySource ≡ by [] (plain 8 (integer Int) (typed.Number (negsuc 0) Int))
any_source = refl

any_tag : constant_word 8 word.AnyTag ≡ by [] (plain 8 (integer Int) (typed.Number (negsuc 0) Int))
any_tag = refl

no_process : constant_word 8 word.ProcNull ≡ by [] (plain 8 (integer Int) (typed.Number (negsuc 1) Int))
no_process = refl

-- ---- the parameters of main

first_parameter : visible (hide start (codes "argc")) (codes "argc") ≡ Some (Parameter 0)
first_parameter = refl

second_parameter : visible (hide (hide start (codes "argc")) (codes "argv")) (codes "argv") ≡ Some (Parameter 1)
second_parameter = refl

-- ---- MPI_Status s (variable 5)

abbrev status : ObjectType
status = one status_type 4

status_word : type_of first_structs None (specifier.Plain 5 plain_type.Status) 0 ≡ status_type
status_word = refl

status_pointer : type_of first_structs None (specifier.Plain 5 plain_type.Status) 1 ≡ pointer_to status_type
status_pointer = refl

status_room : object_type first_structs status_type [] ≡ status
status_room = refl

abbrev status_found : Found
status_found = place 10 status (variable 5)

-- s.MPI_SOURCE, s.MPI_TAG, s.count
status_source : dot first_structs status_found (member_name.Source 12) ≡ by [] (place 10 (one (integer Int) 1) (rules.step_to (variable 5) (selection.Member 0 0 0)))
unfolding dot
status_source = refl

status_tag : dot first_structs status_found (member_name.Tag 12) ≡ by [] (place 10 (one (integer Int) 1) (rules.step_to (variable 5) (selection.Member 0 1 1)))
unfolding dot
status_tag = refl

status_count : dot first_structs status_found (member_named 12 (codes "count")) ≡ refused UnknownName 12
unfolding dot
status_count = refl

-- ---- arguments of MPI's calls: int *i (variable 3), &s, NULL

abbrev i_found : Found
i_found = place 10 (one int_pointer 1) (variable 3)

abbrev status_address : Found
status_address = plain 10 (pointer_to status_type) (typed.Address (variable 5))

abbrev null_found : Found
null_found = plain 10 null_type typed.Null

abbrev at_ten : Kind → Breach
at_ten kind = record { kind = kind; at = 10 }

long_tag : role_rules role.Number (place 10 (one (integer Long) 1) (variable 0)) ≡ []
long_tag = refl

long_as_int : role_value role.Number (place 10 (one (integer Long) 1) (variable 0)) ≡ typed.Convert Int (typed.Load (variable 0) (scalar.Number Long))
long_as_int = refl

pointer_tag : role_rules role.Number i_found ≡ at_ten NotInteger ∷ []
pointer_tag = refl

int_buffer : role_rules (role.Buffer Int) i_found ≡ []
int_buffer = refl

array_buffer : role_rules (role.Buffer Int) (place 10 (record { element = integer Int; sizes = 8 ∷ []; cells = 8 }) (variable 0)) ≡ []
array_buffer = refl

null_buffer : role_rules (role.Buffer Int) null_found ≡ []
null_buffer = refl

other_buffer : role_rules (role.Buffer Long) i_found ≡ at_ten Datatype ∷ []
other_buffer = refl

zero_buffer : role_rules (role.Buffer Int) (literal 10 0 Int) ≡ at_ten NotPointer ∷ at_ten Datatype ∷ []
zero_buffer = refl

struct_buffer : role_rules (role.Buffer Int) pair_found ≡ at_ten NotScalar ∷ at_ten NotPointer ∷ at_ten Datatype ∷ []
struct_buffer = refl

a_status : role_rules (role.Pointer status_type) status_address ≡ []
a_status = refl

zero_status : role_rules (role.Pointer status_type) (literal 10 0 Int) ≡ at_ten Datatype ∷ []
zero_status = refl

int_status : role_rules (role.Pointer status_type) (literal 10 5 Int) ≡ at_ten Datatype ∷ []
int_status = refl

struct_status : role_rules (role.Pointer status_type) status_found ≡ at_ten NotScalar ∷ at_ten Datatype ∷ []
struct_status = refl

other_status : role_rules (role.Pointer status_type) i_found ≡ at_ten Datatype ∷ []
other_status = refl

int_result : role_rules (role.Pointer (integer Int)) i_found ≡ []
int_result = refl

-- the status may be left out
two_arguments : roles_rules (role.Number ∷ role.Buffer Int ∷ role.Pointer status_type ∷ []) (i_found ∷ i_found ∷ []) ≡ at_ten NotInteger ∷ []
two_arguments = refl
