-- The rules at each node of an expression (C99 6.5), and what the node is. A part is what it was found to be.
use Rattle.std.specs.Prelude.{ℕ, ℤ, pos, negsuc, Bool, true, false, not, ◌&&◌, ◌||◌, List, [], ◌∷◌, ◌++◌, length, nat_eq, ◌==◌, Option, Some, None, is_none, unwrap_or, if◌then◌else◌, slice_get}
use Rattle.std.specs.Int.{cast_signed, w64}
use Rattle.c_tree.specs.declared.tree.Number.{Number}
use Rattle.c_tree.specs.declared.tree.Constant.{Constant}
use Rattle.c_tree.specs.declared.tree.Constant.TheVariants as word
use Rattle.c_tree.specs.declared.tree.Access.{Access}
use Rattle.c_tree.specs.declared.tree.Access.TheVariants as access
use Rattle.c_tree.specs.declared.tree.MemberName.{MemberName}
use Rattle.c_tree.specs.declared.token.Operator.{Operator}
use Rattle.c_tree.specs.declared.token.Operator.TheVariants as operator
use Rattle.c_tree.specs.declared.kind.Kind.TheVariants.{NotYet, UnknownName, BadMain, NotScalar, NotInteger, NotPointer, NotStruct, NotPlace, TypeMismatch, ArgumentCount, CallPlace, IncompleteType, Undefined}
use Rattle.c_kernel.specs.declared.types.CType.{CType}
use Rattle.c_kernel.specs.declared.types.Base.{Base}
use Rattle.c_kernel.specs.declared.types.Base.TheVariants as base
use Rattle.c_kernel.specs.declared.types.IntegerType.{IntegerType}
use Rattle.c_kernel.specs.declared.types.IntegerType.TheVariants.{Int, Long}
use Rattle.c_kernel.specs.declared.types.ObjectType.{ObjectType}
use Rattle.c_kernel.specs.declared.types.Struct.{Struct as Structure}
use Rattle.c_kernel.specs.declared.types.Member.{Member}
use Rattle.c_kernel.specs.declared.program.Expr.{Expr}
use Rattle.c_kernel.specs.declared.program.Expr.TheVariants as typed
use Rattle.c_kernel.specs.declared.program.Place.{Place}
use Rattle.c_kernel.specs.declared.program.Root.TheVariants as root
use Rattle.c_kernel.specs.declared.program.Selection.{Selection}
use Rattle.c_kernel.specs.declared.program.Selection.TheVariants as selection
use Rattle.c_kernel.specs.declared.program.Link.{Link}
use Rattle.c_kernel.specs.declared.program.UnaryOperator.{UnaryOperator}
use Rattle.c_kernel.specs.declared.program.UnaryOperator.TheVariants as unary_operator
use Rattle.c_kernel.specs.declared.program.BinaryOperator.{BinaryOperator}
use Rattle.c_kernel.specs.declared.program.BinaryOperator.TheVariants as binary
use Rattle.c_kernel.specs.declared.program.Arithmetic.{Arithmetic}
use Rattle.c_kernel.specs.declared.program.Arithmetic.TheVariants as arithmetic_operator
use Rattle.c_kernel.specs.declared.program.Direction.{Direction}
use Rattle.c_kernel.specs.declared.program.Direction.TheVariants as direction
use Rattle.c_kernel.specs.declared.program.Way.{Way}
use Rattle.c_kernel.specs.declared.program.Way.TheVariants.{Forward, Back}
use Rattle.c_kernel.specs.declared.program.Comparison.{Comparison}
use Rattle.c_kernel.specs.declared.program.Comparison.TheVariants as compare
use Rattle.c_kernel.specs.Extent.{extent}
use Rattle.c_rules.specs.declared.breach.Breach.{Breach}
use Rattle.c_rules.specs.declared.found.Found.{Found}
use Rattle.c_rules.specs.declared.found.Form.{Form}
use Rattle.c_rules.specs.declared.found.Form.TheVariants as form
use Rattle.c_rules.specs.declared.found.Run.{Run}
use Rattle.c_rules.specs.declared.found.Invocation.{Invocation}
use Rattle.c_rules.specs.declared.scope.Entity.{Entity}
use Rattle.c_rules.specs.declared.scope.Entity.TheVariants.{Variable, Parameter}
use Rattle.c_rules.specs.declared.signature.Signature.{Signature}
use Rattle.c_rules.specs.Judged.{Judged, breaks, by, refused, silent, given, after, of_part}
use Rattle.c_rules.specs.Scope.{Bytes}
use Rattle.c_rules.specs.Types.{is_pointer, is_integer, is_scalar, is_struct, is_null, is_target, is_incomplete, null_type, pointer_to, target, integer, integer_of, scalar_of, same_type, one_object, element_cells, is_array, element, value_type, member_bytes, member_at, numbered, promoted, common, change, converted}

-- ---- what is found

-- an expression that is no place, and one that is
abbrev pub plain : ℕ → CType → Expr → Found
plain at c_type e = record { at = at; form = form.Value c_type e }

abbrev pub place : ℕ → ObjectType → Place Expr → Found
place at kind p = record { at = at; form = form.Place kind p }

-- the type of its value
abbrev pub c_type_in : Form → CType
c_type_in (form.Zero kind) = integer kind
c_type_in (form.Value c_type e) = c_type
c_type_in (form.Place kind p) = value_type kind

abbrev pub c_type_of : Found → CType
c_type_of a = c_type_in a.form

abbrev pub is_zero_form : Form → Bool
is_zero_form (form.Zero kind) = true
is_zero_form (form.Value c_type e) = false
is_zero_form (form.Place kind p) = false

abbrev pub is_zero : Found → Bool
is_zero a = is_zero_form a.form

abbrev pub zero_number : Expr
zero_number = typed.Number (pos 0) Int

-- what is selected at a place
abbrev pub step_to : Place Expr → Selection Expr → Place Expr
step_to p s = record { root = p.root; steps = p.steps ++ s ∷ [] }

-- an array's element
abbrev pub element_place : ObjectType → Place Expr → Expr → Place Expr
element_place kind p i = step_to p (selection.Element i (element kind).cells)

-- what stands at a place; an array is a pointer to its first element
abbrev pub value_of_place : ObjectType → Place Expr → Expr
value_of_place kind p = if is_array kind then typed.Address (element_place kind p zero_number) else typed.Load p (scalar_of kind.element)

abbrev pub value_in_form : Form → Expr
value_in_form (form.Zero kind) = typed.Number (pos 0) kind
value_in_form (form.Value c_type e) = e
value_in_form (form.Place kind p) = value_of_place kind p

abbrev pub value : Found → Expr
value a = value_in_form a.form

-- its value in an integer type, where it is to be a pointer, and in a type
abbrev pub value_in : IntegerType → Found → Expr
value_in kind a = converted kind (integer_of (c_type_of a)) (value a)

abbrev pub pointer_value : Found → Expr
pointer_value a = if is_zero a then typed.Null else value a

abbrev pub value_as : CType → Found → Expr
value_as t a = if is_pointer t then pointer_value a else value_in (integer_of t) a

-- where a number or pointer is needed
abbrev pub scalar_rules : ℕ → CType → List Breach
scalar_rules at c_type = breaks (not (is_scalar c_type)) NotScalar at

-- where a number is needed
abbrev pub number_rules : ℕ → CType → List Breach
number_rules at c_type = scalar_rules at c_type ++ breaks (not (is_integer c_type)) NotInteger at

-- where a pointer to something is needed
abbrev pub pointer_rules : ℕ → CType → List Breach
pointer_rules at c_type = scalar_rules at c_type ++ breaks (not (is_target c_type)) NotPointer at

-- ---- which types go together (6.5.16.1)

-- NULL goes with each pointer
abbrev pub are_alike : CType → CType → Bool
are_alike t u = same_type t u || is_null t || is_null u

-- a type and a value's, where the value may be the literal 0: pointers of two types, or a pointer and a number
abbrev pub clash : CType → Bool → CType → Bool
clash t zero u = if is_pointer t then is_scalar u && not (zero || (is_pointer u && are_alike t u)) else is_integer t && is_pointer u

-- a value where one of a type is needed
abbrev pub value_rules : CType → Found → List Breach
value_rules t a = scalar_rules a.at (c_type_of a) ++ breaks (clash t (is_zero a) (c_type_of a)) TypeMismatch a.at

-- two operands of which one is a pointer
abbrev pub has_pointer : CType → CType → Bool
has_pointer t u = is_pointer t || is_pointer u

abbrev pub operands_clash : Bool → CType → Bool → CType → Bool
operands_clash zero t other u = if is_pointer t then clash t other u else clash u zero t

-- the pointer type of two operands that go together
abbrev pub met : CType → CType → CType
met t u = if is_target t then t else if is_pointer u then u else t

-- ---- constants and names (6.5.1)

-- int, or long
abbrev pub width : Bool → IntegerType
width long = if long then Long else Int

abbrev pub constant : ℕ → ℤ → IntegerType → Found
constant at n kind = plain at (integer kind) (typed.Number n kind)

abbrev pub literal : ℕ → ℕ → IntegerType → Found
literal at n kind = if nat_eq n 0 then record { at = at; form = form.Zero kind } else constant at (cast_signed w64 n) kind

abbrev pub number : Number → Judged Found
number n = by [] (literal n.at n.value (width n.long))

abbrev pub character : ℕ → ℕ → Judged Found
character at n = by [] (constant at (cast_signed w64 n) Int)

-- NULL, and the constants of MPI, which are ints
abbrev pub constant_word : ℕ → Constant → Judged Found
constant_word at word.Null = by [] (plain at null_type typed.Null)
constant_word at word.AnySource = by [] (constant at (negsuc 0) Int)
constant_word at word.AnyTag = by [] (constant at (negsuc 0) Int)
constant_word at word.ProcNull = by [] (constant at (negsuc 1) Int)

abbrev pub variable : ℕ → Place Expr
variable k = record { root = root.Variable k; steps = [] }

abbrev pub name : ℕ → Option Entity → Judged Found
name at (Some (Variable v)) = by [] (place at v.kind (variable v.number))
name at (Some (Parameter k)) = refused UnknownName at
name at None = refused UnknownName at

-- in parentheses
abbrev pub group : ℕ → Found → Judged Found
group at a = by [] (record a { at = at })

-- ---- what is selected (6.5.2.1, 6.5.2.3)

-- what a pointer points to. One that stands at a place, or that the array there stands for, is followed from that place
abbrev pub target_in : Form → Place Expr
target_in (form.Zero kind) = record { root = root.Target (typed.Number (pos 0) kind); steps = [] }
target_in (form.Value c_type e) = record { root = root.Target e; steps = [] }
target_in (form.Place kind p) = if is_array kind then step_to (element_place kind p zero_number) selection.Checked else step_to p selection.Follow

abbrev pub target_place : Found → Place Expr
target_place a = target_in a.form

-- the place that the brackets or the arrow begin with, and what stands there: an array as it is, or what a pointer points to
abbrev pub array_place : Found → Option (ObjectType × Place Expr)
array_place a = elim a.form [
  | form.Zero kind ↦ None
  | form.Value c_type e ↦ None
  | form.Place kind p ↦ if is_array kind then Some (kind, p) else None
]

abbrev pub is_array_found : Found → Bool
is_array_found a = not (is_none (array_place a))

abbrev pub base_rules : Found → List Breach
base_rules a = if is_array_found a then [] else pointer_rules a.at (c_type_of a)

-- an element of an array, and of the objects from where a pointer points on
abbrev pub element_found : List Structure → Found → Expr → Found
element_found structs a i = elim (array_place a) [
  | Some x ↦ place a.at (element x.0) (element_place x.0 x.1 i)
  | None ↦ place a.at (one_object structs (target (c_type_of a))) (step_to (target_place a) (selection.Element i (element_cells structs (target (c_type_of a)))))
]

unfoldable pub index : List Structure → Found → Found → Judged Found
index structs a i = by (base_rules a ++ number_rules i.at (c_type_of i)) (element_found structs a (value i))

-- the struct of a type, with its members
abbrev pub members_of : List Structure → Base → Option (ℕ × List Member)
members_of structs (base.Struct n) = elim (slice_get structs n) [ None ↦ None | Some s ↦ Some (n, s.members) ]
members_of structs (base.Integer kind) = None
members_of structs base.Void = None

abbrev pub member_in : List Structure → CType → Bytes → Option (ℕ × (ℕ × Member))
member_in structs t name = elim (members_of structs t.base) [
  | None ↦ None
  | Some s ↦ elim (numbered 0 s.1 name) [ None ↦ None | Some m ↦ Some (s.0, m) ]
]

-- a member of what stands at a place
abbrev pub selected : List Structure → ℕ → CType → Place Expr → MemberName → Judged Found
selected structs at t p n = elim (member_in structs t (member_bytes n)) [
  | None ↦ refused UnknownName (member_at n)
  | Some x ↦ by [] (place at x.1.1.kind (step_to p (selection.Member x.0 x.1.0 x.1.1.place)))
]

abbrev pub struct_place : Found → Option (CType × Place Expr)
struct_place a = elim a.form [
  | form.Zero kind ↦ None
  | form.Value c_type e ↦ None
  | form.Place kind p ↦ if not (is_array kind) && is_struct kind.element then Some (kind.element, p) else None
]

unfoldable pub dot : List Structure → Found → MemberName → Judged Found
dot structs a n = elim (struct_place a) [
  | None ↦ refused NotStruct a.at
  | Some x ↦ selected structs a.at x.0 x.1 n
]

abbrev pub arrow_rules : Found → List Breach
arrow_rules a = pointer_rules a.at (c_type_of a) ++ breaks (is_target (c_type_of a) && not (is_struct (target (c_type_of a)))) NotStruct a.at

unfoldable pub arrow : List Structure → Found → MemberName → Judged Found
arrow structs a n = of_part (by (arrow_rules a) (target_place a)) (λ p. selected structs a.at (target (c_type_of a)) p n)

abbrev pub member : List Structure → Access → Found → MemberName → Judged Found
member structs access.Dot a n = dot structs a n
member structs access.Arrow a n = arrow structs a n

-- ---- one operand (6.5.3, 6.5.4)

unfoldable pub unary : UnaryOperator → ℕ → Found → Judged Found
unary o at a =
    let kind = promoted (integer_of (c_type_of a)) in
    by (number_rules a.at (c_type_of a)) (plain at (integer kind) (typed.Unary o kind (value_in kind a)))

unfoldable pub negation : ℕ → Found → Judged Found
negation at a = by (scalar_rules a.at (c_type_of a)) (plain at (integer Int) (typed.Not (value a)))

unfoldable pub dereference : List Structure → ℕ → Found → Judged Found
dereference structs at a = by (pointer_rules a.at (c_type_of a)) (place at (one_object structs (target (c_type_of a))) (target_place a))

-- & of a place that is no array
abbrev pub addressed : ℕ → ℕ → Form → Judged Found
addressed at operand (form.Zero kind) = refused NotPlace operand
addressed at operand (form.Value c_type e) = refused NotPlace operand
addressed at operand (form.Place kind p) = by (breaks (is_array kind) NotPlace operand) (plain at (pointer_to kind.element) (typed.Address p))

unfoldable pub address : ℕ → Found → Judged Found
address at a = addressed at a.at a.form

-- no other operator has one operand
abbrev pub prefix : List Structure → ℕ → Operator → Option Found → Judged Found
prefix structs at operator.Plus a = given a (unary unary_operator.Plus at)
prefix structs at operator.Minus a = given a (unary unary_operator.Minus at)
prefix structs at operator.Tilde a = given a (unary unary_operator.Complement at)
prefix structs at operator.Not a = given a (negation at)
prefix structs at operator.Star a = given a (dereference structs at)
prefix structs at operator.And a = given a (address at)
prefix structs at _ a = refused NotYet 0

abbrev pub cast_rules : ℕ → CType → Found → List Breach
cast_rules at c_type a =
    scalar_rules at (c_type_of a)
    ++ breaks (not (is_integer c_type)) TypeMismatch at
    ++ breaks (not (is_integer (c_type_of a))) TypeMismatch at

unfoldable pub cast : ℕ → CType → Found → Judged Found
cast at c_type a = by (cast_rules at c_type a) (plain at c_type (value_in (integer_of c_type) a))

unfoldable pub size_of : List Structure → ℕ → CType → Judged Found
size_of structs at c_type = by (breaks (is_incomplete structs c_type) IncompleteType at) (constant at (pos (extent structs c_type).size) Long)

-- ---- two operands, grouped from the left (6.5.5 to 6.5.14)

-- a chain that begins with a value
abbrev pub begin : Found → Run
begin a = record { at = a.at; c_type = c_type_of a; zero = is_zero a; first = value a; rest = [] }

-- with one operator more
abbrev pub extended : Run → CType → Link Expr → Run
extended a c_type link = record { at = a.at; c_type = c_type; zero = false; first = a.first; rest = a.rest ++ link ∷ [] }

-- the literal 0 as a pointer
abbrev pub as_pointer : Run → Run
as_pointer a = if a.zero then record a { first = typed.Null } else a

-- a chain as a value
abbrev pub closed : Run → Expr
closed a = typed.Chain a.first a.rest

abbrev pub numbers_rules : Run → Found → List Breach
numbers_rules a b = number_rules a.at a.c_type ++ number_rules b.at (c_type_of b)

abbrev pub scalars_rules : Run → Found → List Breach
scalars_rules a b = scalar_rules a.at a.c_type ++ scalar_rules b.at (c_type_of b)

abbrev pub mismatch : Run → Found → List Breach
mismatch a b = breaks (has_pointer a.c_type (c_type_of b) && operands_clash a.zero a.c_type (is_zero b) (c_type_of b)) TypeMismatch a.at

-- of two numbers, in the type at which they meet
abbrev pub computed : Arithmetic → Run → Found → Run
computed o a b =
    let kind = common (integer_of a.c_type) (integer_of (c_type_of b)) in
    extended a (integer kind) (record {
      conversion = change kind (integer_of a.c_type);
      operator = binary.Arithmetic o kind;
      operand = value_in kind b;
    })

unfoldable pub arithmetic : Arithmetic → Run → Found → Judged Run
arithmetic o a b = by (numbers_rules a b) (computed o a b)

-- a pointer and a number of elements (6.5.6)
abbrev pub advanced : List Structure → Way → Run → Found → Run
advanced structs way a b = extended a a.c_type (record {
  conversion = None;
  operator = binary.Advance way (element_cells structs (target a.c_type));
  operand = value b;
})

-- two pointers
abbrev pub between : List Structure → Run → Found → Run
between structs a b = extended (as_pointer a) (integer Long) (record {
  conversion = None;
  operator = binary.Distance (element_cells structs (target (met a.c_type (c_type_of b))));
  operand = pointer_value b;
})

abbrev pub sum_rules : Run → Found → List Breach
sum_rules a b = if is_target a.c_type then number_rules b.at (c_type_of b) else numbers_rules a b

unfoldable pub plus : List Structure → Run → Found → Judged Run
plus structs a b = by (sum_rules a b) (if is_target a.c_type then advanced structs Forward a b else computed arithmetic_operator.Add a b)

abbrev pub minus_rules : Run → Found → List Breach
minus_rules a b = if is_pointer (c_type_of b) then scalar_rules a.at a.c_type ++ mismatch a b else sum_rules a b

abbrev pub less : List Structure → Run → Found → Run
less structs a b = if is_target a.c_type then advanced structs Back a b else computed arithmetic_operator.Subtract a b

unfoldable pub minus : List Structure → Run → Found → Judged Run
minus structs a b = by (minus_rules a b) (if is_pointer (c_type_of b) then between structs a b else less structs a b)

unfoldable pub shift : Direction → Run → Found → Judged Run
shift d a b =
    let kind = promoted (integer_of a.c_type) in
    by (numbers_rules a b) (extended a (integer kind) (record {
      conversion = change kind (integer_of a.c_type);
      operator = binary.Shift d kind;
      operand = value b;
    }))

abbrev pub compared_numbers : Comparison → Run → Found → Run
compared_numbers o a b =
    let kind = common (integer_of a.c_type) (integer_of (c_type_of b)) in
    extended a (integer Int) (record {
      conversion = change kind (integer_of a.c_type);
      operator = binary.Comparison o;
      operand = value_in kind b;
    })

abbrev pub compared_pointers : Comparison → Run → Found → Run
compared_pointers o a b = extended (as_pointer a) (integer Int) (record {
  conversion = None;
  operator = binary.PointerComparison o;
  operand = pointer_value b;
})

unfoldable pub comparison : Comparison → Run → Found → Judged Run
comparison o a b = by (scalars_rules a b ++ mismatch a b) (if has_pointer a.c_type (c_type_of b) then compared_pointers o a b else compared_numbers o a b)

unfoldable pub logical : BinaryOperator → Run → Found → Judged Run
logical o a b = by (scalars_rules a b) (extended a (integer Int) (record { conversion = None; operator = o; operand = value b }))

-- ! and ~ have no two operands
abbrev pub link : List Structure → Operator → Run → Found → Judged Run
link structs operator.Star = arithmetic arithmetic_operator.Multiply
link structs operator.Slash = arithmetic arithmetic_operator.Divide
link structs operator.Percent = arithmetic arithmetic_operator.Remainder
link structs operator.Plus = plus structs
link structs operator.Minus = minus structs
link structs operator.ShiftLeft = shift direction.Left
link structs operator.ShiftRight = shift direction.Right
link structs operator.Less = comparison compare.Less
link structs operator.Greater = comparison compare.Greater
link structs operator.LessEqual = comparison compare.LessEqual
link structs operator.GreaterEqual = comparison compare.GreaterEqual
link structs operator.EqualEqual = comparison compare.Equal
link structs operator.NotEqual = comparison compare.NotEqual
link structs operator.And = arithmetic arithmetic_operator.And
link structs operator.Caret = arithmetic arithmetic_operator.ExclusiveOr
link structs operator.Or = arithmetic arithmetic_operator.InclusiveOr
link structs operator.AndAnd = logical binary.And
link structs operator.OrOr = logical binary.Or
link structs operator.Not = λ a b. refused NotYet 0
link structs operator.Tilde = λ a b. refused NotYet 0

-- ---- test ? then : otherwise (6.5.15)

abbrev pub choice_rules : Found → Found → Found → List Breach
choice_rules c a b =
    scalar_rules c.at (c_type_of c) ++ scalar_rules a.at (c_type_of a) ++ scalar_rules b.at (c_type_of b)
    ++ breaks (has_pointer (c_type_of a) (c_type_of b) && operands_clash (is_zero a) (c_type_of a) (is_zero b) (c_type_of b)) TypeMismatch c.at

abbrev pub chosen : ℕ → CType → Found → Found → Found → Found
chosen at t c a b = plain at t (typed.Choice (value c) (value_as t a) (value_as t b))

abbrev pub choice_type : CType → CType → CType
choice_type t u = if has_pointer t u then met t u else integer (common (integer_of t) (integer_of u))

unfoldable pub choice : Found → Found → Found → Judged Found
choice c a b = by (choice_rules c a b) (chosen c.at (choice_type (c_type_of a) (c_type_of b)) c a b)

-- ---- calls (6.5.2.2)

-- the bytes of the name main
abbrev pub main_name : Bytes
main_name = 109 ∷ 97 ∷ 105 ∷ 110 ∷ []

-- each argument where one of its parameter's type is needed; those that are too many have none
abbrev pub argument_rules : List CType → List Found → List Breach
argument_rules ts [] = []
argument_rules (t ∷ ts) (v ∷ vs) = value_rules t v ++ argument_rules ts vs
argument_rules [] (v ∷ vs) = scalar_rules v.at (c_type_of v) ++ argument_rules [] vs

-- each argument in its parameter's type
abbrev pub passed : List CType → List Found → List Expr
passed (t ∷ ts) (v ∷ vs) = value_as t v ∷ passed ts vs
passed _ _ = []

-- nothing is said of values against a header that breaks a rule
abbrev pub header_rules : ℕ → Signature → List Found → List Breach
header_rules at f vs = if f.sound then breaks (not (length f.parameters == length vs)) ArgumentCount at ++ argument_rules f.parameters vs else []

abbrev pub call_rules : Bool → ℕ → Signature → List Found → List Breach
call_rules main at f vs =
    breaks main BadMain at
    ++ breaks (is_none f.number) Undefined at
    ++ header_rules at f vs

-- a call whose first byte is `at`, of the function with the name at `called`; nor is anything said of the result by such a header
unfoldable pub call : Bool → ℕ → ℕ → Signature → List Found → Judged Invocation
call main at called f vs = of_part (by (call_rules main called f vs) (record {
  at = at;
  c_type = f.result;
  function = unwrap_or f.number 0;
  arguments = passed f.parameters vs;
})) (λ c. if f.sound then by [] c else silent)

-- a call that is a part of an expression
unfoldable pub misplaced : Bool → ℕ → Signature → List Found → Judged Found
misplaced main at f vs = after (call_rules main at f vs) (refused CallPlace at)
