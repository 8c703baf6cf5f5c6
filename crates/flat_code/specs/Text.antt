-- Code as a text of C.
use Rattle.std.specs.Prelude.{ℕ, zero, suc, Bool, true, false, nat_eq, if◌then◌else◌, List, [], ◌∷◌, ◌++◌, map, flat_map, replicate, take, drop, Option, Some, None, codes, slice_get}
use Rattle.std.specs.List.{list_any}
use Rattle.std.specs.Fmt.{decimal, signed_decimal}
use Rattle.mpi_words.specs.declared.message.Datatype.{Datatype}
use Rattle.mpi_words.specs.declared.message.Datatype.TheVariants as datatype
use Rattle.c_kernel.specs.declared.types.Base.{Base}
use Rattle.c_kernel.specs.declared.types.Base.TheVariants as base
use Rattle.c_kernel.specs.declared.types.CType.{CType}
use Rattle.c_kernel.specs.declared.types.IntegerType.{IntegerType}
use Rattle.c_kernel.specs.declared.types.IntegerType.TheVariants.{Char, Int, Long}
use Rattle.c_kernel.specs.declared.types.Member.{Member}
use Rattle.c_kernel.specs.Parts.{place_with}
use Rattle.c_kernel.specs.declared.types.ObjectType.{ObjectType}
use Rattle.c_kernel.specs.declared.types.Struct.{Struct}
use Rattle.c_kernel.specs.declared.program.Arithmetic.{Arithmetic}
use Rattle.c_kernel.specs.declared.program.Arithmetic.TheVariants as arithmetic
use Rattle.c_kernel.specs.declared.program.BinaryOperator.{BinaryOperator}
use Rattle.c_kernel.specs.declared.program.BinaryOperator.TheVariants as binary
use Rattle.c_kernel.specs.declared.program.Comparison.{Comparison}
use Rattle.c_kernel.specs.declared.program.Comparison.TheVariants as comparison
use Rattle.c_kernel.specs.declared.program.Direction.{Direction}
use Rattle.c_kernel.specs.declared.program.Direction.TheVariants.{Left, Right}
use Rattle.c_kernel.specs.declared.program.Expr.{Expr}
use Rattle.c_kernel.specs.declared.program.Expr.TheOpen.{Expr-F}
use Rattle.c_kernel.specs.declared.program.Expr.TheOpen as expr
use Rattle.c_kernel.specs.declared.program.Expr.TheFolds.{fold-Expr}
use Rattle.c_kernel.specs.declared.program.Link.{Link}
use Rattle.c_kernel.specs.declared.program.MpiCall.{MpiCall}
use Rattle.c_kernel.specs.declared.program.MpiFunction.{MpiFunction}
use Rattle.c_kernel.specs.declared.program.MpiFunction.TheVariants.{Init, Finalize, CommRank, CommSize, Send, Recv, GetCount}
use Rattle.c_kernel.specs.declared.program.Piece.{Piece}
use Rattle.c_kernel.specs.declared.program.Piece.TheVariants.{Byte, Decimal, LongDecimal, Character}
use Rattle.c_kernel.specs.declared.program.Place.{Place}
use Rattle.c_kernel.specs.declared.program.Root.{Root}
use Rattle.c_kernel.specs.declared.program.Root.TheVariants as root
use Rattle.c_kernel.specs.declared.program.Selection.{Selection}
use Rattle.c_kernel.specs.declared.program.Selection.TheVariants as selection
use Rattle.c_kernel.specs.declared.program.Target.{Target}
use Rattle.c_kernel.specs.declared.program.UnaryOperator.{UnaryOperator}
use Rattle.c_kernel.specs.declared.program.UnaryOperator.TheVariants.{Plus, Minus, Complement}
use Rattle.c_kernel.specs.declared.program.Way.{Way}
use Rattle.c_kernel.specs.declared.program.Way.TheVariants.{Forward, Back}
use Rattle.flat_code.specs.declared.code.Code.{Code}
use Rattle.flat_code.specs.declared.code.FlatFunction.{FlatFunction}
use Rattle.flat_code.specs.declared.code.Instr.{Instr}
use Rattle.flat_code.specs.declared.code.Instr.TheVariants as instr
use Rattle.flat_code.specs.declared.code.Site.{Site}

abbrev pub Text : Type 0
Text = List ℕ

-- texts with a comma and a blank before each, and between each two
abbrev pub listed : List Text → Text
listed ts = flat_map (λ t. codes ", " ++ t) ts

abbrev pub joined : List Text → Text
joined [] = []
joined (t ∷ ts) = t ++ listed ts

-- ---- names and types

abbrev pub variable_text : ℕ → Text
variable_text k = codes "v" ++ decimal k

abbrev pub name_of_struct : List Struct → ℕ → Text
name_of_struct structs n = elim (slice_get structs n) [ None ↦ [] | Some s ↦ s.name ]

abbrev pub name_of_member : List Struct → ℕ → ℕ → Text
name_of_member structs n m = elim (slice_get structs n) [ None ↦ [] | Some s ↦ elim (slice_get s.members m) [ None ↦ [] | Some x ↦ x.name ] ]

abbrev pub name_of_function : List FlatFunction → ℕ → Text
name_of_function functions f = elim (slice_get functions f) [ None ↦ [] | Some g ↦ g.name ]

abbrev pub integer_text : IntegerType → Text
integer_text Char = codes "char"
integer_text Int = codes "int"
integer_text Long = codes "long"

-- struct 0 is MPI_Status
abbrev pub base_text : List Struct → Base → Text
base_text structs (base.Integer kind) = integer_text kind
base_text structs base.Void = codes "void"
base_text structs (base.Struct n) = if nat_eq n 0 then codes "MPI_Status" else codes "struct " ++ name_of_struct structs n

-- a name and its type: the stars stand before it, an array's sizes after it
abbrev pub typed_name : List Struct → CType → Text → Text
typed_name structs t name = base_text structs t.base ++ codes " " ++ replicate t.stars 42 ++ name

abbrev pub declared : List Struct → ObjectType → Text → Text
declared structs t name = typed_name structs t.element name ++ flat_map (λ n. codes "[" ++ decimal n ++ codes "]") t.sizes

-- ---- expressions, whose parts stand for their texts

abbrev pub long_mark : IntegerType → Text
long_mark Char = []
long_mark Int = []
long_mark Long = codes "L"

abbrev pub unary_text : UnaryOperator → Text
unary_text Plus = codes "+"
unary_text Minus = codes "-"
unary_text Complement = codes "~"

abbrev pub arithmetic_text : Arithmetic → Text
arithmetic_text arithmetic.Multiply = codes " * "
arithmetic_text arithmetic.Divide = codes " / "
arithmetic_text arithmetic.Remainder = codes " % "
arithmetic_text arithmetic.Add = codes " + "
arithmetic_text arithmetic.Subtract = codes " - "
arithmetic_text arithmetic.And = codes " & "
arithmetic_text arithmetic.ExclusiveOr = codes " ^ "
arithmetic_text arithmetic.InclusiveOr = codes " | "

abbrev pub shift_text : Direction → Text
shift_text Left = codes " << "
shift_text Right = codes " >> "

abbrev pub comparison_text : Comparison → Text
comparison_text comparison.Less = codes " < "
comparison_text comparison.Greater = codes " > "
comparison_text comparison.LessEqual = codes " <= "
comparison_text comparison.GreaterEqual = codes " >= "
comparison_text comparison.Equal = codes " == "
comparison_text comparison.NotEqual = codes " != "

abbrev pub way_text : Way → Text
way_text Forward = codes " + "
way_text Back = codes " - "

abbrev pub operator_text : BinaryOperator → Text
operator_text (binary.Arithmetic o kind) = arithmetic_text o
operator_text (binary.Shift way kind) = shift_text way
operator_text (binary.Comparison o) = comparison_text o
operator_text (binary.Advance way cells) = way_text way
operator_text (binary.Distance cells) = codes " - "
operator_text (binary.PointerComparison o) = comparison_text o
operator_text binary.And = codes " && "
operator_text binary.Or = codes " || "

abbrev pub cast_text : IntegerType → Text → Text
cast_text kind a = codes "((" ++ integer_text kind ++ codes ")" ++ a ++ codes ")"

abbrev pub left_text : Option IntegerType → Text → Text
left_text None a = a
left_text (Some kind) a = cast_text kind a

-- operators are grouped from the left
abbrev pub chain_text : Text → List (Link Text) → Text
chain_text a [] = a
chain_text a (l ∷ ls) = chain_text (codes "(" ++ left_text l.conversion a ++ operator_text l.operator ++ l.operand ++ codes ")") ls

-- what a pointer points to. Where brackets follow, they stand for that
abbrev pub is_indexed : {E : Type 0} → List (Selection E) → Bool
is_indexed (selection.Element index cells ∷ steps) = true
is_indexed _ = false

abbrev pub followed : Text → List (Selection Text) → Text
followed a steps = if is_indexed steps then a else codes "(*" ++ a ++ codes ")"

abbrev pub selected : List Struct → Text → List (Selection Text) → Text
selected structs a [] = a
selected structs a (selection.Element index cells ∷ steps) = selected structs (a ++ codes "[" ++ index ++ codes "]") steps
selected structs a (selection.Member n m place ∷ steps) = selected structs (a ++ codes "." ++ name_of_member structs n m) steps
selected structs a (selection.Follow ∷ steps) = selected structs (followed a steps) steps
selected structs a (selection.Checked ∷ steps) = selected structs (codes "(*(&" ++ a ++ codes "))") steps

abbrev pub root_text : Root Text → List (Selection Text) → Text
root_text (root.Variable k) steps = variable_text k
root_text (root.Target a) steps = followed a steps

abbrev pub place_in : List Struct → Place Text → Text
place_in structs p = selected structs (root_text p.root p.steps) p.steps

abbrev pub text_node : List Struct → Expr-F Text → Text
text_node structs (expr.Number n kind) = signed_decimal n ++ long_mark kind
text_node structs expr.Null = codes "NULL"
text_node structs (expr.Load p kind) = place_in structs p
text_node structs (expr.Address p) = codes "(&" ++ place_in structs p ++ codes ")"
text_node structs (expr.Convert kind a) = cast_text kind a
text_node structs (expr.Not a) = codes "(!" ++ a ++ codes ")"
text_node structs (expr.Unary o kind a) = codes "(" ++ unary_text o ++ a ++ codes ")"
text_node structs (expr.Chain first rest) = chain_text first rest
text_node structs (expr.Choice test chosen otherwise) = codes "(" ++ test ++ codes " ? " ++ chosen ++ codes " : " ++ otherwise ++ codes ")"

abbrev pub text_of : List Struct → Expr → Text
text_of structs = fold-Expr Text (text_node structs)

abbrev pub texts_of : List Struct → List Expr → List Text
texts_of structs es = map (text_of structs) es

abbrev pub place_text : List Struct → Place Expr → Text
place_text structs p = place_in structs (place_with (text_of structs) p)

-- ---- formats and calls

abbrev pub escaped : ℕ → Text
escaped b =
    if nat_eq b 10 then codes "\\n" else
    if nat_eq b 9 then codes "\\t" else
    if nat_eq b 92 then codes "\\\\" else
    if nat_eq b 34 then codes "\\\"" else
    if nat_eq b 37 then codes "%%" else b ∷ []

abbrev pub piece_text : Piece → Text
piece_text (Byte b) = escaped b
piece_text Decimal = codes "%d"
piece_text LongDecimal = codes "%ld"
piece_text Character = codes "%c"

abbrev pub format_text : List Piece → Text
format_text pieces = codes "\"" ++ flat_map piece_text pieces ++ codes "\""

abbrev pub call_text : Text → List Text → Text
call_text name arguments = name ++ codes "(" ++ joined arguments ++ codes ");"

abbrev pub datatype_text : Datatype → Text
datatype_text datatype.Char = codes "MPI_CHAR"
datatype_text datatype.Int = codes "MPI_INT"
datatype_text datatype.Long = codes "MPI_LONG"

abbrev pub mpi_name : MpiFunction → Text
mpi_name Init = codes "MPI_Init"
mpi_name Finalize = codes "MPI_Finalize"
mpi_name CommRank = codes "MPI_Comm_rank"
mpi_name CommSize = codes "MPI_Comm_size"
mpi_name (Send kind) = codes "MPI_Send"
mpi_name (Recv kind) = codes "MPI_Recv"
mpi_name (GetCount kind) = codes "MPI_Get_count"

abbrev pub world : Text
world = codes "MPI_COMM_WORLD"

-- the names whose addresses MPI_Init gets
abbrev pub init_arguments : List Text → List Text
init_arguments [] = codes "NULL" ∷ codes "NULL" ∷ []
init_arguments (a ∷ names) = map (λ name. codes "&" ++ name) (a ∷ names)

abbrev pub status_argument : List Text → List Text
status_argument [] = codes "MPI_STATUS_IGNORE" ∷ []
status_argument (a ∷ more) = a ∷ more

-- all arguments, by those that have values
abbrev pub mpi_arguments : MpiFunction → List Text → List Text → List Text
mpi_arguments Init names es = init_arguments names
mpi_arguments Finalize names es = []
mpi_arguments CommRank names es = world ∷ es
mpi_arguments CommSize names es = world ∷ es
mpi_arguments (Send kind) names es = take 2 es ++ datatype_text kind ∷ drop 2 es ++ world ∷ []
mpi_arguments (Recv kind) names es = take 2 es ++ datatype_text kind ∷ take 2 (drop 2 es) ++ world ∷ status_argument (drop 2 (drop 2 es))
mpi_arguments (GetCount kind) names es = take 1 es ++ datatype_text kind ∷ drop 1 es

abbrev pub mpi_text : List Struct → MpiCall → Text
mpi_text structs call = call_text (mpi_name call.function) (mpi_arguments call.function call.names (texts_of structs call.arguments))

-- ---- instructions

abbrev pub label_text : ℕ → Text
label_text k = codes "L" ++ decimal k

abbrev pub site_text : Site → Text
site_text s = decimal s.number ++ codes ":" ++ label_text s.place

-- the names of so many variables
abbrev pub separator : ℕ → Text
separator zero = []
separator (suc k) = codes ", "

abbrev pub variable_texts : ℕ → Text
variable_texts zero = []
variable_texts (suc k) = variable_texts k ++ separator k ++ variable_text k

abbrev pub into_text : List Struct → Option Target → Text
into_text structs None = []
into_text structs (Some t) = place_text structs t.place ++ codes " = "

abbrev pub instr_text : List Struct → List FlatFunction → Instr → Text
instr_text structs functions instr.Step = codes "ccc_step();"
instr_text structs functions (instr.Zero k) = codes "ccc_zero(" ++ variable_text k ++ codes ");"
instr_text structs functions (instr.Set place value) = place_text structs place ++ codes " = " ++ text_of structs value ++ codes ";"
instr_text structs functions (instr.Call into f arguments) = into_text structs into ++ call_text (name_of_function functions f) (texts_of structs arguments)
instr_text structs functions (instr.Malloc place bytes each) = place_text structs place ++ codes " = " ++ call_text (codes "malloc") (text_of structs bytes ∷ [])
instr_text structs functions (instr.Free e) = call_text (codes "free") (text_of structs e ∷ [])
instr_text structs functions (instr.Goto to) = codes "goto " ++ label_text to ++ codes ";"
instr_text structs functions (instr.Unless test to) = codes "if (!" ++ text_of structs test ++ codes ") goto " ++ label_text to ++ codes ";"
instr_text structs functions (instr.Return None) = codes "return;"
instr_text structs functions (instr.Return (Some e)) = codes "return " ++ text_of structs e ++ codes ";"
instr_text structs functions (instr.Mark site) = codes "ccc_mark(" ++ decimal site ++ codes ");"
instr_text structs functions (instr.Push site) = codes "ccc_push(" ++ decimal site ++ codes ");"
instr_text structs functions instr.Pop = codes "ccc_pop();"
instr_text structs functions (instr.Enter variables sites) = codes "ccc_enter(" ++ variable_texts variables ++ codes "; " ++ joined (map site_text sites) ++ codes ");"
instr_text structs functions instr.Leave = codes "ccc_leave();"
instr_text structs functions (instr.Print format arguments) = call_text (codes "printf") (format_text format ∷ texts_of structs arguments)
instr_text structs functions (instr.Mpi call) = mpi_text structs call

-- where an instruction may lead
abbrev pub targets : Instr → List ℕ
targets (instr.Goto to) = to ∷ []
targets (instr.Unless test to) = to ∷ []
targets (instr.Enter variables sites) = map (λ s. s.place) sites
targets _ = []

abbrev pub is_target : List Instr → ℕ → Bool
is_target code k = list_any (λ i. list_any (nat_eq k) (targets i)) code

abbrev pub label_line : Bool → ℕ → Text
label_line target k = if target then label_text k ++ codes ":\n" else []

-- a line each, and one before where it is a target
abbrev pub lines_from : ℕ → (ℕ → Bool) → (Instr → Text) → List Instr → Text
lines_from k target text [] = []
lines_from k target text (i ∷ is) = label_line (target k) k ++ codes "  " ++ text i ++ codes "\n" ++ lines_from (suc k) target text is

-- ---- functions and structs

-- names v0, v1 .. with their types
abbrev pub declared_from : List Struct → ℕ → List ObjectType → List Text
declared_from structs k [] = []
declared_from structs k (t ∷ ts) = declared structs t (variable_text k) ∷ declared_from structs (suc k) ts

abbrev pub parameters_text : List Text → Text
parameters_text [] = codes "void"
parameters_text (t ∷ ts) = joined (t ∷ ts)

abbrev pub variable_line : Text → Text
variable_line t = codes "  " ++ t ++ codes ";\n"

-- the line of a function's head
abbrev pub head_text : List Struct → FlatFunction → Text
head_text structs f = typed_name structs f.result f.name ++ codes "(" ++ parameters_text (declared_from structs 0 (take f.parameters f.variables)) ++ codes ") {\n"

abbrev pub variable_lines : List Struct → FlatFunction → Text
variable_lines structs f = flat_map variable_line (declared_from structs f.parameters (drop f.parameters f.variables))

abbrev pub function_text : List Struct → List FlatFunction → FlatFunction → Text
function_text structs functions f = head_text structs f ++ variable_lines structs f ++ lines_from 0 (is_target f.code) (instr_text structs functions) f.code ++ codes "}\n"

abbrev pub member_text : List Struct → Member → Text
member_text structs m = declared structs m.kind m.name ++ codes "; "

abbrev pub struct_line : List Struct → Struct → Text
struct_line structs s = codes "struct " ++ s.name ++ codes " { " ++ flat_map (member_text structs) s.members ++ codes "};\n"

-- the text: the structs of the program, which come after MPI_Status, and the functions
abbrev pub code_text : Code → Text
code_text c = flat_map (struct_line c.structs) (drop 1 c.structs) ++ flat_map (function_text c.structs c.functions) c.functions
