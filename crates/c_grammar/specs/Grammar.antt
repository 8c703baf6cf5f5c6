-- The grammar, as rules over the classes of tokens. Nesting is bounded, so a rule also says where a level is added:
-- inside parentheses and brackets, for an item of a block, a branch, a loop's body, the operand of a unary operator
-- or a cast, and the second and third operand of ?: (Deeper).
use Rattle.std.specs.Prelude.{ℕ, zero, suc, List, [], ◌∷◌}
use Rattle.c_tree.specs.declared.token.Class.{Class}
use Rattle.c_tree.specs.declared.token.Class.TheVariants.{Name, Number, LongNumber, HugeNumber, Character, Text, Include, Checkpoint, Broken, Struct, Char, Int, Long, Void, If, Else, While, Do, For, Return, Break, Continue, SizeOf, Null, Malloc, Free, Printf, PotentialCheckpoint, StatusType, SourceField, TagField, AnySource, AnyTag, ProcNull, StatusIgnore, World, Mpi, Element, Fold, LeftParen, RightParen, LeftBracket, RightBracket, LeftBrace, RightBrace, Semicolon, Comma, Question, Colon, Dot, Arrow, Equal, PlusPlus, MinusMinus, Sign, Compound}
use Rattle.c_tree.specs.declared.token.Header.TheVariants as header
use Rattle.c_tree.specs.declared.token.Operator.TheVariants.{Star, Slash, Percent, Plus, Minus, ShiftLeft, ShiftRight, Less, Greater, LessEqual, GreaterEqual, EqualEqual, NotEqual, And, Caret, Or, AndAnd, OrOr, Not, Tilde}
use Rattle.c_tree.specs.declared.token.Call.TheVariants.{Init, Finalize, CommRank, CommSize, Send, Recv, GetCount, Barrier, Bcast, Reduce, Allreduce, Gather, Scatter, Allgather}
use Rattle.c_tree.specs.declared.token.Datatype.TheVariants.{Chars, Ints, Longs}
use Rattle.c_tree.specs.declared.token.Reduction.TheVariants.{Sum, Product, Greatest, Least}

-- the parts of a program that are nodes of its parse tree
pub data Part : Type 0 where
  Program : Part
  Item : Part
  Function : Part
  Parameters : Part
  Parameter : Part
  TypeSpecifier : Part
  StructBody : Part
  MemberDeclaration : Part
  MemberDeclarator : Part
  Declaration : Part
  InitDeclarator : Part
  Block : Part
  BlockItem : Part
  Statement : Part
  PlainStatement : Part
  IfStatement : Part
  ElsePart : Part
  WhileStatement : Part
  DoStatement : Part
  ForStatement : Part
  ReturnStatement : Part
  PrintStatement : Part
  FreeStatement : Part
  Mark : Part
  SimpleStatement : Part
  MpiCall : Part
  InitCall : Part
  FinalizeCall : Part
  BarrierCall : Part
  CommunicatorCall : Part
  SendCall : Part
  RecvCall : Part
  GetCountCall : Part
  BcastCall : Part
  ReduceCall : Part
  AllreduceCall : Part
  GatherScatterCall : Part
  AllgatherCall : Part
  Buffer : Part
  Status : Part
  Expression : Part
  Binary : (grade : ℕ) → Part
  Unary : Part
  Arguments : Part
  Suffix : Part

-- what of a token stands in the parse tree: nothing, its class, its place too, or its value too
pub data Keep : Type 0 where
  Nothing : Keep
  Kind : Keep
  Place : Keep
  All : Keep

-- Word k cs: one token whose class is among cs. Ref p: a part. Then, Either, Many and Maybe as in any grammar.
-- Deeper r: r, one level up.
pub data Rule : Type 0 where
  Word : Keep → List Class → Rule
  Ref : Part → Rule
  Then : Rule → Rule → Rule
  Either : Rule → Rule → Rule
  Many : Rule → Rule
  Maybe : Rule → Rule
  Deeper : Rule → Rule

-- one after the other
infixr 6 ◌⊳◌
abbrev pub ◌⊳◌ : Rule → Rule → Rule
a ⊳ b = Then a b

-- one or the other
infixr 5 ◌∥◌
abbrev pub ◌∥◌ : Rule → Rule → Rule
a ∥ b = Either a b

-- one token of this class; word keeps nothing of it
abbrev pub word : Class → Rule
word c = Word Nothing (c ∷ [])

-- one token of this class, which stands in the tree
abbrev pub shown : Class → Rule
shown c = Word Kind (c ∷ [])

-- the same with its place
abbrev pub placed : Class → Rule
placed c = Word Place (c ∷ [])

-- the same with its place and value
abbrev pub valued : Class → Rule
valued c = Word All (c ∷ [])

-- one token of these classes, with its place
abbrev pub one_of : List Class → Rule
one_of cs = Word Place cs

-- "(" r ")", one level up inside
abbrev pub inside : Rule → Rule
inside r = word LeftParen ⊳ Deeper r ⊳ word RightParen

-- r { "," r }
abbrev pub listed : Rule → Rule
listed r = r ⊳ Many (word Comma ⊳ r)

-- an expression
abbrev pub e : Rule
e = Ref Expression

-- ---- types and declarations

-- { "*" }
abbrev pub stars : Rule
stars = Many (shown (Sign Star))

-- numbers: of type int, of type long, of 2^63 or more
abbrev pub integers : List Class
integers = Number ∷ LongNumber ∷ HugeNumber ∷ []

-- the types of one word, but for long
abbrev pub simple_types : List Class
simple_types = Char ∷ Int ∷ Void ∷ StatusType ∷ []

-- a type other than a struct of the program
abbrev pub plain_type : Rule
plain_type = (placed Long ⊳ Maybe (word Int)) ∥ one_of simple_types

-- "struct" name, or another type
abbrev pub type_specifier : Rule
type_specifier = (placed Struct ⊳ valued Name) ∥ plain_type

-- "[" number "]"
abbrev pub size : Rule
size = word LeftBracket ⊳ Deeper (Word All integers) ⊳ word RightBracket

-- what can name a member
abbrev pub member_names : List Class
member_names = Name ∷ SourceField ∷ TagField ∷ []

-- { "*" } name { "[" number "]" }
abbrev pub member_declarator : Rule
member_declarator = stars ⊳ Word All member_names ⊳ Many size

-- type, declarators, ";"
abbrev pub member_declaration : Rule
member_declaration = Ref TypeSpecifier ⊳ listed (Ref MemberDeclarator) ⊳ word Semicolon

-- what follows the name of a struct that is defined
abbrev pub struct_body : Rule
struct_body = word LeftBrace ⊳ Ref MemberDeclaration ⊳ Many (Ref MemberDeclaration) ⊳ word RightBrace ⊳ word Semicolon

-- decl [ "=" e ]
abbrev pub init_declarator : Rule
init_declarator = stars ⊳ valued Name ⊳ Many size ⊳ Maybe (word Equal ⊳ e)

-- type, declarators with their initialisers
abbrev pub declaration : Rule
declaration = Ref TypeSpecifier ⊳ listed (Ref InitDeclarator)

-- ---- headers and functions

-- void alone in the parentheses is a parameter here, of no name
abbrev pub parameter : Rule
parameter = Ref TypeSpecifier ⊳ stars ⊳ Maybe (valued Name) ⊳ Maybe (shown LeftBracket ⊳ Deeper (Maybe (Word All integers)) ⊳ word RightBracket)

-- "(" [ parameter { "," parameter } ] ")"
abbrev pub parameters : Rule
parameters = word LeftParen ⊳ Deeper (Maybe (listed (Ref Parameter))) ⊳ word RightParen

-- what follows a header's type
abbrev pub function : Rule
function = stars ⊳ valued Name ⊳ Ref Parameters ⊳ (word Semicolon ∥ Deeper (Ref Block))

-- the lines of an include
abbrev pub headers : List Class
headers = Include header.Mpi ∷ Include header.Stdio ∷ Include header.Stdlib ∷ []

-- an include, a struct or a function
abbrev pub item : Rule
item =
    one_of headers
    ∥ (placed Struct ⊳ valued Name ⊳ (Ref StructBody ∥ Ref Function))
    ∥ (plain_type ⊳ Ref Function)

-- ---- expressions

-- the operands of a grade: unary ones, or those that the grade below makes
abbrev pub operand : ℕ → Rule
operand zero = Ref Unary
operand (suc g) = Ref (Binary g)

-- the operators of the ten grades
abbrev pub operators : ℕ → List Class
operators zero = Sign Star ∷ Sign Slash ∷ Sign Percent ∷ []
operators (suc zero) = Sign Plus ∷ Sign Minus ∷ []
operators (suc (suc zero)) = Sign ShiftLeft ∷ Sign ShiftRight ∷ []
operators (suc (suc (suc zero))) = Sign Less ∷ Sign Greater ∷ Sign LessEqual ∷ Sign GreaterEqual ∷ []
operators (suc (suc (suc (suc zero)))) = Sign EqualEqual ∷ Sign NotEqual ∷ []
operators (suc (suc (suc (suc (suc zero))))) = Sign And ∷ []
operators (suc (suc (suc (suc (suc (suc zero)))))) = Sign Caret ∷ []
operators (suc (suc (suc (suc (suc (suc (suc zero))))))) = Sign Or ∷ []
operators (suc (suc (suc (suc (suc (suc (suc (suc zero)))))))) = Sign AndAnd ∷ []
operators (suc (suc (suc (suc (suc (suc (suc (suc (suc g))))))))) = Sign OrOr ∷ []

-- there is no eleventh grade
abbrev pub binary : ℕ → Rule
binary (suc (suc (suc (suc (suc (suc (suc (suc (suc (suc g)))))))))) = word Broken
binary g = operand g ⊳ Many (Word Kind (operators g) ⊳ operand g)

-- or [ "?" e ":" e ]
abbrev pub expression : Rule
expression = Ref (Binary 9) ⊳ Maybe (word Question ⊳ Deeper e ⊳ word Colon ⊳ Deeper e)

-- what stands before its operand
abbrev pub prefixes : List Class
prefixes = Sign Minus ∷ Sign Plus ∷ Sign Not ∷ Sign Tilde ∷ Sign Star ∷ Sign And ∷ []

-- { "[" e "]" | "." name | "->" name }
abbrev pub suffixes : Rule
suffixes = Many (Ref Suffix)

-- one of these
abbrev pub suffix : Rule
suffix =
    (placed LeftBracket ⊳ Deeper e ⊳ word RightBracket)
    ∥ (one_of (Dot ∷ Arrow ∷ []) ⊳ Word All member_names)

-- "(" [ e { "," e } ] ")"
abbrev pub arguments : Rule
arguments = word LeftParen ⊳ Deeper (Maybe (listed e)) ⊳ word RightParen

-- what follows "(" in a cast
abbrev pub cast : Rule
cast = Deeper (Ref TypeSpecifier ⊳ stars) ⊳ word RightParen ⊳ Deeper (Ref Unary)

-- what follows "(" else_part
abbrev pub group : Rule
group = Deeper e ⊳ word RightParen ⊳ suffixes

-- constants, with NULL and those of MPI
abbrev pub literals : List Class
literals = Number ∷ LongNumber ∷ HugeNumber ∷ Character ∷ Null ∷ AnySource ∷ AnyTag ∷ ProcNull ∷ []

-- a literal, a name, a call, malloc, sizeof, a cast, parentheses, or an operator before its operand
abbrev pub unary : Rule
unary =
    (Word All literals ⊳ suffixes)
    ∥ (valued Name ⊳ Maybe (Ref Arguments) ⊳ suffixes)
    ∥ (placed Malloc ⊳ inside e ⊳ suffixes)
    ∥ (placed SizeOf ⊳ inside (Ref TypeSpecifier ⊳ stars))
    ∥ (placed LeftParen ⊳ (cast ∥ group))
    ∥ (one_of prefixes ⊳ Deeper (Ref Unary))

-- ---- calls of MPI

-- ","
abbrev pub comma : Rule
comma = word Comma

-- MPI_COMM_WORLD
abbrev pub world : Rule
world = word World

-- MPI_CHAR, MPI_INT, MPI_LONG
abbrev pub datatypes : List Class
datatypes = Element Chars ∷ Element Ints ∷ Element Longs ∷ []

-- one of these, with its place
abbrev pub datatype : Rule
datatype = one_of datatypes

-- MPI_SUM, MPI_PROD, MPI_MAX, MPI_MIN
abbrev pub reductions : List Class
reductions = Fold Sum ∷ Fold Product ∷ Fold Greatest ∷ Fold Least ∷ []

-- one of these, with its place
abbrev pub operation : Rule
operation = one_of reductions

-- a buffer, its count and its datatype
abbrev pub buffer : Rule
buffer = e ⊳ comma ⊳ e ⊳ comma ⊳ datatype

-- MPI_STATUS_IGNORE, or an expression
abbrev pub status : Rule
status = placed StatusIgnore ∥ e

-- "&" name
abbrev pub address : Rule
address = word (Sign And) ⊳ Deeper (valued Name)

-- NULL, NULL or & name, & name
abbrev pub init_inner : Rule
init_inner = (word Null ⊳ comma ⊳ word Null) ∥ (address ⊳ comma ⊳ address)

-- MPI_Init(..)
abbrev pub init_call : Rule
init_call = placed (Mpi Init) ⊳ inside init_inner

-- MPI_Finalize()
abbrev pub finalize_call : Rule
finalize_call = placed (Mpi Finalize) ⊳ word LeftParen ⊳ word RightParen

-- MPI_Barrier(world)
abbrev pub barrier_call : Rule
barrier_call = placed (Mpi Barrier) ⊳ inside world

-- MPI_Comm_rank(world, p), MPI_Comm_size(world, p)
abbrev pub communicator_call : Rule
communicator_call = one_of (Mpi CommRank ∷ Mpi CommSize ∷ []) ⊳ inside (world ⊳ comma ⊳ e)

-- MPI_Send(buffer, destination, tag, world)
abbrev pub send_call : Rule
send_call = placed (Mpi Send) ⊳ inside (Ref Buffer ⊳ comma ⊳ e ⊳ comma ⊳ e ⊳ comma ⊳ world)

-- MPI_Recv(buffer, source, tag, world, status)
abbrev pub recv_call : Rule
recv_call = placed (Mpi Recv) ⊳ inside (Ref Buffer ⊳ comma ⊳ e ⊳ comma ⊳ e ⊳ comma ⊳ world ⊳ comma ⊳ Ref Status)

-- MPI_Get_count(status, datatype, p)
abbrev pub get_count_call : Rule
get_count_call = placed (Mpi GetCount) ⊳ inside (Ref Status ⊳ comma ⊳ datatype ⊳ comma ⊳ e)

-- MPI_Bcast(buffer, root, world)
abbrev pub bcast_call : Rule
bcast_call = placed (Mpi Bcast) ⊳ inside (Ref Buffer ⊳ comma ⊳ e ⊳ comma ⊳ world)

-- MPI_Reduce(from, buffer, operation, root, world)
abbrev pub reduce_call : Rule
reduce_call = placed (Mpi Reduce) ⊳ inside (e ⊳ comma ⊳ Ref Buffer ⊳ comma ⊳ operation ⊳ comma ⊳ e ⊳ comma ⊳ world)

-- MPI_Allreduce(from, buffer, operation, world)
abbrev pub allreduce_call : Rule
allreduce_call = placed (Mpi Allreduce) ⊳ inside (e ⊳ comma ⊳ Ref Buffer ⊳ comma ⊳ operation ⊳ comma ⊳ world)

-- MPI_Gather(buffer, buffer, root, world), and MPI_Scatter
abbrev pub gather_scatter_call : Rule
gather_scatter_call = one_of (Mpi Gather ∷ Mpi Scatter ∷ []) ⊳ inside (Ref Buffer ⊳ comma ⊳ Ref Buffer ⊳ comma ⊳ e ⊳ comma ⊳ world)

-- MPI_Allgather(buffer, buffer, world)
abbrev pub allgather_call : Rule
allgather_call = placed (Mpi Allgather) ⊳ inside (Ref Buffer ⊳ comma ⊳ Ref Buffer ⊳ comma ⊳ world)

-- one of these calls
abbrev pub mpi_call : Rule
mpi_call =
    Ref InitCall
    ∥ Ref FinalizeCall
    ∥ Ref BarrierCall
    ∥ Ref CommunicatorCall
    ∥ Ref SendCall
    ∥ Ref RecvCall
    ∥ Ref GetCountCall
    ∥ Ref BcastCall
    ∥ Ref ReduceCall
    ∥ Ref AllreduceCall
    ∥ Ref GatherScatterCall
    ∥ Ref AllgatherCall

-- ---- statements

-- "=" or an operator and "="
abbrev pub assignments : List Class
assignments = Equal ∷ Compound Plus ∷ Compound Minus ∷ Compound Star ∷ Compound Slash ∷ Compound Percent ∷ Compound And ∷ Compound Or ∷ Compound Caret ∷ Compound ShiftLeft ∷ Compound ShiftRight ∷ []

-- "++" and "--"
abbrev pub increments : List Class
increments = PlusPlus ∷ MinusMinus ∷ []

-- ++ or -- and an operand, or an expression, which an assignment, ++ or -- can follow
abbrev pub simple_statement : Rule
simple_statement =
    (one_of increments ⊳ Ref Unary)
    ∥ (e ⊳ Maybe ((one_of assignments ⊳ e) ∥ one_of increments))

-- "{" { item } "}"
abbrev pub block : Rule
block = placed LeftBrace ⊳ Many (Deeper (Ref BlockItem)) ⊳ word RightBrace

-- a declaration, or a statement
abbrev pub block_item : Rule
block_item = (Ref Declaration ⊳ word Semicolon) ∥ Ref Statement

-- an if, with what follows its branch
abbrev pub if_statement : Rule
if_statement = placed If ⊳ inside e ⊳ Deeper (Ref Statement) ⊳ Ref ElsePart

-- what follows the branch of an if
abbrev pub else_part : Rule
else_part = Maybe (word Else ⊳ ((word If ⊳ inside e ⊳ Deeper (Ref Statement) ⊳ Ref ElsePart) ∥ Deeper (Ref PlainStatement)))

-- "while" "(" e ")" statement
abbrev pub while_statement : Rule
while_statement = placed While ⊳ inside e ⊳ Deeper (Ref Statement)

-- "do" statement "while" "(" e ")" ";"
abbrev pub do_statement : Rule
do_statement = placed Do ⊳ Deeper (Ref Statement) ⊳ word While ⊳ inside e ⊳ word Semicolon

-- "for" "(" [ declaration | simple ] ";" [ e ] ";" [ simple ] ")" statement
abbrev pub for_statement : Rule
for_statement =
    placed For
    ⊳ inside (Maybe (Ref Declaration ∥ Ref SimpleStatement) ⊳ shown Semicolon ⊳ Maybe e ⊳ shown Semicolon ⊳ Maybe (Ref SimpleStatement))
    ⊳ Deeper (Ref Statement)

-- "return" [ e ] ";"
abbrev pub return_statement : Rule
return_statement = placed Return ⊳ Maybe e ⊳ word Semicolon

-- "printf" "(" string { "," e } ")" ";"
abbrev pub print_statement : Rule
print_statement = placed Printf ⊳ inside (valued Text ⊳ Many (comma ⊳ e)) ⊳ word Semicolon

-- "free" "(" e ")" ";"
abbrev pub free_statement : Rule
free_statement = placed Free ⊳ inside e ⊳ word Semicolon

-- where a checkpoint can be taken: the pragma, or potentialCheckpoint();
abbrev pub mark : Rule
mark = placed Checkpoint ∥ (placed PotentialCheckpoint ⊳ word LeftParen ⊳ word RightParen ⊳ word Semicolon)

-- a statement that is no if
abbrev pub plain_statement : Rule
plain_statement =
    placed Semicolon
    ∥ (one_of (Break ∷ Continue ∷ []) ⊳ word Semicolon)
    ∥ Ref Block
    ∥ Ref WhileStatement
    ∥ Ref DoStatement
    ∥ Ref ForStatement
    ∥ Ref ReturnStatement
    ∥ Ref PrintStatement
    ∥ Ref FreeStatement
    ∥ Ref Mark
    ∥ (Ref MpiCall ⊳ word Semicolon)
    ∥ (Ref SimpleStatement ⊳ word Semicolon)

-- an if, or another statement
abbrev pub statement : Rule
statement = Ref IfStatement ∥ Ref PlainStatement

-- { item }
abbrev pub program : Rule
program = Many (Ref Item)

-- the rule of each part
abbrev pub rule : Part → Rule
rule Program = program
rule Item = item
rule Function = function
rule Parameters = parameters
rule Parameter = parameter
rule TypeSpecifier = type_specifier
rule StructBody = struct_body
rule MemberDeclaration = member_declaration
rule MemberDeclarator = member_declarator
rule Declaration = declaration
rule InitDeclarator = init_declarator
rule Block = block
rule BlockItem = block_item
rule Statement = statement
rule PlainStatement = plain_statement
rule IfStatement = if_statement
rule ElsePart = else_part
rule WhileStatement = while_statement
rule DoStatement = do_statement
rule ForStatement = for_statement
rule ReturnStatement = return_statement
rule PrintStatement = print_statement
rule FreeStatement = free_statement
rule Mark = mark
rule SimpleStatement = simple_statement
rule MpiCall = mpi_call
rule InitCall = init_call
rule FinalizeCall = finalize_call
rule BarrierCall = barrier_call
rule CommunicatorCall = communicator_call
rule SendCall = send_call
rule RecvCall = recv_call
rule GetCountCall = get_count_call
rule BcastCall = bcast_call
rule ReduceCall = reduce_call
rule AllreduceCall = allreduce_call
rule GatherScatterCall = gather_scatter_call
rule AllgatherCall = allgather_call
rule Buffer = buffer
rule Status = status
rule Expression = expression
rule (Binary g) = binary g
rule Unary = unary
rule Arguments = arguments
rule Suffix = suffix
