-- The parse tree of a tree: what the grammar's rules keep of its tokens. A row is a part without its node.
use Rattle.std.specs.Prelude.{ℕ, zero, suc, ◌≡◌, ◌+◌, ◌-◌, List, [], ◌∷◌, Bool, true, false, nat_eq, Option, Some, None}
use Rattle.c_tree.specs.declared.token.Class.{Class}
use Rattle.c_tree.specs.declared.token.Class.TheVariants as class
use Rattle.c_tree.specs.declared.token.Call.{Call}
use Rattle.c_tree.specs.declared.token.Call.TheVariants as call
use Rattle.c_tree.specs.declared.token.Operator.TheVariants as operator
use Rattle.c_tree.specs.declared.token.Value.TheVariants as value
use Rattle.c_tree.specs.declared.tree.Item.{Item}
use Rattle.c_tree.specs.declared.tree.Item.TheVariants as item
use Rattle.c_tree.specs.declared.tree.Name.{Name}
use Rattle.c_tree.specs.declared.tree.Number.{Number}
use Rattle.c_tree.specs.declared.tree.TypeSpecifier.{TypeSpecifier}
use Rattle.c_tree.specs.declared.tree.TypeSpecifier.TheVariants as specifier
use Rattle.c_tree.specs.declared.tree.PlainType.{PlainType}
use Rattle.c_tree.specs.declared.tree.PlainType.TheVariants as plain_type
use Rattle.c_tree.specs.declared.tree.TypeName.{TypeName}
use Rattle.c_tree.specs.declared.tree.Heading.{Heading}
use Rattle.c_tree.specs.declared.tree.Parameter.{Parameter}
use Rattle.c_tree.specs.declared.tree.Bound.{Bound}
use Rattle.c_tree.specs.declared.tree.Bound.TheVariants as bound
use Rattle.c_tree.specs.declared.tree.MemberDeclaration.{MemberDeclaration}
use Rattle.c_tree.specs.declared.tree.MemberDeclarator.{MemberDeclarator}
use Rattle.c_tree.specs.declared.tree.MemberName.{MemberName}
use Rattle.c_tree.specs.declared.tree.MemberName.TheVariants as member_name
use Rattle.c_tree.specs.declared.tree.Declaration.{Declaration}
use Rattle.c_tree.specs.declared.tree.InitDeclarator.{InitDeclarator}
use Rattle.c_tree.specs.declared.tree.Expr.{Expr}
use Rattle.c_tree.specs.declared.tree.Expr.TheOpen.{Expr-F}
use Rattle.c_tree.specs.declared.tree.Expr.TheFolds.{fold-Expr}
use Rattle.c_tree.specs.declared.tree.Constant.{Constant}
use Rattle.c_tree.specs.declared.tree.Constant.TheVariants as constant
use Rattle.c_tree.specs.declared.tree.Access.{Access}
use Rattle.c_tree.specs.declared.tree.Access.TheVariants as access
use Rattle.c_tree.specs.declared.tree.Link.{Link}
use Rattle.c_tree.specs.declared.tree.Primary.{Primary}
use Rattle.c_tree.specs.declared.tree.Primary.TheVariants as primary
use Rattle.c_tree.specs.declared.tree.Suffix.{Suffix}
use Rattle.c_tree.specs.declared.tree.Suffix.TheVariants as suffix
use Rattle.c_tree.specs.declared.tree.Block.{Block}
use Rattle.c_tree.specs.declared.tree.BlockItem.{BlockItem}
use Rattle.c_tree.specs.declared.tree.BlockItem.TheVariants as block_item
use Rattle.c_tree.specs.declared.tree.Stmt.{Stmt}
use Rattle.c_tree.specs.declared.tree.Stmt.TheOpen.{Stmt-F}
use Rattle.c_tree.specs.declared.tree.Stmt.TheFolds.{fold-Stmt}
use Rattle.c_tree.specs.declared.tree.Arm.{Arm}
use Rattle.c_tree.specs.declared.tree.ForStart.{ForStart}
use Rattle.c_tree.specs.declared.tree.ForStart.TheVariants as start
use Rattle.c_tree.specs.declared.tree.SimpleStatement.{SimpleStatement}
use Rattle.c_tree.specs.declared.tree.SimpleStatement.TheVariants as simple
use Rattle.c_tree.specs.declared.tree.Step.{Step}
use Rattle.c_tree.specs.declared.tree.Step.TheVariants as step
use Rattle.c_tree.specs.declared.tree.Mark.{Mark}
use Rattle.c_tree.specs.declared.tree.Mark.TheVariants as mark
use Rattle.c_tree.specs.declared.tree.MpiCall.{MpiCall}
use Rattle.c_tree.specs.declared.tree.MpiCall.TheVariants as mpi
use Rattle.c_tree.specs.declared.tree.Buffer.{Buffer}
use Rattle.c_tree.specs.declared.tree.DatatypeWord.{DatatypeWord}
use Rattle.c_tree.specs.declared.tree.ReductionWord.{ReductionWord}
use Rattle.c_tree.specs.declared.tree.Status.{Status}
use Rattle.c_tree.specs.declared.tree.Status.TheVariants as status
use Rattle.c_grammar.specs.Grammar as part
use Rattle.c_grammar.specs.Grammar.{Part}
use Rattle.c_grammar.specs.Meaning.{Forest, none, leaf, node, ◌+++◌}
use Rattle.c_grammar.specs.Readers.{assign_class, grade}

-- ---- rows

-- a word that is kept with its place
abbrev pub word : Class → ℕ → Forest → Forest
word c at rest = leaf c value.Nothing at rest

-- a word of which the class alone is kept
abbrev pub shown : Class → Forest → Forest
shown c rest = leaf c value.Nothing 0 rest

-- the rows of a list, one after another
abbrev pub each : {X : Type 0} → (X → Forest) → List X → Forest
each row [] = none
each row (x ∷ xs) = row x +++ each row xs

-- the row of what may be left out
abbrev pub given : {X : Type 0} → (X → Forest) → Option X → Forest
given row None = none
given row (Some x) = row x

-- so many stars
abbrev pub star_row : ℕ → Forest
star_row zero = none
star_row (suc n) = shown (class.Sign operator.Star) (star_row n)

-- a name with its bytes
abbrev pub name_row : Name → Forest
name_row n = leaf class.Name (value.Bytes n.bytes) n.at none

-- the class of a number, by whether it is long
abbrev pub number_class : Bool → Class
number_class true = class.LongNumber
number_class false = class.Number

-- a number with its value
abbrev pub number_row : Number → Forest
number_row n = leaf (number_class n.long) (value.Number n.value) n.at none

-- ---- types

-- the word that such a type begins with
abbrev pub plain_class : PlainType → Class
plain_class plain_type.Char = class.Char
plain_class plain_type.Int = class.Int
plain_class plain_type.Long = class.Long
plain_class plain_type.Void = class.Void
plain_class plain_type.Status = class.StatusType

-- a type specifier: a word, or struct and a name
abbrev pub specifier_row : TypeSpecifier → Forest
specifier_row (specifier.Plain at plain) = word (plain_class plain) at none
specifier_row (specifier.Struct at name) = word class.Struct at (name_row name)

-- a type specifier as a node
abbrev pub specifier_tree : TypeSpecifier → Forest
specifier_tree s = node part.TypeSpecifier (specifier_row s) none

-- a type specifier and stars
abbrev pub type_name_row : TypeName → Forest
type_name_row t = specifier_tree t.specifier +++ star_row t.stars

-- ---- members of a struct

-- a member's name
abbrev pub member_name_row : MemberName → Forest
member_name_row (member_name.Name n) = name_row n
member_name_row (member_name.Source at) = word class.SourceField at none
member_name_row (member_name.Tag at) = word class.TagField at none

-- a member: stars, name, sizes
abbrev pub member_tree : MemberDeclarator → Forest
member_tree m = node part.MemberDeclarator (star_row m.stars +++ member_name_row m.name +++ each number_row m.sizes) none

-- the members of one type specifier
abbrev pub members_tree : MemberDeclaration → Forest
members_tree d = node part.MemberDeclaration (specifier_tree d.specifier +++ each member_tree d.declarators) none

-- ---- expressions

-- an expression's grade, and its row: 0 for an operand, g + 1 for a chain of grade g, 11 for a choice
pub record Shape : Type 0 where
  pub grade : ℕ
  pub row : Forest

-- the node of a grade
abbrev pub part_of : ℕ → Part
part_of zero = part.Unary
part_of (suc g) = elim (nat_eq g 10) as (λ _. Part) [ true ↦ part.Expression | false ↦ part.Binary g ]

-- k nodes around a row of the grade g, and one of that grade
abbrev pub lifted : ℕ → ℕ → Forest → Forest
lifted zero g row = node (part_of g) row none
lifted (suc k) g row = node (part_of (suc k + g)) (lifted k g row) none

-- the parse tree where an expression of the grade is wanted
abbrev pub at_grade : ℕ → Shape → Forest
at_grade g s = lifted (g - s.grade) s.grade s.row

-- the parse tree where a whole expression is wanted
abbrev pub whole : Shape → Forest
whole s = at_grade 11 s

-- the word of a constant
abbrev pub constant_class : Constant → Class
constant_class constant.Null = class.Null
constant_class constant.AnySource = class.AnySource
constant_class constant.AnyTag = class.AnyTag
constant_class constant.ProcNull = class.ProcNull

-- the sign before a selected member
abbrev pub access_class : Access → Class
access_class access.Dot = class.Dot
access_class access.Arrow = class.Arrow

-- that of the first operator; no operator has the grade of a chain without one
abbrev pub chain_grade : {E : Type 0} → List (Link E) → ℕ
chain_grade [] = 11
chain_grade (link ∷ links) = grade link.operator

-- an operator and its right operand, in a chain of the grade
abbrev pub link_row : {E : Type 0} → (E → Shape) → ℕ → Link E → Forest
link_row look g link = shown (class.Sign link.operator) (at_grade g (look link.operand))

-- a primary expression, by the shapes of its parts
abbrev pub primary_row : {E : Type 0} → (E → Shape) → Primary E → Forest
primary_row look (primary.Number n) = number_row n
primary_row look (primary.Character at v) = leaf class.Character (value.Number v) at none
primary_row look (primary.Constant at c) = word (constant_class c) at none
primary_row look (primary.Name n) = name_row n
primary_row look (primary.Call n arguments) = name_row n +++ node part.Arguments (each (λ e. whole (look e)) arguments) none
primary_row look (primary.Malloc at size) = word class.Malloc at (whole (look size))
primary_row look (primary.Group at inner) = word class.LeftParen at (whole (look inner))

-- what is selected from an operand, by the shapes of its parts
abbrev pub suffix_row : {E : Type 0} → (E → Shape) → Suffix E → Forest
suffix_row look (suffix.Index at index) = word class.LeftBracket at (whole (look index))
suffix_row look (suffix.Member at a name) = word (access_class a) at (member_name_row name)

abbrev pub suffix_tree : {E : Type 0} → (E → Shape) → Suffix E → Forest
suffix_tree look s = node part.Suffix (suffix_row look s) none

-- what is an operand by itself
abbrev pub operand : Forest → Shape
operand row = record { grade = 0; row = row }

-- a chain of a grade, by the shapes of its operands
abbrev pub chain : {E : Type 0} → (E → Shape) → ℕ → E → List (Link E) → Shape
chain look g first rest = record { grade = suc g; row = at_grade g (look first) +++ each (link_row look g) rest }

-- an expression, by the shapes of its parts
abbrev pub shape_step : Expr-F Shape → Shape
shape_step (Expr-F.Postfix p suffixes) = operand (primary_row (λ s. s) p +++ each (suffix_tree (λ s. s)) suffixes)
shape_step (Expr-F.SizeOf at t) = operand (word class.SizeOf at (type_name_row t))
shape_step (Expr-F.Cast at t x) = operand (word class.LeftParen at (type_name_row t +++ at_grade 0 x))
shape_step (Expr-F.Prefix at o x) = operand (word (class.Sign o) at (at_grade 0 x))
shape_step (Expr-F.Chain first rest) = chain (λ s. s) (chain_grade rest) first rest
shape_step (Expr-F.Choice test then otherwise) = record { grade = 11; row = at_grade 10 test +++ whole then +++ whole otherwise }

-- the shape of an expression
abbrev pub shape : Expr → Shape
shape = fold-Expr Shape shape_step

-- an expression's own grade
abbrev pub grade_of : Expr → ℕ
grade_of e = (shape e).grade

-- the parse tree of an expression
abbrev pub expression_tree : Expr → Forest
expression_tree e = whole (shape e)

-- the parse tree of an expression that stands as an operand
abbrev pub unary_tree : Expr → Forest
unary_tree e = at_grade 0 (shape e)

-- ---- declarations and headings

-- a variable: stars, name, sizes, value
abbrev pub variable_tree : InitDeclarator → Forest
variable_tree d = node part.InitDeclarator (star_row d.stars +++ name_row d.name +++ each number_row d.sizes +++ given expression_tree d.value) none

-- the variables of one type specifier
abbrev pub declaration_tree : Declaration → Forest
declaration_tree d = node part.Declaration (specifier_tree d.specifier +++ each variable_tree d.declarators) none

-- a parameter's brackets
abbrev pub bound_row : Bound → Forest
bound_row bound.Open = shown class.LeftBracket none
bound_row (bound.Size n) = shown class.LeftBracket (number_row n)

-- a parameter: type specifier, stars, name, brackets
abbrev pub parameter_tree : Parameter → Forest
parameter_tree p = node part.Parameter (specifier_tree p.specifier +++ star_row p.stars +++ given name_row p.name +++ given bound_row p.array) none

-- the parameters of a heading
abbrev pub parameters_tree : List Parameter → Forest
parameters_tree ps = node part.Parameters (each parameter_tree ps) none

-- a heading after its type specifier
abbrev pub heading_row : Heading → Forest
heading_row h = star_row h.stars +++ name_row h.name +++ parameters_tree h.parameters

-- ---- calls of MPI

-- a datatype at its place
abbrev pub datatype_row : DatatypeWord → Forest
datatype_row d = word (class.Element d.datatype) d.at none

-- a reduction at its place
abbrev pub reduction_row : ReductionWord → Forest
reduction_row r = word (class.Fold r.reduction) r.at none

-- a buffer: start, count, datatype
abbrev pub buffer_tree : Buffer → Forest
buffer_tree b = node part.Buffer (expression_tree b.start +++ expression_tree b.count +++ datatype_row b.datatype) none

-- a status, or MPI_STATUS_IGNORE
abbrev pub status_row : Status → Forest
status_row (status.Ignore at) = word class.StatusIgnore at none
status_row (status.Given e) = expression_tree e

-- a status argument as a node
abbrev pub status_tree : Status → Forest
status_tree s = node part.Status (status_row s) none

-- the node of a call, with what is kept of its arguments
abbrev pub call_node : Part → Call → ℕ → Forest → Forest
call_node p c at row = node p (word (class.Mpi c) at row) none

-- the two names of MPI_Init
abbrev pub names_row : Name × Name → Forest
names_row n = name_row n.0 +++ name_row n.1

-- a call of MPI
abbrev pub call_tree : MpiCall → Forest
call_tree (mpi.Init at names) = call_node part.InitCall call.Init at (given names_row names)
call_tree (mpi.Finalize at) = call_node part.FinalizeCall call.Finalize at none
call_tree (mpi.CommRank at result) = call_node part.CommunicatorCall call.CommRank at (expression_tree result)
call_tree (mpi.CommSize at result) = call_node part.CommunicatorCall call.CommSize at (expression_tree result)
call_tree (mpi.Send at buffer destination tag) = call_node part.SendCall call.Send at (buffer_tree buffer +++ expression_tree destination +++ expression_tree tag)
call_tree (mpi.Recv at buffer source tag s) = call_node part.RecvCall call.Recv at (buffer_tree buffer +++ expression_tree source +++ expression_tree tag +++ status_tree s)
call_tree (mpi.GetCount at s datatype result) = call_node part.GetCountCall call.GetCount at (status_tree s +++ datatype_row datatype +++ expression_tree result)
call_tree (mpi.Barrier at) = call_node part.BarrierCall call.Barrier at none
call_tree (mpi.Bcast at buffer root) = call_node part.BcastCall call.Bcast at (buffer_tree buffer +++ expression_tree root)
call_tree (mpi.Reduce at send receive operation root) = call_node part.ReduceCall call.Reduce at (expression_tree send +++ buffer_tree receive +++ reduction_row operation +++ expression_tree root)
call_tree (mpi.Allreduce at send receive operation) = call_node part.AllreduceCall call.Allreduce at (expression_tree send +++ buffer_tree receive +++ reduction_row operation)
call_tree (mpi.Gather at send receive root) = call_node part.GatherScatterCall call.Gather at (buffer_tree send +++ buffer_tree receive +++ expression_tree root)
call_tree (mpi.Scatter at send receive root) = call_node part.GatherScatterCall call.Scatter at (buffer_tree send +++ buffer_tree receive +++ expression_tree root)
call_tree (mpi.Allgather at send receive) = call_node part.AllgatherCall call.Allgather at (buffer_tree send +++ buffer_tree receive)

-- ---- statements

-- the sign of a step
abbrev pub step_class : Step → Class
step_class step.Increment = class.PlusPlus
step_class step.Decrement = class.MinusMinus

-- an expression, an assignment or a step
abbrev pub simple_row : SimpleStatement → Forest
simple_row (simple.Expression e) = expression_tree e
simple_row (simple.Assign place at o value) = expression_tree place +++ word (assign_class o) at (expression_tree value)
simple_row (simple.Postfix place at s) = expression_tree place +++ word (step_class s) at none
simple_row (simple.Prefix at s place) = word (step_class s) at (unary_tree place)

-- a simple statement as a node
abbrev pub simple_tree : SimpleStatement → Forest
simple_tree s = node part.SimpleStatement (simple_row s) none

-- the first part of a for's head
abbrev pub start_row : ForStart → Forest
start_row (start.Declaration d) = declaration_tree d
start_row (start.Simple s) = simple_tree s

-- a mark
abbrev pub mark_row : Mark → Forest
mark_row (mark.Pragma at) = word class.Checkpoint at none
mark_row (mark.Call at) = word class.PotentialCheckpoint at none

-- a statement's row is one node, of an if or of another statement
abbrev pub statement_tree : Forest → Forest
statement_tree row = node part.Statement row none

-- a statement that is no if
abbrev pub plain : Forest → Forest
plain row = node part.PlainStatement row none

-- a statement that has a part of its own
abbrev pub plain_node : Part → Forest → Forest
plain_node p row = plain (node p row none)

-- a declaration or a statement
abbrev pub block_item_row : {S : Type 0} → (S → Forest) → BlockItem S → Forest
block_item_row row (block_item.Declaration d) = declaration_tree d
block_item_row row (block_item.Statement s) = statement_tree (row s)

-- a part of a block as a node
abbrev pub block_item_tree : {S : Type 0} → (S → Forest) → BlockItem S → Forest
block_item_tree row i = node part.BlockItem (block_item_row row i) none

-- a block, by the rows of its statements
abbrev pub block_tree : {S : Type 0} → (S → Forest) → Block S → Forest
block_tree row b = node part.Block (word class.LeftBrace b.at (each (block_item_tree row) b.items)) none

-- what follows the branch of an if
abbrev pub else_tree : {S : Type 0} → (S → Forest) → List (Arm S) → Option S → Forest
else_tree row [] last = node part.ElsePart (given row last) none
else_tree row (arm ∷ arms) last = node part.ElsePart (expression_tree arm.test +++ statement_tree (row arm.then) +++ else_tree row arms last) none

-- an if, with what follows its branch
abbrev pub if_row : {S : Type 0} → (S → Forest) → ℕ → Expr → S → List (Arm S) → Option S → Forest
if_row row at test then arms last = word class.If at (expression_tree test +++ statement_tree (row then) +++ else_tree row arms last)

-- the head of a for, after its place
abbrev pub for_row : Option ForStart → Option Expr → Option SimpleStatement → Forest
for_row s test step = given start_row s +++ shown class.Semicolon (given expression_tree test +++ shown class.Semicolon (given simple_tree step))

-- a statement, by the rows of its parts
abbrev pub statement_step : Stmt-F Forest → Forest
statement_step (Stmt-F.Empty at) = plain (word class.Semicolon at none)
statement_step (Stmt-F.Break at) = plain (word class.Break at none)
statement_step (Stmt-F.Continue at) = plain (word class.Continue at none)
statement_step (Stmt-F.Block b) = plain (block_tree (λ row. row) b)
statement_step (Stmt-F.If at test then arms last) = node part.IfStatement (if_row (λ row. row) at test then arms last) none
statement_step (Stmt-F.While at test body) = plain_node part.WhileStatement (word class.While at (expression_tree test +++ statement_tree body))
statement_step (Stmt-F.DoWhile at body test) = plain_node part.DoStatement (word class.Do at (statement_tree body +++ expression_tree test))
statement_step (Stmt-F.For at s test step body) = plain_node part.ForStatement (word class.For at (for_row s test step +++ statement_tree body))
statement_step (Stmt-F.Return at v) = plain_node part.ReturnStatement (word class.Return at (given expression_tree v))
statement_step (Stmt-F.Print at format arguments) = plain_node part.PrintStatement (word class.Printf at (leaf class.Text (value.Bytes format.bytes) format.at (each expression_tree arguments)))
statement_step (Stmt-F.Free at pointer) = plain_node part.FreeStatement (word class.Free at (expression_tree pointer))
statement_step (Stmt-F.Mark m) = plain_node part.Mark (mark_row m)
statement_step (Stmt-F.Mpi c) = plain_node part.MpiCall (call_tree c)
statement_step (Stmt-F.Simple s) = plain (simple_tree s)

-- a statement's row
abbrev pub statement_row : Stmt → Forest
statement_row = fold-Stmt Forest statement_step

-- ---- programs

-- an item of a program
abbrev pub item_row : Item → Forest
item_row (item.Include at header) = word (class.Include header) at none
item_row (item.Struct at name members) = word class.Struct at (name_row name +++ node part.StructBody (each members_tree members) none)
item_row (item.Prototype h) = specifier_row h.specifier +++ node part.Function (heading_row h) none
item_row (item.Function h body) = specifier_row h.specifier +++ node part.Function (heading_row h +++ block_tree statement_row body) none

-- an item as a node
abbrev pub item_tree : Item → Forest
item_tree i = node part.Item (item_row i) none

-- the parse tree of a program's items
abbrev pub parse_tree : List Item → Forest
parse_tree items = node part.Program (each item_tree items) none

-- a parse tree fixes the items
abbrev pub IsFixed : Type 0
IsFixed = (a b : List Item) → parse_tree a ≡ parse_tree b → a ≡ b
