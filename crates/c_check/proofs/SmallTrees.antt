-- Trees of small programs, and what the definition says of them.
use Rattle.std.proofs.Common.{◌≡◌, ap, ℕ, ◌+◌, List, [], ◌∷◌, ◌++◌, Option, Some, None, Bool, false, codes}
use Rattle.c_tree.specs.declared.tree.Item.{Item}
use Rattle.c_tree.specs.declared.tree.Item.TheVariants as item
use Rattle.c_tree.specs.declared.tree.Heading.{Heading}
use Rattle.c_tree.specs.declared.tree.Parameter.{Parameter}
use Rattle.c_tree.specs.declared.tree.Bound.{Bound}
use Rattle.c_tree.specs.declared.tree.Name.{Name}
use Rattle.c_tree.specs.declared.tree.Number.{Number}
use Rattle.c_tree.specs.declared.tree.TypeSpecifier.{TypeSpecifier}
use Rattle.c_tree.specs.declared.tree.TypeSpecifier.TheVariants as specifier
use Rattle.c_tree.specs.declared.tree.PlainType.TheVariants as plain
use Rattle.c_tree.specs.declared.tree.MemberDeclaration.{MemberDeclaration}
use Rattle.c_tree.specs.declared.tree.MemberDeclarator.{MemberDeclarator}
use Rattle.c_tree.specs.declared.tree.Declaration.{Declaration}
use Rattle.c_tree.specs.declared.tree.InitDeclarator.{InitDeclarator}
use Rattle.c_tree.specs.declared.tree.Block.{Block}
use Rattle.c_tree.specs.declared.tree.BlockItem.{BlockItem}
use Rattle.c_tree.specs.declared.tree.Arm.{Arm}
use Rattle.c_tree.specs.declared.tree.ForStart.{ForStart}
use Rattle.c_tree.specs.declared.tree.SimpleStatement.{SimpleStatement}
use Rattle.c_tree.specs.declared.tree.MpiCall.{MpiCall}
use Rattle.c_tree.specs.declared.tree.Buffer.{Buffer}
use Rattle.c_tree.specs.declared.tree.DatatypeWord.{DatatypeWord}
use Rattle.c_tree.specs.declared.tree.Constant.{Constant}
use Rattle.c_tree.specs.declared.tree.MemberName.{MemberName}
use Rattle.c_tree.specs.declared.tree.Link.{Link}
use Rattle.c_tree.specs.declared.tree.Primary.{Primary}
use Rattle.c_tree.specs.declared.tree.Primary.TheVariants as primary
use Rattle.c_tree.specs.declared.tree.Suffix.{Suffix}
use Rattle.c_tree.specs.declared.tree.Tree.{Tree}
use Rattle.c_tree.specs.declared.tree.Expr.{Expr}
use Rattle.c_tree.specs.declared.tree.Expr.TheFolds.{fold-roll-Expr, map-Expr}
use Rattle.c_tree.specs.declared.tree.Expr.TheOpen.{Expr-F}
use Rattle.c_tree.specs.declared.tree.Expr.TheViews.{roll-Expr}
use Rattle.c_tree.specs.declared.tree.Stmt.{Stmt}
use Rattle.c_tree.specs.declared.tree.Stmt.TheFolds.{fold-roll-Stmt, map-Stmt}
use Rattle.c_tree.specs.declared.tree.Stmt.TheOpen.{Stmt-F}
use Rattle.c_tree.specs.declared.tree.Stmt.TheViews.{roll-Stmt}
use Rattle.c_tree.specs.declared.token.Datatype.{Datatype}
use Rattle.c_tree.specs.declared.token.Operator.{Operator}
use Rattle.c_tree.specs.declared.kind.Kind.{Kind}
use Rattle.c_kernel.specs.declared.types.CType.{CType}
use Rattle.c_kernel.specs.declared.types.Base.TheVariants as base
use Rattle.c_kernel.specs.declared.types.IntegerType.{IntegerType}
use Rattle.c_kernel.specs.declared.types.IntegerType.TheVariants as integer
use Rattle.c_kernel.specs.declared.types.ObjectType.{ObjectType}
use Rattle.c_kernel.specs.declared.types.Struct.{Struct}
use Rattle.c_kernel.specs.declared.program.MpiFunction.{MpiFunction}
use Rattle.c_kernel.specs.declared.program.Program.{Program}
use Rattle.c_kernel.specs.declared.program.Stmt.{Stmt as Form}
use Rattle.c_kernel.specs.declared.program.Stmt.TheVariants as typed
use Rattle.c_kernel.specs.declared.program.Action.TheVariants as action
use Rattle.c_kernel.specs.declared.program.Function.{Function}
use Rattle.c_kernel.specs.declared.program.Expr.{Expr as Term}
use Rattle.c_kernel.specs.declared.program.Expr.TheVariants as term
use Rattle.c_kernel.specs.declared.program.Link.{Link as TypedLink}
use Rattle.c_kernel.specs.declared.program.Place.{Place}
use Rattle.c_kernel.specs.declared.program.Root.TheVariants as root
use Rattle.c_kernel.specs.declared.program.Scalar.TheVariants as scalar
use Rattle.c_kernel.specs.declared.program.Selection.{Selection}
use Rattle.c_kernel.specs.declared.program.BinaryOperator.{BinaryOperator}
use Rattle.c_rules.specs.declared.breach.Breach.{Breach}
use Rattle.c_rules.specs.declared.signature.Signature.{Signature}
use Rattle.c_rules.specs.Judged.{Judged}
use Rattle.c_rules.specs.Rules as rules
use Rattle.c_rules.specs.Scope.{Bytes, Scope}
use Rattle.c_rules.specs.Types.{first_structs}
use Rattle.c_check.specs.Expression as expression
use Rattle.c_check.specs.Expression.{Seen, seen, judged}
use Rattle.c_check.specs.Mpi as calls
use Rattle.c_check.specs.Statement as statement
use Rattle.c_check.specs.Statement.{Node, walked, seen_as}
use Rattle.c_check.specs.Program as checked
use Rattle.c_check.specs.Program.{judged_tree}

-- ---- all that a tree's rules compute with

unfoldable pub EachRule : Type 0
unfolding rules.unary rules.negation rules.dereference rules.address rules.cast rules.size_of rules.index rules.dot rules.arrow rules.arithmetic rules.plus rules.minus rules.shift rules.comparison rules.logical rules.choice rules.call rules.misplaced statement.assign statement.compound statement.returned statement.freed statement.printed statement.guarded calls.called
EachRule = Unit {0}

-- ---- trees

abbrev pub named : ℕ → List ℕ → Name
named at bytes = record { at = at; bytes = bytes }

abbrev pub figure : ℕ → ℕ → Bool → Number
figure at value long = record { at = at; value = value; long = long }

abbrev pub parameter : TypeSpecifier → ℕ → Option Name → Option Bound → Parameter
parameter t stars name array = record { specifier = t; stars = stars; name = name; array = array }

abbrev pub heading : TypeSpecifier → ℕ → Name → List Parameter → Heading
heading t stars name parameters = record { specifier = t; stars = stars; name = name; parameters = parameters }

abbrev pub declared : ℕ → MemberName → List Number → MemberDeclarator
declared stars name sizes = record { stars = stars; name = name; sizes = sizes }

abbrev pub members : TypeSpecifier → List MemberDeclarator → MemberDeclaration
members t ds = record { specifier = t; declarators = ds }

abbrev pub variable : ℕ → Name → List Number → Option Expr → InitDeclarator
variable stars name sizes value = record { stars = stars; name = name; sizes = sizes; value = value }

abbrev pub declaration : TypeSpecifier → List InitDeclarator → Declaration
declaration t ds = record { specifier = t; declarators = ds }

-- a primary expression, and what is selected from it
abbrev pub path : Primary Expr → List (Suffix Expr) → Expr
path p xs = roll-Expr (Expr-F.Postfix p xs)

abbrev pub number : Number → Expr
number n = path (primary.Number n) []

abbrev pub character : ℕ → ℕ → Expr
character at n = path (primary.Character at n) []

abbrev pub word : ℕ → Constant → Expr
word at c = path (primary.Constant at c) []

abbrev pub name : Name → Expr
name n = path (primary.Name n) []

abbrev pub call : Name → List Expr → Expr
call n es = path (primary.Call n es) []

abbrev pub allocated : ℕ → Expr → Expr
allocated at e = path (primary.Malloc at e) []

abbrev pub size : ℕ → TypeSpecifier → ℕ → Expr
size at t stars = roll-Expr (Expr-F.SizeOf at (record { specifier = t; stars = stars }))

abbrev pub group : ℕ → Expr → Expr
group at e = path (primary.Group at e) []

abbrev pub cast : ℕ → TypeSpecifier → ℕ → Expr → Expr
cast at t stars e = roll-Expr (Expr-F.Cast at (record { specifier = t; stars = stars }) e)

abbrev pub prefix : ℕ → Operator → Expr → Expr
prefix at o e = roll-Expr (Expr-F.Prefix at o e)

abbrev pub link : Operator → Expr → Link Expr
link o e = record { operator = o; operand = e }

abbrev pub chain : Expr → List (Link Expr) → Expr
chain a ls = roll-Expr (Expr-F.Chain a ls)

abbrev pub block : ℕ → List (BlockItem Stmt) → Block Stmt
block at items = record { at = at; items = items }

abbrev pub empty : ℕ → Stmt
empty at = roll-Stmt (Stmt-F.Empty at)

abbrev pub compound : Block Stmt → Stmt
compound b = roll-Stmt (Stmt-F.Block b)

abbrev pub arm : Expr → Stmt → Arm Stmt
arm e x = record { test = e; then = x }

abbrev pub branch : ℕ → Expr → Stmt → List (Arm Stmt) → Option Stmt → Stmt
branch at e x arms last = roll-Stmt (Stmt-F.If at e x arms last)

abbrev pub do_while : ℕ → Stmt → Expr → Stmt
do_while at x e = roll-Stmt (Stmt-F.DoWhile at x e)

abbrev pub for : ℕ → Option ForStart → Option Expr → Option SimpleStatement → Stmt → Stmt
for at i e n x = roll-Stmt (Stmt-F.For at i e n x)

abbrev pub return : ℕ → Option Expr → Stmt
return at e = roll-Stmt (Stmt-F.Return at e)

abbrev pub print : ℕ → ℕ → List ℕ → List Expr → Stmt
print at format bytes es = roll-Stmt (Stmt-F.Print at (record { at = format; bytes = bytes }) es)

abbrev pub freed : ℕ → Expr → Stmt
freed at e = roll-Stmt (Stmt-F.Free at e)

abbrev pub datatype : ℕ → Datatype → DatatypeWord
datatype at t = record { at = at; datatype = t }

abbrev pub buffer : Expr → Expr → DatatypeWord → Buffer
buffer start count t = record { start = start; count = count; datatype = t }

abbrev pub called : MpiCall → Stmt
called c = roll-Stmt (Stmt-F.Mpi c)

abbrev pub simple : SimpleStatement → Stmt
simple x = roll-Stmt (Stmt-F.Simple x)

-- int main(void){..}
abbrev pub main_at : ℕ → List (BlockItem Stmt) → Item
main_at at items = item.Function (heading (specifier.Plain at plain.Int) 0 (named (at + 4) (codes "main")) (parameter (specifier.Plain (at + 9) plain.Void) 0 None None ∷ [])) (block (at + 14) items)

-- ---- what the definition says

pub seen_roll : (functions : Bytes → Option Signature) (structs : List Struct) (s : Scope) (x : Expr-F Expr) → seen functions structs s (roll-Expr x) ≡ expression.node functions structs s (map-Expr Expr Seen (seen functions structs s) x)
seen_roll functions structs s x = fold-roll-Expr Seen (expression.node functions structs s) x

pub walked_roll : (functions : Bytes → Option Signature) (structs : List Struct) (result : CType) (x : Stmt-F Stmt) (looping : Bool) (s : Scope) → walked functions structs result (roll-Stmt x) looping s ≡ statement.statement_node functions structs result (map-Stmt Stmt (Node functions structs) (walked functions structs result) x) looping s
walked_roll functions structs result x looping s = ap (λ w. w looping s) (fold-roll-Stmt (Node functions structs) (statement.statement_node functions structs result) x)

pub ruleset judging = (seen_roll, walked_roll, walked, judged)

abbrev pub fault : Kind → ℕ → Breach
fault kind at = record { kind = kind; at = at }

-- in a text of this length, without the word MPI_ANY_SOURCE
abbrev pub tree : List Item → ℕ → Tree
tree items length = record { items = items; length = length; any_source = false }

abbrev pub broken : List Item → ℕ → List Breach
broken items length = (judged_tree (tree items length)).breaches

abbrev pub whole : List Item → ℕ → Judged Program
whole items length = seen_as (checked.program_of (tree items length)) (judged_tree (tree items length))

abbrev pub accepted : Program → Judged Program
accepted p = record { breaches = []; found = Some p }

-- ---- typed forms

abbrev pub char : CType
char = record { base = base.Integer integer.Char; stars = 0 }

abbrev pub int : CType
int = record { base = base.Integer integer.Int; stars = 0 }

abbrev pub long : CType
long = record { base = base.Integer integer.Long; stars = 0 }

abbrev pub structure : ℕ → CType
structure n = record { base = base.Struct n; stars = 0 }

abbrev pub to : CType → CType
to t = record { base = t.base; stars = t.stars + 1 }

-- an object of one cell, and one of so many
abbrev pub single : CType → ObjectType
single t = record { element = t; sizes = []; cells = 1 }

abbrev pub object : CType → List ℕ → ℕ → ObjectType
object t ns cells = record { element = t; sizes = ns; cells = cells }

-- a program with the struct of MPI_Status and these, and one with a main alone
abbrev pub program_with : List Struct → List Function → ℕ → Program
program_with structs functions main = record { structs = first_structs ++ structs; functions = functions; main = main; any_source = false }

abbrev pub program_of : List Struct → List ObjectType → List Form → Program
program_of structs variables body =
    program_with structs (record { name = codes "main"; result = int; parameters = 0; variables = variables; body = body } ∷ []) 0

abbrev pub zero : ℕ → Form
zero k = typed.Actions (action.Zero k ∷ [])

abbrev pub mpi_call : MpiFunction → List Term → Form
mpi_call f es = typed.Mpi (record { function = f; names = []; arguments = es })

-- a main with a char, an int and a long, its first three variables
abbrev pub three : List Form → Program
three body = program_of [] (single char ∷ single int ∷ single long ∷ []) (zero 0 ∷ zero 1 ∷ zero 2 ∷ body)

-- places in a variable, and behind a pointer
abbrev pub within : ℕ → List (Selection Term) → Place Term
within k steps = record { root = root.Variable k; steps = steps }

abbrev pub behind : Term → List (Selection Term) → Place Term
behind p steps = record { root = root.Target p; steps = steps }

-- the number and the pointer at a place
abbrev pub read : IntegerType → Place Term → Term
read kind p = term.Load p (scalar.Number kind)

abbrev pub followed : Place Term → Term
followed p = term.Load p scalar.Pointer

abbrev pub c : Term
c = read integer.Char (within 0 [])

abbrev pub i : Term
i = read integer.Int (within 1 [])

abbrev pub l : Term
l = read integer.Long (within 2 [])

abbrev pub bond : Option IntegerType → BinaryOperator → Term → TypedLink Term
bond conversion o e = record { conversion = conversion; operator = o; operand = e }

abbrev pub sets : ℕ → Term → Form
sets x e = typed.Actions (action.Set (within x []) e ∷ [])

abbrev pub two : Term → TypedLink Term → Term
two a b = term.Chain a (b ∷ [])
