-- The shape of each expression and the row of each statement, by those of its parts.
use Rattle.std.proofs.Common.{◌≡◌, refl, ap, ◌∙◌, sym, ℕ, suc, List, [], ◌∷◌, map, Option, Some, None}
use Rattle.c_tree.specs.declared.token.Class.TheVariants as class
use Rattle.c_tree.specs.declared.token.Operator.{Operator}
use Rattle.c_tree.specs.declared.token.Value.TheVariants as value
use Rattle.c_tree.specs.declared.tree.Access.{Access}
use Rattle.c_tree.specs.declared.tree.Arm.{Arm}
use Rattle.c_tree.specs.declared.tree.Block.{Block}
use Rattle.c_tree.specs.declared.tree.BlockItem.{BlockItem}
use Rattle.c_tree.specs.declared.tree.BlockItem.TheVariants as block_item
use Rattle.c_tree.specs.declared.tree.Declaration.{Declaration}
use Rattle.c_tree.specs.declared.tree.Expr.{Expr}
use Rattle.c_tree.specs.declared.tree.Expr.TheFolds.{fold-roll-Expr, map-Expr}
use Rattle.c_tree.specs.declared.tree.Expr.TheOpen.{Expr-F}
use Rattle.c_tree.specs.declared.tree.Expr.TheVariants as expr
use Rattle.c_tree.specs.declared.tree.Expr.TheViews.{roll-Expr}
use Rattle.c_tree.specs.declared.tree.ForStart.{ForStart}
use Rattle.c_tree.specs.declared.tree.Link.{Link}
use Rattle.c_tree.specs.declared.tree.Mark.{Mark}
use Rattle.c_tree.specs.declared.tree.MemberName.{MemberName}
use Rattle.c_tree.specs.declared.tree.MpiCall.{MpiCall}
use Rattle.c_tree.specs.declared.tree.Primary.{Primary}
use Rattle.c_tree.specs.declared.tree.Primary.TheVariants as primary
use Rattle.c_tree.specs.declared.tree.SimpleStatement.{SimpleStatement}
use Rattle.c_tree.specs.declared.tree.Stmt.{Stmt}
use Rattle.c_tree.specs.declared.tree.Stmt.TheFolds.{fold-roll-Stmt, map-Stmt}
use Rattle.c_tree.specs.declared.tree.Stmt.TheOpen.{Stmt-F}
use Rattle.c_tree.specs.declared.tree.Stmt.TheVariants as stmt
use Rattle.c_tree.specs.declared.tree.Stmt.TheViews.{roll-Stmt}
use Rattle.c_tree.specs.declared.tree.Suffix.{Suffix}
use Rattle.c_tree.specs.declared.tree.Suffix.TheVariants as suffix
use Rattle.c_tree.specs.declared.tree.Text.{Text}
use Rattle.c_tree.specs.declared.tree.TypeName.{TypeName}
use Rattle.c_grammar.specs.Readers.{grade}
use Rattle.c_grammar.specs.Grammar as part
use Rattle.c_grammar.specs.Meaning.{Forest, none, leaf, node, ◌+++◌}
use Rattle.c_grammar.specs.Trees.{Shape, shape, shape_step, primary_row, suffix_tree, operand, word, whole, each, given, at_grade, name_row, type_name_row, expression_tree, unary_tree, chain, chain_grade, link_row, statement_row, statement_step, statement_tree, plain, plain_node, block_tree, block_item_tree, if_row, else_tree, for_row, mark_row, call_tree, simple_tree}
use Rattle.c_grammar.proofs.Steps.{cong2}

-- a row of things that were mapped
each_map : {X Y : Type 0} (f : Y → Forest) (g : X → Forest) (h : X → Y) → ((x : X) → f (h x) ≡ g x) → (xs : List X) → each f (map h xs) ≡ each g xs
each_map f g h same [] = refl
each_map f g h same (x ∷ xs) = cong2 ◌+++◌ (same x) (each_map f g h same xs)

-- ---- expressions

pub shape_roll : (x : Expr-F Expr) → shape (roll-Expr x) ≡ shape_step (map-Expr Expr Shape shape x)
shape_roll x = fold-roll-Expr Shape shape_step x

grade_map : (h : Link Expr → Link Shape) → ((l : Link Expr) → (h l).operator ≡ l.operator) → (rest : List (Link Expr)) → chain_grade (map h rest) ≡ chain_grade rest
grade_map h same [] = refl
grade_map h same (l ∷ rest) = ap grade (same l)

chain_map : (h : Link Expr → Link Shape) → ((l : Link Expr) → h l ≡ record { operator = l.operator; operand = shape l.operand }) → (first : Expr) (rest : List (Link Expr)) → chain (λ s. s) (chain_grade (map h rest)) (shape first) (map h rest) ≡ chain shape (chain_grade rest) first rest
chain_map h same first rest =
    ap (λ g. chain (λ s. s) g (shape first) (map h rest)) (grade_map h (λ l. ap (λ k. k.operator) (same l)) rest)
    ∙ ap (λ row. record { grade = suc (chain_grade rest); row = at_grade (chain_grade rest) (shape first) +++ row }) (each_map (link_row (λ s. s) (chain_grade rest)) _ h (λ l. ap (link_row (λ s. s) (chain_grade rest)) (same l)) rest)

pub chain_step : (first : Expr) (rest : List (Link Expr)) → shape_step (map-Expr Expr Shape shape (Expr-F.Chain first rest)) ≡ chain shape (chain_grade rest) first rest
chain_step first rest = chain_map _ (λ l. refl) first rest

suffixes_map : (h : Suffix Expr → Suffix Shape) → ((at : ℕ) (x : Expr) → h (suffix.Index at x) ≡ suffix.Index at (shape x)) → ((at : ℕ) (a : Access) (n : MemberName) → h (suffix.Member at a n) ≡ suffix.Member at a n) → (xs : List (Suffix Expr)) → each (suffix_tree (λ s. s)) (map h xs) ≡ each (suffix_tree shape) xs
suffixes_map h i m xs = each_map (suffix_tree (λ s. s)) _ h (λ s. elim s as (λ s. suffix_tree (λ s. s) (h s) ≡ suffix_tree shape s) [ suffix.Index at x ↦ ap (suffix_tree (λ s. s)) (i at x) | suffix.Member at a n ↦ ap (suffix_tree (λ s. s)) (m at a n) ]) xs

abbrev postfix : Forest → List (Suffix Expr) → Shape
postfix row suffixes = operand (row +++ each (suffix_tree shape) suffixes)

behind : (row : Forest) (h : Suffix Expr → Suffix Shape) → ((at : ℕ) (x : Expr) → h (suffix.Index at x) ≡ suffix.Index at (shape x)) → ((at : ℕ) (a : Access) (n : MemberName) → h (suffix.Member at a n) ≡ suffix.Member at a n) → (xs : List (Suffix Expr)) → operand (row +++ each (suffix_tree (λ s. s)) (map h xs)) ≡ postfix row xs
behind row h i m xs = ap (λ rest. operand (row +++ rest)) (suffixes_map h i m xs)

pub postfix_step : (p : Primary Expr) (suffixes : List (Suffix Expr)) → shape_step (map-Expr Expr Shape shape (Expr-F.Postfix p suffixes)) ≡ postfix (primary_row shape p) suffixes
postfix_step (primary.Number n) suffixes = behind (primary_row shape (primary.Number n)) _ (λ at x. refl) (λ at a n. refl) suffixes
postfix_step (primary.Character at v) suffixes = behind (primary_row shape (primary.Character at v)) _ (λ at x. refl) (λ at a n. refl) suffixes
postfix_step (primary.Constant at c) suffixes = behind (primary_row shape (primary.Constant at c)) _ (λ at x. refl) (λ at a n. refl) suffixes
postfix_step (primary.Name n) suffixes = behind (primary_row shape (primary.Name n)) _ (λ at x. refl) (λ at a n. refl) suffixes
postfix_step (primary.Call n arguments) suffixes =
    behind (primary_row (λ s. s) (primary.Call n (map shape arguments))) _ (λ at x. refl) (λ at a n. refl) suffixes
    ∙ ap (λ row. postfix (name_row n +++ node part.Arguments row none) suffixes) (each_map whole expression_tree shape (λ x. refl) arguments)
postfix_step (primary.Malloc at size) suffixes = behind (primary_row shape (primary.Malloc at size)) _ (λ at x. refl) (λ at a n. refl) suffixes
postfix_step (primary.Group at inner) suffixes = behind (primary_row shape (primary.Group at inner)) _ (λ at x. refl) (λ at a n. refl) suffixes

pub shape_postfix : (p : Primary Expr) (suffixes : List (Suffix Expr)) → shape (expr.Postfix p suffixes) ≡ operand (primary_row shape p +++ each (suffix_tree shape) suffixes)
shape_postfix p suffixes = ap shape (sym (expr.rolls-Postfix p suffixes)) ∙ shape_roll (Expr-F.Postfix p suffixes) ∙ postfix_step p suffixes

pub shape_size_of : (at : ℕ) (t : TypeName) → shape (expr.SizeOf at t) ≡ operand (word class.SizeOf at (type_name_row t))
shape_size_of at t = ap shape (sym (expr.rolls-SizeOf at t)) ∙ shape_roll (Expr-F.SizeOf at t)

pub shape_cast : (at : ℕ) (t : TypeName) (x : Expr) → shape (expr.Cast at t x) ≡ operand (word class.LeftParen at (type_name_row t +++ unary_tree x))
shape_cast at t x = ap shape (sym (expr.rolls-Cast at t x)) ∙ shape_roll (Expr-F.Cast at t x)

pub shape_prefix : (at : ℕ) (o : Operator) (x : Expr) → shape (expr.Prefix at o x) ≡ operand (word (class.Sign o) at (unary_tree x))
shape_prefix at o x = ap shape (sym (expr.rolls-Prefix at o x)) ∙ shape_roll (Expr-F.Prefix at o x)

pub shape_chain : (first : Expr) (rest : List (Link Expr)) → shape (expr.Chain first rest) ≡ chain shape (chain_grade rest) first rest
shape_chain first rest = ap shape (sym (expr.rolls-Chain first rest)) ∙ shape_roll (Expr-F.Chain first rest) ∙ chain_step first rest

pub shape_choice : (test then otherwise : Expr) → shape (expr.Choice test then otherwise) ≡ record { grade = 11; row = at_grade 10 (shape test) +++ expression_tree then +++ expression_tree otherwise }
shape_choice test then otherwise = ap shape (sym (expr.rolls-Choice test then otherwise)) ∙ shape_roll (Expr-F.Choice test then otherwise)

-- ---- statements

pub row_roll : (x : Stmt-F Stmt) → statement_row (roll-Stmt x) ≡ statement_step (map-Stmt Stmt Forest statement_row x)
row_roll x = fold-roll-Stmt Forest statement_step x

else_map : (h : Arm Stmt → Arm Forest) (last : Option Stmt) (mapped : Option Forest) → ((a : Arm Stmt) → h a ≡ record { test = a.test; then = statement_row a.then }) → given (λ row. row) mapped ≡ given statement_row last → (arms : List (Arm Stmt)) → else_tree (λ row. row) (map h arms) mapped ≡ else_tree statement_row arms last
else_map h last mapped same end [] = ap (λ row. node part.ElsePart row none) end
else_map h last mapped same end (a ∷ arms) = cong2 (λ (b : Arm Forest) rest. node part.ElsePart (expression_tree b.test +++ statement_tree b.then +++ rest) none) (same a) (else_map h last mapped same end arms)

items_map : (h : BlockItem Stmt → BlockItem Forest) → ((d : Declaration) → h (block_item.Declaration d) ≡ block_item.Declaration d) → ((s : Stmt) → h (block_item.Statement s) ≡ block_item.Statement (statement_row s)) → (items : List (BlockItem Stmt)) → each (block_item_tree (λ row. row)) (map h items) ≡ each (block_item_tree statement_row) items
items_map h d s items = each_map (block_item_tree (λ row. row)) _ h (λ i. elim i as (λ i. block_item_tree (λ row. row) (h i) ≡ block_item_tree statement_row i) [ block_item.Declaration x ↦ ap (block_item_tree (λ row. row)) (d x) | block_item.Statement x ↦ ap (block_item_tree (λ row. row)) (s x) ]) items

pub block_step : (b : Block Stmt) → statement_step (map-Stmt Stmt Forest statement_row (Stmt-F.Block b)) ≡ plain (block_tree statement_row b)
block_step b = ap (λ row. plain (node part.Block (word class.LeftBrace b.at row) none)) (items_map _ (λ d. refl) (λ s. refl) b.items)

pub if_step : (at : ℕ) (test : Expr) (then : Stmt) (arms : List (Arm Stmt)) (last : Option Stmt) → statement_step (map-Stmt Stmt Forest statement_row (Stmt-F.If at test then arms last)) ≡ node part.IfStatement (if_row statement_row at test then arms last) none
if_step at test then arms None = ap (λ rest. node part.IfStatement (word class.If at (expression_tree test +++ statement_tree (statement_row then) +++ rest)) none) (else_map _ None None (λ a. refl) refl arms)
if_step at test then arms (Some s) = ap (λ rest. node part.IfStatement (word class.If at (expression_tree test +++ statement_tree (statement_row then) +++ rest)) none) (else_map _ (Some s) (Some (statement_row s)) (λ a. refl) refl arms)

pub row_empty : (at : ℕ) → statement_row (stmt.Empty at) ≡ plain (word class.Semicolon at none)
row_empty at = ap statement_row (sym (stmt.rolls-Empty at)) ∙ row_roll (Stmt-F.Empty at)

pub row_break : (at : ℕ) → statement_row (stmt.Break at) ≡ plain (word class.Break at none)
row_break at = ap statement_row (sym (stmt.rolls-Break at)) ∙ row_roll (Stmt-F.Break at)

pub row_continue : (at : ℕ) → statement_row (stmt.Continue at) ≡ plain (word class.Continue at none)
row_continue at = ap statement_row (sym (stmt.rolls-Continue at)) ∙ row_roll (Stmt-F.Continue at)

pub row_block : (b : Block Stmt) → statement_row (stmt.Block b) ≡ plain (block_tree statement_row b)
row_block b = ap statement_row (sym (stmt.rolls-Block b)) ∙ row_roll (Stmt-F.Block b) ∙ block_step b

pub row_if : (at : ℕ) (test : Expr) (then : Stmt) (arms : List (Arm Stmt)) (last : Option Stmt) → statement_row (stmt.If at test then arms last) ≡ node part.IfStatement (if_row statement_row at test then arms last) none
row_if at test then arms last = ap statement_row (sym (stmt.rolls-If at test then arms last)) ∙ row_roll (Stmt-F.If at test then arms last) ∙ if_step at test then arms last

pub row_while : (at : ℕ) (test : Expr) (body : Stmt) → statement_row (stmt.While at test body) ≡ plain_node part.WhileStatement (word class.While at (expression_tree test +++ statement_tree (statement_row body)))
row_while at test body = ap statement_row (sym (stmt.rolls-While at test body)) ∙ row_roll (Stmt-F.While at test body)

pub row_do_while : (at : ℕ) (body : Stmt) (test : Expr) → statement_row (stmt.DoWhile at body test) ≡ plain_node part.DoStatement (word class.Do at (statement_tree (statement_row body) +++ expression_tree test))
row_do_while at body test = ap statement_row (sym (stmt.rolls-DoWhile at body test)) ∙ row_roll (Stmt-F.DoWhile at body test)

pub row_for : (at : ℕ) (start : Option ForStart) (test : Option Expr) (step : Option SimpleStatement) (body : Stmt) → statement_row (stmt.For at start test step body) ≡ plain_node part.ForStatement (word class.For at (for_row start test step +++ statement_tree (statement_row body)))
row_for at start test step body = ap statement_row (sym (stmt.rolls-For at start test step body)) ∙ row_roll (Stmt-F.For at start test step body)

pub row_return : (at : ℕ) (v : Option Expr) → statement_row (stmt.Return at v) ≡ plain_node part.ReturnStatement (word class.Return at (given expression_tree v))
row_return at v = ap statement_row (sym (stmt.rolls-Return at v)) ∙ row_roll (Stmt-F.Return at v)

pub row_print : (at : ℕ) (format : Text) (xs : List Expr) → statement_row (stmt.Print at format xs) ≡ plain_node part.PrintStatement (word class.Printf at (leaf class.Text (value.Bytes format.bytes) format.at (each expression_tree xs)))
row_print at format xs = ap statement_row (sym (stmt.rolls-Print at format xs)) ∙ row_roll (Stmt-F.Print at format xs)

pub row_free : (at : ℕ) (pointer : Expr) → statement_row (stmt.Free at pointer) ≡ plain_node part.FreeStatement (word class.Free at (expression_tree pointer))
row_free at pointer = ap statement_row (sym (stmt.rolls-Free at pointer)) ∙ row_roll (Stmt-F.Free at pointer)

pub row_mark : (m : Mark) → statement_row (stmt.Mark m) ≡ plain_node part.Mark (mark_row m)
row_mark m = ap statement_row (sym (stmt.rolls-Mark m)) ∙ row_roll (Stmt-F.Mark m)

pub row_mpi : (c : MpiCall) → statement_row (stmt.Mpi c) ≡ plain_node part.MpiCall (call_tree c)
row_mpi c = ap statement_row (sym (stmt.rolls-Mpi c)) ∙ row_roll (Stmt-F.Mpi c)

pub row_simple : (s : SimpleStatement) → statement_row (stmt.Simple s) ≡ plain (simple_tree s)
row_simple s = ap statement_row (sym (stmt.rolls-Simple s)) ∙ row_roll (Stmt-F.Simple s)

-- the shapes and rows of nodes
pub ruleset views = (shape_postfix, shape_size_of, shape_cast, shape_prefix, shape_chain, shape_choice, row_empty, row_break, row_continue, row_block, row_if, row_while, row_do_while, row_for, row_return, row_print, row_free, row_mark, row_mpi, row_simple)
