-- A statement's row fixes the statement.
use Rattle.std.proofs.Common.{◌≡◌, refl, ap, ◌∙◌, sym, ℕ, zero, suc, ◌+◌, ◌-◌, List, [], ◌∷◌, Option, Some, None, Bool, true, false}
use Rattle.c_tree.specs.declared.token.Class.TheVariants as class
use Rattle.c_tree.specs.declared.tree.Arm.{Arm}
use Rattle.c_tree.specs.declared.tree.Block.{Block}
use Rattle.c_tree.specs.declared.tree.BlockItem.{BlockItem}
use Rattle.c_tree.specs.declared.tree.BlockItem.TheVariants as block_item
use Rattle.c_tree.specs.declared.tree.Expr.{Expr}
use Rattle.c_tree.specs.declared.tree.ForStart.{ForStart}
use Rattle.c_tree.specs.declared.tree.ForStart.TheVariants as start
use Rattle.c_tree.specs.declared.tree.SimpleStatement.{SimpleStatement}
use Rattle.c_tree.specs.declared.tree.Stmt.{Stmt}
use Rattle.c_tree.specs.declared.tree.Stmt.TheFolds.{map-Stmt, fold_out-Stmt}
use Rattle.c_tree.specs.declared.tree.Stmt.TheOpen.{Stmt-F}
use Rattle.c_tree.specs.declared.tree.Stmt.TheViews.{out-Stmt, roll-Stmt, roll-out-Stmt}
use Rattle.c_tree.specs.declared.tree.Text.{Text}
use Rattle.c_grammar.specs.Grammar as part
use Rattle.c_grammar.specs.Grammar.{Part}
use Rattle.c_grammar.specs.Meaning.{Forest, none, leaf, node, ◌+++◌}
use Rattle.c_grammar.specs.Trees.{shape, part_of, lifted, shown, each, given, expression_tree, simple_tree, start_row, statement_row, statement_step, statement_tree, block_item_tree, block_tree, else_tree, for_row}
use Rattle.c_grammar.proofs.Grades.{forest_assoc, part_fails}
use Rattle.c_grammar.proofs.Peels.{Free, one, each_one, given_peels, given_one}
use Rattle.c_grammar.proofs.OneExpression.{expression_peels}
use Rattle.c_grammar.proofs.OneDeclaration.{no_word, some_expression, declaration_one, simple_one, simple_peels, start_peels, mark_one, call_one}
use Rattle.c_grammar.proofs.Statements.{OfItem, AllItems, AllArms, OfLast, OfParts, by_parts}
use Rattle.c_grammar.proofs.Views.{row_roll, block_step, if_step}

abbrev One : Stmt → Type 0
One s = (t : Stmt) → statement_row s ≡ statement_row t → s ≡ t

-- ---- a statement's row is no expression's node

abbrev statement_part : Part → Bool
statement_part part.IfStatement = true
statement_part part.PlainStatement = true
statement_part _ = false

abbrev is_statement : Forest → Bool
is_statement none = false
is_statement (leaf c v p rest) = false
is_statement (node p kids rest) = statement_part p

step_is : (x : Stmt-F Forest) → is_statement (statement_step x) ≡ true
step_is (Stmt-F.Empty at) = refl
step_is _ = refl

statement_is : (s : Stmt) → is_statement (statement_row s) ≡ true
statement_is s = ap is_statement (fold_out-Stmt Forest statement_step s) ∙ step_is (map-Stmt Stmt Forest statement_row (out-Stmt s))

no_part : (n : ℕ) → statement_part (part_of n) ≡ false
no_part = part_fails statement_part refl refl (λ g. refl)

lifted_isnt : (k g : ℕ) (row f : Forest) → is_statement (lifted k g row +++ f) ≡ false
lifted_isnt zero g row f = no_part g
lifted_isnt (suc k) g row f = no_part (suc k + g)

expression_isnt : (e : Expr) (f : Forest) → is_statement (expression_tree e +++ f) ≡ false
expression_isnt e f = lifted_isnt (11 - (shape e).grade) (shape e).grade (shape e).row f

no_expression : (s : Stmt) (e : Expr) (f : Forest) → statement_row s ≡ expression_tree e +++ f → ⊥
no_expression s e f h = let a = sym (statement_is s) ∙ ap is_statement h ∙ expression_isnt e f in cc

no_none : (s : Stmt) → statement_row s ≡ none → ⊥
no_none s h = let a = sym (statement_is s) ∙ ap is_statement h in cc

-- ---- lists of parts

items_one : (xs ys : List (BlockItem Stmt)) → AllItems One xs → each (block_item_tree statement_row) xs ≡ each (block_item_tree statement_row) ys → xs ≡ ys
items_one [] [] all h = refl
items_one [] (y ∷ ys) all h = absurd (cc)
items_one (x ∷ xs) [] all h = absurd (cc)
items_one (x ∷ xs) (y ∷ ys) all h =
    let first = item_one x y all.0 (cc) in
    let rest = items_one xs ys all.1 (cc) in
    λ i. first i ∷ rest i
  where
    item_one : (x y : BlockItem Stmt) → OfItem One x → block_item_tree statement_row x ≡ block_item_tree statement_row y → x ≡ y
    item_one (block_item.Declaration d) (block_item.Declaration e) all h = ap block_item.Declaration (declaration_one d e (cc))
    item_one (block_item.Statement s) (block_item.Statement t) all h = ap block_item.Statement (all t (cc))
    item_one x y all h = absurd (cc)

blocks_one : (b c : Block Stmt) → AllItems One b.items → block_tree statement_row b ≡ block_tree statement_row c → b ≡ c
blocks_one b c all h =
    let at : b.at ≡ c.at = cc in
    let rest = items_one b.items c.items all (cc) in
    λ i. record { at = at i; items = rest i }

last_one : (o q : Option Stmt) → OfLast One o → given statement_row o ≡ given statement_row q → o ≡ q
last_one None None all h = refl
last_one None (Some t) all h = absurd (no_none t (sym h))
last_one (Some s) None all h = absurd (no_none s h)
last_one (Some s) (Some t) all h = ap Some (all t h)

no_arm : (o : Option Stmt) (e : Expr) (f : Forest) → given statement_row o ≡ expression_tree e +++ f → ⊥
no_arm None e f h = some_expression e f h
no_arm (Some s) e f h = no_expression s e f h

else_one : (arms others : List (Arm Stmt)) (o q : Option Stmt) → AllArms One arms → OfLast One o → else_tree statement_row arms o ≡ else_tree statement_row others q → (arms ≡ others) × (o ≡ q)
else_one [] [] o q all last h = (refl, last_one o q last (cc))
else_one [] (b ∷ others) o q all last h = absurd (no_arm o b.test (statement_tree (statement_row b.then) +++ else_tree statement_row others q) (cc))
else_one (a ∷ arms) [] o q all last h = absurd (no_arm q a.test (statement_tree (statement_row a.then) +++ else_tree statement_row arms o) (cc))
else_one (a ∷ arms) (b ∷ others) o q all last h =
    let first = expression_peels a.test b.test (statement_tree (statement_row a.then) +++ else_tree statement_row arms o) (statement_tree (statement_row b.then) +++ else_tree statement_row others q) (cc) in
    let then = all.0 b.then (cc) in
    let rest = else_one arms others o q all.1 last (cc) in
    (λ i. record { test = first.0 i; then = then i } ∷ rest.0 i, rest.1)

if_one : (d e : Expr) (s t : Stmt) (arms others : List (Arm Stmt)) (o q : Option Stmt) → One s → AllArms One arms → OfLast One o → expression_tree d +++ statement_tree (statement_row s) +++ else_tree statement_row arms o ≡ expression_tree e +++ statement_tree (statement_row t) +++ else_tree statement_row others q → (d ≡ e) × (s ≡ t) × (arms ≡ others) × (o ≡ q)
if_one d e s t arms others o q one all last h =
    let first = expression_peels d e (statement_tree (statement_row s) +++ else_tree statement_row arms o) (statement_tree (statement_row t) +++ else_tree statement_row others q) h in
    let then = one t (cc) in
    let rest = else_one arms others o q all last (cc) in
    (first.0, then, rest.0, rest.1)

-- ---- the head of a for

start_free : (f : Forest) → Free start_row (shown class.Semicolon f)
start_free f (start.Declaration d) g h = cc
start_free f (start.Simple s) g h = cc

test_free : (f : Forest) → Free expression_tree (shown class.Semicolon f)
test_free f e g h = no_word e g _ _ _ _ (sym h)

abbrev tail : Option SimpleStatement → Forest → Forest
tail o f = shown class.Semicolon (given simple_tree o +++ f)

for_split : (s : Option ForStart) (e : Option Expr) (o : Option SimpleStatement) (f : Forest) → for_row s e o +++ f ≡ given start_row s +++ shown class.Semicolon (given expression_tree e +++ tail o f)
for_split s e o f =
    forest_assoc (given start_row s) (shown class.Semicolon (given expression_tree e +++ shown class.Semicolon (given simple_tree o))) f
    ∙ ap (λ r. given start_row s +++ shown class.Semicolon r) (forest_assoc (given expression_tree e) (shown class.Semicolon (given simple_tree o)) f)

for_one : (s t : Option ForStart) (d e : Option Expr) (o q : Option SimpleStatement) (f g : Forest) → for_row s d o +++ statement_tree f ≡ for_row t e q +++ statement_tree g → (s ≡ t) × (d ≡ e) × (o ≡ q) × (f ≡ g)
for_one s t d e o q f g h =
    let first = given_peels start_row start_peels _ _ (start_free (given expression_tree d +++ tail o (statement_tree f))) (start_free (given expression_tree e +++ tail q (statement_tree g))) s t (sym (for_split s d o (statement_tree f)) ∙ h ∙ for_split t e q (statement_tree g)) in
    let second = given_peels expression_tree expression_peels _ _ (test_free (given simple_tree o +++ statement_tree f)) (test_free (given simple_tree q +++ statement_tree g)) d e (cc) in
    let third = given_peels simple_tree simple_peels (statement_tree f) (statement_tree g) (λ x r a. cc) (λ x r a. cc) o q (cc) in
    (first.0, second.0, third.0, cc)

-- ---- statements

tests_one : (d e : Expr) (f g : Forest) → expression_tree d +++ statement_tree f ≡ expression_tree e +++ statement_tree g → (d ≡ e) × (f ≡ g)
tests_one d e f g h = let more = expression_peels d e (statement_tree f) (statement_tree g) h in (more.0, cc)

ends_one : (d e : Expr) → expression_tree d ≡ expression_tree e → d ≡ e
ends_one = one expression_tree expression_peels

text_same : (x y : Text) → x.at ≡ y.at → x.bytes ≡ y.bytes → x ≡ y
text_same x y p q = λ i. record { at = p i; bytes = q i }

one_layer : (x z : Stmt-F Stmt) → OfParts One x → statement_step (map-Stmt Stmt Forest statement_row x) ≡ statement_step (map-Stmt Stmt Forest statement_row z) → x ≡ z
one_layer (Stmt-F.Empty at) (Stmt-F.Empty to) all h = cc
one_layer (Stmt-F.Break at) (Stmt-F.Break to) all h = cc
one_layer (Stmt-F.Continue at) (Stmt-F.Continue to) all h = cc
one_layer (Stmt-F.Block b) (Stmt-F.Block c) all h = let same = sym (block_step b) ∙ h ∙ block_step c in ap Stmt-F.Block (blocks_one b c all (cc))
one_layer (Stmt-F.If at d s arms o) (Stmt-F.If to e t others q) all h =
    let same = sym (if_step at d s arms o) ∙ h ∙ if_step to e t others q in
    let more = if_one d e s t arms others o q all.0 all.1 all.2 (cc) in
    cc
one_layer (Stmt-F.While at d s) (Stmt-F.While to e t) all h =
    let more = tests_one d e (statement_row s) (statement_row t) (cc) in
    let body = all t more.1 in
    cc
one_layer (Stmt-F.DoWhile at s d) (Stmt-F.DoWhile to t e) all h =
    let test = ends_one d e (cc) in
    let body = all t (cc) in
    cc
one_layer (Stmt-F.For at s d o x) (Stmt-F.For to t e q y) all h =
    let more = for_one s t d e o q (statement_row x) (statement_row y) (cc) in
    let body = all y more.3 in
    cc
one_layer (Stmt-F.Return at v) (Stmt-F.Return to w) all h = let same = given_one expression_tree expression_peels some_expression v w (cc) in cc
one_layer (Stmt-F.Print at f xs) (Stmt-F.Print to g ys) all h =
    let text = text_same f g (cc) (cc) in
    let same = each_one expression_tree expression_peels some_expression xs ys (cc) in
    cc
one_layer (Stmt-F.Free at d) (Stmt-F.Free to e) all h = let same = ends_one d e (cc) in cc
one_layer (Stmt-F.Mark x) (Stmt-F.Mark y) all h = let same = mark_one x y (cc) in cc
one_layer (Stmt-F.Mpi x) (Stmt-F.Mpi y) all h = let same = call_one x y (cc) in cc
one_layer (Stmt-F.Simple x) (Stmt-F.Simple y) all h = let same = simple_one x y (cc) in cc
one_layer x z all h = absurd (cc)

pub row_one : (s : Stmt) → One s
row_one = by_parts One (λ x parts t h.
    let rows = sym (row_roll x) ∙ h ∙ fold_out-Stmt Forest statement_step t in
    ap roll-Stmt (one_layer x (out-Stmt t) parts rows) ∙ roll-out-Stmt t)

all_items : (xs : List (BlockItem Stmt)) → AllItems One xs
all_items [] = tt
all_items (block_item.Declaration d ∷ xs) = (tt, all_items xs)
all_items (block_item.Statement s ∷ xs) = (row_one s, all_items xs)

pub block_one : (b c : Block Stmt) → block_tree statement_row b ≡ block_tree statement_row c → b ≡ c
block_one b c = blocks_one b c (all_items b.items)
