-- Declarations, simple statements and calls of MPI are fixed by their parse trees.
use Rattle.std.proofs.Common.{◌≡◌, refl, ap, ◌∙◌, sym, ℕ, zero, suc, ◌-◌, Option, Some, None}
use Rattle.c_tree.specs.declared.token.Class.{Class}
use Rattle.c_tree.specs.declared.token.Operator.{Operator}
use Rattle.c_tree.specs.declared.token.Value.{Value}
use Rattle.c_tree.specs.declared.tree.Bound.{Bound}
use Rattle.c_tree.specs.declared.tree.Bound.TheVariants as bound
use Rattle.c_tree.specs.declared.tree.Buffer.{Buffer}
use Rattle.c_tree.specs.declared.tree.DatatypeWord.{DatatypeWord}
use Rattle.c_tree.specs.declared.tree.Declaration.{Declaration}
use Rattle.c_tree.specs.declared.tree.Expr.{Expr}
use Rattle.c_tree.specs.declared.tree.ForStart.TheVariants as start
use Rattle.c_tree.specs.declared.tree.InitDeclarator.{InitDeclarator}
use Rattle.c_tree.specs.declared.tree.Mark.{Mark}
use Rattle.c_tree.specs.declared.tree.Mark.TheVariants as mark
use Rattle.c_tree.specs.declared.tree.MemberDeclaration.{MemberDeclaration}
use Rattle.c_tree.specs.declared.tree.MemberDeclarator.{MemberDeclarator}
use Rattle.c_tree.specs.declared.tree.MemberName.{MemberName}
use Rattle.c_tree.specs.declared.tree.MemberName.TheVariants as member_name
use Rattle.c_tree.specs.declared.tree.MpiCall.{MpiCall}
use Rattle.c_tree.specs.declared.tree.MpiCall.TheVariants as mpi
use Rattle.c_tree.specs.declared.tree.Name.{Name}
use Rattle.c_tree.specs.declared.tree.Parameter.{Parameter}
use Rattle.c_tree.specs.declared.tree.ReductionWord.{ReductionWord}
use Rattle.c_tree.specs.declared.tree.SimpleStatement.{SimpleStatement}
use Rattle.c_tree.specs.declared.tree.SimpleStatement.TheVariants as simple
use Rattle.c_tree.specs.declared.tree.Status.{Status}
use Rattle.c_tree.specs.declared.tree.Status.TheVariants as status
use Rattle.c_tree.specs.declared.tree.Step.{Step}
use Rattle.c_tree.specs.declared.tree.Step.TheVariants as step
use Rattle.c_grammar.specs.Meaning.{Forest, none, leaf, ◌+++◌}
use Rattle.c_grammar.specs.Readers.{assign_class}
use Rattle.c_grammar.specs.Trees.{shape, lifted, each, given, star_row, name_row, number_row, specifier_tree, member_name_row, member_tree, members_tree, expression_tree, variable_tree, declaration_tree, bound_row, parameter_tree, datatype_row, reduction_row, buffer_tree, status_row, status_tree, names_row, call_tree, step_class, simple_row, simple_tree, start_row, mark_row}
use Rattle.c_grammar.proofs.Grades.{none_right}
use Rattle.c_grammar.proofs.Peels.{Peels, Free, NoStar, one, each_one, each_peels, stars_peel, given_peels, given_one, name_peels, number_peels, member_name_peels, specifier_tree_peels}
use Rattle.c_grammar.proofs.OneExpression.{no_tree, expression_peels, unary_peels}

-- ---- what an expression's node isn't

no_leaf : (k g : ℕ) (row f : Forest) (c : Class) (v : Value) (at : ℕ) (rest : Forest) → lifted k g row +++ f ≡ leaf c v at rest → ⊥
no_leaf zero g row f c v at rest h = cc
no_leaf (suc k) g row f c v at rest h = cc

pub no_word : (e : Expr) (f : Forest) (c : Class) (v : Value) (at : ℕ) (rest : Forest) → expression_tree e +++ f ≡ leaf c v at rest → ⊥
no_word e f = no_leaf (11 - (shape e).grade) (shape e).grade (shape e).row f

pub some_expression : Free expression_tree none
some_expression e f = no_tree 11 (shape e) f

-- ---- declarations

no_number : (o : Option Expr) → Free number_row (given expression_tree o)
no_number None n f h = cc
no_number (Some e) n f h = no_word e none _ _ _ _ (none_right (expression_tree e) ∙ h)

variable_one : (x y : InitDeclarator) → star_row x.stars +++ name_row x.name +++ each number_row x.sizes +++ given expression_tree x.value ≡ star_row y.stars +++ name_row y.name +++ each number_row y.sizes +++ given expression_tree y.value → x ≡ y
variable_one x y h =
    let first = stars_peel _ _ (λ f e. cc) (λ f e. cc) x.stars y.stars h in
    let second = name_peels x.name y.name _ _ first.1 in
    let third = each_peels number_row number_peels _ _ (no_number x.value) (no_number y.value) x.sizes y.sizes second.1 in
    let fourth = given_one expression_tree expression_peels some_expression x.value y.value third.1 in
    λ i. record { stars = first.0 i; name = second.0 i; sizes = third.0 i; value = fourth i }

variable_peels : Peels variable_tree
variable_peels x y f g h = (variable_one x y (cc), cc)

pub declaration_one : (x y : Declaration) → declaration_tree x ≡ declaration_tree y → x ≡ y
declaration_one x y h =
    let first = specifier_tree_peels x.specifier y.specifier (each variable_tree x.declarators) (each variable_tree y.declarators) (cc) in
    let rest = each_one variable_tree variable_peels (λ d f e. cc) x.declarators y.declarators first.1 in
    λ i. record { specifier = first.0 i; declarators = rest i }

-- ---- members and parameters

member_no_star : (n : MemberName) (rest : Forest) → NoStar (member_name_row n +++ rest)
member_no_star (member_name.Name n) rest f h = cc
member_no_star (member_name.Source at) rest f h = cc
member_no_star (member_name.Tag at) rest f h = cc

member_one : (x y : MemberDeclarator) → member_tree x ≡ member_tree y → x ≡ y
member_one x y h =
    let first = stars_peel _ _ (member_no_star x.name (each number_row x.sizes)) (member_no_star y.name (each number_row y.sizes)) x.stars y.stars (cc) in
    let second = member_name_peels x.name y.name _ _ first.1 in
    let third = each_one number_row number_peels (λ n f e. cc) x.sizes y.sizes second.1 in
    λ i. record { stars = first.0 i; name = second.0 i; sizes = third i }

member_peels : Peels member_tree
member_peels x y f g h = (member_one x y (cc), cc)

members_one : (x y : MemberDeclaration) → members_tree x ≡ members_tree y → x ≡ y
members_one x y h =
    let first = specifier_tree_peels x.specifier y.specifier (each member_tree x.declarators) (each member_tree y.declarators) (cc) in
    let rest = each_one member_tree member_peels (λ d f e. cc) x.declarators y.declarators first.1 in
    λ i. record { specifier = first.0 i; declarators = rest i }

pub members_peels : Peels members_tree
members_peels x y f g h = (members_one x y (cc), cc)

bound_one : (o q : Option Bound) → given bound_row o ≡ given bound_row q → o ≡ q
bound_one None None h = refl
bound_one None (Some bound.Open) h = absurd (cc)
bound_one None (Some (bound.Size m)) h = absurd (cc)
bound_one (Some bound.Open) (Some bound.Open) h = refl
bound_one (Some (bound.Size n)) (Some (bound.Size m)) h = ap (λ x. Some (bound.Size x)) (one number_row number_peels n m (cc))
bound_one o q h = absurd (cc)

name_no_star : (o : Option Name) (a : Option Bound) → NoStar (given name_row o +++ given bound_row a)
name_no_star None None f h = cc
name_no_star None (Some bound.Open) f h = cc
name_no_star None (Some (bound.Size n)) f h = cc
name_no_star (Some n) a f h = cc

bound_no_name : (a : Option Bound) → Free name_row (given bound_row a)
bound_no_name None n f h = cc
bound_no_name (Some bound.Open) n f h = cc
bound_no_name (Some (bound.Size m)) n f h = cc

parameter_one : (x y : Parameter) → parameter_tree x ≡ parameter_tree y → x ≡ y
parameter_one x y h =
    let first = specifier_tree_peels x.specifier y.specifier (star_row x.stars +++ given name_row x.name +++ given bound_row x.array) (star_row y.stars +++ given name_row y.name +++ given bound_row y.array) (cc) in
    let second = stars_peel _ _ (name_no_star x.name x.array) (name_no_star y.name y.array) x.stars y.stars first.1 in
    let third = given_peels name_row name_peels _ _ (bound_no_name x.array) (bound_no_name y.array) x.name y.name second.1 in
    let fourth = bound_one x.array y.array third.1 in
    λ i. record { specifier = first.0 i; stars = second.0 i; name = third.0 i; array = fourth i }

pub parameter_peels : Peels parameter_tree
parameter_peels x y f g h = (parameter_one x y (cc), cc)

-- ---- simple statements

step_one : (s t : Step) → step_class s ≡ step_class t → s ≡ t
step_one step.Increment step.Increment h = refl
step_one step.Decrement step.Decrement h = refl
step_one s t h = absurd (cc)

assign_one : (o q : Option Operator) → assign_class o ≡ assign_class q → o ≡ q
assign_one None None h = refl
assign_one (Some o) (Some q) h = cc
assign_one o q h = absurd (cc)

no_step : (o : Option Operator) (s : Step) → assign_class o ≡ step_class s → ⊥
no_step None step.Increment h = cc
no_step None step.Decrement h = cc
no_step (Some o) step.Increment h = cc
no_step (Some o) step.Decrement h = cc

pub simple_one : (s t : SimpleStatement) → simple_row s ≡ simple_row t → s ≡ t
simple_one (simple.Expression e) (simple.Expression f) h = ap simple.Expression (one expression_tree expression_peels e f h)
simple_one (simple.Assign e at o v) (simple.Assign f to q w) h =
    let first = expression_peels e f _ _ h in
    let sign = assign_one o q (cc) in
    let value = one expression_tree expression_peels v w (cc) in
    cc
simple_one (simple.Postfix e at s) (simple.Postfix f to t) h =
    let first = expression_peels e f _ _ h in
    let same = step_one s t (cc) in
    cc
simple_one (simple.Prefix at s e) (simple.Prefix to t f) h =
    let same = step_one s t (cc) in
    let place = one Rattle.c_grammar.specs.Trees.unary_tree unary_peels e f (cc) in
    cc
simple_one (simple.Expression e) (simple.Assign f to q w) h = absurd (let first = expression_peels e f none _ (none_right (expression_tree e) ∙ h) in cc)
simple_one (simple.Expression e) (simple.Postfix f to t) h = absurd (let first = expression_peels e f none _ (none_right (expression_tree e) ∙ h) in cc)
simple_one (simple.Expression e) (simple.Prefix to t f) h = absurd (no_word e none _ _ _ _ (none_right (expression_tree e) ∙ h))
simple_one (simple.Assign e at o v) (simple.Expression f) h = absurd (let first = expression_peels e f _ none (h ∙ sym (none_right (expression_tree f))) in cc)
simple_one (simple.Assign e at o v) (simple.Postfix f to t) h = absurd (let first = expression_peels e f _ _ h in no_step o t (cc))
simple_one (simple.Assign e at o v) (simple.Prefix to t f) h = absurd (no_word e _ _ _ _ _ h)
simple_one (simple.Postfix e at s) (simple.Expression f) h = absurd (let first = expression_peels e f _ none (h ∙ sym (none_right (expression_tree f))) in cc)
simple_one (simple.Postfix e at s) (simple.Assign f to q w) h = absurd (let first = expression_peels e f _ _ h in no_step q s (cc))
simple_one (simple.Postfix e at s) (simple.Prefix to t f) h = absurd (no_word e _ _ _ _ _ h)
simple_one (simple.Prefix at s e) (simple.Expression f) h = absurd (no_word f none _ _ _ _ (none_right (expression_tree f) ∙ sym h))
simple_one (simple.Prefix at s e) (simple.Assign f to q w) h = absurd (no_word f _ _ _ _ _ (sym h))
simple_one (simple.Prefix at s e) (simple.Postfix f to t) h = absurd (no_word f _ _ _ _ _ (sym h))

pub simple_peels : Peels simple_tree
simple_peels x y f g h = (simple_one x y (cc), cc)

pub start_peels : Peels start_row
start_peels (start.Declaration d) (start.Declaration e) f g h = (ap start.Declaration (declaration_one d e (cc)), cc)
start_peels (start.Simple s) (start.Simple t) f g h = let same = simple_peels s t f g h in (ap start.Simple same.0, same.1)
start_peels x y f g h = absurd (cc)

pub mark_one : (x y : Mark) → mark_row x ≡ mark_row y → x ≡ y
mark_one (mark.Pragma at) (mark.Pragma to) h = cc
mark_one (mark.Call at) (mark.Call to) h = cc
mark_one x y h = absurd (cc)

-- ---- calls of MPI

datatype_peels : Peels datatype_row
datatype_peels x y f g h =
    let at : x.at ≡ y.at = cc in
    let same : x.datatype ≡ y.datatype = cc in
    (λ i. record { at = at i; datatype = same i }, cc)

reduction_peels : Peels reduction_row
reduction_peels x y f g h =
    let at : x.at ≡ y.at = cc in
    let same : x.reduction ≡ y.reduction = cc in
    (λ i. record { at = at i; reduction = same i }, cc)

buffer_one : (x y : Buffer) → buffer_tree x ≡ buffer_tree y → x ≡ y
buffer_one x y h =
    let first = expression_peels x.start y.start (expression_tree x.count +++ datatype_row x.datatype) (expression_tree y.count +++ datatype_row y.datatype) (cc) in
    let second = expression_peels x.count y.count (datatype_row x.datatype) (datatype_row y.datatype) first.1 in
    let third = one datatype_row datatype_peels x.datatype y.datatype second.1 in
    λ i. record { start = first.0 i; count = second.0 i; datatype = third i }

buffer_peels : Peels buffer_tree
buffer_peels x y f g h = (buffer_one x y (cc), cc)

status_one : (x y : Status) → status_row x ≡ status_row y → x ≡ y
status_one (status.Ignore at) (status.Ignore to) h = cc
status_one (status.Given e) (status.Given f) h = ap status.Given (one expression_tree expression_peels e f h)
status_one (status.Ignore at) (status.Given f) h = absurd (no_word f none _ _ _ _ (none_right (expression_tree f) ∙ sym h))
status_one (status.Given e) (status.Ignore to) h = absurd (no_word e none _ _ _ _ (none_right (expression_tree e) ∙ h))

status_peels : Peels status_tree
status_peels x y f g h = (status_one x y (cc), cc)

names_peels : Peels names_row
names_peels x y f g h =
    let first = name_peels x.0 y.0 (name_row x.1 +++ f) (name_row y.1 +++ g) h in
    let second = name_peels x.1 y.1 f g first.1 in
    (λ i. (first.0 i, second.0 i), second.1)

last_one : (x y : Expr) → expression_tree x ≡ expression_tree y → x ≡ y
last_one = one expression_tree expression_peels

-- the arguments of calls
sends_one : (b c : Buffer) (d e t u : Expr) → buffer_tree b +++ expression_tree d +++ expression_tree t ≡ buffer_tree c +++ expression_tree e +++ expression_tree u → (b ≡ c) × (d ≡ e) × (t ≡ u)
sends_one b c d e t u h =
    let first = buffer_peels b c (expression_tree d +++ expression_tree t) (expression_tree e +++ expression_tree u) h in
    let second = expression_peels d e (expression_tree t) (expression_tree u) first.1 in
    (first.0, second.0, last_one t u second.1)

receives_one : (b c : Buffer) (d e t u : Expr) (s r : Status) → buffer_tree b +++ expression_tree d +++ expression_tree t +++ status_tree s ≡ buffer_tree c +++ expression_tree e +++ expression_tree u +++ status_tree r → (b ≡ c) × (d ≡ e) × (t ≡ u) × (s ≡ r)
receives_one b c d e t u s r h =
    let first = buffer_peels b c (expression_tree d +++ expression_tree t +++ status_tree s) (expression_tree e +++ expression_tree u +++ status_tree r) h in
    let second = expression_peels d e (expression_tree t +++ status_tree s) (expression_tree u +++ status_tree r) first.1 in
    let third = expression_peels t u (status_tree s) (status_tree r) second.1 in
    (first.0, second.0, third.0, one status_tree status_peels s r third.1)

reduces_one : (a b : Expr) (c d : Buffer) (o p : ReductionWord) (f g : Forest) → expression_tree a +++ buffer_tree c +++ reduction_row o +++ f ≡ expression_tree b +++ buffer_tree d +++ reduction_row p +++ g → (a ≡ b) × (c ≡ d) × (o ≡ p) × (f ≡ g)
reduces_one a b c d o p f g h =
    let first = expression_peels a b (buffer_tree c +++ reduction_row o +++ f) (buffer_tree d +++ reduction_row p +++ g) h in
    let second = buffer_peels c d (reduction_row o +++ f) (reduction_row p +++ g) first.1 in
    let third = reduction_peels o p f g second.1 in
    (first.0, second.0, third.0, third.1)

moves_one : (a b c d : Buffer) (f g : Forest) → buffer_tree a +++ buffer_tree c +++ f ≡ buffer_tree b +++ buffer_tree d +++ g → (a ≡ b) × (c ≡ d) × (f ≡ g)
moves_one a b c d f g h =
    let first = buffer_peels a b (buffer_tree c +++ f) (buffer_tree d +++ g) h in
    let second = buffer_peels c d f g first.1 in
    (first.0, second.0, second.1)

counts_one : (s t : Status) (d e : DatatypeWord) (x y : Expr) → status_tree s +++ datatype_row d +++ expression_tree x ≡ status_tree t +++ datatype_row e +++ expression_tree y → (s ≡ t) × (d ≡ e) × (x ≡ y)
counts_one s t d e x y h =
    let first = status_peels s t (datatype_row d +++ expression_tree x) (datatype_row e +++ expression_tree y) h in
    let second = datatype_peels d e (expression_tree x) (expression_tree y) first.1 in
    (first.0, second.0, last_one x y second.1)

pub call_one : (c d : MpiCall) → call_tree c ≡ call_tree d → c ≡ d
call_one (mpi.Init a n) (mpi.Init b m) h = let more = given_one names_row names_peels (λ x f e. cc) n m (cc) in cc
call_one (mpi.Finalize a) (mpi.Finalize b) h = cc
call_one (mpi.CommRank a x) (mpi.CommRank b y) h = let more = last_one x y (cc) in cc
call_one (mpi.CommSize a x) (mpi.CommSize b y) h = let more = last_one x y (cc) in cc
call_one (mpi.Send a x d t) (mpi.Send b y e u) h = let more = sends_one x y d e t u (cc) in cc
call_one (mpi.Recv a x d t s) (mpi.Recv b y e u r) h = let more = receives_one x y d e t u s r (cc) in cc
call_one (mpi.GetCount a s d x) (mpi.GetCount b t e y) h = let more = counts_one s t d e x y (cc) in cc
call_one (mpi.Barrier a) (mpi.Barrier b) h = cc
call_one (mpi.Bcast a x r) (mpi.Bcast b y s) h =
    let more = buffer_peels x y (expression_tree r) (expression_tree s) (cc) in
    let last = last_one r s more.1 in
    cc
call_one (mpi.Reduce a x c o r) (mpi.Reduce b y d p s) h =
    let more = reduces_one x y c d o p (expression_tree r) (expression_tree s) (cc) in
    let last = last_one r s more.3 in
    cc
call_one (mpi.Allreduce a x c o) (mpi.Allreduce b y d p) h = let more = reduces_one x y c d o p none none (cc) in cc
call_one (mpi.Gather a x c r) (mpi.Gather b y d s) h =
    let more = moves_one x y c d (expression_tree r) (expression_tree s) (cc) in
    let last = last_one r s more.2 in
    cc
call_one (mpi.Scatter a x c r) (mpi.Scatter b y d s) h =
    let more = moves_one x y c d (expression_tree r) (expression_tree s) (cc) in
    let last = last_one r s more.2 in
    cc
call_one (mpi.Allgather a x c) (mpi.Allgather b y d) h = let more = moves_one x y c d none none (cc) in cc
call_one c d h = absurd (cc)
