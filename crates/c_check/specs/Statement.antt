-- The rules at each statement and declaration (C99 6.7, 6.8), and what it is found to be.
use Rattle.std.specs.Prelude.{ℕ, pos, Bool, true, false, not, ◌||◌, List, [], ◌∷◌, ◌++◌, map, length, Option, Some, None, is_some, is_none, option_map, if◌then◌else◌}
use Rattle.c_tree.specs.declared.token.Operator.{Operator}
use Rattle.c_tree.specs.declared.token.Operator.TheVariants as operator
use Rattle.c_tree.specs.declared.tree.TypeSpecifier.{TypeSpecifier}
use Rattle.c_tree.specs.declared.tree.Declaration.{Declaration}
use Rattle.c_tree.specs.declared.tree.InitDeclarator.{InitDeclarator}
use Rattle.c_tree.specs.declared.tree.Expr.{Expr}
use Rattle.c_tree.specs.declared.tree.Text.{Text}
use Rattle.c_tree.specs.declared.tree.Block.{Block}
use Rattle.c_tree.specs.declared.tree.BlockItem.{BlockItem}
use Rattle.c_tree.specs.declared.tree.BlockItem.TheVariants as item
use Rattle.c_tree.specs.declared.tree.Arm.{Arm as TreeArm}
use Rattle.c_tree.specs.declared.tree.ForStart.{ForStart}
use Rattle.c_tree.specs.declared.tree.ForStart.TheVariants as for_start
use Rattle.c_tree.specs.declared.tree.SimpleStatement.{SimpleStatement}
use Rattle.c_tree.specs.declared.tree.SimpleStatement.TheVariants as simple_form
use Rattle.c_tree.specs.declared.tree.Step.{Step}
use Rattle.c_tree.specs.declared.tree.Step.TheVariants as step
use Rattle.c_tree.specs.declared.tree.MpiCall.{MpiCall}
use Rattle.c_tree.specs.declared.tree.Stmt.{Stmt}
use Rattle.c_tree.specs.declared.tree.Stmt.TheFolds.{fold-Stmt}
use Rattle.c_tree.specs.declared.tree.Stmt.TheOpen.{Stmt-F}
use Rattle.c_tree.specs.declared.tree.Stmt.TheOpen as stmt
use Rattle.c_tree.specs.declared.kind.Kind.TheVariants.{NotYet, Redeclared, NotPointer, NotPlace, TypeMismatch, CallPlace, MallocPlace, ReturnValue, LoopWord, ArraySize, IncompleteType, FormatMismatch}
use Rattle.c_kernel.specs.declared.types.CType.{CType}
use Rattle.c_kernel.specs.declared.types.Struct.{Struct}
use Rattle.c_kernel.specs.declared.types.IntegerType.TheVariants.{Int}
use Rattle.c_kernel.specs.declared.program.MpiFunction.{MpiFunction}
use Rattle.c_kernel.specs.declared.program.Stmt.{Stmt as Typed}
use Rattle.c_kernel.specs.declared.program.Stmt.TheVariants as typed
use Rattle.c_kernel.specs.declared.program.Arm.{Arm}
use Rattle.c_kernel.specs.declared.program.Action.{Action}
use Rattle.c_kernel.specs.declared.program.Action.TheVariants as action
use Rattle.c_kernel.specs.declared.program.Piece.{Piece}
use Rattle.c_kernel.specs.declared.program.Expr.{Expr as Term}
use Rattle.c_rules.specs.declared.breach.Breach.{Breach}
use Rattle.c_kernel.specs.declared.program.Place.{Place}
use Rattle.c_kernel.specs.Extent.{extent}
use Rattle.c_rules.specs.declared.found.Found.{Found}
use Rattle.c_rules.specs.declared.found.Form.{Form}
use Rattle.c_rules.specs.declared.found.Form.TheVariants as form
use Rattle.c_rules.specs.declared.found.Run.{Run}
use Rattle.c_rules.specs.declared.found.Right.{Right}
use Rattle.c_rules.specs.declared.found.Right.TheVariants as right_side
use Rattle.c_rules.specs.declared.found.Invocation.{Invocation}
use Rattle.c_rules.specs.declared.found.Allocation.{Allocation}
use Rattle.c_rules.specs.declared.found.Cast.{Cast}
use Rattle.c_rules.specs.declared.signature.Signature.{Signature}
use Rattle.c_rules.specs.Judged.{Judged, breaks, by, refused, after, of_part, of_parts, pair_of, more, together, perhaps}
use Rattle.c_rules.specs.Scope.{Bytes, Scope, is_here, declare, enter, leave}
use Rattle.c_rules.specs.Types.{type_of, specifier_rules, is_void, is_pointer, is_struct, is_target, is_incomplete, scalar_of, target, same_type, is_array, object_type, is_too_large}
use Rattle.c_rules.specs.Rules.{c_type_of, plain, place, variable, value, value_as, scalar_rules, number_rules, value_rules, clash, constant, begin, closed, link}
use Rattle.c_check.specs.Expression.{Seen, Allocated, seen, judged, judged_all, right, invoked, allocation}
use Rattle.c_rules.specs.Format.{pieces, fit}
use Rattle.c_check.specs.Mpi as mpi

-- ---- what stands at once (6.5.2.4, 6.5.3.1, 6.5.16, 6.8.3)

-- what stands left of = is a place, and no array or struct
abbrev pub is_assignable : Form → Bool
is_assignable (form.Zero kind) = false
is_assignable (form.Value c_type e) = false
is_assignable (form.Place kind p) = not (is_array kind || is_struct kind.element)

abbrev pub place_rules : Found → List Breach
place_rules a = breaks (not (is_assignable a.form)) NotPlace a.at

abbrev pub place_in : Form → Place Term
place_in (form.Zero kind) = variable 0
place_in (form.Value c_type e) = variable 0
place_in (form.Place kind p) = p

-- a malloc for a pointer of the type (7.20.3.3); a cast before it is to this type
abbrev pub cast_rules : CType → Option Cast → List Breach
cast_rules t None = []
cast_rules t (Some c) = breaks (not (same_type c.c_type t)) TypeMismatch c.at

abbrev pub memory_rules : CType → Allocation → List Breach
memory_rules t m =
    number_rules m.bytes.at (c_type_of m.bytes)
    ++ breaks (not (is_target t)) MallocPlace m.at
    ++ cast_rules t m.cast

-- what goes to a place of the type
abbrev pub right_rules : CType → Right → List Breach
right_rules t (right_side.Value v) = value_rules t v
right_rules t (right_side.Result c) = scalar_rules c.at c.c_type ++ breaks (clash t false c.c_type) TypeMismatch c.at
right_rules t (right_side.Memory m) = memory_rules t m

-- the value in the place's type
abbrev pub stored : List Struct → Place Term → CType → Right → Action
stored structs p t (right_side.Value v) = action.Set p (value_as t v)
stored structs p t (right_side.Result c) = action.Call (Some (record { place = p; kind = scalar_of t })) c.function c.arguments
stored structs p t (right_side.Memory m) = action.Malloc p (value m.bytes) (extent structs (target t))

-- a = r
unfoldable pub assign : List Struct → Found → Right → Judged Action
assign structs a r = by (place_rules a ++ right_rules (c_type_of a) r) (stored structs (place_in a.form) (c_type_of a) r)

-- a o= v is a = a o v
abbrev pub updated : List Struct → ℕ → Place Term → CType → Run → Judged Action
updated structs at p t run =
    by (breaks (clash t false run.c_type) TypeMismatch at)
    (stored structs p t (right_side.Value (plain run.at run.c_type (closed run))))

unfoldable pub compound : List Struct → Operator → Found → Found → Judged Action
compound structs o a v = of_parts (by (place_rules a) a) (link structs o (begin a) v) (λ x. updated structs v.at (place_in x.form) (c_type_of x))

-- a++ is a = a + 1
abbrev pub step_operator : Step → Operator
step_operator step.Increment = operator.Plus
step_operator step.Decrement = operator.Minus

abbrev pub stepped : List Struct → Step → Found → Judged Action
stepped structs how a = compound structs (step_operator how) a (constant a.at (pos 1) Int)

-- a call whose result isn't used
abbrev pub called : Invocation → Judged Action
called c = by [] (action.Call None c.function c.arguments)

-- no other expression is a statement, and a malloc isn't either
abbrev pub call_statement : Judged Found → Option (Judged Invocation) → Judged Action
call_statement e (Some c) = of_part c called
call_statement e None = of_part e (λ a. refused CallPlace a.at)

abbrev pub expression_statement : Judged Found → Option (Judged Invocation) → Option Allocated → Judged Action
expression_statement e c (Some m) = of_part (allocation m) (λ x. refused CallPlace m.at)
expression_statement e c None = call_statement e c

-- ---- conditions and single statements

abbrev pub condition_of : Found → Judged Term
condition_of a = by (scalar_rules a.at (c_type_of a)) (value a)

-- return (6.8.6.4)
abbrev pub result_rules : CType → Option Found → List Breach
result_rules result None = []
result_rules result (Some v) = value_rules result v

abbrev pub return_rules : ℕ → CType → Option Found → List Breach
return_rules at result v =
    breaks (if is_void result then is_some v else is_none v) ReturnValue at
    ++ result_rules result v

unfoldable pub returned : ℕ → CType → Option Found → Judged Typed
returned at result v = by (return_rules at result v) (typed.Return (option_map (value_as result) v))

-- free (7.20.3.2)
unfoldable pub freed : Found → Judged Typed
freed a = by (scalar_rules a.at (c_type_of a) ++ breaks (not (is_pointer (c_type_of a))) NotPointer a.at) (typed.Free (value a))

-- printf (7.19.6.3)
abbrev pub printed_pieces : ℕ → List Found → Option (List Piece) → Judged Typed
printed_pieces at vs None = refused FormatMismatch at
printed_pieces at vs (Some ps) = by (breaks (not (fit ps vs)) FormatMismatch at) (typed.Print ps (map value vs))

unfoldable pub printed : Text → List Found → Judged Typed
printed format vs = printed_pieces format.at vs (pieces format.bytes)

-- break and continue (6.8.6.2, 6.8.6.3)
abbrev pub loop_word : Bool → ℕ → Typed → Judged Typed
loop_word looping at word = by (breaks (not looping) LoopWord at) word

-- ---- statements in order: what each is found to be, and the names in scope after it

-- what is sound, in another form
abbrev pub seen_as : {A B : Type 0} → (A → B) → Judged A → Judged B
seen_as f j = record { breaches = j.breaches; found = option_map f j.found }

pub record Walked (A : Type 0) : Type 0 where
  pub judged : Judged A
  pub scope : Scope

abbrev pub Walk : Type 0 → Type 0
Walk A = Scope → Walked A

-- what leaves the names as they are
abbrev pub staying : {A : Type 0} → Judged A → Walk A
staying j s = record { judged = j; scope = s }

abbrev pub walk_all : {A : Type 0} → List (Walk A) → Walk (List A)
walk_all [] s = record { judged = by [] []; scope = s }
walk_all (w ∷ ws) s =
    let first = w s in
    let rest = walk_all ws first.scope in
    record { judged = record { breaches = first.judged.breaches ++ rest.judged.breaches; found = more first.judged.found rest.judged.found }; scope = rest.scope }

-- a walk that is seen in another way
abbrev pub walk_as : {A B : Type 0} → (A → B) → Walk A → Walk B
walk_as f w s = record { judged = seen_as f (w s).judged; scope = (w s).scope }

-- in a scope of its own
abbrev pub scoped : {A : Type 0} → Walk A → Walk A
scoped w s = record { judged = (w (enter s)).judged; scope = leave s (w (enter s)).scope }

-- a list of one
abbrev pub one : {A : Type 0} → A → List A
one x = x ∷ []

abbrev pub listed : {A : Type 0} → Option A → List A
listed None = []
listed (Some x) = x ∷ []

-- a branch: a test and a list of one statement
abbrev pub branch_of : Term × Typed → Arm Typed
branch_of p = record { test = p.0; body = one p.1 }

-- ---- variables (6.7)

abbrev pub sizes_of : InitDeclarator → List ℕ
sizes_of d = map (λ n. n.value) d.sizes

abbrev pub variable_rules : List Struct → Scope → CType → InitDeclarator → List Breach
variable_rules structs s c_type d =
    breaks (is_here s d.name.bytes) Redeclared d.name.at
    ++ breaks (is_too_large structs c_type (sizes_of d)) ArraySize d.name.at
    ++ breaks (is_incomplete structs c_type) IncompleteType d.name.at

module _ (functions : Bytes → Option Signature) (structs : List Struct) where
  abbrev pub condition : Scope → Expr → Judged Term
  condition s e = of_part (judged functions structs s e) condition_of

  abbrev pub values : Scope → List Expr → Judged (List Found)
  values s es = together (judged_all functions structs s es)

  -- ---- simple statements

  abbrev pub expression_of : Scope → Seen → Judged Action
  expression_of s x = expression_statement x.part (option_map (invoked functions structs s) x.called) x.allocated

  abbrev pub simple : Scope → SimpleStatement → Judged Action
  simple s (simple_form.Expression e) = expression_of s (seen functions structs s e)
  simple s (simple_form.Assign a at None e) = of_parts (judged functions structs s a) (right functions structs s e) (assign structs)
  simple s (simple_form.Assign a at (Some o) e) = of_parts (judged functions structs s a) (judged functions structs s e) (compound structs o)
  simple s (simple_form.Postfix a at how) = of_part (judged functions structs s a) (stepped structs how)
  simple s (simple_form.Prefix at how a) = of_part (judged functions structs s a) (stepped structs how)

  -- ---- declarations (6.7): a variable is in scope from its own initialiser on

  abbrev pub initial : Scope → Found → Option Expr → ℕ → Judged Action
  initial s v None number = by [] (action.Zero number)
  initial s v (Some e) number = of_part (right functions structs s e) (assign structs v)

  abbrev pub variable_walk : TypeSpecifier → InitDeclarator → Walk Action
  variable_walk t d s =
      let c_type = type_of structs None t d.stars in
      let object = object_type structs c_type (sizes_of d) in
      let inside = declare s d.name.bytes object in
      let number = length s.variables in
      record {
        judged = after (variable_rules structs s c_type d) (initial inside (place d.name.at object (variable number)) d.value number);
        scope = inside;
      }

  -- the specifier, and then the variables
  abbrev pub declaration : Declaration → Walk (List Action)
  declaration d s =
      let variables = walk_all (map (variable_walk d.specifier) d.declarators) s in
      record { judged = after (specifier_rules structs None d.specifier) variables.judged; scope = variables.scope }

  -- ---- the head of a for (6.8.5.3)

  abbrev pub start : Option ForStart → Walk (List Action)
  start None = staying (by [] [])
  start (Some (for_start.Declaration d)) = declaration d
  start (Some (for_start.Simple x)) = λ s. staying (seen_as one (simple s x)) s

  -- ---- the nodes: a statement is judged by whether it is in a loop, and walked

  abbrev pub Node : Type 0
  Node = Bool → Walk Typed

  abbrev pub block_item : Bool → BlockItem Node → Walk Typed
  block_item looping (item.Declaration d) = walk_as typed.Actions (declaration d)
  block_item looping (item.Statement w) = w looping

  abbrev pub block : Bool → Block Node → Walk (List Typed)
  block looping b = walk_all (map (block_item looping) b.items)

  -- a test and a statement
  unfoldable pub guarded : Bool → Expr → Node → Walk (Term × Typed)
  guarded looping e w s =
      let inside = w looping s in
      record { judged = pair_of (condition s e) inside.judged; scope = inside.scope }

  abbrev pub arm : Bool → Expr → Node → Walk (Arm Typed)
  arm looping e w = walk_as branch_of (guarded looping e w)

  -- an else if
  abbrev pub later_arm : Bool → TreeArm Node → Walk (Arm Typed)
  later_arm looping a = arm looping a.test a.then

  abbrev pub arms : Bool → Expr → Node → List (TreeArm Node) → Walk (List (Arm Typed))
  arms looping e w rest = walk_all (arm looping e w ∷ map (later_arm looping) rest)

  abbrev pub last_branch : Bool → Option Node → Walk (List Typed)
  last_branch looping None = staying (by [] [])
  last_branch looping (Some w) = walk_as one (w looping)

  abbrev pub branches : Bool → Expr → Node → List (TreeArm Node) → Option Node → Walk Typed
  branches looping e w rest last s =
      let first = arms looping e w rest s in
      let second = last_branch looping last first.scope in
      record { judged = seen_as (λ p. typed.If p.0 p.1) (pair_of first.judged second.judged); scope = second.scope }

  abbrev pub loop : Expr → Node → (Term → Typed → Typed) → Walk Typed
  loop e w make = walk_as (λ p. make p.0 p.1) (guarded true e w)

  abbrev pub for_parts : Judged (List Action) → Judged (Option Term) → Judged (Option Action) → Judged Typed → Judged Typed
  for_parts i c n x = seen_as (λ p. typed.For p.0.0 p.0.1 (listed p.1.0) (one p.1.1)) (pair_of (pair_of i c) (pair_of n x))

  abbrev pub for_loop : Option ForStart → Option Expr → Option SimpleStatement → Node → Walk Typed
  for_loop i e n w s =
      let head = start i s in
      let inside = w true head.scope in
      record {
        judged = for_parts head.judged (perhaps (condition head.scope) e) (perhaps (simple head.scope) n) inside.judged;
        scope = inside.scope;
      }

  -- ---- a call of MPI

  abbrev pub mpi_function : Scope → MpiCall → Option MpiFunction → Judged Typed
  mpi_function s c None = refused NotYet 0
  mpi_function s c (Some f) = of_part (values s (mpi.arguments_of c)) (mpi.called (mpi.word_rules s c) (mpi.names_of c) f)

  abbrev pub mpi_call : Scope → MpiCall → Judged Typed
  mpi_call s c = mpi_function s c (mpi.function_of c)

  module _ (result : CType) where
    abbrev pub statement_node : Stmt-F Node → Node
    statement_node (stmt.Empty at) looping = staying (by [] (typed.Actions []))
    statement_node (stmt.Break at) looping = staying (loop_word looping at typed.Break)
    statement_node (stmt.Continue at) looping = staying (loop_word looping at typed.Continue)
    statement_node (stmt.Block b) looping = walk_as typed.Block (scoped (block looping b))
    statement_node (stmt.If at e w rest last) looping = branches looping e w rest last
    statement_node (stmt.While at e w) looping = loop e w (λ c x. typed.While c (one x))
    statement_node (stmt.DoWhile at w e) looping = loop e w (λ c x. typed.DoWhile (one x) c)
    statement_node (stmt.For at i e n w) looping = scoped (for_loop i e n w)
    statement_node (stmt.Return at e) looping = λ s. staying (of_part (perhaps (judged functions structs s) e) (returned at result)) s
    statement_node (stmt.Print at format es) looping = λ s. staying (of_part (values s es) (printed format)) s
    statement_node (stmt.Mark m) looping = staying (by [] typed.Mark)
    statement_node (stmt.Simple x) looping = λ s. staying (seen_as (λ a. typed.Actions (one a)) (simple s x)) s
    statement_node (stmt.Free at e) looping = λ s. staying (of_part (judged functions structs s e) freed) s
    statement_node (stmt.Mpi c) looping = λ s. staying (mpi_call s c) s

    abbrev pub walked : Stmt → Node
    walked = fold-Stmt Node statement_node

    -- the parts of a tree: a statement stands for its walk
    abbrev pub node_item : BlockItem Stmt → BlockItem Node
    node_item (item.Declaration d) = item.Declaration d
    node_item (item.Statement x) = item.Statement (walked x)

    abbrev pub node_arm : TreeArm Stmt → TreeArm Node
    node_arm a = record { test = a.test; then = walked a.then }

    abbrev pub walked_item : Bool → BlockItem Stmt → Walk Typed
    walked_item looping x = block_item looping (node_item x)

    abbrev pub walked_items : Bool → List (BlockItem Stmt) → Walk (List Typed)
    walked_items looping xs = walk_all (map (block_item looping) (map node_item xs))

    abbrev pub walked_guarded : Bool → Expr → Stmt → Walk (Term × Typed)
    walked_guarded looping e x = guarded looping e (walked x)

    abbrev pub walked_arm : Bool → Expr → Stmt → Walk (Arm Typed)
    walked_arm looping e x = arm looping e (walked x)

    abbrev pub walked_arms : Bool → Expr → Stmt → List (TreeArm Stmt) → Walk (List (Arm Typed))
    walked_arms looping e x rest = arms looping e (walked x) (map node_arm rest)

    abbrev pub walked_later : Bool → List (TreeArm Stmt) → Walk (List (Arm Typed))
    walked_later looping rest = walk_all (map (later_arm looping) (map node_arm rest))

    abbrev pub walked_last : Bool → Option Stmt → Walk (List Typed)
    walked_last looping last = last_branch looping (option_map walked last)

    abbrev pub walked_branches : Bool → Expr → Stmt → List (TreeArm Stmt) → Option Stmt → Walk Typed
    walked_branches looping e x rest last = branches looping e (walked x) (map node_arm rest) (option_map walked last)

    abbrev pub walked_for : Option ForStart → Option Expr → Option SimpleStatement → Stmt → Walk Typed
    walked_for i e n x = for_loop i e n (walked x)
