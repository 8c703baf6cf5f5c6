-- A statement or declaration that breaks no rule has a typed form.
use Rattle.std.proofs.Common.{ℕ, List, [], ◌∷◌, map, length, Bool, true, Option, Some, None, refl, sym, subst}
use Rattle.std.specs.Prelude.{option_map}
use Rattle.c_tree.specs.declared.token.Operator.{Operator}
use Rattle.c_tree.specs.declared.tree.Arm.{Arm}
use Rattle.c_tree.specs.declared.tree.BlockItem.{BlockItem}
use Rattle.c_tree.specs.declared.tree.BlockItem.TheVariants as item
use Rattle.c_tree.specs.declared.tree.Declaration.{Declaration}
use Rattle.c_tree.specs.declared.tree.Expr.{Expr}
use Rattle.c_tree.specs.declared.tree.ForStart.{ForStart}
use Rattle.c_tree.specs.declared.tree.ForStart.TheVariants as for_start
use Rattle.c_tree.specs.declared.tree.InitDeclarator.{InitDeclarator}
use Rattle.c_tree.specs.declared.tree.MpiCall.{MpiCall}
use Rattle.c_tree.specs.declared.tree.SimpleStatement.{SimpleStatement}
use Rattle.c_tree.specs.declared.tree.SimpleStatement.TheVariants as simple_form
use Rattle.c_tree.specs.declared.tree.Step.{Step}
use Rattle.c_tree.specs.declared.tree.Stmt.{Stmt}
use Rattle.c_tree.specs.declared.tree.Stmt.TheFolds.{fold-roll-Stmt, ind-Stmt, map-Stmt}
use Rattle.c_tree.specs.declared.tree.Stmt.TheOpen.{Stmt-F}
use Rattle.c_tree.specs.declared.tree.Stmt.TheViews.{roll-Stmt}
use Rattle.c_tree.specs.declared.tree.Text.{Text}
use Rattle.c_tree.specs.declared.tree.TypeSpecifier.{TypeSpecifier}
use Rattle.c_kernel.specs.declared.types.CType.{CType}
use Rattle.c_kernel.specs.declared.types.Struct.{Struct}
use Rattle.c_kernel.specs.declared.program.Expr.{Expr as Term}
use Rattle.c_kernel.specs.declared.program.MpiFunction.{MpiFunction}
use Rattle.c_kernel.specs.declared.program.Piece.{Piece}
use Rattle.c_kernel.specs.declared.program.Stmt.{Stmt as Typed}
use Rattle.c_rules.specs.declared.found.Found.{Found}
use Rattle.c_rules.specs.declared.found.Right.{Right}
use Rattle.c_rules.specs.declared.signature.Signature.{Signature}
use Rattle.c_rules.specs.Format.{pieces}
use Rattle.c_rules.specs.Judged.{Judged, by, pair_of, perhaps}
use Rattle.c_rules.specs.Rules.{begin, link}
use Rattle.c_rules.specs.Scope.{Bytes, Scope, declare, enter}
use Rattle.c_rules.specs.Types.{type_of, specifier_rules, object_type}
use Rattle.c_check.specs.Expression.{Called, Allocated, Seen, seen, judged, judged_all, right, invoked, allocation}
use Rattle.c_check.specs.Mpi as mpi
use Rattle.c_check.specs.Statement as walk
use Rattle.c_check.specs.Statement.{Walk, Node, walk_all, walk_as, scoped, walked, statement_node}
use Rattle.c_check.proofs.TypedParts.{IsTold, map_some, told_by, told_refused, told_after, told_part, told_parts, told_pair, told_more, told_together, told_perhaps}
use Rattle.c_check.proofs.TypedExpressions.{AreSound, IsToldSeen, told_link, told_allocation, told_invoked, told_seen, told_expression, told_expressions, told_right}

-- ---- what stands at once

told_assign : (structs : List Struct) (a : Found) (r : Right) → IsTold (walk.assign structs a r)
unfolding walk.assign
told_assign structs a r = told_by _ _

told_compound : (structs : List Struct) (o : Operator) (a v : Found) → IsTold (walk.compound structs o a v)
unfolding walk.compound
told_compound structs o a v =
    told_parts (by (walk.place_rules a) a) (link structs o (begin a) v) _ (told_by _ _) (told_link structs o (begin a) v) (λ x run. told_by _ _)

told_stepped : (structs : List Struct) (how : Step) (a : Found) → IsTold (walk.stepped structs how a)
told_stepped structs how a = told_compound structs (walk.step_operator how) a _

told_condition : (a : Found) → IsTold (walk.condition_of a)
told_condition a = told_by _ _

told_returned : (at : ℕ) (result : CType) (v : Option Found) → IsTold (walk.returned at result v)
unfolding walk.returned
told_returned at result v = told_by _ _

told_freed : (a : Found) → IsTold (walk.freed a)
unfolding walk.freed
told_freed a = told_by _ _

told_pieces : (at : ℕ) (vs : List Found) (ps : Option (List Piece)) → IsTold (walk.printed_pieces at vs ps)
told_pieces at vs None = told_refused _
told_pieces at vs (Some ps) = told_by _ _

told_printed : (format : Text) (vs : List Found) → IsTold (walk.printed format vs)
unfolding walk.printed
told_printed format vs = told_pieces format.at vs (pieces format.bytes)

-- ---- walks

told_form : {A B : Type 0} (f : A → B) (j : Judged A) → IsTold j → IsTold (walk.seen_as f j)
told_form f j h e = map_some f j.found (h e)

abbrev pub IsToldWalk : {A : Type 0} → Walk A → Type 0
IsToldWalk w = (s : Scope) → IsTold (w s).judged

abbrev pub AreToldWalks : {A : Type 0} → List (Walk A) → Type 0
AreToldWalks [] = Unit {0}
AreToldWalks (w ∷ ws) = IsToldWalk w × AreToldWalks ws

pub told_all : {A : Type 0} (ws : List (Walk A)) → AreToldWalks ws → IsToldWalk (walk_all ws)
told_all [] all s = λ e. refl
told_all (w ∷ ws) all s = told_more (w s).judged (walk_all ws (w s).scope).judged (all.0 s) (told_all ws all.1 (w s).scope)

pub told_each : {X A : Type 0} (w : X → Walk A) → ((x : X) → IsToldWalk (w x)) → (xs : List X) → AreToldWalks (map w xs)
told_each w h [] = tt
told_each w h (x ∷ xs) = (h x, told_each w h xs)

pub told_walk_as : {A B : Type 0} (f : A → B) (w : Walk A) → IsToldWalk w → IsToldWalk (walk_as f w)
told_walk_as f w h s = told_form f (w s).judged (h s)

module _ (functions : Bytes → Option Signature) (structs : List Struct) (sound : AreSound functions) where
  told_test : (s : Scope) (e : Expr) → IsTold (walk.condition functions structs s e)
  told_test s e = told_part (judged functions structs s e) walk.condition_of (told_expression functions structs s e) told_condition

  -- ---- simple statements

  told_call : (s : Scope) (x : Seen) → IsToldSeen x → IsTold (walk.expression_of functions structs s x)
  told_call s x h = of_malloc x.allocated h
    where
      part : Judged Found
      part = x.part

      of_called : (c : Option Called) → IsToldSeen (record { part = part; called = c; allocated = None }) → IsTold (walk.call_statement part (option_map (invoked functions structs s) c))
      of_called None all = told_part part _ all.0 (λ a. told_refused _)
      of_called (Some c) all = told_part (invoked functions structs s c) walk.called (told_invoked functions structs s sound c all.1.0) (λ i e. refl)

      of_malloc : (m : Option Allocated) → IsToldSeen (record { part = part; called = x.called; allocated = m }) → IsTold (walk.expression_statement part (option_map (invoked functions structs s) x.called) m)
      of_malloc None all = of_called x.called all
      of_malloc (Some m) all = told_part (allocation m) _ (told_allocation m all.1.1) (λ i. told_refused _)

  told_simple : (s : Scope) (x : SimpleStatement) → IsTold (walk.simple functions structs s x)
  told_simple s (simple_form.Expression e) = told_call s (seen functions structs s e) (told_seen functions structs s e)
  told_simple s (simple_form.Assign a at None e) = told_parts (judged functions structs s a) (right functions structs s e) (walk.assign structs) (told_expression functions structs s a) (told_right functions structs s sound e) (told_assign structs)
  told_simple s (simple_form.Assign a at (Some o) e) = told_parts (judged functions structs s a) (judged functions structs s e) (walk.compound structs o) (told_expression functions structs s a) (told_expression functions structs s e) (told_compound structs o)
  told_simple s (simple_form.Postfix a at how) = told_part (judged functions structs s a) (walk.stepped structs how) (told_expression functions structs s a) (told_stepped structs how)
  told_simple s (simple_form.Prefix at how a) = told_part (judged functions structs s a) (walk.stepped structs how) (told_expression functions structs s a) (told_stepped structs how)

  -- ---- calls of MPI

  told_mpi : (s : Scope) (c : MpiCall) (f : Option MpiFunction) → IsTold (walk.mpi_function functions structs s c f)
  unfolding mpi.called
  told_mpi s c None = told_refused _
  told_mpi s c (Some f) =
      let es = mpi.arguments_of c in
      told_part (walk.values functions structs s es) (mpi.called (mpi.word_rules s c) (mpi.names_of c) f) (told_together (judged_all functions structs s es) (told_expressions functions structs s es)) (λ vs. told_by _ _)

  -- ---- declarations

  told_initial : (s : Scope) (v : Found) (e : Option Expr) (number : ℕ) → IsTold (walk.initial functions structs s v e number)
  told_initial s v None number = λ e. refl
  told_initial s v (Some x) number = told_part (right functions structs s x) (walk.assign structs v) (told_right functions structs s sound x) (told_assign structs v)

  told_variable : (t : TypeSpecifier) (d : InitDeclarator) → IsToldWalk (walk.variable_walk functions structs t d)
  told_variable t d s =
      let c_type = type_of structs None t d.stars in
      told_after (walk.variable_rules structs s c_type d) _ (told_initial (declare s d.name.bytes (object_type structs c_type (walk.sizes_of d))) _ d.value (length s.variables))

  pub told_declaration : (d : Declaration) → IsToldWalk (walk.declaration functions structs d)
  told_declaration d s =
      told_after (specifier_rules structs None d.specifier) _ (told_all _ (told_each (walk.variable_walk functions structs d.specifier) (told_variable d.specifier) d.declarators) s)

  told_start : (i : Option ForStart) → IsToldWalk (walk.start functions structs i)
  told_start None s = λ e. refl
  told_start (Some (for_start.Declaration d)) s = told_declaration d s
  told_start (Some (for_start.Simple x)) s = told_form walk.one (walk.simple functions structs s x) (told_simple s x)

  -- ---- nodes

  abbrev pub IsToldNode : Node functions structs → Type 0
  IsToldNode w = (looping : Bool) → IsToldWalk (w looping)

  told_guarded : (looping : Bool) (e : Expr) (w : Node functions structs) → IsToldNode w → IsToldWalk (walk.guarded functions structs looping e w)
  unfolding walk.guarded
  told_guarded looping e w h s = told_pair (walk.condition functions structs s e) (w looping s).judged (told_test s e) (h looping s)

  told_arm : (looping : Bool) (e : Expr) (w : Node functions structs) → IsToldNode w → IsToldWalk (walk.arm functions structs looping e w)
  told_arm looping e w h = told_walk_as walk.branch_of (walk.guarded functions structs looping e w) (told_guarded looping e w h)

  told_loop : (e : Expr) (w : Node functions structs) (make : Term → Typed → Typed) → IsToldNode w → IsToldWalk (walk.loop functions structs e w make)
  told_loop e w make h = told_walk_as (λ p. make p.0 p.1) (walk.guarded functions structs true e w) (told_guarded true e w h)

  told_for : (i : Option ForStart) (e : Option Expr) (n : Option SimpleStatement) (w : Node functions structs) → IsToldNode w → IsToldWalk (walk.for_loop functions structs i e n w)
  told_for i e n w h s =
      let head = walk.start functions structs i s in
      let inside = (w true head.scope).judged in
      let test = perhaps (walk.condition functions structs head.scope) e in
      let step = perhaps (walk.simple functions structs head.scope) n in
      told_form _ (pair_of (pair_of head.judged test) (pair_of step inside)) (told_pair (pair_of head.judged test) (pair_of step inside)
      (told_pair head.judged test (told_start i s) (told_perhaps (walk.condition functions structs head.scope) e (told_test head.scope)))
      (told_pair step inside (told_perhaps (walk.simple functions structs head.scope) n (told_simple head.scope)) (h true head.scope)))

  told_branches : (looping : Bool) (e : Expr) (w : Node functions structs) (rest : List (Arm (Node functions structs))) (last : Option (Node functions structs))
      → IsToldNode w → AreToldWalks (map (λ (a : Arm (Node functions structs)). walk.arm functions structs looping a.test a.then) rest) → IsToldWalk (walk.last_branch functions structs looping last)
      → IsToldWalk (walk.branches functions structs looping e w rest last)
  told_branches looping e w rest last h all end s =
      let first = walk.arms functions structs looping e w rest s in
      let walks = walk.arm functions structs looping e w ∷ map (λ (a : Arm (Node functions structs)). walk.arm functions structs looping a.test a.then) rest in
      let each : AreToldWalks walks = (told_arm looping e w h, all) in
      let second = walk.last_branch functions structs looping last first.scope in
      told_form _ (pair_of first.judged second.judged) (told_pair first.judged second.judged (told_all walks each s) (end first.scope))

  module _ (result : CType) where
    abbrev Told : Type 0
    Told = (x : Stmt) × IsToldNode (walked functions structs result x)

    told_arms : (looping : Bool) (h : Arm Told → Arm Stmt) (k : Arm Stmt → Arm (Node functions structs)) → ((a : Arm Told) → IsToldNode (k (h a)).then)
        → (xs : List (Arm Told)) → AreToldWalks (map (λ (a : Arm (Node functions structs)). walk.arm functions structs looping a.test a.then) (map k (map h xs)))
    told_arms looping h k told [] = tt
    told_arms looping h k told (a ∷ xs) = (told_arm looping (k (h a)).test (k (h a)).then (told a), told_arms looping h k told xs)

    told_items : (looping : Bool) (h : BlockItem Told → BlockItem Stmt) (k : BlockItem Stmt → BlockItem (Node functions structs))
        → ((d : Declaration) → IsToldWalk (walk.block_item functions structs looping (k (h (item.Declaration d))))) → ((x : Told) → IsToldWalk (walk.block_item functions structs looping (k (h (item.Statement x)))))
        → (xs : List (BlockItem Told)) → AreToldWalks (map (walk.block_item functions structs looping) (map k (map h xs)))
    told_items looping h k d x [] = tt
    told_items looping h k d x (item.Declaration y ∷ xs) = (d y, told_items looping h k d x xs)
    told_items looping h k d x (item.Statement y ∷ xs) = (x y, told_items looping h k d x xs)

    layer : (y : Stmt-F Told) → IsToldNode (statement_node functions structs result (map-Stmt Stmt (Node functions structs) (walked functions structs result) (map-Stmt Told Stmt (λ e. e.0) y)))
    layer (Stmt-F.Empty at) looping s = λ e. refl
    layer (Stmt-F.Break at) looping s = told_by _ _
    layer (Stmt-F.Continue at) looping s = told_by _ _
    layer (Stmt-F.Block b) looping s = told_form _ _ (told_all _ (told_items looping _ _ (λ d. told_walk_as _ (walk.declaration functions structs d) (told_declaration d)) (λ x. x.1 looping) b.items) (enter s))
    layer (Stmt-F.If at e w rest None) looping s = told_branches looping e (walked functions structs result w.0) _ None w.1 (told_arms looping _ _ (λ a. a.then.1) rest) (λ s e. refl) s
    layer (Stmt-F.If at e w rest (Some x)) looping s = told_branches looping e (walked functions structs result w.0) _ (Some (walked functions structs result x.0)) w.1 (told_arms looping _ _ (λ a. a.then.1) rest) (told_walk_as walk.one (walked functions structs result x.0 looping) (x.1 looping)) s
    layer (Stmt-F.While at e w) looping s = told_loop e (walked functions structs result w.0) _ w.1 s
    layer (Stmt-F.DoWhile at w e) looping s = told_loop e (walked functions structs result w.0) _ w.1 s
    layer (Stmt-F.For at i e n w) looping s = told_for i e n (walked functions structs result w.0) w.1 (enter s)
    layer (Stmt-F.Return at e) looping s = told_part (perhaps (judged functions structs s) e) (walk.returned at result) (told_perhaps (judged functions structs s) e (told_expression functions structs s)) (told_returned at result)
    layer (Stmt-F.Print at format es) looping s = told_part (walk.values functions structs s es) (walk.printed format) (told_together (judged_all functions structs s es) (told_expressions functions structs s es)) (told_printed format)
    layer (Stmt-F.Free at e) looping s = told_part (judged functions structs s e) walk.freed (told_expression functions structs s e) told_freed
    layer (Stmt-F.Mark m) looping s = λ e. refl
    layer (Stmt-F.Mpi c) looping s = told_mpi s c (mpi.function_of c)
    layer (Stmt-F.Simple x) looping s = told_form _ (walk.simple functions structs s x) (told_simple s x)

    pub told_statement : (x : Stmt) → IsToldNode (walked functions structs result x)
    told_statement = ind-Stmt (λ x. IsToldNode (walked functions structs result x)) (λ x y is.
        subst (λ (z : Stmt-F Stmt). IsToldNode (walked functions structs result (roll-Stmt z))) is
        (subst IsToldNode (sym (fold-roll-Stmt (Node functions structs) (statement_node functions structs result) (map-Stmt Told Stmt (λ e. e.0) y))) (layer y)))
