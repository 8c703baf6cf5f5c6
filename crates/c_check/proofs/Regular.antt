-- The typed program of a tree that breaks no rule is regular.
use Rattle.std.proofs.Common.{◌≡◌, refl, ap, sym, ◌∙◌, subst, ℕ, zero, suc, ◌+◌, ◌*◌, ◌≤◌, ◌<◌, List, [], ◌∷◌, ◌++◌, length, map, Bool, true, false, Option, Some, None, IfSome, arith, length-append}
use Rattle.std.specs.Prelude.{⊤, ◌&&◌, ◌||◌, not, nat_lt, nat_eq, is_none, option_map, if◌then◌else◌}
use Rattle.std.specs.List.{list_all}
use Rattle.std.proofs.lemmas.Bool.Decides.{nat_tests}
use Rattle.std.proofs.lemmas.List.Folds.{list_all-append}
use Rattle.c_tree.specs.declared.kind.Kind.{Kind}
use Rattle.c_tree.specs.declared.kind.Kind.TheVariants as kinds
use Rattle.c_tree.specs.declared.tree.Arm.{Arm as TreeArm}
use Rattle.c_tree.specs.declared.tree.BlockItem.{BlockItem}
use Rattle.c_tree.specs.declared.tree.BlockItem.TheVariants as item
use Rattle.c_tree.specs.declared.tree.Declaration.{Declaration}
use Rattle.c_tree.specs.declared.tree.Expr.{Expr}
use Rattle.c_tree.specs.declared.tree.ForStart.{ForStart}
use Rattle.c_tree.specs.declared.tree.ForStart.TheVariants as for_start
use Rattle.c_tree.specs.declared.tree.Heading.{Heading}
use Rattle.c_tree.specs.declared.tree.InitDeclarator.{InitDeclarator}
use Rattle.c_tree.specs.declared.tree.Item.{Item}
use Rattle.c_tree.specs.declared.tree.Item.TheVariants as tree_item
use Rattle.c_tree.specs.declared.tree.MpiCall.{MpiCall}
use Rattle.c_tree.specs.declared.tree.Name.{Name}
use Rattle.c_tree.specs.declared.tree.Parameter.{Parameter}
use Rattle.c_tree.specs.declared.tree.SimpleStatement.{SimpleStatement}
use Rattle.c_tree.specs.declared.tree.Stmt.{Stmt}
use Rattle.c_tree.specs.declared.tree.Stmt.TheFolds.{fold-roll-Stmt, ind-Stmt, map-Stmt}
use Rattle.c_tree.specs.declared.tree.Stmt.TheOpen.{Stmt-F}
use Rattle.c_tree.specs.declared.tree.Stmt.TheViews.{roll-Stmt}
use Rattle.c_tree.specs.declared.tree.Text.{Text}
use Rattle.c_tree.specs.declared.tree.Tree.{Tree}
use Rattle.c_tree.specs.declared.tree.TypeSpecifier.{TypeSpecifier}
use Rattle.c_kernel.specs.declared.types.Base.{Base}
use Rattle.c_kernel.specs.declared.types.Base.TheVariants as base
use Rattle.c_kernel.specs.declared.types.CType.{CType}
use Rattle.c_kernel.specs.declared.types.ObjectType.{ObjectType}
use Rattle.c_kernel.specs.declared.types.Struct.{Struct}
use Rattle.c_kernel.specs.declared.program.Action.{Action}
use Rattle.c_kernel.specs.declared.program.Arm.{Arm}
use Rattle.c_kernel.specs.declared.program.Expr.{Expr as Term}
use Rattle.c_kernel.specs.declared.program.Function.{Function}
use Rattle.c_kernel.specs.declared.program.MpiCall.{MpiCall as MpiTyped}
use Rattle.c_kernel.specs.declared.program.MpiFunction.{MpiFunction}
use Rattle.c_kernel.specs.declared.program.Piece.{Piece}
use Rattle.c_kernel.specs.declared.program.Program.{Program}
use Rattle.c_kernel.specs.declared.program.Stmt.{Stmt as Typed}
use Rattle.c_kernel.specs.declared.program.Stmt.TheVariants as typed
use Rattle.c_kernel.specs.declared.program.Stmt.TheOpen as typed_form
use Rattle.c_kernel.specs.declared.program.Stmt.TheFolds.{fold-roll-Stmt as fold-roll-Typed}
use Rattle.c_kernel.specs.Extent.{base_extent}
use Rattle.c_kernel.specs.Regular.{has_cell, are_few, are_regular, is_body, is_regular, regular_node, is_regular_function, IsRegular}
use Rattle.c_rules.specs.declared.breach.Breach.{Breach}
use Rattle.c_rules.specs.declared.found.Found.{Found}
use Rattle.c_rules.specs.declared.signature.Signature.{Signature}
use Rattle.c_rules.specs.Format.{pieces}
use Rattle.c_rules.specs.Judged.{Judged, breaks, by, sound, given, both, of_part, more, perhaps, unless_broken}
use Rattle.c_rules.specs.Rules.{main_name}
use Rattle.c_rules.specs.Scope.{Bytes, Scope, is_here, enter, leave, start}
use Rattle.c_rules.specs.Types.{type_of, specifier_rules, object_type, sized, room, is_array_size, element_cells, is_incomplete, is_too_large, is_void_base, is_struct_base, is_struct, one_object, first_structs}
use Rattle.c_check.specs.Expression.{judged}
use Rattle.c_check.specs.Functions.{is_main, parameter_type, parameters_of, result_of, parameter_at, is_bad_bound, is_unfit, is_named_here, parameter_rules, with_name, with_parameter, parameters_rules, with_parameters, parts_rules, heading_rules, name_rules, type_rules, next_number, number_in, signatures}
use Rattle.c_check.specs.Mpi as mpi
use Rattle.c_check.specs.Program.{body_item, made, body, item_judged, items_judged, program_of, main_in, Accepts}
use Rattle.c_check.specs.Structs.{with_item}
use Rattle.c_check.specs.Statement as walk
use Rattle.c_check.specs.Statement.{Walk, Walked, Node, walk_all, walk_as, scoped, walked, statement_node, variable_rules, sizes_of}
use Rattle.c_check.proofs.TypedParts.{not_none, none_before, none_behind}

-- ---- tests

and_left : (a b : Bool) → (a && b) ≡ true → a ≡ true
and_left true b e = refl
and_left false b e = e

and_right : (a b : Bool) → (a && b) ≡ true → b ≡ true
and_right true b e = e
and_right false b e = absurd (cc)

and_both : (a b : Bool) → a ≡ true → b ≡ true → (a && b) ≡ true
and_both a b p q = ap (λ x. x && b) p ∙ q

or_right : (a b : Bool) → (a || b) ≡ false → b ≡ false
or_right true b e = absurd (cc)
or_right false b e = e

product : (a b : ℕ) → 0 < a → 0 < b → 0 < a * b
product zero b h k = absurd (omega (arith, h))
product (suc a) zero h k = absurd (omega (arith, k))
product (suc a) (suc b) h k = omega arith

-- a rule that isn't broken
unbroken : (b : Bool) (what : Kind) (at : ℕ) → breaks b what at ≡ [] → b ≡ false
unbroken true what at e = absurd (not_none _ [] e)
unbroken false what at e = refl

-- ---- a variable's cells

abbrev Cells : List ObjectType → Type 0
Cells xs = list_all has_cell xs ≡ true

cells_push : (xs : List ObjectType) (x : ObjectType) → Cells xs → has_cell x ≡ true → Cells (xs ++ x ∷ [])
cells_push xs x h c = list_all-append has_cell xs (x ∷ []) ∙ and_both (list_all has_cell xs) (has_cell x && true) h (and_both (has_cell x) true c refl)

chosen : (large fits : Bool) (o : Option ℕ) (P : ℕ → Type 0) → (fits ≡ true → IfSome o P) → IfSome (if large then None else (if fits then o else None)) P
chosen true fits o P h = tt
chosen false true o P h = h refl
chosen false false o P h = tt

within : (large : Bool) (n : ℕ) → 0 < n → IfSome (if large then None else Some n) (λ m. 0 < m)
within true n h = tt
within false n h = h

room_positive : (cells : ℕ) (ns : List ℕ) → 0 < cells → IfSome (room cells ns) (λ n. 0 < n)
room_positive cells [] h = within (nat_lt 8192 cells) cells h
room_positive cells (n ∷ ns) h =
    chosen (nat_lt 8192 cells) (is_array_size n) (room (cells * n) ns) (λ m. 0 < m) (λ e.
    let p : 0 < n = grind (arith, nat_tests, and_left (nat_lt 0 n) (nat_lt n 8193) e) in
    room_positive (cells * n) ns (product cells n h p))

sized_cell : (t : CType) (ns : List ℕ) (o : Option ℕ) → is_none o ≡ false → IfSome o (λ n. 0 < n) → has_cell (sized t ns o) ≡ true
sized_cell t ns None e h = absurd (cc)
sized_cell t ns (Some n) e h = grind (arith, nat_tests, h)

-- an object of a type that is complete, and not too large
object_cell : (structs : List Struct) (t : CType) (ns : List ℕ) → is_too_large structs t ns ≡ false → is_incomplete structs t ≡ false → has_cell (object_type structs t ns) ≡ true
object_cell structs t ns large incomplete =
    let cells = element_cells structs t in
    let some : 0 < cells = grind (arith, nat_tests, or_right (is_void_base t.base) (nat_eq cells 0) incomplete) in
    sized_cell t ns (room cells ns) large (room_positive cells ns some)

-- ---- what a walk keeps that breaks no rule

-- the variables become more, each has a cell, and what is found is fine in a function with so many variables or more
pub record Keeps {A : Type 0} (Fine : ℕ → A → Type 0) (s : Scope) (w : Walked A) : Type 0 where
  pub grows : length s.variables ≤ length w.scope.variables
  pub cells : Cells s.variables → Cells w.scope.variables
  pub fine : (n : ℕ) → length w.scope.variables ≤ n → IfSome w.judged.found (Fine n)

abbrev KeepsWalk : {A : Type 0} → (ℕ → A → Type 0) → Walk A → Type 0
KeepsWalk Fine w = (s : Scope) → (w s).judged.breaches ≡ [] → Keeps Fine s (w s)

abbrev KeepWalks : {A : Type 0} → (ℕ → A → Type 0) → List (Walk A) → Type 0
KeepWalks Fine [] = Unit {0}
KeepWalks Fine (w ∷ ws) = KeepsWalk Fine w × KeepWalks Fine ws

abbrev AllFine : {A : Type 0} → (ℕ → A → Type 0) → ℕ → List A → Type 0
AllFine Fine n [] = Unit {0}
AllFine Fine n (x ∷ xs) = Fine n x × AllFine Fine n xs

fine_more : {A : Type 0} (Fine : ℕ → A → Type 0) (n : ℕ) (o : Option A) (os : Option (List A)) → IfSome o (Fine n) → IfSome os (AllFine Fine n) → IfSome (more o os) (AllFine Fine n)
fine_more Fine n None os h k = tt
fine_more Fine n (Some x) None h k = tt
fine_more Fine n (Some x) (Some xs) h k = (h, k)

fine_map : {A B : Type 0} (P : A → Type 0) (Q : B → Type 0) (f : A → B) (o : Option A) → ((x : A) → P x → Q (f x)) → IfSome o P → IfSome (option_map f o) Q
fine_map P Q f None k h = tt
fine_map P Q f (Some x) k h = k x h

fine_both : {A B : Type 0} (P : A → Type 0) (Q : B → Type 0) (a : Option A) (b : Option B) → IfSome a P → IfSome b Q → IfSome (both a b) (λ p. P p.0 × Q p.1)
fine_both P Q None None h k = tt
fine_both P Q None (Some y) h k = tt
fine_both P Q (Some x) None h k = tt
fine_both P Q (Some x) (Some y) h k = (h, k)

fine_any : {A : Type 0} (P : A → Type 0) → ((x : A) → P x) → (o : Option A) → IfSome o P
fine_any P h None = tt
fine_any P h (Some x) = h x

keep_all : {A : Type 0} (Fine : ℕ → A → Type 0) (ws : List (Walk A)) → KeepWalks Fine ws → KeepsWalk (AllFine Fine) (walk_all ws)
keep_all Fine [] all s e = record { grows = omega arith; cells = λ c. c; fine = λ n h. tt }
keep_all Fine (w ∷ ws) all s e =
    let first = w s in
    let rest = walk_all ws first.scope in
    let one = all.0 s (none_before first.judged.breaches rest.judged.breaches e) in
    let others = keep_all Fine ws all.1 first.scope (none_behind first.judged.breaches rest.judged.breaches e) in
    record {
      grows = omega (arith, one.grows, others.grows);
      cells = λ c. others.cells (one.cells c);
      fine = λ n h. fine_more Fine n first.judged.found rest.judged.found (one.fine n (omega (arith, others.grows, h))) (others.fine n h);
    }

keep_each : {X A : Type 0} (Fine : ℕ → A → Type 0) (w : X → Walk A) → ((x : X) → KeepsWalk Fine (w x)) → (xs : List X) → KeepWalks Fine (map w xs)
keep_each Fine w h [] = tt
keep_each Fine w h (x ∷ xs) = (h x, keep_each Fine w h xs)

keep_as : {A B : Type 0} (P : ℕ → A → Type 0) (Q : ℕ → B → Type 0) (f : A → B) (w : Walk A) → ((n : ℕ) (x : A) → P n x → Q n (f x)) → KeepsWalk P w → KeepsWalk Q (walk_as f w)
keep_as P Q f w k h s e =
    let kept = h s e in
    record { grows = kept.grows; cells = kept.cells; fine = λ n small. fine_map (P n) (Q n) f (w s).judged.found (k n) (kept.fine n small) }

keep_staying : {A : Type 0} (P : ℕ → A → Type 0) (j : Judged A) → ((n : ℕ) → IfSome j.found (P n)) → KeepsWalk P (walk.staying j)
keep_staying P j h s e = record { grows = omega arith; cells = λ c. c; fine = λ n small. h n }

keep_scoped : {A : Type 0} (P : ℕ → A → Type 0) (w : Walk A) → KeepsWalk P w → KeepsWalk P (scoped w)
keep_scoped P w h s e = let kept = h (enter s) e in record { grows = kept.grows; cells = kept.cells; fine = kept.fine }

-- ---- declarations: one action for each variable more

-- so many more variables than before, each with a cell, and as many actions
pub record Declares {A : Type 0} (count : ℕ) (s : Scope) (w : Walked A) (size : A → ℕ) : Type 0 where
  pub number : length w.scope.variables ≡ length s.variables + count
  pub cells : Cells s.variables → Cells w.scope.variables
  pub actions : IfSome w.judged.found (λ x. size x ≡ count)

module _ (functions : Bytes → Option Signature) (structs : List Struct) where
  variable_cells : (t : TypeSpecifier) (d : InitDeclarator) (s : Scope) → (walk.variable_walk functions structs t d s).judged.breaches ≡ [] → Cells s.variables → Cells (walk.variable_walk functions structs t d s).scope.variables
  variable_cells t d s e c =
      let c_type = type_of structs None t d.stars in
      let rules = variable_rules structs s c_type d in
      let none = none_before rules _ e in
      let again = breaks (is_here s d.name.bytes) kinds.Redeclared d.name.at in
      let large = breaks (is_too_large structs c_type (sizes_of d)) kinds.ArraySize d.name.at in
      let whole = breaks (is_incomplete structs c_type) kinds.IncompleteType d.name.at in
      let not_large = none_behind again large (none_before (again ++ large) whole none) in
      let not_whole = none_behind (again ++ large) whole none in
      cells_push s.variables (object_type structs c_type (sizes_of d)) c (object_cell structs c_type (sizes_of d) (unbroken (is_too_large structs c_type (sizes_of d)) kinds.ArraySize d.name.at not_large) (unbroken (is_incomplete structs c_type) kinds.IncompleteType d.name.at not_whole))

  declare_all : (t : TypeSpecifier) (ds : List InitDeclarator) (s : Scope) → (walk_all (map (walk.variable_walk functions structs t) ds) s).judged.breaches ≡ [] → Declares (length ds) s (walk_all (map (walk.variable_walk functions structs t) ds) s) length
  declare_all t [] s e = record { number = omega arith; cells = λ c. c; actions = refl }
  declare_all t (d ∷ ds) s e =
      let first = walk.variable_walk functions structs t d s in
      let rest = walk_all (map (walk.variable_walk functions structs t) ds) first.scope in
      let others = declare_all t ds first.scope (none_behind first.judged.breaches rest.judged.breaches e) in
      let pushed = length-append s.variables (object_type structs (type_of structs None t d.stars) (sizes_of d) ∷ []) in
      record {
        number = omega (arith, others.number, pushed);
        cells = λ c. others.cells (variable_cells t d s (none_before first.judged.breaches rest.judged.breaches e) c);
        actions = one_more first.judged.found rest.judged.found (length ds) others.actions;
      }
    where
      one_more : (o : Option Action) (os : Option (List Action)) (n : ℕ) → IfSome os (λ xs. length xs ≡ n) → IfSome (more o os) (λ xs. length xs ≡ suc n)
      one_more None os n h = tt
      one_more (Some x) None n h = tt
      one_more (Some x) (Some xs) n h = ap suc h

  abbrev FewActions : ℕ → List Action → Type 0
  FewActions n actions = are_few n actions ≡ true

  keep_declaration : (d : Declaration) → KeepsWalk FewActions (walk.declaration functions structs d)
  keep_declaration d s e =
      let variables = walk_all (map (walk.variable_walk functions structs d.specifier) d.declarators) s in
      let declared = declare_all d.specifier d.declarators s (none_behind (specifier_rules structs None d.specifier) variables.judged.breaches e) in
      record {
        grows = omega (arith, declared.number);
        cells = declared.cells;
        fine = λ n h. fine_map' variables.judged.found (length d.declarators) n declared.actions (omega (arith, declared.number, h));
      }
    where
      fine_map' : (o : Option (List Action)) (count n : ℕ) → IfSome o (λ xs. length xs ≡ count) → count ≤ n → IfSome o (FewActions n)
      fine_map' None count n h k = tt
      fine_map' (Some xs) count n h k = grind (arith, nat_tests, h, k)

  -- ---- the head of a for

  few_one : (n : ℕ) (a : Action) → are_few n (a ∷ []) ≡ true
  few_one n a = grind (arith, nat_tests)

  keep_start : (i : Option ForStart) → KeepsWalk FewActions (walk.start functions structs i)
  keep_start None = keep_staying FewActions (by [] []) (λ n. grind (arith, nat_tests))
  keep_start (Some (for_start.Declaration d)) = keep_declaration d
  keep_start (Some (for_start.Simple x)) = λ s. keep_staying FewActions (walk.seen_as walk.one (walk.simple functions structs s x)) (λ n. fine_map (λ a. ⊤) (FewActions n) walk.one (walk.simple functions structs s x).found (λ a h. few_one n a) (fine_any (λ a. ⊤) (λ a. tt) _)) s

  -- ---- nodes

  abbrev Fine : ℕ → Typed → Type 0
  Fine n x = is_regular n x ≡ true

  abbrev KeepsNode : Node functions structs → Type 0
  KeepsNode w = (looping : Bool) → KeepsWalk Fine (w looping)

  abbrev FineBranch : ℕ → Term × Typed → Type 0
  FineBranch n p = Fine n p.1

  keep_guarded : (looping : Bool) (e : Expr) (w : Node functions structs) → KeepsNode w → KeepsWalk FineBranch (walk.guarded functions structs looping e w)
  unfolding walk.guarded
  keep_guarded looping e w h s none =
      let test = walk.condition functions structs s e in
      let inside = w looping s in
      let kept = h looping s (none_behind test.breaches inside.judged.breaches none) in
      record {
        grows = kept.grows;
        cells = kept.cells;
        fine = λ n small. of_both (FineBranch n) test.found inside.judged.found (λ c x k. k) (kept.fine n small);
      }
    where
      of_both : (P : Term × Typed → Type 0) {Q : Typed → Type 0} (a : Option Term) (b : Option Typed) → ((c : Term) (x : Typed) → Q x → P (c, x)) → IfSome b Q → IfSome (both a b) P
      of_both P None None k h = tt
      of_both P None (Some x) k h = tt
      of_both P (Some c) None k h = tt
      of_both P (Some c) (Some x) k h = k c x h

  abbrev FineArm : ℕ → Arm Typed → Type 0
  FineArm n a = are_regular (map (is_regular n) a.body) ≡ true

  alone : (b : Bool) → b ≡ true → (b && true) ≡ true
  alone b h = and_both b true h refl

  keep_arm : (looping : Bool) (e : Expr) (w : Node functions structs) → KeepsNode w → KeepsWalk FineArm (walk.arm functions structs looping e w)
  keep_arm looping e w h = keep_as FineBranch FineArm walk.branch_of (walk.guarded functions structs looping e w) (λ n p k. alone (is_regular n p.1) k) (keep_guarded looping e w h)

  keep_loop : (e : Expr) (w : Node functions structs) (make : Term → Typed → Typed) → ((n : ℕ) (c : Term) (x : Typed) → Fine n x → Fine n (make c x)) → KeepsNode w → KeepsWalk Fine (walk.loop functions structs e w make)
  keep_loop e w make k h = keep_as FineBranch Fine (λ p. make p.0 p.1) (walk.guarded functions structs true e w) (λ n p. k n p.0 p.1) (keep_guarded true e w h)

  -- ---- lists of typed statements, as the fold sees them

  all_regular : (n : ℕ) (xs : List Typed) → AllFine Fine n xs → are_regular (map (is_regular n) xs) ≡ true
  all_regular n [] h = refl
  all_regular n (x ∷ xs) h = and_both (is_regular n x) (are_regular (map (is_regular n) xs)) h.0 (all_regular n xs h.1)

  fine_block : (n : ℕ) (xs : List Typed) → AllFine Fine n xs → Fine n (typed.Block xs)
  fine_block n xs h = ap (is_regular n) (sym (typed.rolls-Block xs)) ∙ fold-roll-Typed Bool (regular_node n) (typed_form.Block xs) ∙ all_regular n xs h

  fine_while : (n : ℕ) (c : Term) (x : Typed) → Fine n x → Fine n (typed.While c (walk.one x))
  fine_while n c x h = ap (is_regular n) (sym (typed.rolls-While c (walk.one x))) ∙ fold-roll-Typed Bool (regular_node n) (typed_form.While c (walk.one x)) ∙ alone (is_regular n x) h

  fine_do : (n : ℕ) (c : Term) (x : Typed) → Fine n x → Fine n (typed.DoWhile (walk.one x) c)
  fine_do n c x h = ap (is_regular n) (sym (typed.rolls-DoWhile (walk.one x) c)) ∙ fold-roll-Typed Bool (regular_node n) (typed_form.DoWhile (walk.one x) c) ∙ alone (is_regular n x) h

  fine_actions : (n : ℕ) (xs : List Action) → FewActions n xs → Fine n (typed.Actions xs)
  fine_actions n xs h = ap (is_regular n) (sym (typed.rolls-Actions xs)) ∙ fold-roll-Typed Bool (regular_node n) (typed_form.Actions xs) ∙ h

  fine_for : (n : ℕ) (start : List Action) (c : Option Term) (last : Option Action) (x : Typed) → FewActions n start → Fine n x → Fine n (typed.For start c (walk.listed last) (walk.one x))
  fine_for n start c last x h k =
      ap (is_regular n) (sym (typed.rolls-For start c (walk.listed last) (walk.one x))) ∙ fold-roll-Typed Bool (regular_node n) (typed_form.For start c (walk.listed last) (walk.one x))
      ∙ and_both (are_few n start) (are_few 0 (walk.listed last) && is_body (is_regular n x ∷ [])) h (and_both (are_few 0 (walk.listed last)) (is_body (is_regular n x ∷ [])) (at_most last) (alone (is_regular n x) k))
    where
      at_most : (o : Option Action) → are_few 0 (walk.listed o) ≡ true
      at_most None = grind (arith, nat_tests)
      at_most (Some a) = grind (arith, nat_tests)

  fine_if : (n : ℕ) (arms : List (Arm Typed)) (last : List Typed) → AllFine FineArm n arms → AllFine Fine n last → Fine n (typed.If arms last)
  fine_if n arms last h k = ap (is_regular n) (sym (typed.rolls-If arms last)) ∙ fold-roll-Typed Bool (regular_node n) (typed_form.If arms last) ∙ and_both _ (are_regular (map (is_regular n) last)) (all_arms arms h) (all_regular n last k)
    where
      all_arms : (xs : List (Arm Typed)) → AllFine FineArm n xs → list_all (λ (arm : Arm Bool). are_regular arm.body) (map (λ (a : Arm Typed). record { test = a.test; body = map (is_regular n) a.body }) xs) ≡ true
      all_arms [] h = refl
      all_arms (a ∷ xs) h = and_both (are_regular (map (is_regular n) a.body)) _ h.0 (all_arms xs h.1)

  keep_branches : (looping : Bool) (e : Expr) (w : Node functions structs) (rest : List (TreeArm (Node functions structs))) (last : Option (Node functions structs))
      → KeepsNode w → KeepWalks FineArm (map (λ (a : TreeArm (Node functions structs)). walk.arm functions structs looping a.test a.then) rest) → KeepsWalk (AllFine Fine) (walk.last_branch functions structs looping last)
      → KeepsWalk Fine (walk.branches functions structs looping e w rest last)
  keep_branches looping e w rest last h all end s none =
      let walks = walk.arm functions structs looping e w ∷ map (λ (a : TreeArm (Node functions structs)). walk.arm functions structs looping a.test a.then) rest in
      let each : KeepWalks FineArm walks = (keep_arm looping e w h, all) in
      let first = walk.arms functions structs looping e w rest s in
      let second = walk.last_branch functions structs looping last first.scope in
      let one = keep_all FineArm walks each s (none_before first.judged.breaches second.judged.breaches none) in
      let two = end first.scope (none_behind first.judged.breaches second.judged.breaches none) in
      record {
        grows = omega (arith, one.grows, two.grows);
        cells = λ c. two.cells (one.cells c);
        fine = λ n small. fine_map (λ p. AllFine FineArm n p.0 × AllFine Fine n p.1) (Fine n) (λ p. typed.If p.0 p.1) (both first.judged.found second.judged.found) (λ p k. fine_if n p.0 p.1 k.0 k.1)
            (fine_both (AllFine FineArm n) (AllFine Fine n) first.judged.found second.judged.found (one.fine n (omega (arith, two.grows, small))) (two.fine n small));
      }

  keep_for : (i : Option ForStart) (e : Option Expr) (x : Option SimpleStatement) (w : Node functions structs) → KeepsNode w → KeepsWalk Fine (walk.for_loop functions structs i e x w)
  keep_for i e x w h s none =
      let head = walk.start functions structs i s in
      let inside = w true head.scope in
      let test = perhaps (walk.condition functions structs head.scope) e in
      let step = perhaps (walk.simple functions structs head.scope) x in
      let none_first = none_before (head.judged.breaches ++ test.breaches) (step.breaches ++ inside.judged.breaches) none in
      let none_last = none_behind (head.judged.breaches ++ test.breaches) (step.breaches ++ inside.judged.breaches) none in
      let one = keep_start i s (none_before head.judged.breaches test.breaches none_first) in
      let two = h true head.scope (none_behind step.breaches inside.judged.breaches none_last) in
      record {
        grows = omega (arith, one.grows, two.grows);
        cells = λ c. two.cells (one.cells c);
        fine = λ n small. fine_map (λ p. (FewActions n p.0.0 × ⊤) × (⊤ × Fine n p.1.1)) (Fine n) _ (both (both head.judged.found test.found) (both step.found inside.judged.found)) (λ p k. fine_for n p.0.0 p.0.1 p.1.0 p.1.1 k.0.0 k.1.1)
            (fine_both (λ p. FewActions n p.0 × ⊤) (λ p. ⊤ × Fine n p.1) (both head.judged.found test.found) (both step.found inside.judged.found)
            (fine_both (FewActions n) (λ c. ⊤) head.judged.found test.found (one.fine n (omega (arith, two.grows, small))) (fine_any (λ c. ⊤) (λ c. tt) test.found))
            (fine_both (λ c. ⊤) (Fine n) step.found inside.judged.found (fine_any (λ c. ⊤) (λ c. tt) step.found) (two.fine n small)));
      }

  -- ---- statements that have no parts

  fine_sound : {A : Type 0} (P : A → Type 0) (fs : List Breach) (x : A) → P x → IfSome (sound fs x) P
  fine_sound P [] x h = h
  fine_sound P (f ∷ fs) x h = tt

  fine_given : {A B : Type 0} (P : B → Type 0) (o : Option A) (node : A → Judged B) → ((a : A) → IfSome (node a).found P) → IfSome (given o node).found P
  fine_given P None node h = tt
  fine_given P (Some a) node h = h a

  fine_break : (n : ℕ) → Fine n typed.Break
  fine_break n = ap (is_regular n) (sym typed.rolls-Break) ∙ fold-roll-Typed Bool (regular_node n) typed_form.Break

  fine_continue : (n : ℕ) → Fine n typed.Continue
  fine_continue n = ap (is_regular n) (sym typed.rolls-Continue) ∙ fold-roll-Typed Bool (regular_node n) typed_form.Continue

  fine_mark : (n : ℕ) → Fine n typed.Mark
  fine_mark n = ap (is_regular n) (sym typed.rolls-Mark) ∙ fold-roll-Typed Bool (regular_node n) typed_form.Mark

  fine_return : (n : ℕ) (e : Option Term) → Fine n (typed.Return e)
  fine_return n e = ap (is_regular n) (sym (typed.rolls-Return e)) ∙ fold-roll-Typed Bool (regular_node n) (typed_form.Return e)

  fine_print : (n : ℕ) (ps : List Piece) (es : List Term) → Fine n (typed.Print ps es)
  fine_print n ps es = ap (is_regular n) (sym (typed.rolls-Print ps es)) ∙ fold-roll-Typed Bool (regular_node n) (typed_form.Print ps es)

  fine_free : (n : ℕ) (e : Term) → Fine n (typed.Free e)
  fine_free n e = ap (is_regular n) (sym (typed.rolls-Free e)) ∙ fold-roll-Typed Bool (regular_node n) (typed_form.Free e)

  fine_mpi : (n : ℕ) (c : MpiTyped) → Fine n (typed.Mpi c)
  fine_mpi n c = ap (is_regular n) (sym (typed.rolls-Mpi c)) ∙ fold-roll-Typed Bool (regular_node n) (typed_form.Mpi c)

  fine_returned : (n at : ℕ) (result : CType) (v : Option Found) → IfSome (walk.returned at result v).found (Fine n)
  unfolding walk.returned
  fine_returned n at result v = fine_sound (Fine n) _ _ (fine_return n _)

  fine_freed : (n : ℕ) (a : Found) → IfSome (walk.freed a).found (Fine n)
  unfolding walk.freed
  fine_freed n a = fine_sound (Fine n) _ _ (fine_free n _)

  fine_pieces : (n at : ℕ) (vs : List Found) (ps : Option (List Piece)) → IfSome (walk.printed_pieces at vs ps).found (Fine n)
  fine_pieces n at vs None = tt
  fine_pieces n at vs (Some ps) = fine_sound (Fine n) _ _ (fine_print n ps _)

  fine_printed : (n : ℕ) (format : Text) (vs : List Found) → IfSome (walk.printed format vs).found (Fine n)
  unfolding walk.printed
  fine_printed n format vs = fine_pieces n format.at vs (pieces format.bytes)

  fine_called : (n : ℕ) (s : Scope) (c : MpiCall) (f : Option MpiFunction) → IfSome (walk.mpi_function functions structs s c f).found (Fine n)
  unfolding mpi.called
  fine_called n s c None = tt
  fine_called n s c (Some f) = fine_given (Fine n) _ (mpi.called (mpi.word_rules s c) (mpi.names_of c) f) (λ vs. fine_sound (Fine n) _ _ (fine_mpi n _))

  -- ---- statements

  module _ (result : CType) where
    abbrev Kept : Type 0
    Kept = (x : Stmt) × KeepsNode (walked functions structs result x)

    keep_arms : (looping : Bool) (h : TreeArm Kept → TreeArm Stmt) (k : TreeArm Stmt → TreeArm (Node functions structs)) → ((a : TreeArm Kept) → KeepsNode (k (h a)).then)
        → (xs : List (TreeArm Kept)) → KeepWalks FineArm (map (λ (a : TreeArm (Node functions structs)). walk.arm functions structs looping a.test a.then) (map k (map h xs)))
    keep_arms looping h k kept [] = tt
    keep_arms looping h k kept (a ∷ xs) = (keep_arm looping (k (h a)).test (k (h a)).then (kept a), keep_arms looping h k kept xs)

    keep_items : (looping : Bool) (h : BlockItem Kept → BlockItem Stmt) (k : BlockItem Stmt → BlockItem (Node functions structs))
        → ((d : Declaration) → KeepsWalk Fine (walk.block_item functions structs looping (k (h (item.Declaration d))))) → ((x : Kept) → KeepsWalk Fine (walk.block_item functions structs looping (k (h (item.Statement x)))))
        → (xs : List (BlockItem Kept)) → KeepWalks Fine (map (walk.block_item functions structs looping) (map k (map h xs)))
    keep_items looping h k d x [] = tt
    keep_items looping h k d x (item.Declaration y ∷ xs) = (d y, keep_items looping h k d x xs)
    keep_items looping h k d x (item.Statement y ∷ xs) = (x y, keep_items looping h k d x xs)

    keep_actions : (d : Declaration) → KeepsWalk Fine (walk_as typed.Actions (walk.declaration functions structs d))
    keep_actions d = keep_as FewActions Fine typed.Actions (walk.declaration functions structs d) fine_actions (keep_declaration d)

    keep_block : (s : Scope) (w : Walked (List Typed)) → Keeps (AllFine Fine) (enter s) w → Keeps Fine s (record { judged = walk.seen_as typed.Block w.judged; scope = leave s w.scope })
    keep_block s w kept = record { grows = kept.grows; cells = kept.cells; fine = λ n small. fine_map (AllFine Fine n) (Fine n) typed.Block w.judged.found (fine_block n) (kept.fine n small) }

    layer : (y : Stmt-F Kept) → KeepsNode (statement_node functions structs result (map-Stmt Stmt (Node functions structs) (walked functions structs result) (map-Stmt Kept Stmt (λ e. e.0) y)))
    layer (Stmt-F.Empty at) looping = keep_staying Fine (by [] (typed.Actions [])) (λ n. fine_actions n [] (grind (arith, nat_tests)))
    layer (Stmt-F.Break at) looping = keep_staying Fine (walk.loop_word looping at typed.Break) (λ n. fine_sound (Fine n) (breaks (not looping) kinds.LoopWord at) typed.Break (fine_break n))
    layer (Stmt-F.Continue at) looping = keep_staying Fine (walk.loop_word looping at typed.Continue) (λ n. fine_sound (Fine n) (breaks (not looping) kinds.LoopWord at) typed.Continue (fine_continue n))
    layer (Stmt-F.Block b) looping = λ s none. keep_block s _ (keep_all Fine _ (keep_items looping _ _ keep_actions (λ x. x.1 looping) b.items) (enter s) none)
    layer (Stmt-F.If at e w rest None) looping = keep_branches looping e (walked functions structs result w.0) _ None w.1 (keep_arms looping _ _ (λ a. a.then.1) rest) (keep_staying (AllFine Fine) (by [] []) (λ n. tt))
    layer (Stmt-F.If at e w rest (Some x)) looping = keep_branches looping e (walked functions structs result w.0) _ (Some (walked functions structs result x.0)) w.1 (keep_arms looping _ _ (λ a. a.then.1) rest) (keep_as Fine (AllFine Fine) walk.one (walked functions structs result x.0 looping) (λ n x h. (h, tt)) (x.1 looping))
    layer (Stmt-F.While at e w) looping = keep_loop e (walked functions structs result w.0) (λ c x. typed.While c (walk.one x)) fine_while w.1
    layer (Stmt-F.DoWhile at w e) looping = keep_loop e (walked functions structs result w.0) (λ c x. typed.DoWhile (walk.one x) c) fine_do w.1
    layer (Stmt-F.For at i e n w) looping = keep_scoped Fine (walk.for_loop functions structs i e n (walked functions structs result w.0)) (keep_for i e n (walked functions structs result w.0) w.1)
    layer (Stmt-F.Return at e) looping = λ s. keep_staying Fine (of_part (perhaps (judged functions structs s) e) (walk.returned at result)) (λ n. fine_given (Fine n) (perhaps (judged functions structs s) e).found (walk.returned at result) (fine_returned n at result)) s
    layer (Stmt-F.Print at format es) looping = λ s. keep_staying Fine (of_part (walk.values functions structs s es) (walk.printed format)) (λ n. fine_given (Fine n) (walk.values functions structs s es).found (walk.printed format) (fine_printed n format)) s
    layer (Stmt-F.Free at e) looping = λ s. keep_staying Fine (of_part (judged functions structs s e) walk.freed) (λ n. fine_given (Fine n) (judged functions structs s e).found walk.freed (fine_freed n)) s
    layer (Stmt-F.Mark m) looping = keep_staying Fine (by [] typed.Mark) fine_mark
    layer (Stmt-F.Mpi c) looping = λ s. keep_staying Fine (walk.mpi_call functions structs s c) (λ n. fine_called n s c (mpi.function_of c)) s
    layer (Stmt-F.Simple x) looping = λ s. keep_staying Fine (walk.seen_as (λ a. typed.Actions (walk.one a)) (walk.simple functions structs s x)) (λ n. fine_map (λ a. ⊤) (Fine n) (λ a. typed.Actions (walk.one a)) (walk.simple functions structs s x).found (λ a h. fine_actions n (walk.one a) (few_one n a)) (fine_any (λ a. ⊤) (λ a. tt) _)) s

    keep_statement : (x : Stmt) → KeepsNode (walked functions structs result x)
    keep_statement = ind-Stmt (λ x. KeepsNode (walked functions structs result x)) (λ x y is.
        subst (λ (z : Stmt-F Stmt). KeepsNode (walked functions structs result (roll-Stmt z))) is
        (subst KeepsNode (sym (fold-roll-Stmt (Node functions structs) (statement_node functions structs result) (map-Stmt Kept Stmt (λ e. e.0) y))) (layer y)))

-- ---- functions

fit_room : (structs : List Struct) (pointer : Bool) (x : Base) → is_void_base x ≡ false → (not pointer && is_struct_base x) ≡ false → nat_lt 0 (if pointer then record { cells = 1; size = 16 } else base_extent structs x).cells ≡ true
fit_room structs true x a b = refl
fit_room structs false (base.Integer kind) a b = refl
fit_room structs false base.Void a b = absurd (cc)
fit_room structs false (base.Struct n) a b = absurd (cc)

fit_cell : (structs : List Struct) (t : CType) → is_void_base t.base ≡ false → is_struct t ≡ false → has_cell (one_object structs t) ≡ true
fit_cell structs t a b = fit_room structs (nat_lt 0 t.stars) t.base a b

or_left : (a b : Bool) → (a || b) ≡ false → a ≡ false
or_left true b e = e
or_left false b e = refl

rules_after : (fs gs : List Breach) → fs ≡ [] → unless_broken fs gs ≡ [] → gs ≡ []
rules_after [] gs e h = h
rules_after (f ∷ fs) gs e h = absurd (not_none f fs e)

module _ (structs : List Struct) where
  named_cells : (main : Bool) (name : Option Name) (t : CType) (s : Scope) → has_cell (one_object structs t) ≡ true → Cells s.variables → Cells (with_name structs main name t s).variables
  named_cells main None t s h c = c
  named_cells true (Some n) t s h c = c
  named_cells false (Some n) t s h c = cells_push s.variables (one_object structs t) c h

  parameter_cells : (main defined : Bool) (s : Scope) (p : Parameter) → parameter_rules structs defined s p ≡ [] → Cells s.variables → Cells (with_parameter structs main p s).variables
  parameter_cells main defined s p e c =
      let t = parameter_type structs p in
      let types = specifier_rules structs None p.specifier in
      let again = breaks (is_named_here s p.name) kinds.Redeclared (parameter_at p) in
      let bound = breaks (is_bad_bound p.array) kinds.ArraySize (parameter_at p) in
      let unfit = breaks (is_unfit structs defined p) kinds.IncompleteType (parameter_at p) in
      let first = none_before (types ++ again) (unless_broken types (bound ++ unfit)) e in
      let later = rules_after types (bound ++ unfit) (none_before types again first) (none_behind (types ++ again) (unless_broken types (bound ++ unfit)) e) in
      let fit = unbroken (is_unfit structs defined p) kinds.IncompleteType (parameter_at p) (none_behind bound unfit later) in
      let rest = or_left (is_void_base t.base || is_struct t) (defined && is_none p.name) fit in
      named_cells main p.name t s (fit_cell structs t (or_left (is_void_base t.base) (is_struct t) rest) (or_right (is_void_base t.base) (is_struct t) rest)) c

  parameters_cells : (main defined : Bool) (ps : List Parameter) (s : Scope) → parameters_rules structs main defined s ps ≡ [] → Cells s.variables → Cells (with_parameters structs main s ps).variables
  parameters_cells main defined [] s e c = c
  parameters_cells main defined (p ∷ ps) s e c =
      let here = parameter_rules structs defined s p in
      let next = with_parameter structs main p s in
      let later = parameters_rules structs main defined next ps in
      parameters_cells main defined ps next (none_behind here later e) (parameter_cells main defined s p (none_before here later e) c)

module _ (functions : Bytes → Option Signature) (structs : List Struct) where
  keep_body_item : (result : CType) (x : BlockItem Stmt) → KeepsWalk (Fine functions structs) (body_item functions structs result x)
  keep_body_item result (item.Declaration d) = keep_actions functions structs result d
  keep_body_item result (item.Statement x) = keep_statement functions structs result x false

  made_regular : (h : Heading) (parameters inside : Scope) (steps : List Typed) → Cells inside.variables → AllFine (Fine functions structs) (length inside.variables) steps → is_regular_function (made functions structs h parameters steps inside) ≡ true
  made_regular h parameters inside steps c f = and_both (list_all has_cell inside.variables) _ c (all_steps steps f)
    where
      all_steps : (xs : List Typed) → AllFine (Fine functions structs) (length inside.variables) xs → list_all (is_regular (length inside.variables)) xs ≡ true
      all_steps [] h = refl
      all_steps (x ∷ xs) h = and_both (is_regular (length inside.variables) x) _ h.0 (all_steps xs h.1)

  regular_body : (h : Heading) (items : List (BlockItem Stmt)) → parts_rules structs true h ≡ [] → (body functions structs h items).breaches ≡ [] → IfSome (body functions structs h items).found (λ f. is_regular_function f ≡ true)
  regular_body h items rules e =
      let result = result_of structs h in
      let ps = parameters_of h.parameters in
      let parameters = with_parameters structs (is_main h) start ps in
      let walks = map (body_item functions structs result) items in
      let inside = walk_all walks parameters in
      let kept = keep_all (Fine functions structs) walks (keep_each (Fine functions structs) (body_item functions structs result) (keep_body_item result) items) parameters (none_before inside.judged.breaches _ e) in
      let types = specifier_rules structs None h.specifier in
      let cells = parameters_cells structs (is_main h) true ps start (none_behind types (parameters_rules structs (is_main h) true start ps) rules) refl in
      regular_steps h parameters inside.scope inside.judged.found (kept.cells cells) (kept.fine (length inside.scope.variables) (omega arith))
    where
      regular_steps : (h : Heading) (parameters inside : Scope) (o : Option (List Typed)) → Cells inside.variables → IfSome o (AllFine (Fine functions structs) (length inside.variables)) → IfSome (given o (λ steps. by [] (made functions structs h parameters steps inside))).found (λ f. is_regular_function f ≡ true)
      regular_steps h parameters inside None c k = tt
      regular_steps h parameters inside (Some steps) c k = made_regular h parameters inside steps c k

  abbrev Regular : List Function → Type 0
  Regular fs = list_all is_regular_function fs ≡ true

  regular_item : (k : ℕ) (i : Item) → (item_judged functions structs k i).breaches ≡ [] → IfSome (item_judged functions structs k i).found Regular
  regular_item k (tree_item.Include at header) e = refl
  regular_item k (tree_item.Struct at name members) e = fine_sound functions structs Regular _ [] refl
  regular_item k (tree_item.Prototype h) e = fine_sound functions structs Regular _ [] refl
  regular_item k (tree_item.Function h b) e =
      let rules = heading_rules functions structs k true h in
      let parts = parts_rules structs true h in
      let names = name_rules functions k true h in
      let inner = body functions structs h b.items in
      let none = none_before (parts ++ names) (unless_broken parts (type_rules functions structs h)) (none_before rules _ e) in
      alone_regular inner.found (regular_body h b.items (none_before parts names none) (none_before inner.breaches _ (none_behind rules _ e)))
    where
      alone_regular : (o : Option Function) → IfSome o (λ f. is_regular_function f ≡ true) → IfSome (given o (λ f. by [] (f ∷ []))).found Regular
      alone_regular None h = tt
      alone_regular (Some f) h = and_both (is_regular_function f) true h refl

regular_items : (functions : Bytes → Option Signature) (structs : List Struct) (k : ℕ) (is : List Item) → (items_judged functions structs k is).breaches ≡ [] → IfSome (items_judged functions structs k is).found (λ fs. list_all is_regular_function fs ≡ true)
regular_items functions structs k [] e = refl
regular_items functions structs k (i ∷ is) e =
    let here = item_judged functions structs k i in
    let later = items_judged functions (with_item structs i) (next_number k i) is in
    let none = none_before (here.breaches ++ later.breaches) _ e in
    joined here.found later.found (regular_item functions structs k i (none_before here.breaches later.breaches none)) (regular_items functions (with_item structs i) (next_number k i) is (none_behind here.breaches later.breaches none))
  where
    joined : (a b : Option (List Function)) → IfSome a (λ fs. list_all is_regular_function fs ≡ true) → IfSome b (λ fs. list_all is_regular_function fs ≡ true)
        → IfSome (given (both a b) (λ p. by [] (p.0 ++ p.1))).found (λ fs. list_all is_regular_function fs ≡ true)
    joined None None h k = tt
    joined None (Some y) h k = tt
    joined (Some x) None h k = tt
    joined (Some x) (Some y) h k = list_all-append is_regular_function x y ∙ and_both (list_all is_regular_function x) (list_all is_regular_function y) h k

some_same : {A : Type 0} {x y : A} → Some x ≡ Some y → x ≡ y
some_same e = cc

-- what a tree is accepted as
pub is_regular_program : (tree : Tree) (p : Program) → Accepts tree p → IsRegular p
is_regular_program tree p accepted =
    let functions = signatures first_structs 0 tree.items in
    let items = items_judged functions first_structs 0 tree.items in
    let main = main_in tree.length (number_in (functions main_name)) in
    of_program (both items.found main.found) (paired items.found main.found (regular_items functions first_structs 0 tree.items (none_before items.breaches main.breaches accepted.0))) accepted.1
  where
    paired : (a : Option (List Function)) (b : Option ℕ) → IfSome a (λ fs. list_all is_regular_function fs ≡ true) → IfSome (both a b) (λ q. list_all is_regular_function q.0 ≡ true)
    paired None None h = tt
    paired None (Some y) h = tt
    paired (Some x) None h = tt
    paired (Some x) (Some y) h = h

    of_program : (o : Option (List Function × ℕ)) → IfSome o (λ q. list_all is_regular_function q.0 ≡ true) → option_map (program_of tree) o ≡ Some p → IsRegular p
    of_program None h e = absurd (cc)
    of_program (Some q) h e = subst IsRegular (some_same e) h
