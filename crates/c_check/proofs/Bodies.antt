-- A statement of a tree, by what its parts are found to be.
use Rattle.std.proofs.Common.{◌≡◌, ℕ, ◌+◌, ◌<◌, Bool, true, false, List, [], ◌∷◌, ◌++◌, map, length, drop, get_or, append_assoc, Option, Some, None, refl, ap, sym, ◌∙◌}
use Rattle.c_tree.specs.declared.tree.Block.{Block}
use Rattle.c_tree.specs.declared.tree.BlockItem.{BlockItem}
use Rattle.c_tree.specs.declared.tree.BlockItem.TheVariants as item
use Rattle.c_tree.specs.declared.tree.Declaration.{Declaration}
use Rattle.c_tree.specs.declared.tree.Arm.{Arm}
use Rattle.c_tree.specs.declared.tree.Expr.{Expr}
use Rattle.c_tree.specs.declared.tree.Stmt.{Stmt}
use Rattle.c_tree.specs.declared.tree.Text.{Text}
use Rattle.c_tree.specs.declared.tree.Stmt.TheFolds.{fold-roll-Stmt, map-Stmt}
use Rattle.c_tree.specs.declared.tree.Stmt.TheOpen.{Stmt-F}
use Rattle.c_tree.specs.declared.tree.Stmt.TheVariants as stmt
use Rattle.c_tree.specs.declared.tree.Stmt.TheViews.{roll-Stmt}
use Rattle.c_kernel.specs.declared.types.CType.{CType}
use Rattle.c_kernel.specs.declared.types.Struct.{Struct}
use Rattle.c_rules.specs.declared.breach.Breach.{Breach}
use Rattle.c_rules.specs.declared.signature.Signature.{Signature}
use Rattle.c_rules.specs.Judged.{gathered, of_part}
use Rattle.c_rules.proofs.Gathered.{joined, joined_more}
use Rattle.c_rules.specs.Scope.{Bytes, Scope}
use Rattle.c_check.specs.Statement.{Walk, Node, statement_node, walked, walk_as, walk_all, staying, scoped, one, values, printed, later_arm, walked_guarded, walked_arm, walked_later, block_item, node_item, branches, node_arm, walked_items, walked_branches}
use Rattle.c_check.specs.Program.{body_item}
use Rattle.c_check.proofs.Nodes.{map_same, drop_next}
use Rattle.c_kernel.specs.declared.program.Stmt.{Stmt as Typed}
use Rattle.c_kernel.specs.declared.program.Stmt.TheVariants as typed

item_cases : (P : BlockItem Stmt → Type 0) → ((d : Declaration) → P (item.Declaration d)) → ((x : Stmt) → P (item.Statement x)) → (x : BlockItem Stmt) → P x
item_cases P d w (item.Declaration x) = d x
item_cases P d w (item.Statement x) = w x

-- ---- one more of a list

pub step_found : {A : Type 0} (w : Walk A) (ws : List (Walk A)) (s t : Scope) (all all' : Option (List A)) (x : Option A) (whole : Option (List A)) → joined all (walk_all (w ∷ ws) s).judged.found ≡ whole → all' ≡ gathered all x → x ≡ (w s).judged.found → t ≡ (w s).scope → joined all' (walk_all ws t).judged.found ≡ whole
step_found w ws s t all all' x whole e e' h h' =
    ap (λ a. joined a (walk_all ws t).judged.found) e'
    ∙ ap (λ o. joined (gathered all o) (walk_all ws t).judged.found) h
    ∙ ap (λ (u : Scope). joined (gathered all (w s).judged.found) (walk_all ws u).judged.found) h'
    ∙ joined_more all (w s).judged.found (walk_all ws (w s).scope).judged.found
    ∙ e

pub step_breaches : {A : Type 0} (w : Walk A) (ws : List (Walk A)) (s t : Scope) (fs fs' whole : List Breach) → fs ++ (walk_all (w ∷ ws) s).judged.breaches ≡ whole → fs' ≡ fs ++ (w s).judged.breaches → t ≡ (w s).scope → fs' ++ (walk_all ws t).judged.breaches ≡ whole
step_breaches w ws s t fs fs' whole e e' h =
    ap (λ (gs : List Breach). gs ++ (walk_all ws t).judged.breaches) e'
    ∙ append_assoc fs (w s).judged.breaches (walk_all ws t).judged.breaches
    ∙ ap (λ (u : Scope). fs ++ ((w s).judged.breaches ++ (walk_all ws u).judged.breaches)) h
    ∙ e

pub step_scope : {A : Type 0} (w : Walk A) (ws : List (Walk A)) (s t whole : Scope) → (walk_all (w ∷ ws) s).scope ≡ whole → t ≡ (w s).scope → (walk_all ws t).scope ≡ whole
step_scope w ws s t whole e h = ap (λ (u : Scope). (walk_all ws u).scope) h ∙ e

-- what is noted of four parts in order
pub noted : (old a b c d first second third new : List Breach) → first ≡ old ++ a → second ≡ first ++ b → third ≡ second ++ c → new ≡ third ++ d → new ≡ old ++ ((a ++ b) ++ (c ++ d))
noted old a b c d first second third new of_a of_b of_c of_d =
    of_d
    ∙ ap (λ fs. fs ++ d) of_c
    ∙ append_assoc second c d
    ∙ ap (λ fs. fs ++ (c ++ d)) (of_b ∙ ap (λ fs. fs ++ b) of_a ∙ append_assoc old a b)
    ∙ append_assoc old (a ++ b) (c ++ d)

module _ (functions : Bytes → Option Signature) (structs : List Struct) (result : CType) where
  pub walked_roll : (x : Stmt-F Stmt) → walked functions structs result (roll-Stmt x) ≡ statement_node functions structs result (map-Stmt Stmt (Node functions structs) (walked functions structs result) x)
  walked_roll x = fold-roll-Stmt (Node functions structs) (statement_node functions structs result) x

  pub walked_block : (b : Block Stmt) (looping : Bool) (s : Scope) → walked functions structs result (stmt.Block b) looping s ≡ walk_as typed.Block (scoped (walked_items functions structs result looping b.items)) s
  walked_block b looping s =
      ap (λ x. walked functions structs result x looping s) (sym (stmt.rolls-Block b))
      ∙ ap (λ (w : Node functions structs). w looping s) (walked_roll (Stmt-F.Block b))
      ∙ ap (λ (xs : List (BlockItem (Node functions structs))). walk_as typed.Block (scoped (walk_all (map (block_item functions structs looping) xs))) s) (map_same _ (node_item functions structs result) (item_cases _ (λ d. refl) (λ x. refl)) b.items)

  pub walked_if : (at : ℕ) (e : Expr) (x : Stmt) (rest : List (Arm Stmt)) (last : Option Stmt) (looping : Bool) (s : Scope) → walked functions structs result (stmt.If at e x rest last) looping s ≡ walked_branches functions structs result looping e x rest last s
  walked_if at e x rest None looping s =
      ap (λ x. walked functions structs result x looping s) (sym (stmt.rolls-If at e x rest None))
      ∙ ap (λ (w : Node functions structs). w looping s) (walked_roll (Stmt-F.If at e x rest None))
      ∙ ap (λ (arms : List (Arm (Node functions structs))). branches functions structs looping e (walked functions structs result x) arms None s) (map_same _ (node_arm functions structs result) (λ a. refl) rest)
  walked_if at e x rest (Some y) looping s =
      ap (λ x. walked functions structs result x looping s) (sym (stmt.rolls-If at e x rest (Some y)))
      ∙ ap (λ (w : Node functions structs). w looping s) (walked_roll (Stmt-F.If at e x rest (Some y)))
      ∙ ap (λ (arms : List (Arm (Node functions structs))). branches functions structs looping e (walked functions structs result x) arms (Some (walked functions structs result y)) s) (map_same _ (node_arm functions structs result) (λ a. refl) rest)

  pub in_block : (b : Block Stmt) (x : Stmt) (looping : Bool) (s : Scope) → x ≡ stmt.Block b → walked functions structs result x looping s ≡ walk_as typed.Block (scoped (walked_items functions structs result looping b.items)) s
  in_block b x looping s e = ap (λ (y : Stmt). walked functions structs result y looping s) e ∙ walked_block b looping s

  pub in_if : (at : ℕ) (e : Expr) (then : Stmt) (rest : List (Arm Stmt)) (last : Option Stmt) (x : Stmt) (looping : Bool) (s : Scope) → x ≡ stmt.If at e then rest last → walked functions structs result x looping s ≡ walked_branches functions structs result looping e then rest last s
  in_if at e then rest last x looping s is = ap (λ (y : Stmt). walked functions structs result y looping s) is ∙ walked_if at e then rest last looping s

  pub in_while : (at : ℕ) (e : Expr) (body x : Stmt) (looping : Bool) (s : Scope) → x ≡ stmt.While at e body → walked functions structs result x looping s ≡ walk_as (λ p. typed.While p.0 (one p.1)) (walked_guarded functions structs result true e body) s
  in_while at e body x looping s is =
      ap (λ (y : Stmt). walked functions structs result y looping s) (is ∙ sym (stmt.rolls-While at e body))
      ∙ ap (λ (w : Node functions structs). w looping s) (walked_roll (Stmt-F.While at e body))

  pub in_do : (at : ℕ) (body : Stmt) (e : Expr) (x : Stmt) (looping : Bool) (s : Scope) → x ≡ stmt.DoWhile at body e → walked functions structs result x looping s ≡ walk_as (λ p. typed.DoWhile (one p.1) p.0) (walked_guarded functions structs result true e body) s
  in_do at body e x looping s is =
      ap (λ (y : Stmt). walked functions structs result y looping s) (is ∙ sym (stmt.rolls-DoWhile at body e))
      ∙ ap (λ (w : Node functions structs). w looping s) (walked_roll (Stmt-F.DoWhile at body e))

  pub in_print : (at : ℕ) (format : Text) (es : List Expr) (x : Stmt) (looping : Bool) (s : Scope) → x ≡ stmt.Print at format es → walked functions structs result x looping s ≡ staying (of_part (values functions structs s es) (printed format)) s
  in_print at format es x looping s is =
      ap (λ (y : Stmt). walked functions structs result y looping s) (is ∙ sym (stmt.rolls-Print at format es))
      ∙ ap (λ (w : Node functions structs). w looping s) (walked_roll (Stmt-F.Print at format es))

  pub later_step : (looping : Bool) (rest : List (Arm Stmt)) (i : ℕ) (x : Arm Stmt) (s : Scope) → i < length rest → x ≡ get_or rest i x
      → walked_later functions structs result looping (drop i rest) s ≡ walk_all (walked_arm functions structs result looping x.test x.then ∷ map (later_arm functions structs looping) (map (node_arm functions structs result) (drop (i + 1) rest))) s
  later_step looping rest i x s h e = ap (λ (xs : List (Arm Stmt)). walked_later functions structs result looping xs s) (drop_next rest i x h e)

  -- ---- a function's body stands in no loop

  body_walks : (xs : List (BlockItem Stmt)) → map (body_item functions structs result) xs ≡ map (block_item functions structs false) (map (node_item functions structs result) xs)
  body_walks [] = refl
  body_walks (item.Declaration d ∷ xs) = ap (λ (ws : List (Walk Typed)). body_item functions structs result (item.Declaration d) ∷ ws) (body_walks xs)
  body_walks (item.Statement x ∷ xs) = ap (λ (ws : List (Walk Typed)). body_item functions structs result (item.Statement x) ∷ ws) (body_walks xs)

  pub in_body : (xs : List (BlockItem Stmt)) (s : Scope) → walked_items functions structs result false xs s ≡ walk_all (map (body_item functions structs result) xs) s
  in_body xs s = sym (ap (λ (ws : List (Walk Typed)). walk_all ws s) (body_walks xs))
