-- Induction over statements, with what holds of the parts as one row.
use Rattle.std.proofs.Common.{◌≡◌, refl, sym, subst, List, [], ◌∷◌, map, Option, Some, None}
use Rattle.c_tree.specs.declared.tree.Arm.{Arm}
use Rattle.c_tree.specs.declared.tree.BlockItem.{BlockItem}
use Rattle.c_tree.specs.declared.tree.BlockItem.TheVariants as block_item
use Rattle.c_tree.specs.declared.tree.Declaration.{Declaration}
use Rattle.c_tree.specs.declared.tree.Stmt.{Stmt}
use Rattle.c_tree.specs.declared.tree.Stmt.TheFolds.{map-Stmt, ind-Stmt}
use Rattle.c_tree.specs.declared.tree.Stmt.TheOpen.{Stmt-F}
use Rattle.c_tree.specs.declared.tree.Stmt.TheViews.{roll-Stmt}

module _ (P : Stmt → Type 0) where
  abbrev pub OfItem : BlockItem Stmt → Type 0
  OfItem (block_item.Declaration d) = Unit {0}
  OfItem (block_item.Statement s) = P s

  abbrev pub AllItems : List (BlockItem Stmt) → Type 0
  AllItems [] = Unit {0}
  AllItems (x ∷ xs) = OfItem x × AllItems xs

  abbrev pub AllArms : List (Arm Stmt) → Type 0
  AllArms [] = Unit {0}
  AllArms (a ∷ arms) = P a.then × AllArms arms

  abbrev pub OfLast : Option Stmt → Type 0
  OfLast None = Unit {0}
  OfLast (Some s) = P s

  -- it holds of each part
  abbrev pub OfParts : Stmt-F Stmt → Type 0
  OfParts (Stmt-F.Empty at) = Unit {0}
  OfParts (Stmt-F.Break at) = Unit {0}
  OfParts (Stmt-F.Continue at) = Unit {0}
  OfParts (Stmt-F.Block b) = AllItems b.items
  OfParts (Stmt-F.If at test then arms last) = P then × AllArms arms × OfLast last
  OfParts (Stmt-F.While at test body) = P body
  OfParts (Stmt-F.DoWhile at body test) = P body
  OfParts (Stmt-F.For at start test step body) = P body
  OfParts (Stmt-F.Return at v) = Unit {0}
  OfParts (Stmt-F.Print at format arguments) = Unit {0}
  OfParts (Stmt-F.Free at pointer) = Unit {0}
  OfParts (Stmt-F.Mark m) = Unit {0}
  OfParts (Stmt-F.Mpi c) = Unit {0}
  OfParts (Stmt-F.Simple s) = Unit {0}

  abbrev Such : Type 0
  Such = (s : Stmt) × P s

  items_of : (h : BlockItem Such → BlockItem Stmt) → ((d : Declaration) → h (block_item.Declaration d) ≡ block_item.Declaration d) → ((s : Such) → h (block_item.Statement s) ≡ block_item.Statement s.0) → (xs : List (BlockItem Such)) → AllItems (map h xs)
  items_of h d s [] = tt
  items_of h d s (block_item.Declaration x ∷ xs) = (subst OfItem (sym (d x)) tt, items_of h d s xs)
  items_of h d s (block_item.Statement x ∷ xs) = (subst OfItem (sym (s x)) x.1, items_of h d s xs)

  arms_of : (h : Arm Such → Arm Stmt) → ((a : Arm Such) → (h a).then ≡ a.then.0) → (arms : List (Arm Such)) → AllArms (map h arms)
  arms_of h same [] = tt
  arms_of h same (a ∷ arms) = (subst P (sym (same a)) a.then.1, arms_of h same arms)

  parts_of : (y : Stmt-F Such) → OfParts (map-Stmt Such Stmt (λ e. e.0) y)
  parts_of (Stmt-F.Empty at) = tt
  parts_of (Stmt-F.Break at) = tt
  parts_of (Stmt-F.Continue at) = tt
  parts_of (Stmt-F.Block b) = items_of _ (λ d. refl) (λ s. refl) b.items
  parts_of (Stmt-F.If at test then arms None) = (then.1, arms_of _ (λ a. refl) arms, tt)
  parts_of (Stmt-F.If at test then arms (Some s)) = (then.1, arms_of _ (λ a. refl) arms, s.1)
  parts_of (Stmt-F.While at test body) = body.1
  parts_of (Stmt-F.DoWhile at body test) = body.1
  parts_of (Stmt-F.For at start test step body) = body.1
  parts_of (Stmt-F.Return at v) = tt
  parts_of (Stmt-F.Print at format arguments) = tt
  parts_of (Stmt-F.Free at pointer) = tt
  parts_of (Stmt-F.Mark m) = tt
  parts_of (Stmt-F.Mpi c) = tt
  parts_of (Stmt-F.Simple s) = tt

  pub by_parts : ((x : Stmt-F Stmt) → OfParts x → P (roll-Stmt x)) → (s : Stmt) → P s
  by_parts step = ind-Stmt P (λ x y is. step x (subst OfParts is (parts_of y)))
