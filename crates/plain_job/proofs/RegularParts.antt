-- The parts of a regular statement are regular.
use Rattle.std.proofs.Common.{◌≡◌, ℕ, ◌≤◌, max, Bool, true, false, ◌&&◌, List, [], ◌∷◌, length, map, refl, sym, ap, ◌∙◌, arith}
use Rattle.std.specs.Prelude.{⊤}
use Rattle.std.specs.List.{list_all}
use Rattle.std.proofs.lemmas.List.Folds.{list_all-map}
use Rattle.std.proofs.lemmas.Bool.Decides.{nat_tests}
use Rattle.c_kernel.specs.Regular.{are_few, are_regular, is_body, regular_node, is_regular}
use Rattle.c_kernel.specs.declared.program.Action.{Action}
use Rattle.c_kernel.specs.declared.program.Arm.{Arm}
use Rattle.c_kernel.specs.declared.program.Stmt.{Stmt, out-Stmt}
use Rattle.c_kernel.specs.declared.program.Stmt.TheFolds.{fold_out-Stmt, map-Stmt}
use Rattle.c_kernel.specs.declared.program.Stmt.TheOpen.{Stmt-F}
use Rattle.c_kernel.specs.declared.program.Stmt.TheOpen as stmt

-- ---- tests

pub and_left : (a b : Bool) → (a && b) ≡ true → a ≡ true
and_left true b h = refl
and_left false b h = h

pub and_right : (a b : Bool) → (a && b) ≡ true → b ≡ true
and_right true b h = h
and_right false b h = absurd cc

few_within : (n : ℕ) (actions : List Action) → are_few n actions ≡ true → length actions ≤ max 1 n
few_within n actions h = grind (arith, nat_tests, h)

-- ---- parts

abbrev pub AllRegular : ℕ → List Stmt → Type 0
AllRegular n ss = list_all (is_regular n) ss ≡ true

abbrev pub IsFull : List Stmt → Type 0
IsFull [] = ⊥
IsFull (s ∷ ss) = ⊤

abbrev pub ArmsRegular : ℕ → List (Arm Stmt) → Type 0
ArmsRegular n [] = ⊤
ArmsRegular n (a ∷ arms) = AllRegular n a.body × ArmsRegular n arms

abbrev pub HasParts : ℕ → Stmt-F Stmt → Type 0
HasParts n (stmt.Actions actions) = length actions ≤ max 1 n
HasParts n (stmt.Block ss) = AllRegular n ss
HasParts n (stmt.If arms otherwise) = ArmsRegular n arms × AllRegular n otherwise
HasParts n (stmt.While e ss) = AllRegular n ss
HasParts n (stmt.DoWhile ss e) = AllRegular n ss
HasParts n (stmt.For start e last ss) = (length start ≤ max 1 n) × (length last ≤ 1) × AllRegular n ss × IsFull ss
HasParts n stmt.Break = ⊤
HasParts n stmt.Continue = ⊤
HasParts n (stmt.Return e) = ⊤
HasParts n (stmt.Print format arguments) = ⊤
HasParts n (stmt.Free e) = ⊤
HasParts n (stmt.Mpi call) = ⊤
HasParts n stmt.Mark = ⊤

parts_all : (n : ℕ) (ss : List Stmt) → are_regular (map (is_regular n) ss) ≡ true → AllRegular n ss
parts_all n ss h = sym (list_all-map (λ part. part) (is_regular n) ss) ∙ h

body_all : (n : ℕ) (ss : List Stmt) → is_body (map (is_regular n) ss) ≡ true → AllRegular n ss
body_all n [] h = refl
body_all n (s ∷ ss) h = parts_all n (s ∷ ss) h

body_full : (n : ℕ) (ss : List Stmt) → is_body (map (is_regular n) ss) ≡ true → IsFull ss
body_full n [] h = absurd cc
body_full n (s ∷ ss) h = tt

arms_all : (n : ℕ) (h : Arm Stmt → Arm Bool) (arms : List (Arm Stmt)) → ((a : Arm Stmt) → (h a).body ≡ map (is_regular n) a.body) → list_all (λ arm. are_regular arm.body) (map h arms) ≡ true → ArmsRegular n arms
arms_all n h [] same r = tt
arms_all n h (a ∷ arms) same r =
    let first = and_left (are_regular (h a).body) (list_all (λ arm. are_regular arm.body) (map h arms)) r in
    let rest = and_right (are_regular (h a).body) (list_all (λ arm. are_regular arm.body) (map h arms)) r in
    (parts_all n a.body (sym (ap are_regular (same a)) ∙ first), arms_all n h arms same rest)

layer_parts : (n : ℕ) (y : Stmt-F Stmt) → regular_node n (map-Stmt Stmt Bool (is_regular n) y) ≡ true → HasParts n y
layer_parts n (stmt.Actions actions) h = few_within n actions h
layer_parts n (stmt.Block ss) h = parts_all n ss h
layer_parts n (stmt.If arms otherwise) h = (arms_all n _ arms (λ a. refl) (and_left _ _ h), parts_all n otherwise (and_right _ _ h))
layer_parts n (stmt.While e ss) h = body_all n ss h
layer_parts n (stmt.DoWhile ss e) h = body_all n ss h
layer_parts n (stmt.For start e last ss) h =
    let rest = and_right (are_few n start) (are_few 0 last && is_body (map (is_regular n) ss)) h in
    let body = and_right (are_few 0 last) (is_body (map (is_regular n) ss)) rest in
    (few_within n start (and_left (are_few n start) (are_few 0 last && is_body (map (is_regular n) ss)) h), few_within 0 last (and_left (are_few 0 last) (is_body (map (is_regular n) ss)) rest), body_all n ss body, body_full n ss body)
layer_parts n stmt.Break h = tt
layer_parts n stmt.Continue h = tt
layer_parts n (stmt.Return e) h = tt
layer_parts n (stmt.Print format arguments) h = tt
layer_parts n (stmt.Free e) h = tt
layer_parts n (stmt.Mpi call) h = tt
layer_parts n stmt.Mark h = tt

pub parts_of : (n : ℕ) (x : Stmt) → is_regular n x ≡ true → HasParts n (out-Stmt x)
parts_of n x h = layer_parts n (out-Stmt x) (sym (fold_out-Stmt Bool (regular_node n) x) ∙ h)
