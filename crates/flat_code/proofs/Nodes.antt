-- The text of an expression, by those of its parts.
use Rattle.std.proofs.Common.{◌≡◌, List, [], ◌∷◌, refl, ap, sym, ◌∙◌, map}
use Rattle.std.specs.Prelude.{◌++◌, codes, flat_map}
use Rattle.c_kernel.specs.declared.program.Expr.{Expr}
use Rattle.c_kernel.specs.declared.program.Expr.TheFolds.{fold-roll-Expr, map-Expr}
use Rattle.c_kernel.specs.declared.program.Expr.TheOpen.{Expr-F}
use Rattle.c_kernel.specs.declared.program.Expr.TheVariants as expr
use Rattle.c_kernel.specs.declared.program.Expr.TheViews.{roll-Expr}
use Rattle.c_kernel.specs.declared.program.Link.{Link}
use Rattle.c_kernel.specs.declared.program.Place.{Place}
use Rattle.c_kernel.specs.declared.program.Root.{Root}
use Rattle.c_kernel.specs.declared.program.Root.TheVariants as root
use Rattle.c_kernel.specs.declared.program.Scalar.{Scalar}
use Rattle.c_kernel.specs.declared.program.Selection.{Selection}
use Rattle.c_kernel.specs.declared.program.Selection.TheVariants as selection
use Rattle.c_kernel.specs.declared.program.UnaryOperator.{UnaryOperator}
use Rattle.c_kernel.specs.declared.types.IntegerType.{IntegerType}
use Rattle.c_kernel.specs.declared.types.Struct.{Struct}
use Rattle.c_kernel.specs.Parts.{place_with, root_with, step_with}
use Rattle.flat_code.specs.Text.{Text, cast_text, place_in, place_text, text_node, text_of, unary_text}
use Rattle.flat_code.specs.Nested.{link_closing, link_openings}
use Rattle.flat_code.proofs.Nested.{chain_nested}

module _ (structs : List Struct) where
  text_roll : (x : Expr-F Expr) → text_of structs (roll-Expr x) ≡ text_node structs (map-Expr Expr Text (text_of structs) x)
  text_roll x = fold-roll-Expr Text (text_node structs) x

  pub text_chain : (first : Expr) (links : List (Link Expr)) → text_of structs (expr.Chain first links) ≡ link_openings links ++ text_of structs first ++ flat_map (link_closing (text_of structs)) links
  text_chain first links = ap (text_of structs) (sym (expr.rolls-Chain first links)) ∙ text_roll (Expr-F.Chain first links) ∙ chain_nested (text_of structs) links (text_of structs first)

  pub text_convert : (kind : IntegerType) (a : Expr) → text_of structs (expr.Convert kind a) ≡ cast_text kind (text_of structs a)
  text_convert kind a = ap (text_of structs) (sym (expr.rolls-Convert kind a)) ∙ text_roll (Expr-F.Convert kind a)

  pub text_not : (a : Expr) → text_of structs (expr.Not a) ≡ codes "(!" ++ text_of structs a ++ codes ")"
  text_not a = ap (text_of structs) (sym (expr.rolls-Not a)) ∙ text_roll (Expr-F.Not a)

  pub text_unary : (o : UnaryOperator) (kind : IntegerType) (a : Expr) → text_of structs (expr.Unary o kind a) ≡ codes "(" ++ unary_text o ++ text_of structs a ++ codes ")"
  text_unary o kind a = ap (text_of structs) (sym (expr.rolls-Unary o kind a)) ∙ text_roll (Expr-F.Unary o kind a)

  pub text_choice : (a b c : Expr) → text_of structs (expr.Choice a b c) ≡ codes "(" ++ text_of structs a ++ codes " ? " ++ text_of structs b ++ codes " : " ++ text_of structs c ++ codes ")"
  text_choice a b c = ap (text_of structs) (sym (expr.rolls-Choice a b c)) ∙ text_roll (Expr-F.Choice a b c)

  -- ---- places

  place_of_node : Expr-F Text → Place Text → Place Text
  place_of_node (Expr-F.Address p) other = p
  place_of_node x other = other

  -- the place of a node, whose parts stand for their texts
  abbrev mapped : Place Expr → Place Text
  mapped p = place_of_node (map-Expr Expr Text (text_of structs) (Expr-F.Address p)) (place_with (text_of structs) p)

  same_root : (r : Root Expr) (steps : List (Selection Expr)) → (mapped (record { root = r; steps = steps })).root ≡ root_with (text_of structs) r
  unfolding place_of_node
  same_root (root.Variable k) steps = refl
  same_root (root.Target e) steps = refl

  same_steps : (r : Root Expr) (steps : List (Selection Expr)) → (mapped (record { root = r; steps = steps })).steps ≡ map (step_with (text_of structs)) steps
  unfolding place_of_node
  same_steps r [] = refl
  same_steps r (selection.Element index cells ∷ steps) = ap (λ (rest : List (Selection Text)). selection.Element (text_of structs index) cells ∷ rest) (same_steps r steps)
  same_steps r (selection.Member structure member place ∷ steps) = ap (λ (rest : List (Selection Text)). selection.Member structure member place ∷ rest) (same_steps r steps)
  same_steps r (selection.Follow ∷ steps) = ap (λ (rest : List (Selection Text)). selection.Follow ∷ rest) (same_steps r steps)
  same_steps r (selection.Checked ∷ steps) = ap (λ (rest : List (Selection Text)). selection.Checked ∷ rest) (same_steps r steps)

  same_place : (p : Place Expr) → mapped p ≡ place_with (text_of structs) p
  same_place p =
      ap (λ (r : Root Text). record { root = r; steps = (mapped p).steps }) (same_root p.root p.steps)
      ∙ ap (λ (steps : List (Selection Text)). record { root = root_with (text_of structs) p.root; steps = steps }) (same_steps p.root p.steps)

  pub text_load : (p : Place Expr) (kind : Scalar) → text_of structs (expr.Load p kind) ≡ place_text structs p
  unfolding place_of_node
  text_load p kind = ap (text_of structs) (sym (expr.rolls-Load p kind)) ∙ text_roll (Expr-F.Load p kind) ∙ ap (place_in structs) (same_place p)

  pub text_address : (p : Place Expr) → text_of structs (expr.Address p) ≡ codes "(&" ++ place_text structs p ++ codes ")"
  unfolding place_of_node
  text_address p = ap (text_of structs) (sym (expr.rolls-Address p)) ∙ text_roll (Expr-F.Address p) ∙ ap (λ (q : Place Text). codes "(&" ++ place_in structs q ++ codes ")") (same_place p)
