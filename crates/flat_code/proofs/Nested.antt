-- A chain is what opens its links, the first operand, and what closes them; a place likewise.
use Rattle.std.proofs.Common.{◌≡◌, List, [], ◌∷◌, ◌++◌, refl, ap, sym, ◌∙◌, map, append_assoc, append-nil}
use Rattle.std.specs.Prelude.{Bool, true, false, Option, Some, None, codes, flat_map, if◌then◌else◌}
use Rattle.c_kernel.specs.declared.program.Link.{Link}
use Rattle.c_kernel.specs.declared.program.Place.{Place}
use Rattle.c_kernel.specs.declared.program.Root.{Root}
use Rattle.c_kernel.specs.declared.program.Root.TheVariants as root
use Rattle.c_kernel.specs.declared.program.Selection.{Selection}
use Rattle.c_kernel.specs.declared.program.Selection.TheVariants.{Element, Member, Follow, Checked}
use Rattle.c_kernel.specs.declared.program.Expr.{Expr}
use Rattle.c_kernel.specs.declared.types.IntegerType.{IntegerType}
use Rattle.c_kernel.specs.declared.types.Struct.{Struct}
use Rattle.c_kernel.specs.Parts.{link_with, root_with, step_with}
use Rattle.flat_code.specs.Text.{Text, chain_text, followed, integer_text, is_indexed, left_text, name_of_member, operator_text, place_text, root_text, selected, text_of}
use Rattle.flat_code.specs.Nested.{closed, left_closing, left_opening, link_closing, link_opening, link_openings, opened, root_in, step_closings, step_openings}

-- what stands between an opening and a closing goes one level in
inwards : (o x a y c : Text) → o ++ (x ++ a ++ y) ++ c ≡ (o ++ x) ++ a ++ (y ++ c)
inwards o x a y c = simp append_assoc

-- ---- chains

plain_left : (p a o e c : Text) → p ++ a ++ o ++ e ++ c ≡ (p ++ []) ++ a ++ ([] ++ o ++ e ++ c)
plain_left p a o e c = simp (append_assoc, append-nil)

cast_left : (p q k r a s o e c : Text) → p ++ (q ++ k ++ r ++ a ++ s) ++ o ++ e ++ c ≡ (p ++ (q ++ k ++ r)) ++ a ++ (s ++ o ++ e ++ c)
cast_left p q k r a s o e c = simp append_assoc

left_nested : (c : Option IntegerType) (a o e : Text) → codes "(" ++ left_text c a ++ o ++ e ++ codes ")" ≡ (codes "(" ++ left_opening c) ++ a ++ (left_closing c ++ o ++ e ++ codes ")")
left_nested None a o e = plain_left (codes "(") a o e (codes ")")
left_nested (Some kind) a o e = cast_left (codes "(") (codes "((") (integer_text kind) (codes ")") a (codes ")") o e (codes ")")

pub chain_nested : {E : Type 0} (text : E → Text) (ls : List (Link E)) (a : Text) → chain_text a (map (link_with text) ls) ≡ link_openings ls ++ a ++ flat_map (link_closing text) ls
chain_nested text [] a = sym (append-nil a)
chain_nested text (l ∷ ls) a =
    chain_nested text ls (codes "(" ++ left_text l.conversion a ++ operator_text l.operator ++ text l.operand ++ codes ")")
    ∙ ap (λ t. link_openings ls ++ t ++ flat_map (link_closing text) ls) (left_nested l.conversion a (operator_text l.operator) (text l.operand))
    ∙ inwards (link_openings ls) (link_opening l) a (link_closing text l) (flat_map (link_closing text) ls)

-- ---- places

same_index : {E : Type 0} (text : E → Text) (steps : List (Selection E)) → is_indexed (map (step_with text) steps) ≡ is_indexed steps
same_index text [] = refl
same_index text (Element index cells ∷ steps) = refl
same_index text (Member n m place ∷ steps) = refl
same_index text (Follow ∷ steps) = refl
same_index text (Checked ∷ steps) = refl

follow_by : (indexed : Bool) (a : Text) → if indexed then a else codes "(*" ++ a ++ codes ")" ≡ (if indexed then [] else codes "(*") ++ a ++ (if indexed then [] else codes ")")
follow_by true a = sym (append-nil a)
follow_by false a = refl

element_in : (o a p i q c : Text) → o ++ (a ++ p ++ i ++ q) ++ c ≡ (o ++ []) ++ a ++ ((p ++ i ++ q) ++ c)
element_in o a p i q c = simp (append_assoc, append-nil)

member_in : (o a p i c : Text) → o ++ (a ++ p ++ i) ++ c ≡ (o ++ []) ++ a ++ ((p ++ i) ++ c)
member_in o a p i c = simp (append_assoc, append-nil)

follow_nested : {E : Type 0} (text : E → Text) (steps : List (Selection E)) (a : Text) → followed a (map (step_with text) steps) ≡ opened steps ++ a ++ closed steps
follow_nested text steps a = ap (λ indexed. if indexed then a else codes "(*" ++ a ++ codes ")") (same_index text steps) ∙ follow_by (is_indexed steps) a

steps_nested : {E : Type 0} (structs : List Struct) (text : E → Text) (steps : List (Selection E)) (a : Text) → selected structs a (map (step_with text) steps) ≡ step_openings steps ++ a ++ step_closings structs text steps
steps_nested structs text [] a = sym (append-nil a)
steps_nested structs text (Element index cells ∷ steps) a =
    steps_nested structs text steps (a ++ codes "[" ++ text index ++ codes "]") ∙ element_in (step_openings steps) a (codes "[") (text index) (codes "]") (step_closings structs text steps)
steps_nested structs text (Member n m place ∷ steps) a =
    steps_nested structs text steps (a ++ codes "." ++ name_of_member structs n m) ∙ member_in (step_openings steps) a (codes ".") (name_of_member structs n m) (step_closings structs text steps)
steps_nested structs text (Follow ∷ steps) a =
    steps_nested structs text steps (followed a (map (step_with text) steps))
    ∙ ap (λ t. step_openings steps ++ t ++ step_closings structs text steps) (follow_nested text steps a)
    ∙ inwards (step_openings steps) (opened steps) a (closed steps) (step_closings structs text steps)
steps_nested structs text (Checked ∷ steps) a =
    steps_nested structs text steps (codes "(*(&" ++ a ++ codes "))") ∙ inwards (step_openings steps) (codes "(*(&") a (codes "))") (step_closings structs text steps)

root_nested : {E : Type 0} (text : E → Text) (r : Root E) (steps : List (Selection E)) → root_text (root_with text r) (map (step_with text) steps) ≡ root_in text r steps
root_nested text (root.Variable k) steps = refl
root_nested text (root.Target e) steps = follow_nested text steps (text e)

pub place_nested : (structs : List Struct) (p : Place Expr) → place_text structs p ≡ step_openings p.steps ++ root_in (text_of structs) p.root p.steps ++ step_closings structs (text_of structs) p.steps
place_nested structs p =
    steps_nested structs (text_of structs) p.steps (root_text (root_with (text_of structs) p.root) (map (step_with (text_of structs)) p.steps))
    ∙ ap (λ t. step_openings p.steps ++ t ++ step_closings structs (text_of structs) p.steps) (root_nested (text_of structs) p.root p.steps)
