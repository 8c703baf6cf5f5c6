-- Chains and places as they are written: what opens them, from the last part to the first, and what closes them.
use Rattle.std.specs.Prelude.{if◌then◌else◌, List, [], ◌∷◌, ◌++◌, Option, Some, None, codes}
use Rattle.c_kernel.specs.declared.types.IntegerType.{IntegerType}
use Rattle.c_kernel.specs.declared.types.Struct.{Struct}
use Rattle.c_kernel.specs.declared.program.Link.{Link}
use Rattle.c_kernel.specs.declared.program.Root.{Root}
use Rattle.c_kernel.specs.declared.program.Root.TheVariants as root
use Rattle.c_kernel.specs.declared.program.Selection.{Selection}
use Rattle.c_kernel.specs.declared.program.Selection.TheVariants.{Element, Member, Follow, Checked}
use Rattle.flat_code.specs.Text.{Text, integer_text, is_indexed, name_of_member, operator_text, variable_text}

-- ---- conversions

abbrev pub cast_opening : IntegerType → Text
cast_opening kind = codes "((" ++ integer_text kind ++ codes ")"

abbrev pub left_opening : Option IntegerType → Text
left_opening None = []
left_opening (Some kind) = cast_opening kind

abbrev pub left_closing : Option IntegerType → Text
left_closing None = []
left_closing (Some kind) = codes ")"

-- ---- chains

abbrev pub link_opening : {E : Type 0} → Link E → Text
link_opening l = codes "(" ++ left_opening l.conversion

abbrev pub link_openings : {E : Type 0} → List (Link E) → Text
link_openings [] = []
link_openings (l ∷ ls) = link_openings ls ++ link_opening l

abbrev pub link_closing : {E : Type 0} → (E → Text) → Link E → Text
link_closing text l = left_closing l.conversion ++ operator_text l.operator ++ text l.operand ++ codes ")"

-- ---- places

abbrev pub opened : {E : Type 0} → List (Selection E) → Text
opened steps = if is_indexed steps then [] else codes "(*"

abbrev pub closed : {E : Type 0} → List (Selection E) → Text
closed steps = if is_indexed steps then [] else codes ")"

abbrev pub step_opening : {E : Type 0} → Selection E → List (Selection E) → Text
step_opening (Element index cells) steps = []
step_opening (Member n m place) steps = []
step_opening Follow steps = opened steps
step_opening Checked steps = codes "(*(&"

abbrev pub step_openings : {E : Type 0} → List (Selection E) → Text
step_openings [] = []
step_openings (s ∷ steps) = step_openings steps ++ step_opening s steps

abbrev pub step_closing : {E : Type 0} → List Struct → (E → Text) → Selection E → List (Selection E) → Text
step_closing structs text (Element index cells) steps = codes "[" ++ text index ++ codes "]"
step_closing structs text (Member n m place) steps = codes "." ++ name_of_member structs n m
step_closing structs text Follow steps = closed steps
step_closing structs text Checked steps = codes "))"

abbrev pub step_closings : {E : Type 0} → List Struct → (E → Text) → List (Selection E) → Text
step_closings structs text [] = []
step_closings structs text (s ∷ steps) = step_closing structs text s steps ++ step_closings structs text steps

abbrev pub root_in : {E : Type 0} → (E → Text) → Root E → List (Selection E) → Text
root_in text (root.Variable k) steps = variable_text k
root_in text (root.Target e) steps = opened steps ++ text e ++ closed steps
