-- The parts of expressions and places, with something else in the place of each expression.
use Rattle.std.specs.Prelude.{map}
use Rattle.c_kernel.specs.declared.program.Link.{Link}
use Rattle.c_kernel.specs.declared.program.Place.{Place}
use Rattle.c_kernel.specs.declared.program.Root.{Root}
use Rattle.c_kernel.specs.declared.program.Root.TheVariants.{Variable, Target}
use Rattle.c_kernel.specs.declared.program.Selection.{Selection}
use Rattle.c_kernel.specs.declared.program.Selection.TheVariants.{Element, Member, Follow, Checked}

abbrev pub link_with : {A B : Type 0} → (A → B) → Link A → Link B
link_with f l = record { conversion = l.conversion; operator = l.operator; operand = f l.operand }

abbrev pub root_with : {A B : Type 0} → (A → B) → Root A → Root B
root_with f (Variable k) = Variable k
root_with f (Target e) = Target (f e)

abbrev pub step_with : {A B : Type 0} → (A → B) → Selection A → Selection B
step_with f (Element index cells) = Element (f index) cells
step_with f (Member structure member place) = Member structure member place
step_with f Follow = Follow
step_with f Checked = Checked

abbrev pub place_with : {A B : Type 0} → (A → B) → Place A → Place B
place_with f p = record { root = root_with f p.root; steps = map (step_with f) p.steps }
