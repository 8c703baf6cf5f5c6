-- The values of small expressions, where x is the one variable, and holds 7.
use Rattle.std.proofs.Common.{◌≡◌, ℕ, pos, negsuc, List, [], ◌∷◌, Some, None, Result, Ok, Err, refl, ap, map, ◌∙◌}
use Rattle.std.specs.Prelude.{◌*ℤ◌}
use Rattle.std.specs.Int.{int_wrap}
use Rattle.c3_base.specs.declared.cell.Cell.{Cell}
use Rattle.c_kernel.specs.declared.types.IntegerType.TheVariants.{Char, Int, Long}
use Rattle.c_kernel.specs.declared.program.Expr.{Expr}
use Rattle.c_kernel.specs.declared.program.Expr.TheOpen.{Expr-F}
use Rattle.c_kernel.specs.declared.program.Expr.TheViews.{roll-Expr}
use Rattle.c_kernel.specs.declared.program.Link.{Link}
use Rattle.c_kernel.specs.declared.program.Place.{Place}
use Rattle.c_kernel.specs.declared.program.Root.TheVariants as root
use Rattle.c_kernel.specs.declared.program.Selection.{Selection}
use Rattle.c_kernel.specs.declared.program.Selection.TheVariants as selection
use Rattle.c_kernel.specs.declared.program.Scalar.TheVariants as scalar
use Rattle.c_kernel.specs.declared.program.BinaryOperator.{BinaryOperator}
use Rattle.c_kernel.specs.declared.program.BinaryOperator.TheVariants as binary
use Rattle.c_kernel.specs.declared.program.Arithmetic.TheVariants as arithmetic
use Rattle.c_kernel.specs.declared.program.UnaryOperator.TheVariants as unary
use Rattle.c_memory.specs.declared.spot.Spot.{Spot}
use Rattle.c_values.specs.declared.value.Variables.{Variables}
use Rattle.c_memory.specs.Memory.{Memory, number, null, pointer, pointing, moved}
use Rattle.c_values.specs.Value.{Found, then_with, converted, linked, chained, link_of, load_of, reached, step_meaning, place_of, value_of, values_of}
use Rattle.c_values.proofs.Nodes.{value_roll, load_roll, address_roll}

abbrev pub figure : ℕ → Expr
figure n = roll-Expr (Expr-F.Number (pos n) Int)

abbrev pub place : ℕ → Place Expr
place k = record { root = root.Variable k; steps = [] }

abbrev pub loaded : Place Expr → Expr
loaded p = roll-Expr (Expr-F.Load p (scalar.Number Int))

abbrev pub link : BinaryOperator → Expr → Link Expr
link o e = record { conversion = None; operator = o; operand = e }

abbrev pub pair : Expr → BinaryOperator → Expr → Expr
pair a o b = roll-Expr (Expr-F.Chain a (link o b ∷ []))

abbrev pub divided : Expr → Expr → Expr
divided a b = pair a (binary.Arithmetic arithmetic.Divide Int) b

abbrev pub one : Variables
one = record { first = 4; count = 1 }

abbrev pub seven : Memory
seven = record { variables = record { serial = 4; cells = number (pos 7) ∷ [] } ∷ []; heap = []; next = 5; calls = 1; asked = 0 }

pub after_one : (a : Expr) (l : Link Expr) (x : Cell) (y : Found) → value_of a one seven ≡ Ok x → value_of l.operand one seven ≡ y → value_of (roll-Expr (Expr-F.Chain a (l ∷ []))) one seven ≡ chained (linked l.operator seven (converted l.conversion x) y) [] one seven
after_one a l x y e f =
    value_roll (Expr-F.Chain a (l ∷ [])) one seven
    ∙ ap (λ (r : Found). chained r (link_of l ∷ []) one seven) e
    ∙ ap (λ (r : Found). chained (linked l.operator seven (converted l.conversion x) r) [] one seven) f

abbrev pub found : Expr → Found
found e = value_of e one seven

-- 3
three : found (figure 3) ≡ Ok (number (pos 3))
unfolding int_wrap
three = simp (value_roll, value_of) refl

-- 4294967299, as an int
wrapped : found (figure 4294967299) ≡ Ok (number (pos 3))
unfolding int_wrap
wrapped = simp (value_roll, value_of) refl

-- x
pub variable : found (loaded (place 0)) ≡ Ok (number (pos 7))
unfolding int_wrap
variable = simp (value_roll, value_of) refl

-- &x, and the load through it
abbrev pub address : Place Expr → Expr
address p = roll-Expr (Expr-F.Address p)

place_of_it : found (address (place 0)) ≡ Ok (pointer 4 (pos 0))
place_of_it = simp (value_roll, value_of) refl

abbrev pub target : Expr → List (Selection Expr) → Place Expr
target p steps = record { root = root.Target p; steps = steps }

-- NULL, and *NULL
nothing : found (roll-Expr Expr-F.Null) ≡ Ok null
nothing = simp (value_roll, value_of) refl

-- what is no variable
no_place : found (loaded (place 1)) ≡ Err 101
no_place = simp (value_roll, value_of) refl

-- 0 && 1 / 0
not_reached : found (pair (figure 0) binary.And (divided (figure 1) (figure 0))) ≡ Ok (number (pos 0))
unfolding int_wrap
not_reached = simp (value_roll, value_of) refl

-- 1 || 1 / 0
not_needed : found (pair (figure 1) binary.Or (divided (figure 1) (figure 0))) ≡ Ok (number (pos 1))
unfolding int_wrap
not_needed = simp (value_roll, value_of) refl

-- 1 / 0, and 1 && 1 / 0
by_zero : found (divided (figure 1) (figure 0)) ≡ Err 106
unfolding int_wrap
by_zero = after_one (figure 1) (link (binary.Arithmetic arithmetic.Divide Int) (figure 0)) (number (pos 1)) (Ok (number (pos 0))) (simp (value_roll, value_of) refl) (simp (value_roll, value_of) refl)

right_fault : found (pair (figure 1) binary.And (divided (figure 1) (figure 0))) ≡ Err 106
unfolding int_wrap
right_fault = after_one (figure 1) (link binary.And (divided (figure 1) (figure 0))) (number (pos 1)) (Err 106) (simp (value_roll, value_of) refl) by_zero

-- x ? 1 : 1 / 0
chosen : found (roll-Expr (Expr-F.Choice (loaded (place 0)) (figure 1) (divided (figure 1) (figure 0)))) ≡ Ok (number (pos 1))
unfolding int_wrap
chosen = simp (value_roll, value_of) refl

-- x - 8
difference : found (pair (loaded (place 0)) (binary.Arithmetic arithmetic.Subtract Int) (figure 8)) ≡ Ok (number (negsuc 0))
unfolding int_wrap
difference = after_one (loaded (place 0)) (link (binary.Arithmetic arithmetic.Subtract Int) (figure 8)) (number (pos 7)) (Ok (number (pos 8))) (simp (value_roll, value_of) refl) (simp (value_roll, value_of) refl)

-- 7 - 8 - 1 is (7 - 8) - 1
grouped : chained (Ok (number (pos 7))) (record { conversion = None; operator = binary.Arithmetic arithmetic.Subtract Int; operand = λ v m. Ok (number (pos 8)) } ∷ record { conversion = None; operator = binary.Arithmetic arithmetic.Subtract Int; operand = λ v m. Ok (number (pos 1)) } ∷ []) one seven ≡ Ok (number (negsuc 1))
grouped = refl

-- !x, -x and ~x
negated : found (roll-Expr (Expr-F.Not (loaded (place 0)))) ≡ Ok (number (pos 0))
unfolding int_wrap
negated = simp (value_roll, value_of) refl

minus : found (roll-Expr (Expr-F.Unary unary.Minus Int (loaded (place 0)))) ≡ Ok (number (negsuc 6))
unfolding int_wrap
minus = simp (value_roll, value_of) refl

complement : found (roll-Expr (Expr-F.Unary unary.Complement Int (loaded (place 0)))) ≡ Ok (number (negsuc 7))
unfolding int_wrap
complement = simp (value_roll, value_of) refl

-- (char) 300, and x + 1 where x is made a long
narrowed : found (roll-Expr (Expr-F.Convert Char (figure 300))) ≡ Ok (number (pos 44))
unfolding int_wrap
narrowed = simp (value_roll, value_of) refl

widened : found (roll-Expr (Expr-F.Chain (loaded (place 0)) (record { conversion = Some Long; operator = binary.Arithmetic arithmetic.Add Long; operand = figure 1 } ∷ []))) ≡ Ok (number (pos 8))
unfolding int_wrap
widened = after_one (loaded (place 0)) (record { conversion = Some Long; operator = binary.Arithmetic arithmetic.Add Long; operand = figure 1 }) (number (pos 7)) (Ok (number (pos 1))) (simp (value_roll, value_of) refl) (simp (value_roll, value_of) refl)

-- *&x
back : found (loaded (target (address (place 0)) [])) ≡ Ok (number (pos 7))
unfolding int_wrap
back = simp (value_roll, value_of) refl

through_null : found (loaded (target (roll-Expr Expr-F.Null) [])) ≡ Err 101
through_null = simp (value_roll, value_of) refl

-- an element of x, and what is selected there
abbrev pub element : Expr → List (Selection Expr) → Place Expr
element n steps = record { root = root.Variable 0; steps = selection.Element n 1 ∷ steps }

element_at : (n : Expr) (steps : List (Selection Expr)) (x : Cell) → found n ≡ Ok x → place_of (element n steps) one seven ≡ reached (moved (record { serial = 4; place = pos 0 }) (x.word *ℤ pos 1)) (map step_meaning steps) one seven
element_at n steps x e = ap (λ (r : Found). reached (then_with r (λ y. moved (record { serial = 4; place = pos 0 }) (y.word *ℤ pos 1))) (map step_meaning steps) one seven) e

-- &x[1], &x[2] and x[1]
one_past : found (address (element (figure 1) [])) ≡ Ok (pointer 4 (pos 1))
unfolding int_wrap
one_past = address_roll (element (figure 1) []) one seven ∙ ap (λ (r : Result Spot ℕ). then_with r (pointing seven)) (element_at (figure 1) [] (number (pos 1)) (simp (value_roll, value_of) refl))

two_past : found (address (element (figure 2) [])) ≡ Err 110
unfolding int_wrap
two_past = address_roll (element (figure 2) []) one seven ∙ ap (λ (r : Result Spot ℕ). then_with r (pointing seven)) (element_at (figure 2) [] (number (pos 2)) (simp (value_roll, value_of) refl))

outside : found (loaded (element (figure 1) [])) ≡ Err 102
unfolding int_wrap
outside = load_roll (element (figure 1) []) (scalar.Number Int) one seven ∙ ap (λ (r : Result Spot ℕ). then_with r (load_of seven (scalar.Number Int))) (element_at (figure 1) [] (number (pos 1)) (simp (value_roll, value_of) refl))

-- before the start, and back inside
back_inside : reached (moved (record { serial = 4; place = pos 0 }) (negsuc 0)) (selection.Member 0 1 1 ∷ []) one seven ≡ Ok (record { serial = 4; place = pos 0 })
back_inside = refl

-- x points to a struct { int v; struct s *n; }, whose n points to itself
abbrev ring : Memory
ring = record { variables = record { serial = 4; cells = pointer 5 (pos 0) ∷ [] } ∷ []; heap = record { serial = 5; cells = number (pos 3) ∷ pointer 5 (pos 0) ∷ [] } ∷ []; next = 6; calls = 1; asked = 2 }

abbrev along : List (Selection Expr) → Memory → Result Spot ℕ
along steps m = place_of (record { root = root.Variable 0; steps = steps }) one m

-- x->n->n->v
around : along (selection.Follow ∷ selection.Member 0 1 1 ∷ selection.Follow ∷ selection.Member 0 1 1 ∷ selection.Follow ∷ selection.Member 0 0 0 ∷ []) ring ≡ Ok (record { serial = 5; place = pos 0 })
around = refl

-- x->v->n, where the v is no pointer, so that it is NULL, and the load through it is a fault
through_number : along (selection.Follow ∷ selection.Member 0 0 0 ∷ selection.Follow ∷ selection.Member 0 1 1 ∷ selection.Follow ∷ []) ring ≡ Err 101
through_number = refl

-- the place one past the struct, as a pointer that is followed; two past it there is none
past_it : along (selection.Follow ∷ selection.Member 0 2 2 ∷ selection.Checked ∷ []) ring ≡ Ok (record { serial = 5; place = pos 2 })
past_it = refl

beyond_it : along (selection.Follow ∷ selection.Member 0 3 3 ∷ selection.Checked ∷ []) ring ≡ Err 110
beyond_it = refl

-- several: the first fault counts
several : values_of (figure 1 ∷ loaded (place 0) ∷ []) one seven ≡ Ok (number (pos 1) ∷ number (pos 7) ∷ [])
unfolding int_wrap
several = simp (value_roll, value_of) refl

first_fault : values_of (figure 1 ∷ loaded (place 1) ∷ divided (figure 1) (figure 0) ∷ []) one seven ≡ Err 101
unfolding int_wrap
first_fault = simp (value_roll, value_of) refl
