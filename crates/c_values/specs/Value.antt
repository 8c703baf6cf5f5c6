-- The value of an expression (C99 6.5), or the code of a fault.
use Rattle.std.specs.Prelude.{ℕ, ◌+◌, ◌^◌, ℤ, pos, negsuc, neg_ℤ, ◌+ℤ◌, ◌-ℤ◌, ◌*ℤ◌, int_div, int_rem, int_lt, Bool, true, false, not, ◌&&◌, nat_eq, nat_lt, if◌then◌else◌, List, [], ◌∷◌, map, Option, Some, None, Result, Ok, Err, bit_and, bit_or, bit_xor}
use Rattle.std.specs.Int.{cast_signed, cast_unsigned, int_div_euclid, int_wrap, Width, w8, w32, w64}
use Rattle.c3_base.specs.declared.cell.Cell.{Cell}
use Rattle.c_kernel.specs.declared.types.IntegerType.{IntegerType}
use Rattle.c_kernel.specs.declared.types.IntegerType.TheVariants.{Char, Int, Long}
use Rattle.c_kernel.specs.declared.program.Expr.{Expr}
use Rattle.c_kernel.specs.declared.program.Expr.TheOpen.{Expr-F}
use Rattle.c_kernel.specs.declared.program.Expr.TheOpen as expr
use Rattle.c_kernel.specs.declared.program.Expr.TheFolds.{fold-Expr}
use Rattle.c_kernel.specs.declared.program.Link.{Link}
use Rattle.c_kernel.specs.declared.program.Scalar.{Scalar}
use Rattle.c_kernel.specs.declared.program.Scalar.TheVariants as scalar
use Rattle.c_kernel.specs.declared.program.Place.{Place}
use Rattle.c_kernel.specs.declared.program.Root.{Root}
use Rattle.c_kernel.specs.declared.program.Root.TheVariants as root
use Rattle.c_kernel.specs.declared.program.Selection.{Selection}
use Rattle.c_kernel.specs.declared.program.Selection.TheVariants as selection
use Rattle.c_kernel.specs.declared.program.Way.{Way}
use Rattle.c_kernel.specs.declared.program.Way.TheVariants.{Forward, Back}
use Rattle.c_kernel.specs.declared.program.UnaryOperator.{UnaryOperator}
use Rattle.c_kernel.specs.declared.program.UnaryOperator.TheVariants.{Plus, Minus, Complement}
use Rattle.c_kernel.specs.declared.program.BinaryOperator.{BinaryOperator}
use Rattle.c_kernel.specs.declared.program.BinaryOperator.TheVariants as binary
use Rattle.c_kernel.specs.declared.program.Arithmetic.{Arithmetic}
use Rattle.c_kernel.specs.declared.program.Arithmetic.TheVariants as arithmetic
use Rattle.c_kernel.specs.declared.program.Direction.{Direction}
use Rattle.c_kernel.specs.declared.program.Direction.TheVariants.{Left, Right}
use Rattle.c_kernel.specs.declared.program.Comparison.{Comparison}
use Rattle.c_kernel.specs.declared.program.Comparison.TheVariants as comparison
use Rattle.c_memory.specs.declared.spot.Spot.{Spot}
use Rattle.c_values.specs.declared.value.Variables.{Variables}
use Rattle.c_memory.specs.Memory.{Memory, number, null, spot_of, moved, load, pointing}

-- a cell, or the code of a fault
abbrev pub Found : Type 0
Found = Result Cell ℕ

abbrev pub then_with : {A B : Type 0} → Result A ℕ → (A → Result B ℕ) → Result B ℕ
then_with (Err code) f = Err code
then_with (Ok a) f = f a

-- ---- numbers of a type

-- how many bits a type has, its sign's included
abbrev pub width : IntegerType → Width
width Char = w8
width Int = w32
width Long = w64

-- a number that is narrowed to a type wraps (C99 6.3.1.3)
abbrev pub narrowed : IntegerType → ℤ → ℤ
narrowed kind n = int_wrap (width kind) n

-- one more than a type's greatest number
abbrev pub bound : IntegerType → ℕ
bound Char = 2 ^ 7
bound Int = 2 ^ 31
bound Long = 2 ^ 63

abbrev pub fits : IntegerType → ℤ → Bool
fits kind (pos n) = nat_lt n (bound kind)
fits kind (negsuc n) = nat_lt n (bound kind)

-- a result outside its type is fault 105
abbrev pub checked : IntegerType → ℤ → Found
checked kind n = if fits kind n then Ok (number n) else Err 105

abbrev pub is_zero : ℤ → Bool
is_zero (pos n) = not (nat_lt 0 n)
is_zero (negsuc n) = false

-- 1 or 0
abbrev pub truth : Bool → Cell
truth b = if b then number (pos 1) else number (pos 0)

-- ---- one operand (6.5.3)

abbrev pub unary_of : UnaryOperator → IntegerType → Cell → Found
unary_of Plus kind a = Ok a
unary_of Minus kind a = checked kind (neg_ℤ a.word)
unary_of Complement kind a = checked kind (neg_ℤ a.word -ℤ pos 1)

-- what a cell is read as: a number is its word, narrowed to the type, and a pointer is NULL where the serial is 0
abbrev pub read_of : Scalar → Cell → Cell
read_of (scalar.Number kind) c = number (narrowed kind c.word)
read_of scalar.Pointer c = if nat_eq c.serial 0 then null else c

abbrev pub load_of : Memory → Scalar → Spot → Found
load_of m kind p = then_with (load m p) (λ c. Ok (read_of kind c))

-- ---- two operands (6.5.5 to 6.5.12)

-- bit by bit, as two's complement
abbrev pub bitwise : (ℕ → ℕ → ℕ) → ℤ → ℤ → Found
bitwise f a b = Ok (number (cast_signed w64 (f (cast_unsigned w64 a) (cast_unsigned w64 b))))

-- toward zero, and the divisor is not 0; the quotient has to fit its type for the remainder too
abbrev pub divided : IntegerType → (ℤ → ℤ → ℤ) → ℤ → ℤ → Found
divided kind f a b = if is_zero b then Err 106 else if fits kind (int_div a b) then Ok (number (f a b)) else Err 105

abbrev pub arithmetic_of : Arithmetic → IntegerType → ℤ → ℤ → Found
arithmetic_of arithmetic.Multiply kind a b = checked kind (a *ℤ b)
arithmetic_of arithmetic.Divide kind a b = divided kind int_div a b
arithmetic_of arithmetic.Remainder kind a b = divided kind int_rem a b
arithmetic_of arithmetic.Add kind a b = checked kind (a +ℤ b)
arithmetic_of arithmetic.Subtract kind a b = checked kind (a -ℤ b)
arithmetic_of arithmetic.And kind a b = bitwise bit_and a b
arithmetic_of arithmetic.ExclusiveOr kind a b = bitwise bit_xor a b
arithmetic_of arithmetic.InclusiveOr kind a b = bitwise bit_or a b

-- a shift by n multiplies or divides by 2 to the n; to the right it is arithmetic, which rounds down
abbrev pub shifted : Direction → IntegerType → ℤ → ℕ → Found
shifted Left kind a n = checked kind (a *ℤ pos (2 ^ n))
shifted Right kind a n = Ok (number (int_div_euclid a (pos (2 ^ n))))

abbrev pub size_in_bits : IntegerType → ℕ
size_in_bits Char = 8
size_in_bits Int = 32
size_in_bits Long = 64

-- a count that is negative or not below the width is fault 107
abbrev pub shift_of : Direction → IntegerType → ℤ → ℤ → Found
shift_of way kind a (negsuc n) = Err 107
shift_of way kind a (pos n) = if nat_lt n (size_in_bits kind) then shifted way kind a n else Err 107

abbrev pub holds : Comparison → ℤ → ℤ → Bool
holds comparison.Less a b = int_lt a b
holds comparison.Greater a b = int_lt b a
holds comparison.LessEqual a b = not (int_lt b a)
holds comparison.GreaterEqual a b = not (int_lt a b)
holds comparison.Equal a b = is_zero (a -ℤ b)
holds comparison.NotEqual a b = not (is_zero (a -ℤ b))

-- the left operand, converted where that changes its type
abbrev pub converted : Option IntegerType → Cell → Cell
converted None a = a
converted (Some kind) a = number (narrowed kind a.word)

abbrev pub compare_of : Comparison → Cell → Cell → Found
compare_of c a b = Ok (truth (holds c a.word b.word))

-- ---- pointers (6.5.6, 6.5.8, 6.5.9)

-- a pointer that goes on by n elements of so many cells each
abbrev pub stepped : Way → ℤ → ℤ → ℤ
stepped Forward place n = place +ℤ n
stepped Back place n = place -ℤ n

abbrev pub advanced : Memory → Way → ℕ → Cell → Cell → Found
advanced m way cells p n = pointing m (record { serial = p.serial; place = stepped way p.word (n.word *ℤ pos cells) })

-- neither is NULL, and both point into one object
abbrev pub share_object : Cell → Cell → Bool
share_object a b = nat_lt 0 a.serial && nat_eq a.serial b.serial

-- toward zero, in elements
abbrev pub distance : ℕ → Cell → Cell → Found
distance cells a b = if share_object a b then divided Long int_div (a.word -ℤ b.word) (pos cells) else Err 110

abbrev pub is_same : Cell → Cell → Bool
is_same a b = nat_eq a.serial b.serial && is_zero (a.word -ℤ b.word)

abbrev pub order_of : Comparison → Cell → Cell → Found
order_of c a b = if share_object a b then compare_of c a b else Err 110

abbrev pub compare_pointers : Comparison → Cell → Cell → Found
compare_pointers comparison.Equal a b = Ok (truth (is_same a b))
compare_pointers comparison.NotEqual a b = Ok (truth (not (is_same a b)))
compare_pointers comparison.Less a b = order_of comparison.Less a b
compare_pointers comparison.Greater a b = order_of comparison.Greater a b
compare_pointers comparison.LessEqual a b = order_of comparison.LessEqual a b
compare_pointers comparison.GreaterEqual a b = order_of comparison.GreaterEqual a b

-- the number 0, or NULL
abbrev pub is_false : Cell → Bool
is_false c = nat_eq c.serial 0 && is_zero c.word

-- ---- expressions, from left to right

abbrev pub Meaning : Type 0
Meaning = Variables → Memory → Found

-- && and || evaluate their right operand only where they need it (6.5.13, 6.5.14)
abbrev pub and_of : Cell → Found → Found
and_of a b = if is_false a then Ok (truth false) else then_with b (λ c. Ok (truth (not (is_false c))))

abbrev pub or_of : Cell → Found → Found
or_of a b = if is_false a then then_with b (λ c. Ok (truth (not (is_false c)))) else Ok (truth true)

abbrev pub linked : BinaryOperator → Memory → Cell → Found → Found
linked (binary.Arithmetic o kind) m a b = then_with b (λ c. arithmetic_of o kind a.word c.word)
linked (binary.Shift way kind) m a b = then_with b (λ c. shift_of way kind a.word c.word)
linked (binary.Comparison o) m a b = then_with b (compare_of o a)
linked (binary.Advance way cells) m a b = then_with b (advanced m way cells a)
linked (binary.Distance cells) m a b = then_with b (distance cells a)
linked (binary.PointerComparison o) m a b = then_with b (compare_pointers o a)
linked binary.And m a b = and_of a b
linked binary.Or m a b = or_of a b

abbrev pub chained : Found → List (Link Meaning) → Meaning
chained (Err code) ls v m = Err code
chained (Ok a) [] v m = Ok a
chained (Ok a) (l ∷ ls) v m = chained (linked l.operator m (converted l.conversion a) (l.operand v m)) ls v m

-- ---- places, which are reckoned without a test

-- the place of a variable
abbrev pub variable_of : ℕ → Variables → Spot
variable_of k v = if nat_lt k v.count then record { serial = v.first + k; place = pos 0 } else record { serial = 0; place = pos 0 }

abbrev pub root_of : Root Meaning → Variables → Memory → Result Spot ℕ
root_of (root.Variable k) v m = Ok (variable_of k v)
root_of (root.Target p) v m = then_with (p v m) (λ c. Ok (spot_of c))

abbrev pub selected : Spot → Selection Meaning → Variables → Memory → Result Spot ℕ
selected p (selection.Element index cells) v m = then_with (index v m) (λ n. moved p (n.word *ℤ pos cells))
selected p (selection.Member structure member place) v m = moved p (pos place)
selected p selection.Follow v m = then_with (load_of m scalar.Pointer p) (λ c. Ok (spot_of c))
selected p selection.Checked v m = then_with (pointing m p) (λ c. Ok (spot_of c))

abbrev pub reached : Result Spot ℕ → List (Selection Meaning) → Variables → Memory → Result Spot ℕ
reached (Err code) steps v m = Err code
reached (Ok p) [] v m = Ok p
reached (Ok p) (step ∷ steps) v m = reached (selected p step v m) steps v m

abbrev pub spot_in : Place Meaning → Variables → Memory → Result Spot ℕ
spot_in p v m = reached (root_of p.root v m) p.steps v m

-- ---- the nodes. A literal fits its type, so that narrowing leaves it as it is

abbrev pub meaning_node : Expr-F Meaning → Meaning
meaning_node (expr.Number n kind) v m = Ok (number (narrowed kind n))
meaning_node expr.Null v m = Ok null
meaning_node (expr.Load p kind) v m = then_with (spot_in p v m) (load_of m kind)
meaning_node (expr.Address p) v m = then_with (spot_in p v m) (pointing m)
meaning_node (expr.Convert kind e) v m = then_with (e v m) (λ a. Ok (number (narrowed kind a.word)))
meaning_node (expr.Not e) v m = then_with (e v m) (λ a. Ok (truth (is_false a)))
meaning_node (expr.Unary o kind e) v m = then_with (e v m) (unary_of o kind)
meaning_node (expr.Chain first rest) v m = chained (first v m) rest v m
meaning_node (expr.Choice test chosen otherwise) v m = then_with (test v m) (λ a. if is_false a then otherwise v m else chosen v m)

abbrev pub value_of : Expr → Meaning
value_of = fold-Expr Meaning meaning_node

-- the parts of nodes, with expressions read as their values
abbrev pub link_of : Link Expr → Link Meaning
link_of l = record { conversion = l.conversion; operator = l.operator; operand = value_of l.operand }

abbrev pub root_meaning : Root Expr → Root Meaning
root_meaning (root.Variable k) = root.Variable k
root_meaning (root.Target e) = root.Target (value_of e)

abbrev pub step_meaning : Selection Expr → Selection Meaning
step_meaning (selection.Element index cells) = selection.Element (value_of index) cells
step_meaning (selection.Member structure member place) = selection.Member structure member place
step_meaning selection.Follow = selection.Follow
step_meaning selection.Checked = selection.Checked

abbrev pub place_meaning : Place Expr → Place Meaning
place_meaning p = record { root = root_meaning p.root; steps = map step_meaning p.steps }

-- the spot of a place
abbrev pub place_of : Place Expr → Variables → Memory → Result Spot ℕ
place_of p v m = spot_in (place_meaning p) v m

-- several values, from left to right
abbrev pub and_then : Found → Result (List Cell) ℕ → Result (List Cell) ℕ
and_then (Err code) vs = Err code
and_then (Ok a) (Err code) = Err code
and_then (Ok a) (Ok vs) = Ok (a ∷ vs)

abbrev pub values_of : List Expr → Variables → Memory → Result (List Cell) ℕ
values_of [] v m = Ok []
values_of (e ∷ es) v m = and_then (value_of e v m) (values_of es v m)
