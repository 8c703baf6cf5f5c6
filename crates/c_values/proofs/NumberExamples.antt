-- The definitions on small examples.
use Rattle.std.proofs.Common.{◌≡◌, ℤ, pos, negsuc, Ok, Err, refl, true}
use Rattle.std.specs.Int.{int_wrap}
use Rattle.c_kernel.specs.declared.types.IntegerType.TheVariants.{Char, Int, Long}
use Rattle.c_kernel.specs.declared.program.Arithmetic.TheVariants as arithmetic
use Rattle.c_kernel.specs.declared.program.Direction.TheVariants.{Left, Right}
use Rattle.c_kernel.specs.declared.program.Comparison.TheVariants as comparison
use Rattle.c_kernel.specs.declared.program.UnaryOperator.TheVariants.{Minus, Complement}
use Rattle.c_memory.specs.Memory.{number}
use Rattle.c_values.specs.Value.{narrowed, arithmetic_of, shift_of, unary_of, and_of, or_of, holds}

-- ---- numbers

minus_seven : ℤ
minus_seven = negsuc 6

quotient : arithmetic_of arithmetic.Divide Int (negsuc 6) (pos 2) ≡ Ok (number (negsuc 2))
quotient = refl

remainder : arithmetic_of arithmetic.Remainder Int (negsuc 6) (pos 2) ≡ Ok (number (negsuc 0))
remainder = refl

by_zero : arithmetic_of arithmetic.Divide Int (pos 1) (pos 0) ≡ Err 106
by_zero = refl

rest_by_zero : arithmetic_of arithmetic.Remainder Int (pos 1) (pos 0) ≡ Err 106
rest_by_zero = refl

least_over_minus_one : arithmetic_of arithmetic.Divide Int (negsuc 2147483647) (negsuc 0) ≡ Err 105
least_over_minus_one = refl

least_rest_minus_one : arithmetic_of arithmetic.Remainder Long (negsuc 9223372036854775807) (negsuc 0) ≡ Err 105
least_rest_minus_one = refl

past_the_greatest : arithmetic_of arithmetic.Add Int (pos 2147483647) (pos 1) ≡ Err 105
past_the_greatest = refl

the_least : arithmetic_of arithmetic.Subtract Int (negsuc 2147483646) (pos 1) ≡ Ok (number (negsuc 2147483647))
the_least = refl

product : arithmetic_of arithmetic.Multiply Long (negsuc 3037000499) (pos 3037000500) ≡ Err 105
product = refl

into_the_sign : shift_of Left Int (pos 1) (pos 31) ≡ Err 105
into_the_sign = refl

past_the_width : shift_of Left Int (pos 1) (pos 32) ≡ Err 107
past_the_width = refl

by_less_than_none : shift_of Right Long (pos 1) (negsuc 0) ≡ Err 107
by_less_than_none = refl

shifted_right : shift_of Right Int (negsuc 7) (pos 1) ≡ Ok (number (negsuc 3))
shifted_right = refl

shifted_down : shift_of Right Int (negsuc 6) (pos 1) ≡ Ok (number (negsuc 3))
shifted_down = refl

low_bits : arithmetic_of arithmetic.And Int (negsuc 0) (pos 255) ≡ Ok (number (pos 255))
low_bits = refl

either_bits : arithmetic_of arithmetic.InclusiveOr Int (negsuc 255) (pos 15) ≡ Ok (number (negsuc 240))
either_bits = refl

other_bits : arithmetic_of arithmetic.ExclusiveOr Int (negsuc 0) (pos 1) ≡ Ok (number (negsuc 1))
other_bits = refl

complement : unary_of Complement Int (number (pos 0)) ≡ Ok (number (negsuc 0))
complement = refl

minus_the_least : unary_of Minus Int (number (negsuc 2147483647)) ≡ Err 105
minus_the_least = refl

to_char : narrowed Char (pos 300) ≡ pos 44
unfolding int_wrap
to_char = refl

to_minus_char : narrowed Char (pos 200) ≡ negsuc 55
unfolding int_wrap
to_minus_char = refl

to_int : narrowed Int (negsuc 4294967296) ≡ negsuc 0
unfolding int_wrap
to_int = refl

to_long : narrowed Long (negsuc 9223372036854775807) ≡ negsuc 9223372036854775807
unfolding int_wrap
to_long = refl

-- ---- operators

not_reached : and_of (number (pos 0)) (Err 106) ≡ Ok (number (pos 0))
not_reached = refl

not_needed : or_of (number (pos 1)) (Err 106) ≡ Ok (number (pos 1))
not_needed = refl

reached : and_of (number (negsuc 0)) (Err 106) ≡ Err 106
reached = refl

two_is_true : or_of (number (pos 0)) (Ok (number (pos 2))) ≡ Ok (number (pos 1))
two_is_true = refl

below : holds comparison.Less (negsuc 0) (pos 0) ≡ true
below = refl

same : holds comparison.Equal (negsuc 4) (negsuc 4) ≡ true
same = refl

other : holds comparison.NotEqual (negsuc 4) (pos 4) ≡ true
other = refl
