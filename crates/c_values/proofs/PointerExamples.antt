-- Operators on pointers on small examples.
use Rattle.std.proofs.Common.{◌≡◌, pos, negsuc, Ok, Err, refl, true, false}
use Rattle.c_kernel.specs.declared.program.Way.TheVariants.{Forward, Back}
use Rattle.c_kernel.specs.declared.program.Comparison.TheVariants as comparison
use Rattle.c_memory.specs.Memory.{number, null, pointer}
use Rattle.c_memory.proofs.ObjectExamples.{four}
use Rattle.c_values.specs.Value.{truth, advanced, distance, compare_pointers, is_false}

-- two elements of three cells on, and back
on : advanced four Forward 3 (pointer 3 (pos 0)) (number (pos 2)) ≡ Ok (pointer 3 (pos 6))
on = refl

back : advanced four Back 3 (pointer 3 (pos 6)) (number (pos 2)) ≡ Ok (pointer 3 (pos 0))
back = refl

too_far_back : advanced four Back 3 (pointer 3 (pos 5)) (number (pos 2)) ≡ Err 110
too_far_back = refl

nothing_from_null : advanced four Forward 1 null (number (pos 0)) ≡ Err 110
nothing_from_null = refl

-- ---- two pointers

-- in elements, toward zero
apart : distance 3 (pointer 3 (pos 6)) (pointer 3 (pos 0)) ≡ Ok (number (pos 2))
apart = refl

toward_zero : distance 3 (pointer 3 (pos 1)) (pointer 3 (pos 6)) ≡ Ok (number (negsuc 0))
toward_zero = refl

of_two_objects : distance 1 (pointer 3 (pos 0)) (pointer 4 (pos 0)) ≡ Err 110
of_two_objects = refl

of_no_object : distance 1 null null ≡ Err 110
of_no_object = refl

of_no_cells : distance 0 (pointer 3 (pos 1)) (pointer 3 (pos 0)) ≡ Err 106
of_no_cells = refl

same_place : compare_pointers comparison.Equal (pointer 3 (pos 1)) (pointer 3 (pos 1)) ≡ Ok (truth true)
same_place = refl

other_place : compare_pointers comparison.Equal (pointer 3 (pos 1)) (pointer 3 (pos 2)) ≡ Ok (truth false)
other_place = refl

other_object : compare_pointers comparison.NotEqual (pointer 3 (pos 0)) (pointer 4 (pos 0)) ≡ Ok (truth true)
other_object = refl

both_null : compare_pointers comparison.Equal null null ≡ Ok (truth true)
both_null = refl

below : compare_pointers comparison.Less (pointer 3 (pos 0)) (pointer 3 (pos 6)) ≡ Ok (truth true)
below = refl

null_below_null : compare_pointers comparison.Less null null ≡ Err 110
null_below_null = refl

below_another : compare_pointers comparison.GreaterEqual (pointer 3 (pos 0)) (pointer 4 (pos 0)) ≡ Err 110
below_another = refl

-- a pointer to a first cell is no NULL
first_cell : is_false (pointer 3 (pos 0)) ≡ false
first_cell = refl
