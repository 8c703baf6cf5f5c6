-- Objects, pointers, malloc and free on small examples.
use Rattle.std.proofs.Common.{◌≡◌, ℕ, ℤ, pos, negsuc, [], ◌∷◌, Some, None, Ok, Err, refl, true, false}
use Rattle.c_kernel.specs.declared.types.Extent.{Extent}
use Rattle.c_memory.specs.declared.spot.Spot.{Spot}
use Rattle.c_memory.specs.Memory.{Memory, number, null, pointer, empty, load, store, pointing, zeroed, enter, leave, refuse, is_full, free, moved, cells_asked, allocated, malloc}

abbrev pub at : ℕ → ℤ → Spot
at serial place = record { serial = serial; place = place }

-- a variable of two cells, and objects of malloc with six cells and with one. Object 2 is dead
abbrev pub four : Memory
four = record {
  variables = record { serial = 1; cells = number (pos 7) ∷ null ∷ [] } ∷ [];
  heap = record { serial = 3; cells = null ∷ null ∷ null ∷ null ∷ null ∷ number (pos 9) ∷ [] } ∷ record { serial = 4; cells = null ∷ [] } ∷ [];
  next = 5;
  calls = 1;
  asked = 7;
}

-- ---- accesses: 101 before 103, and 103 before 102

through_null : load four (at 0 (pos 9)) ≡ Err 101
through_null = refl

dead : load four (at 2 (pos 9)) ≡ Err 103
dead = refl

past_the_end : load four (at 1 (pos 2)) ≡ Err 102
past_the_end = refl

in_the_heap : load four (at 3 (pos 5)) ≡ Ok (number (pos 9))
in_the_heap = refl

no_store : store four (at 3 (pos 6)) null ≡ Err 102
no_store = refl

-- the variables of a call that has ended
stale : load (leave four 1) (at 1 (pos 0)) ≡ Err 103
stale = refl

-- ---- pointers that are made

one_past : pointing four (at 1 (pos 2)) ≡ Ok (pointer 1 (pos 2))
one_past = refl

two_past : pointing four (at 1 (pos 3)) ≡ Err 110
two_past = refl

before : pointing four (at 1 (negsuc 0)) ≡ Err 110
before = refl

from_null : pointing four (at 0 (pos 0)) ≡ Err 110
from_null = refl

from_the_dead : pointing four (at 2 (pos 9)) ≡ Err 103
from_the_dead = refl

-- ---- places without a test

outside : moved (at 3 (pos 5)) (pos 1000) ≡ Ok (at 3 (pos 1005))
outside = refl

beyond : moved (at 3 (pos 1)) (pos 1329227995784915872903807060280344575) ≡ Err 102
beyond = refl

far : moved (at 3 (pos 0)) (negsuc 1329227995784915872903807060280344575) ≡ Ok (at 3 (negsuc 1329227995784915872903807060280344575))
far = refl

-- ---- free

freed : free four (pointer 4 (pos 0)) ≡ Ok (record four { heap = record { serial = 3; cells = null ∷ null ∷ null ∷ null ∷ null ∷ number (pos 9) ∷ [] } ∷ [] })
freed = refl

freed_before : free (record four { heap = [] }) (pointer 4 (pos 1)) ≡ Err 103
freed_before = refl

freed_in_the_middle : free four (pointer 3 (pos 1)) ≡ Err 104
freed_in_the_middle = refl

variable_freed : free four (pointer 1 (pos 0)) ≡ Err 104
variable_freed = refl

null_freed : free four null ≡ Ok four
null_freed = refl

-- ---- malloc

ints : Extent
ints = record { cells = 1; size = 4 }

two_ints : cells_asked (pos 11) ints ≡ Some 2
unfolding ints
two_ints = refl

two_structs : cells_asked (pos 24) (record { cells = 3; size = 12 }) ≡ Some 6
two_structs = refl

less_than_none : malloc is_full four (cells_asked (negsuc 3) ints) ≡ (four, null)
unfolding ints
less_than_none = refl

less_than_one : malloc is_full four (cells_asked (pos 3) ints) ≡ (four, null)
unfolding ints
less_than_one = refl

of_no_size : cells_asked (pos 3) (record { cells = 0; size = 0 }) ≡ None
of_no_size = refl

-- a serial of its own, whatever was freed
given : (malloc is_full (record four { heap = [] }) (Some 2)).1 ≡ pointer 5 (pos 0)
given = refl

-- NULL may be given only beyond 65,536 cells
not_allowed : (allocated (λ m n. true) four 65529).1 ≡ pointer 5 (pos 0)
not_allowed = refl

allowed : allocated (λ m n. true) four 65530 ≡ (record four { asked = 65537 }, null)
allowed = refl

not_chosen : (allocated (λ m n. false) four 65530).1 ≡ pointer 5 (pos 0)
not_chosen = refl

-- this program goes by the objects that live
still_room : (allocated is_full (record four { asked = 65537 }) 65529).1 ≡ pointer 5 (pos 0)
still_room = refl

no_room : allocated is_full four 65530 ≡ (refuse four 65530, null)
no_room = refl

-- ---- calls

-- two calls: one variable of a cell, then one of two cells
two_calls : Memory
two_calls = record {
  variables = record { serial = 1; cells = number (pos 7) ∷ [] } ∷ record { serial = 2; cells = null ∷ null ∷ [] } ∷ [];
  heap = [];
  next = 3;
  calls = 2;
  asked = 0;
}

found : load two_calls (at 1 (pos 0)) ≡ Ok (number (pos 7))
unfolding two_calls
found = refl

before_the_start : load two_calls (at 2 (negsuc 0)) ≡ Err 102
unfolding two_calls
before_the_start = refl

stored : store two_calls (at 2 (pos 1)) (number (pos 5)) ≡ Ok (record {
  variables = record { serial = 1; cells = number (pos 7) ∷ [] } ∷ record { serial = 2; cells = null ∷ number (pos 5) ∷ [] } ∷ [];
  heap = [];
  next = 3;
  calls = 2;
  asked = 0;
})
unfolding two_calls
stored = refl

cleared : load (zeroed two_calls 1) (at 1 (pos 0)) ≡ Ok null
unfolding two_calls
cleared = refl

entered : enter empty (1 ∷ 2 ∷ []) ≡ Ok (record {
  variables = record { serial = 1; cells = null ∷ [] } ∷ record { serial = 2; cells = null ∷ null ∷ [] } ∷ [];
  heap = [];
  next = 3;
  calls = 1;
  asked = 0;
})
entered = refl

no_room_for_it : enter empty (8000 ∷ 192 ∷ []) ≡ Err 108
no_room_for_it = refl

left : leave two_calls 1 ≡ record { variables = record { serial = 1; cells = number (pos 7) ∷ [] } ∷ []; heap = []; next = 3; calls = 1; asked = 0 }
unfolding two_calls
left = refl
