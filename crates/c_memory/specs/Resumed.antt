-- Objects that come back.
use Rattle.std.specs.Prelude.{ℕ, nat_lt, if◌then◌else◌, List, [], ◌∷◌}
use Rattle.c_memory.specs.Memory.{Object}

abbrev pub own_serial : Object → ℕ
own_serial o = o.serial

-- an object among others by ascending serials
abbrev pub insert_object : Object → List Object → List Object
insert_object o [] = o ∷ []
insert_object o (x ∷ xs) = if nat_lt o.serial x.serial then o ∷ x ∷ xs else x ∷ insert_object o xs
