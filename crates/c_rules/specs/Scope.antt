-- Names in scope (C99 6.2.1).
use Rattle.std.specs.Prelude.{ℕ, Bool, List, [], ◌∷◌, ◌++◌, map, fold, length, Option, Some, None, is_some, Vec}
use Rattle.std.specs.Map.{lookup}
use Rattle.std.specs.Str.{bytes_eq}
use Rattle.std.specs.declared.alloc.Global.{Global}
use Rattle.indexmap.specs.IndexMap.{insert_entry}
use Rattle.c_kernel.specs.declared.types.ObjectType.{ObjectType}
use Rattle.c_rules.specs.declared.scope.Scope.{Scope as Blocks}
use Rattle.c_rules.specs.declared.scope.Entity.{Entity}
use Rattle.c_rules.specs.declared.scope.Entity.TheVariants.{Variable, Parameter}

-- a name is its bytes
abbrev pub Bytes : Type 0
Bytes = List ℕ

-- the names of one block
abbrev pub Names : Type 0
Names = List (Bytes × Entity)

-- the blocks around, the outermost first; the block itself; the types of all variables of the function so far
pub record Scope : Type 0 where
  pub around : List Names
  pub here : Names
  pub variables : List ObjectType

abbrev pub in_block : Names → Bytes → Option Entity
in_block block name = lookup (bytes_eq name) block

abbrev pub nearer : Option Entity → Option Entity → Option Entity
nearer None far = far
nearer (Some near) far = Some near

-- what a name stands for: in the last block that has it
abbrev pub in_blocks : List Names → Bytes → Option Entity
in_blocks blocks name = fold (λ far block. nearer (in_block block name) far) None blocks

abbrev pub visible : Scope → Bytes → Option Entity
visible s name = nearer (in_block s.here name) (in_blocks s.around name)

-- whether the block itself declares it
abbrev pub is_here : Scope → Bytes → Bool
is_here s name = is_some (in_block s.here name)

-- with one variable more
abbrev pub declare : Scope → Bytes → ObjectType → Scope
declare s name kind = record {
  around = s.around;
  here = insert_entry bytes_eq s.here name (Variable (record { number = length s.variables; kind = kind }));
  variables = s.variables ++ kind ∷ [];
}

-- with one name more, that of a parameter of main
abbrev pub hide : Scope → Bytes → Scope
hide s name = record s { here = insert_entry bytes_eq s.here name (Parameter (length s.here)) }

-- into a block, and out of it
abbrev pub enter : Scope → Scope
enter s = record { around = s.around ++ s.here ∷ []; here = []; variables = s.variables }

abbrev pub leave : Scope → Scope → Scope
leave before inside = record before { variables = inside.variables }

abbrev pub start : Scope
start = record { around = []; here = []; variables = [] }

-- ---- what maps hold

-- the entries of a map by the bytes of their names
abbrev pub entries : {X : Type 0} → List (Vec ℕ Global × X) → List (Bytes × X)
entries es = map (λ e. (e.0.items, e.1)) es

abbrev pub scope_of : Blocks → Scope
scope_of s = record { around = map (λ b. entries b.entries) s.around.items; here = entries s.here.entries; variables = s.variables }
