-- A table of functions.
use Rattle.std.specs.Prelude.{ℕ, List, Option, Vec}
use Rattle.std.specs.declared.alloc.Global.{Global}
use Rattle.std.specs.Map.{lookup}
use Rattle.std.specs.Str.{bytes_eq}
use Rattle.c_rules.specs.declared.signature.Signature.{Signature}
use Rattle.c_rules.specs.Scope.{Bytes, entries}

-- the function of a name in a table
abbrev pub called : List (Vec ℕ Global × Signature) → Bytes → Option Signature
called table name = lookup (bytes_eq name) (entries table)
