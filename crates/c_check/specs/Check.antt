-- What a tree is, and what the checker's answer says of it.
use Rattle.std.specs.Prelude.{ℕ, Option, Some, None, Result, Ok, Err}
use Rattle.c_tree.specs.declared.tree.Tree.{Tree}
use Rattle.c_tree.specs.declared.kind.Kind.{Kind}
use Rattle.c_kernel.specs.declared.program.Program.{Program}
use Rattle.c_check.specs.Program.{Accepts, Refuses}
use Rattle.c_check.specs.declared.fault.CheckFault.{CheckFault}
use Rattle.c_check.specs.declared.fault.CheckFault.TheVariants as fault

-- What a tree is found to be: a program, or refused for its first broken rule.
pub data Verdict : Type 0 where
  Accepted : (program : Program) → Verdict
  Refused : (kind : Kind) (at : ℕ) → Verdict

abbrev pub Judges : Tree → Verdict → Type 0
Judges tree (Accepted program) = Accepts tree program
Judges tree (Refused kind at) = Refuses tree (record { kind = kind; at = at })

-- what an answer says; nothing, where memory ran out
abbrev pub said : Result Program CheckFault → Option Verdict
said (Ok program) = Some (Accepted program)
said (Err (fault.Broken kind at)) = Some (Refused kind at)
said (Err fault.NoMemory) = None
