-- What a program text is.
use Rattle.std.specs.Prelude.{ℕ, List, Option, Some, None, Result, Ok, Err, ◌⊎◌}
use Rattle.c_tree.specs.declared.kind.Kind.{Kind}
use Rattle.c_tree.specs.declared.tree.Tree.{Tree}
use Rattle.c_kernel.specs.declared.program.Program.{Program}
use Rattle.c_grammar.specs.Text.{HasTree, Parses}
use Rattle.c_grammar.specs.Text as parsed
use Rattle.c_check.specs.Program.{Accepts, Refuses}
use Rattle.c_check.specs.Check.{Verdict, Accepted, Refused}
use Rattle.c3_top.specs.declared.program.NoProgram.{NoProgram}
use Rattle.c3_top.specs.declared.program.NoProgram.TheVariants as no_program

-- the text is a program, with this typed form
pub record IsProgram (text : List ℕ) (p : Program) : Type 0 where
  pub tree : Tree
  pub has : HasTree text tree
  pub accepted : Accepts tree p

-- its tree breaks a rule
abbrev pub BreaksRule : List ℕ → Kind → ℕ → Type 0
BreaksRule text what at = (tree : Tree) × HasTree text tree × Refuses tree (record { kind = what; at = at })

-- it is no program: it has no tree, or its tree breaks a rule
abbrev pub IsNoProgram : List ℕ → Kind → ℕ → Type 0
IsNoProgram text what at = Parses text (parsed.Refused what at) ⊎ BreaksRule text what at

abbrev pub IsVerdict : List ℕ → Verdict → Type 0
IsVerdict text (Accepted p) = IsProgram text p
IsVerdict text (Refused what at) = IsNoProgram text what at

-- what an answer says; nothing, where memory ran out
abbrev pub said : Result Program NoProgram → Option Verdict
said (Ok p) = Some (Accepted p)
said (Err (no_program.Refused what at)) = Some (Refused what at)
said (Err no_program.NoMemory) = None
