-- A machine in restart mode.
use Rattle.std.specs.Prelude.{◌≡◌, ℕ, suc, Bool, true, false, List, [], Option, Some, unwrap_or}
use Rattle.flat_code.specs.declared.code.Instr.{Instr}
use Rattle.flat_code.specs.declared.code.Instr.TheVariants.{Mark}
use Rattle.flat_code.specs.Restart.{Restarting, Reenters, IsAtMark, instr_here}
use Rattle.rank_machine.specs.Placing.{Standing}

-- with the sites that are left
abbrev pub restarting_of : Standing → Restarting
restarting_of p = record { machine = p.placing.machine; left = unwrap_or p.left [] }

-- in restart mode, so many instructions before a mark
pub record IsReturning (p : Standing) : Type 0 where
  pub left : List ℕ
  pub mode : p.left ≡ Some left
  pub more : ℕ
  pub there : Restarting
  pub leads : Reenters p.functions (suc more) (restarting_of p) there
  pub mark : IsAtMark p.functions there.machine

abbrev pub is_mark : Option Instr → Bool
is_mark (Some (Mark site)) = true
is_mark _ = false

-- whether the next instruction is a mark
abbrev pub is_at_mark : Standing → Bool
is_at_mark p = is_mark (instr_here p.functions p.placing.machine.frames)
