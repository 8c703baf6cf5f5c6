use Rattle.std.proofs.Common.{◌≡◌, ◌++◌, drop}
use Rattle.flat_code.specs.Text.{instr_text, is_target, lines_from}
use Rattle.flat_code.proofs.text.put_lines.Given as goal

abbrev pub invariant-loop-place : goal.invariant-loop-place
invariant-loop-place l = l.text.items ++ lines_from l.place (is_target l.code) (instr_text l.structs l.functions) (drop l.place l.code) ≡ l.fn.text.items ++ lines_from 0 (is_target l.code) (instr_text l.structs l.functions) l.code
