use Rattle.std.proofs.Common.{rules, append_assoc}
use Rattle.flat_code.proofs.Lists.{next_variable}
use Rattle.flat_code.proofs.text.instr.put_variables.Goals as goal

pub loop-k-preserved : goal.loop-k-preserved
loop-k-preserved c = rw (next_variable c.loop-k.k) (search (rules, append_assoc))
