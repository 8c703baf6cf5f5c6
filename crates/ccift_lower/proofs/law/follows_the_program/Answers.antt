use Rattle.ccift_lower.specs.Lowered.{lowered}
use Rattle.flat_code.specs.Machine as machine
use Rattle.ccift_lower.proofs.Simulates.{simulates, ends_alike}
use Rattle.ccift_lower.proofs.Compiles.{compiled, starts}
use Rattle.c_meaning.specs.Step.{start}
use Rattle.ccift_lower.proofs.law.follows_the_program.Goals as goal

pub returns-clause-runs : goal.returns-clause-runs
returns-clause-runs c p rank ranks n asked run = simulates p.functions (lowered p).functions (compiled p.functions) (start p rank ranks) (machine.start (lowered p) rank ranks) n asked run (starts p rank ranks)

pub returns-clause-ends : goal.returns-clause-ends
returns-clause-ends c p s m asked end fin st = ends_alike p.functions (lowered p).functions (compiled p.functions) s m asked end fin st
