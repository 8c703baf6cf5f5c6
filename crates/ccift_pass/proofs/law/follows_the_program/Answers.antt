use Rattle.ccift_pass.proofs.PassFollows.{passed_follows, passed_finishes}
use Rattle.ccift_pass.proofs.law.follows_the_program.Goals as goal

pub returns-clause-runs : goal.returns-clause-runs
returns-clause-runs c p rank ranks n asked run = passed_follows p rank ranks n asked run

pub returns-clause-ends : goal.returns-clause-ends
returns-clause-ends c p rank ranks n asked last end run fin = passed_finishes p rank ranks n asked last end run fin
