use Rattle.std.proofs.Common.{subst}
use Rattle.flat_code.specs.Machine.{Machine}
use Rattle.ccift_lower.specs.Lowered.{lowered}
use Rattle.ccift_lower.specs.Runs.{Ran}
use Rattle.ccift_pass.specs.Passed.{passed}
use Rattle.ccift_pass.proofs.PassFollows.{passed_follows, passed_finishes}
use Rattle.machine_laws.proofs.Courses.{course_runs, course_ends, ran_then}
use Rattle.machine_laws.proofs.law.follows_the_program.Goals as goal

pub returns-clause-runs : goal.returns-clause-runs
returns-clause-runs c p rank ranks first q asked begins course =
    passed_follows p rank ranks q.machine asked
    (subst (λ (m : Machine). Ran (passed (lowered p)).functions m asked q.machine) begins (course_runs (passed (lowered p)).functions first q asked course))

pub returns-clause-ends : goal.returns-clause-ends
returns-clause-ends c p rank ranks first q asked last end begins course ended =
    let over = course_ends (passed (lowered p)).functions q last end ended in
    let run = ran_then (passed (lowered p)).functions first.machine q.machine over.at asked (course_runs (passed (lowered p)).functions first q asked course) over.run in
    passed_finishes p rank ranks over.at asked last end
    (subst (λ (m : Machine). Ran (passed (lowered p)).functions m asked over.at) begins run) over.finished
