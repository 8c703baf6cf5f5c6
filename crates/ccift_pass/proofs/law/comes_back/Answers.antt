use Rattle.ccift_lower.specs.Lowered.{lowered}
use Rattle.ccift_pass.specs.Passed.{passed}
use Rattle.ccift_pass.proofs.PassPlaces.{passing}
use Rattle.ccift_pass.proofs.Plain.{lowered_plain}
use Rattle.ccift_pass.proofs.Returns.{run_leads, leads_to, returns_to}
use Rattle.ccift_pass.proofs.law.comes_back.Goals as goal

pub returns-clause-leads : goal.returns-clause-leads
returns-clause-leads c p rank ranks m asked run mark =
    let found = run_leads (lowered p) rank ranks (passing (lowered p).functions (lowered_plain p.functions)) m asked run mark in
    leads_to (passed (lowered p)) rank ranks m found.1

pub returns-clause-returns_there : goal.returns-clause-returns_there
returns-clause-returns_there c p rank ranks m asked run none mark =
    let found = run_leads (lowered p) rank ranks (passing (lowered p).functions (lowered_plain p.functions)) m asked run mark in
    returns_to (passed (lowered p)) rank ranks m found.0 found.1 none
