use Rattle.ccift_pass.proofs.Returns.{reaches, not_before}
use Rattle.ccift_pass.proofs.law.restarts.Goals as goal

pub returns-clause-reaches : goal.returns-clause-reaches
returns-clause-reaches c code rank ranks sites leads = reaches code rank ranks sites leads

pub returns-clause-alone : goal.returns-clause-alone
returns-clause-alone c code rank ranks sites leads n t runs mark = not_before code rank ranks sites leads n t runs mark
