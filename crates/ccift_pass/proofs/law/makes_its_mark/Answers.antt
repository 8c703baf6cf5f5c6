use Rattle.ccift_pass.proofs.Returns.{marks}
use Rattle.ccift_pass.proofs.law.makes_its_mark.Goals as goal

pub returns : goal.returns
returns c functions refuses m none mark = marks functions refuses m none mark
