use Rattle.c_tree.proofs.Whole.{is_scanned}
use Rattle.c_tree.proofs.law.scans.Goals as goal

pub returns : goal.returns
returns c = is_scanned
