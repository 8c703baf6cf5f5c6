use Rattle.c_tree.proofs.Whole.{is_one_list}
use Rattle.c_tree.proofs.law.one.Goals as goal

pub returns : goal.returns
returns c = is_one_list
