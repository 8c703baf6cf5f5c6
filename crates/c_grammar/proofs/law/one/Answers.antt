use Rattle.c_grammar.proofs.Whole.{is_one}
use Rattle.c_grammar.proofs.law.one.Goals as goal

pub returns : goal.returns
returns c = is_one
