use Rattle.c_grammar.proofs.Whole.{is_exact}
use Rattle.c_grammar.proofs.law.exact.Goals as goal

pub returns : goal.returns
returns c = is_exact
