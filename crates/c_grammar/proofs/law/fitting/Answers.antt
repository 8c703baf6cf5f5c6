use Rattle.c_grammar.proofs.Fitting.{is_fitting}
use Rattle.c_grammar.proofs.law.fitting.Goals as goal

pub returns : goal.returns
returns c = is_fitting
