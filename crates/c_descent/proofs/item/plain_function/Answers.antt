use Rattle.std.proofs.Common.{sym}
use Rattle.c_grammar.proofs.Steps.{r_seq, r_same}
use Rattle.c_descent.proofs.item.plain_function.Goals as goal

pub returns-clause-reads : goal.returns-clause-reads
returns-clause-reads c = r_same (r_seq c.in_ok-specifier.ensures.reads c.in_ok-item.ensures.reads) (sym c.in_ok-item.ensures.row)
