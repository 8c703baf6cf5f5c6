use Rattle.c_grammar.proofs.Steps.{r_ref, r_seq, r_end}
use Rattle.c_descent.proofs.structs.member_declaration.Goals as goal

pub returns-clause-reads : goal.returns-clause-reads
returns-clause-reads c = r_ref (r_seq c.in_ok-specifier.ensures.reads (r_end c.in_ok-declarators.ensures.reads c.in_ok-rest.ensures.reads))
