use Rattle.c_grammar.proofs.Steps.{r_ref, r_seq, r_end, r_deeper}
use Rattle.c_descent.proofs.heading.parameters.Goals as goal

pub returns-clause-reads : goal.returns-clause-reads
returns-clause-reads c = r_ref (r_seq c.in_ok-rest.ensures.reads (r_end (r_deeper c.in_ok-parameters.ensures.reads) c.in_ok-rest-2.ensures.reads))
