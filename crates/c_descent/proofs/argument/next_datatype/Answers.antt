use Rattle.c_tree.specs.declared.token.Class.TheVariants as class
use Rattle.c_grammar.specs.Grammar as grammar
use Rattle.c_grammar.specs.Grammar.{Ref, ◌⊳◌, comma, datatype, e, one_of, operation, placed, word, world}
use Rattle.c_grammar.proofs.Steps.{stop_found, stops_from, r_seq}
use Rattle.c_descent.proofs.CallSteps.{f_before, f_more}
use Rattle.c_descent.proofs.argument.next_datatype.Goals as goal

pub returns-in_err-rest-clause-reads : goal.returns-in_err-rest-clause-reads
returns-in_err-rest-clause-reads c = stop_found _ _ _ _ _ _ _ c.from_residual.ensures.1 (stops_from _ (λ k z h. f_before comma _ h) c.in_err-rest.ensures.reads)

pub returns-in_err-at-clause-reads : goal.returns-in_err-at-clause-reads
returns-in_err-at-clause-reads c = stop_found _ _ _ _ _ _ _ c.from_residual-in_err-at.ensures.1 (stops_from _ (λ k z h. f_more comma c.in_ok-rest.ensures.reads (h)) (c.in_err-at.ensures.reads (λ d. class.Element d) grammar.datatypes c.at_datatype.ensures))

pub returns-clause-reads : goal.returns-clause-reads
returns-clause-reads c = r_seq c.in_ok-rest.ensures.reads (c.in_ok-at.ensures.reads (λ d. class.Element d) grammar.datatypes c.at_datatype.ensures)
