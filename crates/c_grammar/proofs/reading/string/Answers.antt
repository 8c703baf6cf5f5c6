use Rattle.c_grammar.specs.Grammar.{All}
use Rattle.c_grammar.proofs.Steps.{r_same, stop_passed_on}
use Rattle.c_grammar.proofs.Words.{string_leaf}
use Rattle.c_grammar.proofs.reading.string.Goals as goal

pub returns-clause-reads : goal.returns-clause-reads
returns-clause-reads c = r_same (c.in_ok-token.ensures.reads All) (string_leaf c.in_ok-token.token.now c.in_ok-bytes.bytes c.in_ok-token.ensures.class c.in_ok-bytes.ensures)

pub returns-in_err-token-clause-reads : goal.returns-in_err-token-clause-reads
returns-in_err-token-clause-reads c = stop_passed_on _ _ _ _ _ _ _ c.from_residual.ensures.1 (c.in_err-token.ensures.reads All)
