use Rattle.c_grammar.proofs.Text.{is_parsed_once}
use Rattle.c_grammar.proofs.law.parsed_once.Goals as goal

pub returns : goal.returns
returns c = is_parsed_once
