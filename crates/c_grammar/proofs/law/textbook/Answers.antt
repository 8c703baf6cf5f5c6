use Rattle.c_grammar.proofs.Textbook.{is_textbook}
use Rattle.c_grammar.proofs.law.textbook.Goals as goal

pub returns : goal.returns
returns c = is_textbook
