use Rattle.std.proofs.Common.{◌≡◌, ◌∙◌, true, get_or, sym, arith}
use Rattle.c_tree.specs.Scan.{is_text}
use Rattle.c_parse.proofs.LexText.{string_escape, string_text}
use Rattle.c_parse.proofs.lexer.string.next_part.Goals as goal

pub returns-in-Some-clause-says : goal.returns-in-Some-clause-says
returns-in-Some-clause-says c = string_escape c.args.text.now c.in-Some.value (omega arith) (omega arith) (sym c.in-Some.ensures)

pub returns-in-len1-up-clause-says : goal.returns-in-len1-up-clause-says
returns-in-len1-up-clause-says c =
    let plain : is_text (get_or c.args.text.now 0 0) ≡ true = sym c.is_text.ensures ∙ c.if-is_text.true in
    string_text c.args.text.now plain
