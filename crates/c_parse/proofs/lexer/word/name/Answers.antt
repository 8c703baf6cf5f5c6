use Rattle.std.proofs.Common.{◌≡◌, ◌∙◌, true, get_or, sym, arith}
use Rattle.c_tree.specs.Scan.{is_letter}
use Rattle.c_parse.proofs.LexText.{name_is}
use Rattle.c_parse.proofs.lexer.word.name.Goals as goal

pub returns-in_ok-value-in-len1-up-clause-found : goal.returns-in_ok-value-in-len1-up-clause-found
returns-in_ok-value-in-len1-up-clause-found c =
    let letter : is_letter (get_or c.args.text.now 0 0) ≡ true = sym c.is_letter.ensures ∙ c.if-is_letter.true in
    name_is c.args.text.now c.word-word.result.now c.class_of-class.result c.in_ok-value-in-len1-up.value (omega arith) letter c.word-word.ensures.front c.class_of-class.ensures c.in_ok-value-in-len1-up.ensures
