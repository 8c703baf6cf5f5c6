use Rattle.std.proofs.Common.{◌≡◌, ◌∷◌, [], ◌∙◌, true, false, refl, arith}
use Rattle.c_tree.specs.declared.token.Class.TheVariants.{HugeNumber}
use Rattle.c_grammar.specs.Meaning.{next_in}
use Rattle.c_grammar.specs.Descent.{word_bad}
use Rattle.c_grammar.proofs.Words.{deep_word, large_word}
use Rattle.c_grammar.proofs.reading.refusal.Goals as goal

pub returns-then-not-next_is : goal.returns-then-not-next_is
returns-then-not-next_is c k cs e =
    let h : next_in (HugeNumber ∷ []) c.args.tokens.now ≡ false = cc in
    (c.args.tokens.now, refl, word_bad c.args.level k cs c.args.tokens.now (e ∙ h))

pub returns-then-level-gt-LIMIT : goal.returns-then-level-gt-LIMIT
returns-then-level-gt-LIMIT c k cs e =
    let h : next_in (HugeNumber ∷ []) c.args.tokens.now ≡ true = cc in
    (c.args.tokens.now, refl, deep_word c.args.level k cs c.args.tokens.now (e ∙ h) c.if-level-gt-LIMIT.true)

pub returns : goal.returns
returns c k cs e =
    let h : next_in (HugeNumber ∷ []) c.args.tokens.now ≡ true = cc in
    (c.args.tokens.now, refl, large_word c.args.level k cs c.args.tokens.now (e ∙ h) (omega arith) h)
