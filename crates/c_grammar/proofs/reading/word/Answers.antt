use Rattle.std.proofs.Common.{◌≡◌, ◌∷◌, [], true, false, refl, arith}
use Rattle.std.proofs.lemmas.Grind.{common_steps}
use Rattle.c_tree.specs.declared.token.Class.TheVariants.{HugeNumber}
use Rattle.c_grammar.specs.Meaning.{next_in}
use Rattle.c_grammar.specs.Descent.{word_bad}
use Rattle.c_grammar.proofs.Words.{read_word, deep_word, large_word, first_class}
use Rattle.c_grammar.proofs.reading.word.Goals as goal

pub returns-then-not-next_is-clause-reads : goal.returns-then-not-next_is-clause-reads
returns-then-not-next_is-clause-reads c k = let q : next_in (c.args.class ∷ []) c.args.tokens.now ≡ false = cc in (c.args.tokens.now, refl, word_bad c.args.level k (c.args.class ∷ []) c.args.tokens.now q)

pub returns-then-level-gt-LIMIT-clause-reads : goal.returns-then-level-gt-LIMIT-clause-reads
returns-then-level-gt-LIMIT-clause-reads c k = let q : next_in (c.args.class ∷ []) c.args.tokens.now ≡ true = cc in (c.args.tokens.now, refl, deep_word c.args.level k (c.args.class ∷ []) c.args.tokens.now q c.if-level-gt-LIMIT.true)

pub returns-then-next_is-clause-reads : goal.returns-then-next_is-clause-reads
returns-then-next_is-clause-reads c k =
    let q : next_in (c.args.class ∷ []) c.args.tokens.now ≡ true = cc in
    let h : next_in (HugeNumber ∷ []) c.args.tokens.now ≡ true = cc in
    (c.args.tokens.now, refl, large_word c.args.level k (c.args.class ∷ []) c.args.tokens.now q (omega arith) h)

pub returns-clause-reads : goal.returns-clause-reads
returns-clause-reads c k =
    let q : next_in (c.args.class ∷ []) c.args.tokens.now ≡ true = cc in
    let h : next_in (HugeNumber ∷ []) c.args.tokens.now ≡ false = cc in
    read_word c.args.level k (c.args.class ∷ []) c.args.tokens.now _ c.index-tokens-0.result q (omega arith) h c.index-tokens-0.is (grind (arith, common_steps))

pub returns-clause-class : goal.returns-clause-class
returns-clause-class c =
    let q : next_in (c.args.class ∷ []) c.args.tokens.now ≡ true = cc in
    first_class c.args.class c.args.tokens.now c.index-tokens-0.result q c.index-tokens-0.is
