use Rattle.std.proofs.Common.{◌∙◌, ◌∷◌, [], ap, sym, subst}
use Rattle.std.specs.Prelude.{IfSome, map, string_bytes, codes}
use Rattle.std.proofs.lemmas.Slice.Eq.{bytes_eq-Decides}
use Rattle.c3_top.specs.Command.{IsCommand, IsNoCommand, count_of}
use Rattle.c3_top.specs.declared.command.Command.TheVariants.{Plain}
use Rattle.std.specs.Prelude.{option_map}
use Rattle.c3_top.proofs.Counts.{single_is, pair_is, plain_is, no_plain}
use Rattle.c3_top.proofs.command.asked.Goals as goal

pub returns-in-len1-clause-some : goal.returns-in-len1-clause-some
returns-in-len1-clause-some c =
    let one = single_is c.args.words.now c.word-item.result c.in-len1.len_at_least c.in-len1.len_below c.word-item.is in
    subst (λ words. IfSome c.single.result (IsCommand words)) (ap (λ word. word ∷ []) c.as_bytes.ensures.value ∙ sym (ap (map string_bytes) one)) c.single.ensures.some

pub returns-in-len1-clause-none : goal.returns-in-len1-clause-none
returns-in-len1-clause-none c none =
    let one = single_is c.args.words.now c.word-item.result c.in-len1.len_at_least c.in-len1.len_below c.word-item.is in
    subst IsNoCommand (ap (λ word. word ∷ []) c.as_bytes.ensures.value ∙ sym (ap (map string_bytes) one)) (c.single.ensures.none none)

pub returns-in-len2-clause-some : goal.returns-in-len2-clause-some
returns-in-len2-clause-some c =
    let two = pair_is c.args.words.now c.word-item-then-words-lt3.result c.count-item.result c.in-len2.len_at_least c.in-len2.len_below c.word-item-then-words-lt3.is c.count-item.is in
    plain_is (map string_bytes c.args.words.now) (string_bytes c.word-item-then-words-lt3.result) (string_bytes c.count-item.result) c.plain.result (ap (map string_bytes) two) (sym c.as_str.ensures.value ∙ (bytes_eq-Decides c.as_str.result.now (codes "plain")).0 (sym c.eq.ensures ∙ c.if-eq.true)) (c.plain.ensures ∙ ap (λ w. option_map Plain (count_of w)) c.as_bytes-in-len2.ensures.value)

pub returns-in-len2-clause-none : goal.returns-in-len2-clause-none
returns-in-len2-clause-none c =
    let two = pair_is c.args.words.now c.word-item-then-words-lt3.result c.count-item.result c.in-len2.len_at_least c.in-len2.len_below c.word-item-then-words-lt3.is c.count-item.is in
    no_plain (map string_bytes c.args.words.now) (string_bytes c.word-item-then-words-lt3.result) (string_bytes c.count-item.result) c.plain.result (ap (map string_bytes) two) (c.plain.ensures ∙ ap (λ w. option_map Plain (count_of w)) c.as_bytes-in-len2.ensures.value)
