use Rattle.std.proofs.Common.{◌≡◌, ◌∙◌, ◌+◌, ◌*◌, ◌-◌, min, take, get_or, ap}
use Rattle.std.proofs.lemmas.List.{take_more}
use Rattle.c_tree.specs.Scan.{number_value}
use Rattle.c_parse.proofs.LexText.{capped, number_value-push}
use Rattle.c_parse.proofs.lexer.number.value_of.Goals as goal

pub loop-digit-preserved : goal.loop-digit-preserved
loop-digit-preserved c =
    let digits = c.args.digits.now in
    let i = c.loop-digit.digit-index in
    let more : number_value 0 (take (i + 1) digits) ≡ number_value 0 (take i digits) * 10 + (get_or digits i 0 - 48) = ap (number_value 0) (take_more digits i 0 c.loop-digit-test.true) ∙ number_value-push 0 (take i digits) (get_or digits i 0) in
    let step = capped c.loop-digit.value (number_value 0 (take i digits)) (get_or digits i 0 - 48) 18446744073709551615 c.loop-digit.invariant in
    let next : c.saturating_add-value.result ≡ min (number_value 0 (take (i + 1) digits)) 18446744073709551615 = rw (c.saturating_add-value.ensures, c.from.ensures, c.saturating_sub.ensures, c.saturating_mul.ensures, more) step in
    next
