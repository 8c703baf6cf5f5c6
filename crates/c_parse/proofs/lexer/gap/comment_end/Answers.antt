use Rattle.std.proofs.Common.{◌≡◌, ◌∙◌, ◌+◌, [], ◌∷◌, false, drop, sym, ap, arith}
use Rattle.std.proofs.lemmas.List.{take_rest}
use Rattle.c_tree.specs.Scan.{begins_with, comment_end}
use Rattle.c_parse.proofs.LexText.{comment_goes_on}
use Rattle.c_parse.proofs.lexer.gap.comment_end.Goals as goal

pub loop-at-preserved : goal.loop-at-preserved
loop-at-preserved c =
    let open_still : begins_with (42 ∷ 47 ∷ []) (drop c.loop-at.at c.args.text.now) ≡ false = ap (begins_with (42 ∷ 47 ∷ [])) (sym (take_rest c.args.text.now c.loop-at.at)) ∙ sym c.begins_with.ensures.begins ∙ c.if-begins_with.false in
    c.loop-at.invariant ∙ comment_goes_on (2 + c.loop-at.at) c.loop-at.at c.args.text.now c.loop-at-test.true open_still ∙ ap (λ k. comment_end k (drop (c.loop-at.at + 1) c.args.text.now)) (omega arith)
