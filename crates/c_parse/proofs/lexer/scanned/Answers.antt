use Rattle.std.proofs.Common.{◌<◌, ◌∙◌, length, sym, ap, arith}
use Rattle.c_tree.specs.Scan.{tokens_of}
use Rattle.c_parse.specs.Lexer.{shown}
use Rattle.c_parse.proofs.LexScan.{reads_gap, reads_one, reads_wrong, reads_out, reads_all, stays_within}
use Rattle.c_parse.proofs.lexer.scanned.Goals as goal
use Rattle.c_parse.proofs.lexer.scanned.Goals.{in-Gap, in-One+in_ok-push-in-One, else-loop-test, then-loop-test+then-place-text, then-loop-test+else-place-text+in_ok-len+in-Wrong+in_ok-push-in-Wrong}

pub loop-preserved : goal.loop-preserved
loop-preserved c =
    let text = c.args.text.now in
    let place = c.loop.place in
    let inside : place < length text = omega arith in
    elim c.match-branch-2.branch [
      | in-Gap w ↦ record {
        within = rw w.place-is (stays_within text place w.in-Gap.len c.loop.invariant.within (rw w.in-Gap.is at c.in_ok-len.ensures.within));
        says = rw (w.tokens-is, w.place-is, w.is_fresh-is, w.is_fresh_after-is_fresh.ensures) (reads_gap text c.loop.counter place w.in-Gap.len c.loop.is_fresh c.loop.tokens (tokens_of text) c.loop-test.true inside (sym (ap shown w.in-Gap.is) ∙ c.in_ok-len.ensures.found) c.loop.invariant.says);
      }
      | in-One+in_ok-push-in-One w ↦ record {
        within = rw w.place-is (stays_within text place w.in-One.len c.loop.invariant.within (rw w.in-One.is at c.in_ok-len.ensures.within));
        says = rw (w.tokens-is, w.place-is, w.is_fresh-is, w.in_ok-push-in-One.ensures.ok) (reads_one text c.loop.counter place w.in-One.len c.loop.is_fresh w.in-One.class w.in-One.value c.loop.tokens (tokens_of text) c.loop-test.true inside (sym (ap shown w.in-One.is) ∙ c.in_ok-len.ensures.found) c.loop.invariant.says);
      }
    ]

pub returns : goal.returns
returns c =
    let text = c.args.text.now in
    elim c.loop-test.branch [
      | else-loop-test w ↦ w.tokens-is ∙ reads_out text c.loop.counter c.loop.place c.loop.is_fresh c.loop.tokens (tokens_of text) w.loop-test.false c.loop.invariant.says
      | then-loop-test+then-place-text w ↦ w.tokens-is ∙ reads_all text c.loop.counter c.loop.place c.loop.is_fresh c.loop.tokens (tokens_of text) (omega arith) c.loop.invariant.says
      | then-loop-test+else-place-text+in_ok-len+in-Wrong+in_ok-push-in-Wrong w ↦
          w.tokens-is ∙ w.in_ok-push-in-Wrong.ensures.ok ∙ reads_wrong text c.loop.counter c.loop.place w.in-Wrong.offset c.loop.is_fresh c.loop.tokens (tokens_of text) w.loop-test.true (omega arith) (sym (ap shown w.in-Wrong.is) ∙ w.in_ok-len.ensures.found) c.loop.invariant.says
    ]
