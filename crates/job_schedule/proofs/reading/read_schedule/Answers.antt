use Rattle.std.proofs.Common.{◌≡◌, ◌∙◌, false, drop, get_or, sym, ap}
use Rattle.std.specs.Prelude.{take_while}
use Rattle.std.proofs.lemmas.List.{take_rest}
use Rattle.job_schedule.specs.Schedule.{BadEvent, TooMany, Whole, in_word, is_white}
use Rattle.job_schedule.proofs.Found.{all_at_end, bad_here, none_at_end}
use Rattle.job_schedule.proofs.Verdicts.{bad_read, many_read, only, right, whole_read}
use Rattle.job_schedule.proofs.reading.read_schedule.Goals as goal

pub returns-in-None : goal.returns-in-None
returns-in-None c =
    let text = c.args.text.now in
    let at = c.loop-at.at in
    let plain : is_white (get_or text at 0) ≡ false = sym c.is_white.ensures ∙ c.if-not-is_white.true in
    let word : c.first_word.result.now ≡ take_while in_word (drop at text) = c.first_word.ensures ∙ ap (take_while in_word) (take_rest text at) in
    let found = bad_here text at c.loop-at.is_fresh c.first_word.result.now c.loop-at-test.true c.if-is_fresh.true plain word (sym c.in-None.ensures) in
    let read = bad_read text at (c.loop-at.invariant.bad ∙ found) in
    record { right = right text (BadEvent at) read; exact = λ a h. only text (BadEvent at) a read h }

pub returns-then-count-gt-MOST_EVENTS : goal.returns-then-count-gt-MOST_EVENTS
returns-then-count-gt-MOST_EVENTS c =
    let text = c.args.text.now in
    let loop = c.loop-at in
    let none = loop.invariant.bad ∙ none_at_end text loop.at loop.is_fresh c.loop-at-test.false in
    let all = loop.invariant.entries ∙ all_at_end text loop.at loop.is_fresh loop.entries.items c.loop-at-test.false in
    let read = many_read text loop.entries.items loop.count none all loop.invariant.total c.if-count-gt-MOST_EVENTS.true in
    record { right = right text (TooMany loop.count) read; exact = λ a h. only text (TooMany loop.count) a read h }

pub new-requires : goal.new-requires
new-requires c = rw (sym c.loop-at.invariant.total) c.if-count-gt-MOST_EVENTS.false

pub returns : goal.returns
returns c =
    let text = c.args.text.now in
    let loop = c.loop-at in
    let none = loop.invariant.bad ∙ none_at_end text loop.at loop.is_fresh c.loop-at-test.false in
    let all = loop.invariant.entries ∙ all_at_end text loop.at loop.is_fresh loop.entries.items c.loop-at-test.false in
    let read = whole_read text loop.entries.items loop.count none all loop.invariant.total c.if-count-gt-MOST_EVENTS.false in
    rw c.new.ensures (record { right = right text (Whole loop.entries.items) read; exact = λ a h. only text (Whole loop.entries.items) a read h })
