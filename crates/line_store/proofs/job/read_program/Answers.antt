use Rattle.std.proofs.Common.{◌≡◌, ◌+◌, ◌-◌, ◌<◌, ℕ, List, length, drop, Ok, Err, refl, sym, ◌∙◌, ap, arith, length-drop}
use Rattle.std.proofs.lemmas.List.{take_rest}
use Rattle.line_store.proofs.Programs.{too-short, something-follows, just-right, job_with}
use Rattle.line_store.proofs.job.read_program.Goals as goal

pub returns-then-program-count-clause-err : goal.returns-then-program-count-clause-err
returns-then-program-count-clause-err c =
    let all = c.args.bytes.now in
    let rest = drop c.args.at all in
    let size : length rest ≡ length all - c.args.at = length-drop c.args.at all in
    let lt : length rest < c.args.count = omega (arith, c.if-program-count.true, ap length (take_rest all c.args.at)) in
    let place : length all - length rest ≡ c.args.at = omega (arith, size, c.requires) in
    rw c.damaged.ensures (refl, too-short (length all) c.args.ranks c.args.count rest lt ∙ ap (λ n. Err n) place)

pub returns-then-count-program-clause-err : goal.returns-then-count-program-clause-err
returns-then-count-program-clause-err c =
    let all = c.args.bytes.now in
    let rest = drop c.args.at all in
    let size : length rest ≡ length all - c.args.at = length-drop c.args.at all in
    let lt : c.args.count < length rest = omega (arith, c.if-count-program.true, ap length (take_rest all c.args.at)) in
    let place : length all - (length rest - c.args.count) ≡ c.args.at + c.args.count = omega (arith, size, lt, c.requires) in
    rw c.damaged-then-count-program.ensures (refl, something-follows (length all) c.args.ranks c.args.count rest lt ∙ ap (λ n. Err n) place)

pub returns-clause-ok : goal.returns-clause-ok
returns-clause-ok c =
    let all = c.args.bytes.now in
    let rest = drop c.args.at all in
    let whole = take_rest all c.args.at in
    let same : length rest ≡ c.args.count = omega (arith, c.if-program-count.false, c.if-count-program.false, ap length whole) in
    just-right (length all) c.args.ranks c.args.count rest same ∙ sym (ap (λ (l : List ℕ). Ok (job_with c.args.ranks l)) (c.in_ok-text.ensures ∙ whole))
