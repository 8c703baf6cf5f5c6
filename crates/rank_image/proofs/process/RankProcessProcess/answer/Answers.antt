use Rattle.std.proofs.Common.{◌≡◌, None, Some, arith, refl, sym, ap, ◌∙◌, subst}
use Rattle.rank_machine.specs.Placing.{end_by}
use Rattle.rank_image.specs.declared.process.State.{State}
use Rattle.rank_image.specs.Rank.{MayRun, IsSound}
use Rattle.rank_image.specs.States.{rank_of}
use Rattle.rank_image.proofs.Answered.{has_answered, runs_from, ends_so}
use Rattle.rank_image.proofs.process.RankProcessProcess.answer.Goals as goal

pub invariant_of-self : goal.invariant_of-self
invariant_of-self c =
    let s = c.in-Runs.machine in
    let m = c.answer.new.self in
    let sound : MayRun s = subst (λ (x : State). IsSound (rank_of x)) c.in-Runs.is c.self.invariant in
    let old = ap rank_of (sym c.in-Runs.is) ∙ c.self.view_is in
    let know = c.answer.ensures in
    let has = has_answered c.args.reply c.args.self.now s m c.answer.result None c.in-None.is old sound c.requires know.functions know.answer know.stack know.heap know.left know.begun in
    (runs_from c.args.reply c.args.self.now s m old (know.end ∙ ap (λ r. end_by r s.end) c.in-None.is) has).sound

pub returns-in-None : goal.returns-in-None
returns-in-None c =
    let s = c.in-Runs.machine in
    let m = c.answer.new.self in
    let sound : MayRun s = subst (λ (x : State). IsSound (rank_of x)) c.in-Runs.is c.self.invariant in
    let old = ap rank_of (sym c.in-Runs.is) ∙ c.self.view_is in
    let know = c.answer.ensures in
    let has = has_answered c.args.reply c.args.self.now s m c.answer.result None c.in-None.is old sound c.requires know.functions know.answer know.stack know.heap know.left know.begun in
    let runs = runs_from c.args.reply c.args.self.now s m old (know.end ∙ ap (λ r. end_by r s.end) c.in-None.is) has in
    record { answered = runs.answered; ended = refl; among = runs.among; bytes = runs.bytes; serial = runs.serial; marked = runs.marked }

pub returns-in-Some : goal.returns-in-Some
returns-in-Some c =
    let s = c.in-Runs.machine in
    let m = c.answer.new.self in
    let sound : MayRun s = subst (λ (x : State). IsSound (rank_of x)) c.in-Runs.is c.self.invariant in
    let old = ap rank_of (sym c.in-Runs.is) ∙ c.self.view_is in
    let know = c.answer.ensures in
    let has = has_answered c.args.reply c.args.self.now s m c.answer.result (Some c.in-Some.end) c.in-Some.is old sound c.requires know.functions know.answer know.stack know.heap know.left know.begun in
    let ends = ends_so c.args.reply c.args.self.now s m c.in-Some.end c.ranks-ranks.result c.printed-bytes.result old c.ranks-ranks.ensures c.printed-bytes.ensures has in
    record { answered = ends.answered; ended = refl; among = ends.among; bytes = ends.bytes; serial = omega arith; marked = λ is. absurd (ends.unmarked is) }
