use Rattle.std.proofs.Common.{ℕ, List, refl, ◌∙◌, subst}
use Rattle.std.proofs.lemmas.Result.{err_from_is_err_and}
use Rattle.disk_model.proofs.Moments.{keeps_none, keeps_all}
use Rattle.late_logs.specs.Texts.{log_form}
use Rattle.line_store.specs.Answers.{Refused, IsWrong, IsTextOf}
use Rattle.line_store.specs.Reading.{log_file}
use Rattle.line_store.proofs.Loading.{none-fit, more-fit, none-texts, more-texts, log-wrong}
use Rattle.line_store.proofs.loads.load_logs.Goals as goal

pub loop-rank-init : goal.loop-rank-init
loop-rank-init g c = record {
  keeps = λ told. keeps_none (g.D.Disk.view c.args.disk.now) (g.met.D.Disk.lawful c.args.disk.now told);
  fit = none-fit log_form c.new-logs.result.items c.new-logs.ensures.items;
  texts = λ told. none-texts log_form (λ r. (g.D.Disk.view c.args.disk.now).seen (log_file r c.args.line)) c.new-logs.result.items c.new-logs.ensures.items;
  no_fault = refl;
}

pub returns-in_err-load_log-clause-wrong : goal.returns-in_err-load_log-clause-wrong
returns-in_err-load_log-clause-wrong g c told =
    let old = g.D.Disk.view c.args.disk.now in
    let file = log_file c.loop-rank.rank c.args.line in
    let p = err_from_is_err_and c.from_residual.result c.from_residual.ensures.1 in
    let fault = c.in_err-load_log.field-0.0 in
    rw (p.1, p.2) (log-wrong old.seen c.args.ranks c.args.line c.loop-rank.rank c.loop-rank.logs.items fault c.loop-rank-test.true (c.loop-rank.invariant.texts told)
    (subst (λ (b : List ℕ). Refused (IsWrong log_form file b) fault) ((c.loop-rank.invariant.keeps told).seen file) (c.in_err-load_log.ensures.wrong told)))

pub returns-in_err-load_log-clause-keeps : goal.returns-in_err-load_log-clause-keeps
returns-in_err-load_log-clause-keeps g c told = keeps_all (g.D.Disk.view c.args.disk.now) (g.D.Disk.view c.loop-rank.disk) (g.D.Disk.view c.load_log.new.disk) (c.loop-rank.invariant.keeps told) (c.load_log.ensures.keeps told)

pub loop-rank-preserved : goal.loop-rank-preserved
loop-rank-preserved g c =
    let old = g.D.Disk.view c.args.disk.now in
    let file = log_file c.loop-rank.rank c.args.line in
    let x = c.in_ok-load_log.field-0 in
    record {
      keeps = λ told. keeps_all old (g.D.Disk.view c.loop-rank.disk) (g.D.Disk.view c.load_log.new.disk) (c.loop-rank.invariant.keeps told) (c.load_log.ensures.keeps told);
      fit = more-fit log_form c.loop-rank.rank c.loop-rank.logs.items x c.push.new.self.items c.loop-rank.invariant.fit c.in_ok-load_log.ensures.fits c.in_ok-push.ensures.items;
      texts = λ told. more-texts log_form c.loop-rank.rank (λ r. old.seen (log_file r c.args.line)) c.loop-rank.logs.items x c.push.new.self.items (c.loop-rank.invariant.texts told)
          (subst (λ (b : List ℕ). IsTextOf log_form b x) ((c.loop-rank.invariant.keeps told).seen file) (c.in_ok-load_log.ensures.read told)) c.in_ok-push.ensures.items;
      no_fault = c.in_ok-load_log.ensures.cause.kept ∙ c.loop-rank.invariant.no_fault;
    }
