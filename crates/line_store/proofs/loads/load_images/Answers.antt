use Rattle.std.proofs.Common.{ℕ, List, refl, ◌∙◌, subst}
use Rattle.std.proofs.lemmas.Result.{err_from_is_err_and}
use Rattle.disk_model.proofs.Moments.{keeps_none, keeps_all}
use Rattle.image_text.specs.Texts.{image_form}
use Rattle.line_store.specs.Answers.{Refused, IsWrong, IsTextOf}
use Rattle.line_store.specs.Reading.{image_file}
use Rattle.line_store.proofs.Loading.{none-fit, more-fit, none-texts, more-texts, image-wrong}
use Rattle.line_store.proofs.loads.load_images.Goals as goal

pub loop-rank-init : goal.loop-rank-init
loop-rank-init g c = record {
  keeps = λ told. keeps_none (g.D.Disk.view c.args.disk.now) (g.met.D.Disk.lawful c.args.disk.now told);
  fit = none-fit image_form c.new-images.result.items c.new-images.ensures.items;
  texts = λ told. none-texts image_form (λ r. (g.D.Disk.view c.args.disk.now).seen (image_file r c.args.line)) c.new-images.result.items c.new-images.ensures.items;
  no_fault = refl;
}

pub returns-in_err-load_image-clause-wrong : goal.returns-in_err-load_image-clause-wrong
returns-in_err-load_image-clause-wrong g c told =
    let old = g.D.Disk.view c.args.disk.now in
    let file = image_file c.loop-rank.rank c.args.line in
    let p = err_from_is_err_and c.from_residual.result c.from_residual.ensures.1 in
    let fault = c.in_err-load_image.field-0.0 in
    rw (p.1, p.2) (image-wrong old.seen c.args.ranks c.args.line c.loop-rank.rank c.loop-rank.images.items fault c.loop-rank-test.true (c.loop-rank.invariant.texts told)
    (subst (λ (b : List ℕ). Refused (IsWrong image_form file b) fault) ((c.loop-rank.invariant.keeps told).seen file) (c.in_err-load_image.ensures.wrong told)))

pub returns-in_err-load_image-clause-keeps : goal.returns-in_err-load_image-clause-keeps
returns-in_err-load_image-clause-keeps g c told = keeps_all (g.D.Disk.view c.args.disk.now) (g.D.Disk.view c.loop-rank.disk) (g.D.Disk.view c.load_image.new.disk) (c.loop-rank.invariant.keeps told) (c.load_image.ensures.keeps told)

pub loop-rank-preserved : goal.loop-rank-preserved
loop-rank-preserved g c =
    let old = g.D.Disk.view c.args.disk.now in
    let file = image_file c.loop-rank.rank c.args.line in
    let x = c.in_ok-load_image.field-0 in
    record {
      keeps = λ told. keeps_all old (g.D.Disk.view c.loop-rank.disk) (g.D.Disk.view c.load_image.new.disk) (c.loop-rank.invariant.keeps told) (c.load_image.ensures.keeps told);
      fit = more-fit image_form c.loop-rank.rank c.loop-rank.images.items x c.push.new.self.items c.loop-rank.invariant.fit c.in_ok-load_image.ensures.fits c.in_ok-push.ensures.items;
      texts = λ told. more-texts image_form c.loop-rank.rank (λ r. old.seen (image_file r c.args.line)) c.loop-rank.images.items x c.push.new.self.items (c.loop-rank.invariant.texts told)
          (subst (λ (b : List ℕ). IsTextOf image_form b x) ((c.loop-rank.invariant.keeps told).seen file) (c.in_ok-load_image.ensures.read told)) c.in_ok-push.ensures.items;
      no_fault = c.in_ok-load_image.ensures.cause.kept ∙ c.loop-rank.invariant.no_fault;
    }
