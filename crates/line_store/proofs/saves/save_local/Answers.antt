use Rattle.std.proofs.Common.{◌≡◌, ◌≤◌, List, ℕ, length, sym, ◌∙◌, ap, subst}
use Rattle.disk_model.proofs.Moments.{keeps_none}
use Rattle.image_text.specs.Texts.{image_form}
use Rattle.line_store.specs.Reading.{image_file, output_of}
use Rattle.line_store.proofs.Holding.{spared-none}
use Rattle.line_store.specs.Held.{IsHeld, with_image}
use Rattle.line_store.proofs.Programs.{image-output}
use Rattle.line_store.proofs.Standings.{keeps-quiet}
use Rattle.line_store.proofs.saves.save_local.Goals as goal

pub returns-in_err-text-clause-quiet : goal.returns-in_err-text-clause-quiet
returns-in_err-text-clause-quiet g c told text s held = keeps-quiet text (g.D.Disk.view c.args.disk.now) (g.D.Disk.view c.args.disk.now) held.safe (keeps_none (g.D.Disk.view c.args.disk.now) (g.met.D.Disk.lawful c.args.disk.now told))

pub returns-clause-held : goal.returns-clause-held
returns-clause-held g c told text s held lt long =
    let image = c.args.image.now in
    let put : c.deref.result.now ≡ image_form.text image = c.deref.ensures.value ∙ c.in_ok-text.ensures in
    let named : output_of c.deref.result.now ≡ image.state.output = ap output_of put ∙ image-output image c.requires.fits in
    subst (λ (t : List ℕ). IsHeld text (g.D.Disk.view c.put_image.new.disk) (with_image s image.rank t)) put
    (c.in_ok-put_image.ensures.held told text s held lt (subst (λ n. n ≤ length (s.outputs image.rank)) (sym named) long))

pub returns-in_err-text-clause-others : goal.returns-in_err-text-clause-others
returns-in_err-text-clause-others g c told = spared-none (image_file c.args.image.now.rank c.args.image.now.line) (g.D.Disk.view c.args.disk.now)
