use Rattle.std.proofs.Common.{◌≡◌, length, ◌∙◌, ap, subst, Some}
use Rattle.line_store.specs.Reading.{Reading, ranks_of, reading}
use Rattle.line_store.specs.Held.{Makes}
use Rattle.line_store.specs.Texts.{ends_form}
use Rattle.line_store.proofs.Finishing.{as-ended}
use Rattle.line_store.proofs.end.finish.Goals as goal

pub returns-in_err-put_ends-clause-makes : goal.returns-in_err-put_ends-clause-makes
returns-in_err-put_ends-clause-makes g c told text s held count =
    let codes : c.deref.result.now ≡ (ends_form (ranks_of text)).text c.args.ends.now = c.deref.ensures.value ∙ c.in_ok-text.ensures ∙ ap (λ n. (ends_form n).text c.args.ends.now) count in
    subst (λ (r : Reading). Makes text r (g.D.Disk.view c.args.disk.now) (g.D.Disk.view c.put_ends.new.disk)) (as-ended text s (length c.args.ends.now) (ranks_of text) c.deref.result.now ((ends_form (ranks_of text)).text c.args.ends.now) count codes)
    (c.put_ends.ensures.makes told text s held count)

pub returns-clause-makes : goal.returns-clause-makes
returns-clause-makes g c told text s held count =
    let codes : c.deref.result.now ≡ (ends_form (ranks_of text)).text c.args.ends.now = c.deref.ensures.value ∙ c.in_ok-text.ensures ∙ ap (λ n. (ends_form n).text c.args.ends.now) count in
    subst (λ (r : Reading). Makes text r (g.D.Disk.view c.args.disk.now) (g.D.Disk.view c.put_ends.new.disk)) (as-ended text s (length c.args.ends.now) (ranks_of text) c.deref.result.now ((ends_form (ranks_of text)).text c.args.ends.now) count codes)
    (c.put_ends.ensures.makes told text s held count)

pub returns-clause-ended : goal.returns-clause-ended
returns-clause-ended g c told text s held count =
    let codes : c.deref.result.now ≡ (ends_form (ranks_of text)).text c.args.ends.now = c.deref.ensures.value ∙ c.in_ok-text.ensures ∙ ap (λ n. (ends_form n).text c.args.ends.now) count in
    subst (λ (r : Reading). reading (g.D.Disk.view c.put_ends.new.disk).seen ≡ Some r) (as-ended text s (length c.args.ends.now) (ranks_of text) c.deref.result.now ((ends_form (ranks_of text)).text c.args.ends.now) count codes)
    (c.in_ok-put_ends.ensures.ended told text s held count)
