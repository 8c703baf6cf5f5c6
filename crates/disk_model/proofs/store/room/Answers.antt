use Rattle.std.proofs.Common.{◌≡◌, List, ap, ◌∙◌, sym, length}
use Rattle.disk_model.specs.declared.file.MemFile.{MemFile}
use Rattle.disk_model.specs.Stored.{state_in, place_of}
use Rattle.disk_model.proofs.Entries.{push-state, push-place}
use Rattle.disk_model.proofs.store.room.Goals as goal

pub returns-in_ok-push-clause-same : goal.returns-in_ok-push-clause-same
returns-in_ok-push-clause-same c f = ap (λ (l : List MemFile). state_in l f) c.in_ok-push.ensures.items ∙ push-state c.empty.result c.empty.ensures.state c.args.files.now.items f

pub returns-in_ok-push-clause-place : goal.returns-in_ok-push-clause-place
returns-in_ok-push-clause-place c =
    let at : c.find-at.result ≡ place_of c.args.file c.args.files.now.items = c.find-at.ensures.place ∙ ap (λ (l : List MemFile). place_of c.args.file l) c.deref.ensures.value in
    let end : c.find-at.result ≡ length c.args.files.now.items = c.if-at-len.true ∙ c.len.ensures ∙ sym c.deref.ensures.len ∙ ap (λ (l : List MemFile). length l) c.deref.ensures.value in
    end ∙ sym (push-place c.empty.result c.args.file c.empty.ensures.number c.args.files.now.items (sym at ∙ end)) ∙ sym (ap (λ (l : List MemFile). place_of c.args.file l) c.in_ok-push.ensures.items)
