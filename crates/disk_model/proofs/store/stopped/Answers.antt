use Rattle.std.proofs.Common.{◌≡◌, ◌+◌, ◌≤◌, ◌<◌, List, [], ◌∷◌, ◌++◌, length, take, get_or, sym, ◌∙◌, ap, subst, arith, rules}
use Rattle.std.proofs.lemmas.List.{take_more, take_all}
use Rattle.disk_model.specs.declared.calls.Call.{Call}
use Rattle.disk_model.specs.declared.file.MemFile.{MemFile}
use Rattle.disk_model.specs.Files.{Fits, on_file, at_rest, left_by}
use Rattle.disk_model.specs.Stored.{change, state}
use Rattle.disk_model.proofs.Stopping.{AreStopped, stopped-push, stopped-state}
use Rattle.disk_model.proofs.store.stopped.Goals as goal

pub after-requires : goal.after-requires
after-requires c = subst (λ (k : Call). Fits (change k) (state c.file-item.result)) (sym c.loop-file.invariant.call) tt

pub loop-file-preserved : goal.loop-file-preserved
loop-file-preserved c =
    let choice = c.args.choice in
    let files = c.args.files.now in
    let i = c.loop-file.file-index in
    let m = c.file-item.result in
    let n = c.in_ok-after.field-0 in
    let within : i < length files = omega (arith, c.loop-file-test.true) in
    let item : get_or files i m ≡ m = search rules in
    let is : state n ≡ at_rest (left_by choice (state m)) = c.in_ok-after.ensures.state ∙ ap (λ (k : Call). on_file (change k) (state m)) c.loop-file.invariant.call in
    let front : take (i + 1) files ≡ take i files ++ m ∷ [] = take_more files i m within ∙ ap (λ (x : MemFile). take i files ++ x ∷ []) item in
    record {
      call = c.loop-file.invariant.call;
      done = subst (λ (l : List MemFile). AreStopped choice (take (i + 1) files) l) (sym c.in_ok-push.ensures.items)
          (subst (λ (l : List MemFile). AreStopped choice l (c.loop-file.all.items ++ n ∷ [])) (sym front)
          (stopped-push choice (take i files) c.loop-file.all.items m n c.loop-file.invariant.done c.in_ok-after.ensures.number is));
    }

pub returns : goal.returns
returns c =
    let files = c.args.files.now in
    let past : length files ≤ c.loop-file.file-index = omega (arith, c.loop-file-test.false) in
    stopped-state c.args.choice files c.loop-file.all.items (subst (λ (l : List MemFile). AreStopped c.args.choice l c.loop-file.all.items) (take_all c.loop-file.file-index files past) c.loop-file.invariant.done)
