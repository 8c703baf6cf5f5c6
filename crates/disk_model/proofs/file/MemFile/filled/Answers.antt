use Rattle.std.proofs.Common.{ℕ, List, [], ◌∷◌, ◌++◌, map, get_or, if◌then◌else◌, sym, ◌∙◌, ap, arith}
use Rattle.std.proofs.lemmas.List.FromFn.{map-range_with_len_more}
use Rattle.std.specs.List.{range_with_len}
use Rattle.disk_model.specs.Files.{is_kept}
use Rattle.disk_model.specs.Stored.{state}
use Rattle.disk_model.proofs.file.MemFile.filled.Goals as goal

pub loop-place-preserved : goal.loop-place-preserved
loop-place-preserved c =
    let s = c.args.self.now in
    let f : ℕ → ℕ = λ place. if is_kept (state s) place then get_or s.synced.items place 0 else c.args.byte in
    let at = c.loop-place.place in
    c.in_ok-push.ensures.items ∙ ap (λ (l : List ℕ). l ++ c.kept_or.result ∷ []) c.loop-place.invariant
    ∙ ap (λ (b : ℕ). map f (range_with_len 0 at) ++ b ∷ []) c.kept_or.ensures ∙ sym (map-range_with_len_more f 0 at at (omega arith))
