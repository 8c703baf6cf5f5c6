use Rattle.std.proofs.Common.{◌≡◌, ◌+◌, drop, sym, ap, ◌∙◌, arith, length-append}
use Rattle.std.proofs.lemmas.List.{drop_all, length-drop, length-take}
use Rattle.std.specs.Prelude.{slice_range}
use Rattle.c3_io.specs.Memory.{Input}
use Rattle.c3_io.proofs.Pieces.{taken}
use Rattle.c3_io.proofs.memory.MemSourceSource.take.Goals as goal

pub returns-clause-bytes : goal.returns-clause-bytes
returns-clause-bytes c =
    let s = c.self.inside in
    let n = c.min-count.result in
    let left : c.args.self.now.left ≡ drop s.taken s.bytes.items = ap (λ (v : Input). v.left) (sym c.self.view_is) in
    (left ∙ taken s.bytes.items c.copy_from_slice.new.self c.args.into.now s.taken n (c.copy_from_slice.ensures.after ∙ ap (λ l. slice_range l s.taken (s.taken + n)) c.deref.ensures.value) (omega (arith, c.copy_from_slice.ensures.len, length-take n c.args.into.now)), λ none room. drop_all (s.taken + n) s.bytes.items (omega (arith, length-append c.copy_from_slice.new.self (drop n c.args.into.now), length-drop n c.args.into.now, length-take n c.args.into.now, c.copy_from_slice.ensures.len)))
