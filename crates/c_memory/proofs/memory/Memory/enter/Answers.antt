use Rattle.std.proofs.Common.{◌≡◌, ◌+◌, ◌≤◌, ◌<◌, ◌^◌, arith, sym, ap, ◌∙◌, length, take, get_or, nat_lt, false}
use Rattle.std.proofs.lemmas.Bool.Decides.{nat_tests}
use Rattle.std.proofs.lemmas.List.{length-take-le}
use Rattle.c_memory.specs.Memory.{Memory, cells_in, total, used, add_variable, add_variables}
use Rattle.c_memory.specs.Seen.{objects_of}
use Rattle.c_memory.proofs.Finds.{total_one, total_part}
use Rattle.c_memory.proofs.Enters.{added_used, added_next, added_one}
use Rattle.c_memory.proofs.memory.Memory.enter.Goals as goal

start : (c : goal.After-row_known-1) → Memory
start c = record { variables = objects_of c.self.inside.variables.items; heap = objects_of c.self.inside.heap.items; next = c.self.inside.next; calls = c.self.inside.calls + 1; asked = c.self.inside.asked }

pub add-requires-clause-next : goal.add-requires-clause-next
unfolding start
add-requires-clause-next c =
    let ns = c.args.lengths.now in
    let i = c.loop-n.n-index in
    let a : c.loop-n.self.next ≡ (add_variables (start c) (take i ns)).next = ap (λ m. m.next) c.loop-n.invariant in
    let b : (add_variables (start c) (take i ns)).next ≡ c.self.inside.next + length (take i ns) = added_next (start c) (take i ns) in
    let d : length (take i ns) ≡ i = length-take-le i ns c.loop-n.auto.n-index-end in
    let e : c.self.inside.next ≡ c.args.self.now.next = ap (λ m. m.next) c.self.view_is in
    let f : i < length ns = c.loop-n-test.true in
    let g : c.args.self.now.next + length ns < 2 ^ 64 = c.requires in
    omega (arith, a, b, d, e, f, g)

pub add-requires-clause-room : goal.add-requires-clause-room
unfolding start
add-requires-clause-room c =
    let ns = c.args.lengths.now in
    let i = c.loop-n.n-index in
    let a : used c.loop-n.self ≡ used (add_variables (start c) (take i ns)) = ap used c.loop-n.invariant in
    let u : used (add_variables (start c) (take i ns)) ≡ c.self.inside.calls + 1 + cells_in (objects_of c.self.inside.variables.items) + total (take i ns) = added_used (start c) (take i ns) in
    let b : total (take (i + 1) ns) ≡ total (take i ns) + get_or ns i 0 = total_one ns i 0 c.loop-n-test.true in
    let d : total (take (i + 1) ns) ≤ total ns = total_part ns (i + 1) in
    let t : c.self.inside.taken ≡ cells_in (objects_of c.self.inside.variables.items) = c.self.invariant.taken in
    let p : false ≡ nat_lt 8192 (c.self.inside.calls + c.self.inside.taken + 1 + total ns) = c.if-is_over.ensures in
    let q : c.self.inside.calls + c.self.inside.taken + 1 + total ns ≤ 8192 = grind (arith, nat_tests, p) in
    omega (arith, a, u, b, d, t, q)

pub loop-n-preserved : goal.loop-n-preserved
loop-n-preserved c = c.in_ok-add.ensures ∙ ap (λ m. add_variable m (get_or c.args.lengths.now c.loop-n.n-index 0)) c.loop-n.invariant ∙ sym (added_one _ c.args.lengths.now c.loop-n.n-index 0 c.loop-n-test.true)
