use Rattle.std.proofs.Common.{◌≡◌, ◌<◌, length, arith, ◌∙◌}
use Rattle.mpi_queues.proofs.Rows.{row_square, row_kept, row_received}
use Rattle.mpi_queues.proofs.channels.Channels.take.Goals as goal

pub invariant_of-self : goal.invariant_of-self
invariant_of-self c =
    let size : length c.args.self.now ≡ c.self.inside.ranks = rw c.self.view_is at c.self.invariant.receivers in
    let from_within : c.in_ok-from.from < c.self.inside.ranks = omega (arith, c.in_ok-from.ensures.rank) in
    rw (c.from.ensures, c.from-2.ensures) (row_square c.self.inside.ranks c.self.inside.rows.items c.in_ok-from.from c.args.to c.index_mut.result.now c.take.new.self c.self.invariant (omega arith) (rw c.from.ensures at c.index_mut.ensures.value))

pub returns-in_err-message-clause-none : goal.returns-in_err-message-clause-none
returns-in_err-message-clause-none c =
    let size : length c.args.self.now ≡ c.self.inside.ranks = rw c.self.view_is at c.self.invariant.receivers in
    let from_within : c.in_ok-from.from < c.self.inside.ranks = omega (arith, c.in_ok-from.ensures.rank) in
    rw (c.from_residual-in_err-message.ensures, c.from.ensures, c.from-2.ensures) (row_kept c.self.inside.ranks c.self.inside.rows.items c.in_ok-from.from c.args.to c.index_mut.result.now c.index_mut-2.result.now c.take.new.self c.self.invariant from_within (omega arith) (rw c.from.ensures at c.index_mut.ensures.value) (rw c.from-2.ensures at c.index_mut-2.ensures.value) c.in_err-message.ensures.none ∙ c.self.view_is)

pub invariant_of-self-2 : goal.invariant_of-self-2
invariant_of-self-2 c =
    let size : length c.args.self.now ≡ c.self.inside.ranks = rw c.self.view_is at c.self.invariant.receivers in
    let from_within : c.in_ok-from.from < c.self.inside.ranks = omega (arith, c.in_ok-from.ensures.rank) in
    rw (c.from.ensures, c.from-2.ensures) (row_square c.self.inside.ranks c.self.inside.rows.items c.in_ok-from.from c.args.to c.index_mut.result.now c.take.new.self c.self.invariant (omega arith) (rw c.from.ensures at c.index_mut.ensures.value))

pub returns-clause-taken : goal.returns-clause-taken
returns-clause-taken c =
    let size : length c.args.self.now ≡ c.self.inside.ranks = rw c.self.view_is at c.self.invariant.receivers in
    let from_within : c.in_ok-from.from < c.self.inside.ranks = omega (arith, c.in_ok-from.ensures.rank) in
    rw (c.from.ensures, c.from-2.ensures, c.in_ok-from.ensures.lowest) (rw c.self.view_is at (row_received c.self.inside.ranks c.self.inside.rows.items c.in_ok-from.from c.args.to c.index_mut.result.now c.index_mut-2.result.now c.take.new.self c.in_ok-message.message c.args.p.now c.self.invariant from_within (omega arith) (rw c.from.ensures at c.index_mut.ensures.value) (rw c.from-2.ensures at c.index_mut-2.ensures.value) c.in_ok-message.ensures.taken))
