use Rattle.std.proofs.Common.{◌≡◌, length, arith, ◌∙◌}
use Rattle.std.proofs.lemmas.Result.{err_from_is_err_and}
use Rattle.mpi_queues.proofs.Rows.{row_length, row_square, row_kept, row_sent}
use Rattle.mpi_queues.proofs.channels.Channels.send.Goals as goal

pub index_mut-requires-2 : goal.index_mut-requires-2
index_mut-requires-2 c =
    let size : length c.args.self.now ≡ c.self.inside.ranks = rw c.self.view_is at c.self.invariant.receivers in
    omega (arith, c.from-2.ensures, c.index_mut.result.now.ok, row_length c.self.inside.ranks c.self.inside.rows.items c.args.to c.index_mut.result.now c.self.invariant (omega arith) (rw c.from.ensures at c.index_mut.ensures.value))

pub invariant_of-self : goal.invariant_of-self
invariant_of-self c =
    let size : length c.args.self.now ≡ c.self.inside.ranks = rw c.self.view_is at c.self.invariant.receivers in
    rw (c.from.ensures, c.from-2.ensures) (row_square c.self.inside.ranks c.self.inside.rows.items c.args.from c.args.to c.index_mut.result.now c.push.new.self c.self.invariant (omega arith) (rw c.from.ensures at c.index_mut.ensures.value))

pub returns-in_err-push-clause-err : goal.returns-in_err-push-clause-err
returns-in_err-push-clause-err c =
    let size : length c.args.self.now ≡ c.self.inside.ranks = rw c.self.view_is at c.self.invariant.receivers in
    let p = err_from_is_err_and c.from_residual.result c.from_residual.ensures.1 in
    rw (p.1, c.from.ensures, c.from-2.ensures) (row_kept c.self.inside.ranks c.self.inside.rows.items c.args.from c.args.to c.index_mut.result.now c.index_mut-2.result.now c.push.new.self c.self.invariant (omega arith) (omega arith) (rw c.from.ensures at c.index_mut.ensures.value) (rw c.from-2.ensures at c.index_mut-2.ensures.value) c.in_err-push.ensures.err ∙ c.self.view_is)

pub invariant_of-self-2 : goal.invariant_of-self-2
invariant_of-self-2 c =
    let size : length c.args.self.now ≡ c.self.inside.ranks = rw c.self.view_is at c.self.invariant.receivers in
    rw (c.from.ensures, c.from-2.ensures) (row_square c.self.inside.ranks c.self.inside.rows.items c.args.from c.args.to c.index_mut.result.now c.push.new.self c.self.invariant (omega arith) (rw c.from.ensures at c.index_mut.ensures.value))

pub returns-clause-ok : goal.returns-clause-ok
returns-clause-ok c =
    let size : length c.args.self.now ≡ c.self.inside.ranks = rw c.self.view_is at c.self.invariant.receivers in
    rw (c.from.ensures, c.from-2.ensures) (rw c.self.view_is at (row_sent c.self.inside.ranks c.self.inside.rows.items c.args.from c.args.to c.index_mut.result.now c.index_mut-2.result.now c.push.new.self c.args.m c.self.invariant (omega arith) (omega arith) (rw c.from.ensures at c.index_mut.ensures.value) (rw c.from-2.ensures at c.index_mut-2.ensures.value) c.in_ok-push.ensures.ok))
