use Rattle.std.proofs.Common.{◌≡◌, ◌<◌, length, arith, sym, ◌∙◌}
use Rattle.mpi_queues.specs.Pairs.{taken_from}
use Rattle.mpi_queues.proofs.Sources.{answers_here, answers_later, scanned}
use Rattle.mpi_queues.proofs.channels.Channels.find.Goals as goal

pub returns-then-is_some-clause-lowest : goal.returns-then-is_some-clause-lowest
returns-then-is_some-clause-lowest c =
    let size : length c.args.self.now ≡ c.self.inside.ranks = rw c.self.view_is at c.self.invariant.receivers in
    let to_within : c.args.to < c.self.inside.ranks = omega arith in
    let found = rw c.self.view_is at (scanned c.self.inside.ranks c.self.inside.rows.items c.loop-from.from c.args.to c.index.result.now c.index-in-loop-from.result.now c.args.p.now c.place.result c.self.invariant c.loop-from-test.true to_within (rw c.from.ensures at c.index.ensures) (rw c.from-in-loop-from.ensures at c.index-in-loop-from.ensures) c.place.ensures) in
    c.loop-from.invariant ∙ answers_here (taken_from c.args.self.now c.args.to c.args.p.now) c.loop-from.from (length c.args.self.now) (omega arith) (found ∙ sym c.is_some.ensures ∙ c.if-is_some.true)

pub loop-from-preserved : goal.loop-from-preserved
loop-from-preserved c =
    let size : length c.args.self.now ≡ c.self.inside.ranks = rw c.self.view_is at c.self.invariant.receivers in
    let to_within : c.args.to < c.self.inside.ranks = omega arith in
    let found = rw c.self.view_is at (scanned c.self.inside.ranks c.self.inside.rows.items c.loop-from.from c.args.to c.index.result.now c.index-in-loop-from.result.now c.args.p.now c.place.result c.self.invariant c.loop-from-test.true to_within (rw c.from.ensures at c.index.ensures) (rw c.from-in-loop-from.ensures at c.index-in-loop-from.ensures) c.place.ensures) in
    c.loop-from.invariant ∙ answers_later (taken_from c.args.self.now c.args.to c.args.p.now) c.loop-from.from (length c.args.self.now) (omega arith) (found ∙ sym c.is_some.ensures ∙ c.if-is_some.false)
