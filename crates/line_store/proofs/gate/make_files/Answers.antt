use Rattle.disk_model.proofs.Moments.{and_then}
use Rattle.line_store.specs.Store.{IsClosedOr}
use Rattle.line_store.proofs.Making.{shut-first}
use Rattle.line_store.proofs.gate.make_files.Goals as goal

pub returns-in_err-prepare-clause-any_moment : goal.returns-in_err-prepare-clause-any_moment
returns-in_err-prepare-clause-any_moment g c told shut = shut-first c.args.text.now (g.D.Disk.view c.args.disk.now) (g.D.Disk.view c.prepare.new.disk) (c.prepare.ensures.stays told shut)

pub returns-in_err-open_gate-clause-any_moment : goal.returns-in_err-open_gate-clause-any_moment
returns-in_err-open_gate-clause-any_moment g c told shut =
    let stays = c.prepare.ensures.stays told shut in
    and_then (g.D.Disk.view c.args.disk.now) (g.D.Disk.view c.prepare.new.disk) (g.D.Disk.view c.open_gate.new.disk) (IsClosedOr c.args.text.now)
    (shut-first c.args.text.now (g.D.Disk.view c.args.disk.now) (g.D.Disk.view c.prepare.new.disk) stays)
    (c.open_gate.ensures.any_moment told c.args.ranks c.args.text.now stays.shut (c.in_ok-prepare.ensures.ready told))

pub returns-clause-any_moment : goal.returns-clause-any_moment
returns-clause-any_moment g c told shut =
    let stays = c.prepare.ensures.stays told shut in
    and_then (g.D.Disk.view c.args.disk.now) (g.D.Disk.view c.prepare.new.disk) (g.D.Disk.view c.open_gate.new.disk) (IsClosedOr c.args.text.now)
    (shut-first c.args.text.now (g.D.Disk.view c.args.disk.now) (g.D.Disk.view c.prepare.new.disk) stays)
    (c.open_gate.ensures.any_moment told c.args.ranks c.args.text.now stays.shut (c.in_ok-prepare.ensures.ready told))

pub returns-clause-made : goal.returns-clause-made
returns-clause-made g c told = c.in_ok-open_gate.ensures.made told c.args.ranks c.args.text.now (c.in_ok-prepare.ensures.ready told)
