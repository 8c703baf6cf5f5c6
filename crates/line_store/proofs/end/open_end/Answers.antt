use Rattle.line_store.proofs.Finishing.{end-wrote, end-synced, end-reads}
use Rattle.line_store.proofs.end.open_end.Goals as goal

pub returns-in_err-write-clause-makes : goal.returns-in_err-write-clause-makes
returns-in_err-write-clause-makes g c told text ranks s ends ready =
    end-wrote text ranks s ends (g.D.Disk.view c.args.disk.now) (g.met.D.Disk.lawful c.args.disk.now told) ready (g.D.Disk.view c.write.new.self) (c.write.ensures.steps told)

pub returns-in_err-sync-clause-makes : goal.returns-in_err-sync-clause-makes
returns-in_err-sync-clause-makes g c told text ranks s ends ready =
    end-synced text ranks s ends (g.D.Disk.view c.args.disk.now) (g.met.D.Disk.lawful c.args.disk.now told) ready (g.D.Disk.view c.write.new.self) (c.write.ensures.steps told) (g.D.Disk.view c.sync.new.self) (c.sync.ensures.steps told)

pub returns-clause-makes : goal.returns-clause-makes
returns-clause-makes g c told text ranks s ends ready =
    end-synced text ranks s ends (g.D.Disk.view c.args.disk.now) (g.met.D.Disk.lawful c.args.disk.now told) ready (g.D.Disk.view c.write.new.self) (c.write.ensures.steps told) (g.D.Disk.view c.sync.new.self) (c.sync.ensures.steps told)

pub returns-clause-ended : goal.returns-clause-ended
returns-clause-ended g c told text ranks s ends ready =
    end-reads text ranks s ends (g.D.Disk.view c.args.disk.now) (g.met.D.Disk.lawful c.args.disk.now told) ready (g.D.Disk.view c.write.new.self) (c.write.ensures.steps told) (c.in_ok-write.ensures.written told) (g.D.Disk.view c.sync.new.self) (c.sync.ensures.steps told)
