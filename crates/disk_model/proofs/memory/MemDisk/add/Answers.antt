use Rattle.disk_model.proofs.Kept.{after-call}
use Rattle.disk_model.proofs.memory.MemDisk.add.Goals as goal

pub invariant_of-self : goal.invariant_of-self
invariant_of-self c =
    let s = c.self.inside in
    let e = c.add.ensures in
    after-call s.calls.items c.add.new.calls.items s.files.items c.add.new.files.items c.self.invariant c.args.file c.args.call c.requires.on c.add.result e.calls e.files e.calls_err e.files_err
