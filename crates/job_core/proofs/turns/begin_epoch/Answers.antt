use Rattle.core_laws.specs.Protocol.{move_save}
use Rattle.job_core.proofs.turns.begin_epoch.Goals as goal

pub save-requires : goal.save-requires
save-requires c = (c.requires.0, c.requires.1, c.requires.2, c.requires.3, (c.requires.4.0, c.requires.4.1.line))

pub ready-requires : goal.ready-requires
ready-requires c = (c.requires.0, move_save c.requires.1 c.args.rank, c.requires.2, c.in_ok-save.ensures c.requires.0 c.requires.1 c.requires.2 c.requires.3 c.requires.4.0 c.requires.4.1.empty, c.requires.4.0)

pub returns : goal.returns
returns c n p logs h b empty = c.ready.ensures n (move_save p c.args.rank) logs (c.in_ok-save.ensures n p logs h b empty) b
