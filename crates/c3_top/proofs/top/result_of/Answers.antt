use Rattle.std.proofs.Common.{length, subst, sym, ◌≤◌}
use Rattle.c3_top.proofs.InputParts.{schedule_fits}
use Rattle.c3_top.proofs.top.result_of.Goals as goal

pub read_schedule-requires : goal.read_schedule-requires
read_schedule-requires c = subst (λ l. length l ≤ 1048576) (sym c.split-parts.ensures.schedule) (schedule_fits c.args.input.now c.requires.short)
