use Rattle.std.proofs.Common.{reverse, ap, sym, ◌∙◌}
use Rattle.rank_machine.specs.Placing.{Standing}
use Rattle.rank_machine.specs.Running.{again_of, state_of}
use Rattle.rank_machine.specs.State.{laid_of}
use Rattle.rank_machine.proofs.Regained.{state_back}
use Rattle.rank_machine.proofs.machine.Machine.finish_restart.Goals as goal

pub returns-clause-back : goal.returns-clause-back
returns-clause-back c =
    let run = c.finish_restart.new.self in
    let sites = c.requires.state.sites ∙ sym (ap (λ (p : Standing). reverse p.placing.machine.sites) c.self.view_is) in
    state_back c.requires.state.code c.args.state.now (state_of run) (laid_of run.parts) (again_of c.self.inside.running) c.requires.state.formed sites c.in_ok-finish_restart.ensures.machine c.in_ok-finish_restart.ensures.laid
