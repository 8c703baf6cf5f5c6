use Rattle.turn_bounds.proofs.Restarted.{reenter_kept, back_settled}
use Rattle.turn_bounds.proofs.law.restarts.Goals as goal

pub returns-clause-reenter : goal.returns-clause-reenter
returns-clause-reenter c functions p q left more s e h = reenter_kept functions p q left more s e h

pub returns-clause-back : goal.returns-clause-back
returns-clause-back c functions code p q left state s f e b = back_settled functions code p q left state s f e b
