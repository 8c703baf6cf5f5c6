use Rattle.turn_bounds.proofs.Solid.{has_cells}
use Rattle.turn_bounds.proofs.PassedFits.{spaced}
use Rattle.turn_bounds.proofs.Takes.{turn_taken, step_kept, answer_kept}
use Rattle.turn_bounds.proofs.law.serials.Goals as goal

pub returns-clause-code : goal.returns-clause-code
returns-clause-code c p = spaced p

pub returns-clause-cells : goal.returns-clause-cells
returns-clause-cells c p r o = has_cells p r o

pub returns-clause-step : goal.returns-clause-step
returns-clause-step c functions p spaced cells s = step_kept functions spaced cells p s

pub returns-clause-answer : goal.returns-clause-answer
returns-clause-answer c functions p q reply began s e h = answer_kept functions p q reply began s e h

pub returns-clause-turn : goal.returns-clause-turn
returns-clause-turn c functions limit p a spaced cells s t = turn_taken functions spaced cells limit p a s t
