use Rattle.std.proofs.Common.{arith, sym}
use Rattle.c_rules.specs.Rules.{choice}
use Rattle.c_rules.proofs.Noted.{none_found}
use Rattle.c_rules.proofs.rules.choice.Goals as goal

pub returns-then-len-before-clause-found : goal.returns-then-len-before-clause-found
unfolding choice
returns-then-len-before-clause-found c = rw (sym c.get.ensures, sym c.get-2.ensures, sym c.get-3.ensures) (none_found c.args.breaches.now.items c.note_choice.new.breaches.items _ _ c.in_ok-note_choice.ensures (omega (arith, c.len-before.ensures, c.len.ensures)))
