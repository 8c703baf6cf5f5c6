use Rattle.c_grammar.specs.Descent.{Bad, Unfit}
use Rattle.c_grammar.specs.Meaning.{TooDeep, TooLarge}
use Rattle.c_parse.proofs.Outcomes.{stops_within, syntax, too_deep, too_large}
use Rattle.c_parse.proofs.fault.first_fault.Goals as goal

pub place_at-requires-clause-within : goal.place_at-requires-clause-within
place_at-requires-clause-within c = stops_within Bad _ _ (rw c.in-Syntax.is at c.requires.stops)

pub place_at-requires-in-TooDeep-clause-within : goal.place_at-requires-in-TooDeep-clause-within
place_at-requires-in-TooDeep-clause-within c = stops_within (Unfit TooDeep) _ _ (rw c.in-TooDeep.is at c.requires.stops)

pub place_at-requires-in-TooLarge-clause-within : goal.place_at-requires-in-TooLarge-clause-within
place_at-requires-in-TooLarge-clause-within c = stops_within (Unfit TooLarge) _ _ (rw c.in-TooLarge.is at c.requires.stops)

pub returns-in-Syntax : goal.returns-in-Syntax
returns-in-Syntax c = syntax c.args.text.now c.args.tokens.now c.in-Syntax.left _ c.requires.short c.requires.scanned (rw c.in-Syntax.is at c.requires.stops) c.place_at.ensures

pub returns-in-TooDeep : goal.returns-in-TooDeep
returns-in-TooDeep c = too_deep c.args.text.now c.args.tokens.now c.in-TooDeep.left _ c.requires.short c.requires.scanned (rw c.in-TooDeep.is at c.requires.stops) c.place_at-in-TooDeep.ensures

pub returns-in-TooLarge : goal.returns-in-TooLarge
returns-in-TooLarge c = too_large c.args.text.now c.args.tokens.now c.in-TooLarge.left _ c.requires.short c.requires.scanned (rw c.in-TooLarge.is at c.requires.stops) c.place_at-in-TooLarge.ensures
