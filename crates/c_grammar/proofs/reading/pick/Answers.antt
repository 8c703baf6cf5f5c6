use Rattle.std.proofs.Common.{refl, ap}
use Rattle.c_tree.specs.declared.token.Class.{Class}
use Rattle.c_tree.specs.declared.token.Value.TheVariants as value
use Rattle.c_grammar.specs.Grammar.{Place}
use Rattle.c_grammar.specs.Meaning.{leaf, none}
use Rattle.c_grammar.specs.Descent.{word_bad}
use Rattle.c_grammar.proofs.Steps.{r_same}
use Rattle.c_grammar.proofs.Words.{found_none, found_some, first_is}
use Rattle.c_grammar.proofs.reading.pick.Goals as goal

pub returns-in-None-clause-reads : goal.returns-in-None-clause-reads
returns-in-None-clause-reads g c kind cs h = (c.args.tokens.now, refl, word_bad c.args.level Place cs c.args.tokens.now (found_none kind cs c.args.tokens.now c.args.found c.in-None.is h))

pub returns-in-Ok-clause-reads : goal.returns-in-Ok-clause-reads
returns-in-Ok-clause-reads g c kind cs h =
    let p = found_some kind cs c.args.tokens.now c.args.found c.in-Some.what c.in-Some.is h in
    r_same (c.in-Ok.ensures.reads Place cs p.0) (ap (λ (w : Class). leaf w value.Nothing c.in-Ok.token.now.place none) (first_is (kind c.in-Some.what) c.args.tokens.now c.in-Ok.token.now p.1 c.in-Ok.ensures.first))

pub returns-in-Err-clause-reads : goal.returns-in-Err-clause-reads
returns-in-Err-clause-reads g c kind cs h =
    let p = found_some kind cs c.args.tokens.now c.args.found c.in-Some.what c.in-Some.is h in
    c.in-Err.ensures.reads Place cs p.0
