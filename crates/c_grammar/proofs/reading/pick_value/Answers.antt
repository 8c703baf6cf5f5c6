use Rattle.c_grammar.specs.Grammar.{All}
use Rattle.c_grammar.proofs.Steps.{r_same}
use Rattle.c_grammar.proofs.Words.{value_none, value_some, first_has}
use Rattle.c_grammar.proofs.reading.pick_value.Goals as goal

pub returns-in-None-clause-reads : goal.returns-in-None-clause-reads
returns-in-None-clause-reads g c kind worth cs h = c.refusal.ensures All cs (value_none kind worth cs c.args.tokens.now c.args.found c.in-None.is h)

pub returns-in-Ok-clause-reads : goal.returns-in-Ok-clause-reads
returns-in-Ok-clause-reads g c kind worth cs h =
    let p = value_some kind worth cs c.args.tokens.now c.args.found c.in-Some.what c.in-Some.is h in
    r_same (c.in-Ok.ensures.reads All cs p.0) (first_has (kind c.in-Some.what) (worth c.in-Some.what) c.args.tokens.now c.in-Ok.token.now p.1 c.in-Ok.ensures.first)

pub returns-in-Err-clause-reads : goal.returns-in-Err-clause-reads
returns-in-Err-clause-reads g c kind worth cs h =
    let p = value_some kind worth cs c.args.tokens.now c.args.found c.in-Some.what c.in-Some.is h in
    c.in-Err.ensures.reads All cs p.0
