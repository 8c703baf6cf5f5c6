use Rattle.c3_top.proofs.program.program.Goals as goal

pub returns-in-Err-clause-verdict : goal.returns-in-Err-clause-verdict
returns-in-Err-clause-verdict c = c.unparsed.ensures c.args.text.now c.in-Err.ensures.right
