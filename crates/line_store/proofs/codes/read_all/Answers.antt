use Rattle.std.proofs.lemmas.Result.{err_from_is_err_and}
use Rattle.line_store.proofs.Programs.{ends-read, ends-stopped}
use Rattle.line_store.proofs.codes.read_all.Goals as goal

pub returns-in_err-ends-clause-err : goal.returns-in_err-ends-clause-err
returns-in_err-ends-clause-err c =
    let p = err_from_is_err_and c.from_residual-in_err-ends.result c.from_residual-in_err-ends.ensures.1 in
    rw (p.1, p.2) (ends-stopped c.args.ranks c.in_ok-count.count c.args.text.now c.exactly.new.self c.u16.new.self c.read_each.new.text c.in_err-ends.field-0.0 c.in_ok-exactly.ensures c.in_ok-count.ensures c.in_err-ends.ensures.err)

pub returns-clause-ok : goal.returns-clause-ok
returns-clause-ok c = ends-read c.args.ranks c.in_ok-count.count c.args.text.now c.exactly.new.self c.u16.new.self c.read_each.new.text c.in_ok-ends.ends.items c.in_ok-exactly.ensures c.in_ok-count.ensures c.in_ok-ends.ensures.ok
