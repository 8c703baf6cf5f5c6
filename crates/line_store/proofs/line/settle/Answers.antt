use Rattle.std.proofs.Common.{sym, ◌∙◌, arith}
use Rattle.line_store.proofs.Standings.{settling-safe, settled-held}
use Rattle.line_store.proofs.line.settle.Goals as goal

pub returns-in_err-line-clause-quiet : goal.returns-in_err-line-clause-quiet
returns-in_err-line-clause-quiet g c told text safe = record {
  run = c.settle_files.ensures.any_moment told;
  safe = settling-safe text (g.D.Disk.view c.args.disk.now) (g.D.Disk.view c.settle_files.new.disk) safe (record { others = c.settle_files.ensures.others told; others_left = c.settle_files.ensures.others_left told }) (c.settle_files.ensures.lines told);
}

pub returns-clause-quiet : goal.returns-clause-quiet
returns-clause-quiet g c told text safe = record {
  run = c.settle_files.ensures.any_moment told;
  safe = settling-safe text (g.D.Disk.view c.args.disk.now) (g.D.Disk.view c.settle_files.new.disk) safe (record { others = c.settle_files.ensures.others told; others_left = c.settle_files.ensures.others_left told }) (c.settle_files.ensures.lines told);
}

pub returns-clause-held : goal.returns-clause-held
returns-clause-held g c told text safe files =
    let is = g.met.D.Disk.lawful c.args.disk.now told in
    settled-held text (g.D.Disk.view c.settle_files.new.disk) (omega (arith, files, is.same_files, (c.settle_files.ensures.any_moment told).files))
    (settling-safe text (g.D.Disk.view c.args.disk.now) (g.D.Disk.view c.settle_files.new.disk) safe (record { others = c.settle_files.ensures.others told; others_left = c.settle_files.ensures.others_left told }) (c.settle_files.ensures.lines told))
    (c.in_ok-line.ensures.settled told)

pub returns-clause-line : goal.returns-clause-line
returns-clause-line g c told = c.in_ok-line.ensures.line told ∙ sym (c.in_ok-line.ensures.same_line told)
