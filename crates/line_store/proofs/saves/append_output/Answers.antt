use Rattle.std.proofs.Common.{◌≡◌, ◌+◌, ◌*◌, ◌++◌, length, List, ℕ, ap, subst, arith}
use Rattle.line_store.specs.Store.{StaysTo}
use Rattle.disk_model.specs.Disk.{View}
use Rattle.disk_model.specs.Runs.{Touches}
use Rattle.line_store.specs.Reading.{output_file}
use Rattle.line_store.proofs.Holding.{spared-at, appended-quiet, appended-held}
use Rattle.line_store.proofs.Standings.{rank-settled}
use Rattle.line_store.proofs.saves.append_output.Goals as goal

-- the calls' file is the rank's
at_file : (old new : View) (f rank : ℕ) → f ≡ output_file rank → Touches f (StaysTo (length (old.seen f))) old new → Touches (output_file rank) (StaysTo (length (old.seen (output_file rank)))) old new
at_file old new f rank same touches = subst (λ g. Touches g (StaysTo (length (old.seen g))) old new) same touches

written_at : (old new : View) (f rank : ℕ) (bytes : List ℕ) → f ≡ output_file rank → new.seen f ≡ old.seen f ++ bytes → new.seen (output_file rank) ≡ old.seen (output_file rank) ++ bytes
written_at old new f rank bytes same written = subst (λ g. new.seen g ≡ old.seen g ++ bytes) same written

pub returns-in_err-extend-clause-quiet : goal.returns-in_err-extend-clause-quiet
returns-in_err-extend-clause-quiet g c told text s held lt =
    let is = g.met.D.Disk.lawful c.args.disk.now told in
    appended-quiet text s c.args.rank (g.D.Disk.view c.args.disk.now) (g.D.Disk.view c.extend.new.disk) is held
    (at_file (g.D.Disk.view c.args.disk.now) (g.D.Disk.view c.extend.new.disk) (5 + 5 * c.from.result) c.args.rank (ap (λ n. 5 + 5 * n) c.from.ensures) (c.extend.ensures.touches told))

pub returns-clause-quiet : goal.returns-clause-quiet
returns-clause-quiet g c told text s held lt =
    let is = g.met.D.Disk.lawful c.args.disk.now told in
    appended-quiet text s c.args.rank (g.D.Disk.view c.args.disk.now) (g.D.Disk.view c.extend.new.disk) is held
    (at_file (g.D.Disk.view c.args.disk.now) (g.D.Disk.view c.extend.new.disk) (5 + 5 * c.from.result) c.args.rank (ap (λ n. 5 + 5 * n) c.from.ensures) (c.extend.ensures.touches told))

pub returns-clause-held : goal.returns-clause-held
returns-clause-held g c told text s held lt =
    let is = g.met.D.Disk.lawful c.args.disk.now told in
    let same : 5 + 5 * c.from.result ≡ output_file c.args.rank = ap (λ n. 5 + 5 * n) c.from.ensures in
    appended-held text s c.args.rank (g.D.Disk.view c.args.disk.now) (g.D.Disk.view c.extend.new.disk) is held
    (at_file (g.D.Disk.view c.args.disk.now) (g.D.Disk.view c.extend.new.disk) (5 + 5 * c.from.result) c.args.rank same (c.extend.ensures.touches told))
    c.args.bytes.now lt (written_at (g.D.Disk.view c.args.disk.now) (g.D.Disk.view c.extend.new.disk) (5 + 5 * c.from.result) c.args.rank c.args.bytes.now same (c.in_ok-extend.ensures.written told))

pub returns-in_err-extend-clause-settled : goal.returns-in_err-extend-clause-settled
returns-in_err-extend-clause-settled g c told = rank-settled (5 + 5 * c.from.result) (StaysTo (length ((g.D.Disk.view c.args.disk.now).seen (5 + 5 * c.from.result)))) (g.D.Disk.view c.args.disk.now) (g.D.Disk.view c.extend.new.disk) (omega arith) (c.extend.ensures.touches told)

pub returns-clause-settled : goal.returns-clause-settled
returns-clause-settled g c told = rank-settled (5 + 5 * c.from.result) (StaysTo (length ((g.D.Disk.view c.args.disk.now).seen (5 + 5 * c.from.result)))) (g.D.Disk.view c.args.disk.now) (g.D.Disk.view c.extend.new.disk) (omega arith) (c.extend.ensures.touches told)

pub returns-in_err-extend-clause-others : goal.returns-in_err-extend-clause-others
returns-in_err-extend-clause-others g c told = spared-at (5 + 5 * c.from.result) (output_file c.args.rank) (StaysTo (length ((g.D.Disk.view c.args.disk.now).seen (5 + 5 * c.from.result)))) (g.D.Disk.view c.args.disk.now) (g.D.Disk.view c.extend.new.disk) (ap (λ n. 5 + 5 * n) c.from.ensures) (c.extend.ensures.touches told)

pub returns-clause-others : goal.returns-clause-others
returns-clause-others g c told = spared-at (5 + 5 * c.from.result) (output_file c.args.rank) (StaysTo (length ((g.D.Disk.view c.args.disk.now).seen (5 + 5 * c.from.result)))) (g.D.Disk.view c.args.disk.now) (g.D.Disk.view c.extend.new.disk) (ap (λ n. 5 + 5 * n) c.from.ensures) (c.extend.ensures.touches told)
