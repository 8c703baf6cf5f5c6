use Rattle.std.proofs.Common.{sym, subst, arith}
use Rattle.disk_model.specs.Disk.{IsView}
use Rattle.line_store.proofs.Lines.{leading-length}
use Rattle.line_store.proofs.Committing.{wrote, synced, committed-settled, committed-lines}
use Rattle.disk_model.proofs.Moments.{kept_left}
use Rattle.line_store.proofs.line.open_line.Goals as goal

pub write-requires-clause-place : goal.write-requires-clause-place
write-requires-clause-place g c told = omega (arith, c.from.ensures, c.requires.next told, leading-length ((g.D.Disk.view c.args.disk.now).seen 2))

pub returns-in_err-write-clause-any_moment : goal.returns-in_err-write-clause-any_moment
returns-in_err-write-clause-any_moment g c told =
    let is_view = g.met.D.Disk.lawful c.args.disk.now told in
    let here = subst (λ n. IsView n (g.D.Disk.view c.args.disk.now)) (sym is_view.same_files) is_view in
    wrote (g.D.Disk.view c.args.disk.now) (g.D.Disk.view c.write.new.self) c.args.line here (omega (arith, is_view.same_files, c.requires.files)) (omega (arith, is_view.same_files, c.requires.ranks told))
    (c.requires.settled told) (c.requires.next told) (c.requires.saved told) c.from.result (omega (arith, c.from.ensures, c.requires.next told)) c.ranges.line.fits (c.write.ensures.steps told)

pub returns-in_err-sync-clause-any_moment : goal.returns-in_err-sync-clause-any_moment
returns-in_err-sync-clause-any_moment g c told =
    let is_view = g.met.D.Disk.lawful c.args.disk.now told in
    let here = subst (λ n. IsView n (g.D.Disk.view c.args.disk.now)) (sym is_view.same_files) is_view in
    synced (g.D.Disk.view c.args.disk.now) (g.D.Disk.view c.write.new.self) c.args.line here (omega (arith, is_view.same_files, c.requires.files)) (omega (arith, is_view.same_files, c.requires.ranks told))
    (c.requires.settled told) (c.requires.next told) (c.requires.saved told) c.from.result (omega (arith, c.from.ensures, c.requires.next told)) c.ranges.line.fits (c.write.ensures.steps told)
    (g.D.Disk.view c.sync.new.self) (c.sync.ensures.steps told)

pub returns-clause-any_moment : goal.returns-clause-any_moment
returns-clause-any_moment g c told =
    let is_view = g.met.D.Disk.lawful c.args.disk.now told in
    let here = subst (λ n. IsView n (g.D.Disk.view c.args.disk.now)) (sym is_view.same_files) is_view in
    synced (g.D.Disk.view c.args.disk.now) (g.D.Disk.view c.write.new.self) c.args.line here (omega (arith, is_view.same_files, c.requires.files)) (omega (arith, is_view.same_files, c.requires.ranks told))
    (c.requires.settled told) (c.requires.next told) (c.requires.saved told) c.from.result (omega (arith, c.from.ensures, c.requires.next told)) c.ranges.line.fits (c.write.ensures.steps told)
    (g.D.Disk.view c.sync.new.self) (c.sync.ensures.steps told)

pub returns-clause-settled : goal.returns-clause-settled
returns-clause-settled g c told =
    let is_view = g.met.D.Disk.lawful c.args.disk.now told in
    let here = subst (λ n. IsView n (g.D.Disk.view c.args.disk.now)) (sym is_view.same_files) is_view in
    (committed-settled (g.D.Disk.view c.args.disk.now) (g.D.Disk.view c.write.new.self) c.args.line here (omega (arith, is_view.same_files, c.requires.files)) (omega (arith, is_view.same_files, c.requires.ranks told))
    (c.requires.settled told) (c.requires.next told) (c.requires.saved told) c.from.result (omega (arith, c.from.ensures, c.requires.next told)) c.ranges.line.fits (c.write.ensures.steps told)
    (c.in_ok-write.ensures.written told) (g.D.Disk.view c.sync.new.self) (c.sync.ensures.steps told) (c.in_ok-sync.ensures.durable told)).0

pub returns-clause-line : goal.returns-clause-line
returns-clause-line g c told =
    let is_view = g.met.D.Disk.lawful c.args.disk.now told in
    let here = subst (λ n. IsView n (g.D.Disk.view c.args.disk.now)) (sym is_view.same_files) is_view in
    (committed-settled (g.D.Disk.view c.args.disk.now) (g.D.Disk.view c.write.new.self) c.args.line here (omega (arith, is_view.same_files, c.requires.files)) (omega (arith, is_view.same_files, c.requires.ranks told))
    (c.requires.settled told) (c.requires.next told) (c.requires.saved told) c.from.result (omega (arith, c.from.ensures, c.requires.next told)) c.ranges.line.fits (c.write.ensures.steps told)
    (c.in_ok-write.ensures.written told) (g.D.Disk.view c.sync.new.self) (c.sync.ensures.steps told) (c.in_ok-sync.ensures.durable told)).1

pub returns-in_err-write-clause-lines : goal.returns-in_err-write-clause-lines
returns-in_err-write-clause-lines g c told b left =
    let is_view = g.met.D.Disk.lawful c.args.disk.now told in
    let here = subst (λ n. IsView n (g.D.Disk.view c.args.disk.now)) (sym is_view.same_files) is_view in
    committed-lines (g.D.Disk.view c.args.disk.now) (g.D.Disk.view c.write.new.self) c.args.line here (omega (arith, is_view.same_files, c.requires.files)) (omega (arith, is_view.same_files, c.requires.ranks told))
    (c.requires.settled told) (c.requires.next told) (c.requires.saved told) c.from.result (omega (arith, c.from.ensures, c.requires.next told)) c.ranges.line.fits (c.write.ensures.steps told) b left

pub returns-in_err-sync-clause-lines : goal.returns-in_err-sync-clause-lines
returns-in_err-sync-clause-lines g c told b left =
    let is_view = g.met.D.Disk.lawful c.args.disk.now told in
    let here = subst (λ n. IsView n (g.D.Disk.view c.args.disk.now)) (sym is_view.same_files) is_view in
    committed-lines (g.D.Disk.view c.args.disk.now) (g.D.Disk.view c.write.new.self) c.args.line here (omega (arith, is_view.same_files, c.requires.files)) (omega (arith, is_view.same_files, c.requires.ranks told))
    (c.requires.settled told) (c.requires.next told) (c.requires.saved told) c.from.result (omega (arith, c.from.ensures, c.requires.next told)) c.ranges.line.fits (c.write.ensures.steps told) b (kept_left 2 _ _ (c.sync.ensures.steps told) b left)

pub returns-clause-lines : goal.returns-clause-lines
returns-clause-lines g c told b left =
    let is_view = g.met.D.Disk.lawful c.args.disk.now told in
    let here = subst (λ n. IsView n (g.D.Disk.view c.args.disk.now)) (sym is_view.same_files) is_view in
    committed-lines (g.D.Disk.view c.args.disk.now) (g.D.Disk.view c.write.new.self) c.args.line here (omega (arith, is_view.same_files, c.requires.files)) (omega (arith, is_view.same_files, c.requires.ranks told))
    (c.requires.settled told) (c.requires.next told) (c.requires.saved told) c.from.result (omega (arith, c.from.ensures, c.requires.next told)) c.ranges.line.fits (c.write.ensures.steps told) b (kept_left 2 _ _ (c.sync.ensures.steps told) b left)
