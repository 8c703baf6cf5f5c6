use Rattle.std.proofs.Common.{Some, ◌∙◌}
use Rattle.line_store.specs.Held.{reading_of, ended_with}
use Rattle.line_store.proofs.Holding.{quiet-then}
use Rattle.line_store.proofs.Standings.{keeps-held, keeps-quiet}
use Rattle.line_store.proofs.Finishing.{codes-quiet, quiet-makes, quiet-then-makes, end-ready}
use Rattle.line_store.proofs.end.put_ends.Goals as goal

pub returns-in_err-sync_outputs-clause-makes : goal.returns-in_err-sync_outputs-clause-makes
returns-in_err-sync_outputs-clause-makes g c told text s held count =
    let old = g.D.Disk.view c.args.disk.now in
    let mid = g.D.Disk.view c.sync_outputs.new.disk in
    let keeps = keeps-quiet text old mid held.safe (c.sync_outputs.ensures.keeps told) in
    quiet-makes text (reading_of text s (Some (ended_with c.args.ranks s c.args.ends.now))) old mid keeps

pub returns-in_err-replace-clause-makes : goal.returns-in_err-replace-clause-makes
returns-in_err-replace-clause-makes g c told text s held count =
    let old = g.D.Disk.view c.args.disk.now in
    let mid = g.D.Disk.view c.sync_outputs.new.disk in
    let keeps = keeps-quiet text old mid held.safe (c.sync_outputs.ensures.keeps told) in
    let put = g.D.Disk.view c.replace.new.disk in
    let held2 = keeps-held text s old mid held (c.sync_outputs.ensures.keeps told) in
    let codes = quiet-then text old mid put (g.met.D.Disk.lawful c.sync_outputs.new.disk told) keeps (codes-quiet text s mid put held2 (c.replace.ensures.touches told)) in
    quiet-makes text (reading_of text s (Some (ended_with c.args.ranks s c.args.ends.now))) old put codes

pub returns-in_err-open_end-clause-makes : goal.returns-in_err-open_end-clause-makes
returns-in_err-open_end-clause-makes g c told text s held count =
    let old = g.D.Disk.view c.args.disk.now in
    let mid = g.D.Disk.view c.sync_outputs.new.disk in
    let keeps = keeps-quiet text old mid held.safe (c.sync_outputs.ensures.keeps told) in
    let put = g.D.Disk.view c.replace.new.disk in
    let held2 = keeps-held text s old mid held (c.sync_outputs.ensures.keeps told) in
    let codes = quiet-then text old mid put (g.met.D.Disk.lawful c.sync_outputs.new.disk told) keeps (codes-quiet text s mid put held2 (c.replace.ensures.touches told)) in
    let ready = end-ready text c.args.ranks s c.args.ends.now old mid put count held2 (c.in_ok-sync_outputs.ensures.stable told) (c.replace.ensures.touches told) (c.in_ok-replace.ensures.written told) (c.in_ok-replace.ensures.durable told) in
    quiet-then-makes text (reading_of text s (Some (ended_with c.args.ranks s c.args.ends.now))) old put (g.D.Disk.view c.open_end.new.disk) (g.met.D.Disk.lawful c.replace.new.disk told) codes (c.open_end.ensures.makes told text c.args.ranks s c.args.ends.now ready)

pub returns-clause-makes : goal.returns-clause-makes
returns-clause-makes g c told text s held count =
    let old = g.D.Disk.view c.args.disk.now in
    let mid = g.D.Disk.view c.sync_outputs.new.disk in
    let keeps = keeps-quiet text old mid held.safe (c.sync_outputs.ensures.keeps told) in
    let put = g.D.Disk.view c.replace.new.disk in
    let held2 = keeps-held text s old mid held (c.sync_outputs.ensures.keeps told) in
    let codes = quiet-then text old mid put (g.met.D.Disk.lawful c.sync_outputs.new.disk told) keeps (codes-quiet text s mid put held2 (c.replace.ensures.touches told)) in
    let ready = end-ready text c.args.ranks s c.args.ends.now old mid put count held2 (c.in_ok-sync_outputs.ensures.stable told) (c.replace.ensures.touches told) (c.in_ok-replace.ensures.written told) (c.in_ok-replace.ensures.durable told) in
    quiet-then-makes text (reading_of text s (Some (ended_with c.args.ranks s c.args.ends.now))) old put (g.D.Disk.view c.open_end.new.disk) (g.met.D.Disk.lawful c.replace.new.disk told) codes (c.open_end.ensures.makes told text c.args.ranks s c.args.ends.now ready)

pub returns-clause-ended : goal.returns-clause-ended
returns-clause-ended g c told text s held count =
    let old = g.D.Disk.view c.args.disk.now in
    let mid = g.D.Disk.view c.sync_outputs.new.disk in
    let keeps = keeps-quiet text old mid held.safe (c.sync_outputs.ensures.keeps told) in
    let put = g.D.Disk.view c.replace.new.disk in
    let held2 = keeps-held text s old mid held (c.sync_outputs.ensures.keeps told) in
    let codes = quiet-then text old mid put (g.met.D.Disk.lawful c.sync_outputs.new.disk told) keeps (codes-quiet text s mid put held2 (c.replace.ensures.touches told)) in
    let ready = end-ready text c.args.ranks s c.args.ends.now old mid put count held2 (c.in_ok-sync_outputs.ensures.stable told) (c.replace.ensures.touches told) (c.in_ok-replace.ensures.written told) (c.in_ok-replace.ensures.durable told) in
    c.in_ok-open_end.ensures.ended told text c.args.ranks s c.args.ends.now ready

pub returns-in_err-sync_outputs-clause-others : goal.returns-in_err-sync_outputs-clause-others
returns-in_err-sync_outputs-clause-others g c told file codes end = (c.sync_outputs.ensures.keeps told).seen file

pub returns-in_err-replace-clause-others : goal.returns-in_err-replace-clause-others
returns-in_err-replace-clause-others g c told file codes end = (c.replace.ensures.touches told).others file codes ∙ (c.sync_outputs.ensures.keeps told).seen file

pub returns-in_err-open_end-clause-others : goal.returns-in_err-open_end-clause-others
returns-in_err-open_end-clause-others g c told file codes end = c.open_end.ensures.others told file end ∙ (c.replace.ensures.touches told).others file codes ∙ (c.sync_outputs.ensures.keeps told).seen file

pub returns-clause-others : goal.returns-clause-others
returns-clause-others g c told file codes end = c.open_end.ensures.others told file end ∙ (c.replace.ensures.touches told).others file codes ∙ (c.sync_outputs.ensures.keeps told).seen file
