use Rattle.std.proofs.Common.{◌≡◌, ◌⊎◌, inl, inr, ⊎_elim, ◌+◌, ℕ, List, sym, ap, subst, ◌∙◌, arith, Some}
use Rattle.disk_model.specs.Disk.{View}
use Rattle.disk_model.specs.Runs.{LeavesOnly}
use Rattle.line_store.specs.Reading.{line_of, ranks_of, Reading}
use Rattle.line_store.specs.Store.{ReadsAsLeftOr}
use Rattle.line_store.proofs.Standings.{complete-saved, complete-reading, committed-safe, committed-held}
use Rattle.line_store.proofs.line.commit.Goals as goal

-- the two lines
lines_at : (old new : View) (l line : ℕ) → line_of (old.seen 2) ≡ l → line ≡ l + 1 → ((b : List ℕ) → new.may_leave 2 b → (line_of b ≡ line_of (old.seen 2)) ⊎ (line_of b ≡ line)) → (b : List ℕ) → new.may_leave 2 b → (line_of b ≡ l) ⊎ (line_of b ≡ l + 1)
lines_at old new l line at next lines b left = ⊎_elim (λ stays. inl (stays ∙ at)) (λ goes. inr (goes ∙ next)) (lines b left)

pub open_line-requires-clause-ranks : goal.open_line-requires-clause-ranks
open_line-requires-clause-ranks g c told =
    let met = c.requires.complete told in
    let is = g.met.D.Disk.lawful c.args.disk.now told in
    omega (arith, met.2.files, is.same_files, ap ranks_of met.2.safe.job)

pub open_line-requires-clause-settled : goal.open_line-requires-clause-settled
open_line-requires-clause-settled g c told = (c.requires.complete told).2.settled

pub open_line-requires-clause-next : goal.open_line-requires-clause-next
open_line-requires-clause-next g c told =
    let met = c.requires.complete told in
    met.4 ∙ ap (λ l. l + 1) (sym met.2.line)

pub open_line-requires-clause-saved : goal.open_line-requires-clause-saved
open_line-requires-clause-saved g c told =
    let met = c.requires.complete told in
    complete-saved met.0 met.1 (g.D.Disk.view c.args.disk.now) met.2 met.3 c.args.line met.4

pub returns-in_err-open_line-clause-makes : goal.returns-in_err-open_line-clause-makes
returns-in_err-open_line-clause-makes g c told text s held complete next =
    let old = g.D.Disk.view c.args.disk.now in
    let new = g.D.Disk.view c.open_line.new.disk in
    let is = g.met.D.Disk.lawful c.args.disk.now told in
    record {
      run = subst (λ (r : Reading). LeavesOnly old new (ReadsAsLeftOr old (Some r))) (complete-reading text s old held complete is c.args.line next) (c.open_line.ensures.any_moment told);
      safe = committed-safe text s old held complete is new (record { others = c.open_line.ensures.others told; others_left = c.open_line.ensures.others_left told }) (lines_at old new s.line c.args.line held.line next (c.open_line.ensures.lines told));
    }

pub returns-clause-makes : goal.returns-clause-makes
returns-clause-makes g c told text s held complete next =
    let old = g.D.Disk.view c.args.disk.now in
    let new = g.D.Disk.view c.open_line.new.disk in
    let is = g.met.D.Disk.lawful c.args.disk.now told in
    record {
      run = subst (λ (r : Reading). LeavesOnly old new (ReadsAsLeftOr old (Some r))) (complete-reading text s old held complete is c.args.line next) (c.open_line.ensures.any_moment told);
      safe = committed-safe text s old held complete is new (record { others = c.open_line.ensures.others told; others_left = c.open_line.ensures.others_left told }) (lines_at old new s.line c.args.line held.line next (c.open_line.ensures.lines told));
    }

pub returns-clause-held : goal.returns-clause-held
returns-clause-held g c told text s held complete next =
    let old = g.D.Disk.view c.args.disk.now in
    let new = g.D.Disk.view c.open_line.new.disk in
    let is = g.met.D.Disk.lawful c.args.disk.now told in
    committed-held text s old held complete is new (c.open_line.ensures.any_moment told).files (record { others = c.open_line.ensures.others told; others_left = c.open_line.ensures.others_left told })
    (lines_at old new s.line c.args.line held.line next (c.open_line.ensures.lines told)) (c.in_ok-open_line.ensures.settled told) (c.in_ok-open_line.ensures.line told ∙ next)
