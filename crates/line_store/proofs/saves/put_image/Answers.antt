use Rattle.std.proofs.Common.{◌≡◌, ◌+◌, ◌*◌, ◌<◌, ◌≤◌, length, List, ℕ, ap, subst, arith, ◌∙◌, sym}
use Rattle.disk_model.specs.Disk.{View, IsStable, IsView}
use Rattle.disk_model.specs.Runs.{Touches, Keeps}
use Rattle.disk_model.proofs.Moments.{keeps_none, keeps_then}
use Rattle.line_store.specs.Reading.{output_file, image_file, line_of, output_of, ranks_of}
use Rattle.line_store.specs.Store.{Anyhow}
use Rattle.line_store.specs.Held.{Standing, with_image, IsHeld, IsQuiet}
use Rattle.line_store.proofs.Frame.{image-unread}
use Rattle.line_store.proofs.Holding.{spared-at, spared-kept, spared-then, unread-quiet, quiet-then, image-held, stable-front}
use Rattle.line_store.proofs.Standings.{keeps-held, keeps-quiet, keeps-settled, rank-settled}
use Rattle.line_store.proofs.saves.put_image.Goals as goal

-- the run up to the sync, and then up to the end
module _ (text : List ℕ) (s : Standing) (rank line : ℕ) (old mid new : View) {n : ℕ} (is : IsView n old) (is_mid : IsView n mid) (keeps : Keeps old mid) (held : IsHeld text old s) (next : line ≡ line_of (old.seen 2) + 1) where
  line_is : line ≡ s.line + 1
  line_is = next ∙ ap (λ l. l + 1) held.line

  pub synced-held : IsHeld text mid s
  synced-held = keeps-held text s old mid held keeps

  at_image : (f : ℕ) → f ≡ image_file rank line → Touches f Anyhow mid new → Touches (image_file rank (s.line + 1)) Anyhow mid new
  at_image f same touches = subst (λ g. Touches g Anyhow mid new) (same ∙ ap (image_file rank) line_is) touches

  pub saved-quiet : (f : ℕ) → f ≡ image_file rank line → Touches f Anyhow mid new → IsQuiet text old new
  saved-quiet f same touches = quiet-then text old mid new is_mid (keeps-quiet text old mid held.safe keeps)
      (unread-quiet text s (image_file rank (s.line + 1)) mid new synced-held (image-unread s.line rank) (at_image f same touches) (omega (arith, synced-held.files)))

  pub saved-held : (f : ℕ) (image : List ℕ) → f ≡ image_file rank line → Touches f Anyhow mid new → new.seen f ≡ image → IsStable new f → IsStable mid (output_file rank) → rank < ranks_of text → output_of image ≤ length (s.outputs rank)
      → IsHeld text new (with_image s rank image)
  saved-held f image same touches seen stable synced lt long =
      let there = same ∙ ap (image_file rank) line_is in
      image-held text s rank image mid new synced-held (at_image f same touches) (subst (λ g. new.seen g ≡ image) there seen) (subst (λ g. IsStable new g) there stable)
      (stable-front mid rank (output_of image) synced (subst (λ (l : List ℕ). output_of image ≤ length l) (sym (synced-held.outputs rank lt)) long))

pub returns-in_err-sync-clause-quiet : goal.returns-in_err-sync-clause-quiet
returns-in_err-sync-clause-quiet g c told text s held =
    let is = g.met.D.Disk.lawful c.args.disk.now told in
    keeps-quiet text (g.D.Disk.view c.args.disk.now) (g.D.Disk.view c.sync.new.self) held.safe (keeps_then (5 + 5 * c.from.result) _ _ _ (keeps_none (g.D.Disk.view c.args.disk.now) is) (c.sync.ensures.steps told))

pub returns-in_err-replace-clause-quiet : goal.returns-in_err-replace-clause-quiet
returns-in_err-replace-clause-quiet g c told text s held =
    let is = g.met.D.Disk.lawful c.args.disk.now told in
    saved-quiet text s c.args.rank c.args.line (g.D.Disk.view c.args.disk.now) (g.D.Disk.view c.sync.new.self) (g.D.Disk.view c.replace.new.disk) is (g.met.D.Disk.lawful c.sync.new.self told)
    (keeps_then (5 + 5 * c.from.result) _ _ _ (keeps_none (g.D.Disk.view c.args.disk.now) is) (c.sync.ensures.steps told)) held (c.requires.next told)
    (6 + 5 * c.from-2.result + c.from-3.result) (omega (arith, c.from-2.ensures, c.from-3.ensures)) (c.replace.ensures.touches told)

pub returns-clause-quiet : goal.returns-clause-quiet
returns-clause-quiet g c told text s held =
    let is = g.met.D.Disk.lawful c.args.disk.now told in
    saved-quiet text s c.args.rank c.args.line (g.D.Disk.view c.args.disk.now) (g.D.Disk.view c.sync.new.self) (g.D.Disk.view c.replace.new.disk) is (g.met.D.Disk.lawful c.sync.new.self told)
    (keeps_then (5 + 5 * c.from.result) _ _ _ (keeps_none (g.D.Disk.view c.args.disk.now) is) (c.sync.ensures.steps told)) held (c.requires.next told)
    (6 + 5 * c.from-2.result + c.from-3.result) (omega (arith, c.from-2.ensures, c.from-3.ensures)) (c.replace.ensures.touches told)

pub returns-clause-held : goal.returns-clause-held
returns-clause-held g c told text s held lt long =
    let is = g.met.D.Disk.lawful c.args.disk.now told in
    let same : 5 + 5 * c.from.result ≡ output_file c.args.rank = ap (λ n. 5 + 5 * n) c.from.ensures in
    saved-held text s c.args.rank c.args.line (g.D.Disk.view c.args.disk.now) (g.D.Disk.view c.sync.new.self) (g.D.Disk.view c.replace.new.disk) is (g.met.D.Disk.lawful c.sync.new.self told)
    (keeps_then (5 + 5 * c.from.result) _ _ _ (keeps_none (g.D.Disk.view c.args.disk.now) is) (c.sync.ensures.steps told)) held (c.requires.next told)
    (6 + 5 * c.from-2.result + c.from-3.result) c.args.image.now (omega (arith, c.from-2.ensures, c.from-3.ensures)) (c.replace.ensures.touches told)
    (c.in_ok-replace.ensures.written told) (c.in_ok-replace.ensures.durable told) (subst (λ f. IsStable (g.D.Disk.view c.sync.new.self) f) same (c.in_ok-sync.ensures.durable told)) lt long

pub returns-in_err-sync-clause-settled : goal.returns-in_err-sync-clause-settled
returns-in_err-sync-clause-settled g c told =
    let is = g.met.D.Disk.lawful c.args.disk.now told in
    keeps-settled (g.D.Disk.view c.args.disk.now) (g.D.Disk.view c.sync.new.self) (keeps_then (5 + 5 * c.from.result) _ _ _ (keeps_none (g.D.Disk.view c.args.disk.now) is) (c.sync.ensures.steps told))

pub returns-in_err-replace-clause-settled : goal.returns-in_err-replace-clause-settled
returns-in_err-replace-clause-settled g c told settled =
    let is = g.met.D.Disk.lawful c.args.disk.now told in
    rank-settled (6 + 5 * c.from-2.result + c.from-3.result) Anyhow (g.D.Disk.view c.sync.new.self) (g.D.Disk.view c.replace.new.disk) (omega arith) (c.replace.ensures.touches told)
    (keeps-settled (g.D.Disk.view c.args.disk.now) (g.D.Disk.view c.sync.new.self) (keeps_then (5 + 5 * c.from.result) _ _ _ (keeps_none (g.D.Disk.view c.args.disk.now) is) (c.sync.ensures.steps told)) settled)

pub returns-clause-settled : goal.returns-clause-settled
returns-clause-settled g c told settled =
    let is = g.met.D.Disk.lawful c.args.disk.now told in
    rank-settled (6 + 5 * c.from-2.result + c.from-3.result) Anyhow (g.D.Disk.view c.sync.new.self) (g.D.Disk.view c.replace.new.disk) (omega arith) (c.replace.ensures.touches told)
    (keeps-settled (g.D.Disk.view c.args.disk.now) (g.D.Disk.view c.sync.new.self) (keeps_then (5 + 5 * c.from.result) _ _ _ (keeps_none (g.D.Disk.view c.args.disk.now) is) (c.sync.ensures.steps told)) settled)

pub returns-in_err-sync-clause-others : goal.returns-in_err-sync-clause-others
returns-in_err-sync-clause-others g c told = spared-kept (image_file c.args.rank c.args.line) (g.D.Disk.view c.args.disk.now) (g.D.Disk.view c.sync.new.self) (keeps_then (5 + 5 * c.from.result) _ _ _ (keeps_none (g.D.Disk.view c.args.disk.now) (g.met.D.Disk.lawful c.args.disk.now told)) (c.sync.ensures.steps told))

pub returns-in_err-replace-clause-others : goal.returns-in_err-replace-clause-others
returns-in_err-replace-clause-others g c told =
    spared-then (image_file c.args.rank c.args.line) (g.D.Disk.view c.args.disk.now) (g.D.Disk.view c.sync.new.self) (g.D.Disk.view c.replace.new.disk) (keeps_then (5 + 5 * c.from.result) _ _ _ (keeps_none (g.D.Disk.view c.args.disk.now) (g.met.D.Disk.lawful c.args.disk.now told)) (c.sync.ensures.steps told))
    (spared-at (6 + 5 * c.from-2.result + c.from-3.result) (image_file c.args.rank c.args.line) Anyhow (g.D.Disk.view c.sync.new.self) (g.D.Disk.view c.replace.new.disk) (omega (arith, c.from-2.ensures, c.from-3.ensures)) (c.replace.ensures.touches told))

pub returns-clause-others : goal.returns-clause-others
returns-clause-others g c told =
    spared-then (image_file c.args.rank c.args.line) (g.D.Disk.view c.args.disk.now) (g.D.Disk.view c.sync.new.self) (g.D.Disk.view c.replace.new.disk) (keeps_then (5 + 5 * c.from.result) _ _ _ (keeps_none (g.D.Disk.view c.args.disk.now) (g.met.D.Disk.lawful c.args.disk.now told)) (c.sync.ensures.steps told))
    (spared-at (6 + 5 * c.from-2.result + c.from-3.result) (image_file c.args.rank c.args.line) Anyhow (g.D.Disk.view c.sync.new.self) (g.D.Disk.view c.replace.new.disk) (omega (arith, c.from-2.ensures, c.from-3.ensures)) (c.replace.ensures.touches told))
