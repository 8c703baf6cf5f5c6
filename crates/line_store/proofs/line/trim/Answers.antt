use Rattle.std.proofs.Common.{◌≡◌, ◌+◌, ◌<◌, List, ℕ, ap, sym, ◌∙◌, arith}
use Rattle.disk_model.specs.Disk.{Cut}
use Rattle.disk_model.proofs.Moments.{touches_none, touches_then}
use Rattle.line_store.specs.Reading.{line_of}
use Rattle.line_store.specs.Store.{StaysAt}
use Rattle.line_store.proofs.Lines.{line-front}
use Rattle.line_store.proofs.line.trim.Goals as goal

-- bytes that stay, or that are cut behind the next byte, have the same line
same : (line : ℕ) (a b x : List ℕ) → StaysAt line a b → x ≡ b → StaysAt line a x
same line a b x stays is = (stays.0, ap line_of is ∙ stays.1)

cut_behind : (line room : ℕ) → room ≡ line + 1 → (a b x : List ℕ) → StaysAt line a b → Cut room b x → StaysAt line a x
cut_behind line room is a b x stays cut = (stays.0, line-front room b x (omega (arith, is, stays.1)) cut.front ∙ stays.1)

pub returns-in_err-length-clause-touches : goal.returns-in_err-length-clause-touches
returns-in_err-length-clause-touches g c told =
    let is = g.met.D.Disk.lawful c.args.disk.now told in
    let is_file : 2 < g.D.Disk.files = omega (arith, c.requires.files) in
    let R = StaysAt c.args.line in
    let line = sym (c.requires.line told) in
    let start = touches_none 2 R _ is is_file (λ a left. let at : line_of a ≡ c.args.line = ap line_of (c.requires.stable told a left) ∙ line in (at, at)) in
    let asked = touches_then 2 R (λ a b. b ≡ a) _ _ _ is is_file start (c.length.ensures.steps told) (same c.args.line) in
    asked

pub returns-then-branch-room-clause-touches : goal.returns-then-branch-room-clause-touches
returns-then-branch-room-clause-touches g c told =
    let is = g.met.D.Disk.lawful c.args.disk.now told in
    let is_file : 2 < g.D.Disk.files = omega (arith, c.requires.files) in
    let R = StaysAt c.args.line in
    let line = sym (c.requires.line told) in
    let start = touches_none 2 R _ is is_file (λ a left. let at : line_of a ≡ c.args.line = ap line_of (c.requires.stable told a left) ∙ line in (at, at)) in
    let asked = touches_then 2 R (λ a b. b ≡ a) _ _ _ is is_file start (c.length.ensures.steps told) (same c.args.line) in
    asked

pub returns-in_err-cut-clause-touches : goal.returns-in_err-cut-clause-touches
returns-in_err-cut-clause-touches g c told =
    let is = g.met.D.Disk.lawful c.args.disk.now told in
    let is_file : 2 < g.D.Disk.files = omega (arith, c.requires.files) in
    let R = StaysAt c.args.line in
    let line = sym (c.requires.line told) in
    let start = touches_none 2 R _ is is_file (λ a left. let at : line_of a ≡ c.args.line = ap line_of (c.requires.stable told a left) ∙ line in (at, at)) in
    let asked = touches_then 2 R (λ a b. b ≡ a) _ _ _ is is_file start (c.length.ensures.steps told) (same c.args.line) in
    let cut = touches_then 2 R (Cut (c.from-room.result + 1)) _ _ _ is is_file asked (c.cut.ensures.steps told) (cut_behind c.args.line (c.from-room.result + 1) (omega (arith, c.from-room.ensures))) in
    cut

pub returns-in_err-sync-clause-touches : goal.returns-in_err-sync-clause-touches
returns-in_err-sync-clause-touches g c told =
    let is = g.met.D.Disk.lawful c.args.disk.now told in
    let is_file : 2 < g.D.Disk.files = omega (arith, c.requires.files) in
    let R = StaysAt c.args.line in
    let line = sym (c.requires.line told) in
    let start = touches_none 2 R _ is is_file (λ a left. let at : line_of a ≡ c.args.line = ap line_of (c.requires.stable told a left) ∙ line in (at, at)) in
    let asked = touches_then 2 R (λ a b. b ≡ a) _ _ _ is is_file start (c.length.ensures.steps told) (same c.args.line) in
    let cut = touches_then 2 R (Cut (c.from-room.result + 1)) _ _ _ is is_file asked (c.cut.ensures.steps told) (cut_behind c.args.line (c.from-room.result + 1) (omega (arith, c.from-room.ensures))) in
    let synced = touches_then 2 R (λ a b. b ≡ a) _ _ _ is is_file cut (c.sync.ensures.steps told) (same c.args.line) in
    synced

pub returns-clause-touches : goal.returns-clause-touches
returns-clause-touches g c told =
    let is = g.met.D.Disk.lawful c.args.disk.now told in
    let is_file : 2 < g.D.Disk.files = omega (arith, c.requires.files) in
    let R = StaysAt c.args.line in
    let line = sym (c.requires.line told) in
    let start = touches_none 2 R _ is is_file (λ a left. let at : line_of a ≡ c.args.line = ap line_of (c.requires.stable told a left) ∙ line in (at, at)) in
    let asked = touches_then 2 R (λ a b. b ≡ a) _ _ _ is is_file start (c.length.ensures.steps told) (same c.args.line) in
    let cut = touches_then 2 R (Cut (c.from-room.result + 1)) _ _ _ is is_file asked (c.cut.ensures.steps told) (cut_behind c.args.line (c.from-room.result + 1) (omega (arith, c.from-room.ensures))) in
    let synced = touches_then 2 R (λ a b. b ≡ a) _ _ _ is is_file cut (c.sync.ensures.steps told) (same c.args.line) in
    synced
