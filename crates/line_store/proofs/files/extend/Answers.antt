use Rattle.std.proofs.Common.{◌≡◌, length, subst}
use Rattle.line_store.specs.Store.{StaysTo}
use Rattle.disk_model.specs.Disk.{Torn, Steps}
use Rattle.disk_model.proofs.Moments.{touches_none, touches_then}
use Rattle.line_store.proofs.Holding.{stays-none, stays-same, stays-torn, written-end}
use Rattle.line_store.proofs.files.extend.Goals as goal

pub returns-in_err-end-clause-touches : goal.returns-in_err-end-clause-touches
returns-in_err-end-clause-touches g c told =
    let is = g.met.D.Disk.lawful c.args.disk.now told in
    let n = length ((g.D.Disk.view c.args.disk.now).seen c.args.file) in
    let start = touches_none c.args.file (StaysTo n) _ is c.requires (λ a left. stays-none n a) in
    touches_then c.args.file (StaysTo n) (λ a b. b ≡ a) _ _ _ is c.requires start (c.length.ensures.steps told) (stays-same n)

pub returns-in_err-write-clause-touches : goal.returns-in_err-write-clause-touches
returns-in_err-write-clause-touches g c told =
    let is = g.met.D.Disk.lawful c.args.disk.now told in
    let n = length ((g.D.Disk.view c.args.disk.now).seen c.args.file) in
    let start = touches_none c.args.file (StaysTo n) _ is c.requires (λ a left. stays-none n a) in
    let asked = touches_then c.args.file (StaysTo n) (λ a b. b ≡ a) _ _ _ is c.requires start (c.length.ensures.steps told) (stays-same n) in
    touches_then c.args.file (StaysTo n) (Torn n (length c.args.bytes.now)) _ _ _ is c.requires asked
    (subst (λ k. Steps c.args.file (Torn k (length c.args.bytes.now)) (g.D.Disk.view c.length.new.self) (g.D.Disk.view c.write.new.self)) (c.in_ok-end.ensures.length told) (c.write.ensures.steps told)) (stays-torn n (length c.args.bytes.now))

pub returns-clause-touches : goal.returns-clause-touches
returns-clause-touches g c told =
    let is = g.met.D.Disk.lawful c.args.disk.now told in
    let n = length ((g.D.Disk.view c.args.disk.now).seen c.args.file) in
    let start = touches_none c.args.file (StaysTo n) _ is c.requires (λ a left. stays-none n a) in
    let asked = touches_then c.args.file (StaysTo n) (λ a b. b ≡ a) _ _ _ is c.requires start (c.length.ensures.steps told) (stays-same n) in
    touches_then c.args.file (StaysTo n) (Torn n (length c.args.bytes.now)) _ _ _ is c.requires asked
    (subst (λ k. Steps c.args.file (Torn k (length c.args.bytes.now)) (g.D.Disk.view c.length.new.self) (g.D.Disk.view c.write.new.self)) (c.in_ok-end.ensures.length told) (c.write.ensures.steps told)) (stays-torn n (length c.args.bytes.now))

pub returns-clause-written : goal.returns-clause-written
returns-clause-written g c told =
    written-end ((g.D.Disk.view c.args.disk.now).seen c.args.file) ((g.D.Disk.view c.length.new.self).seen c.args.file) ((g.D.Disk.view c.write.new.self).seen c.args.file) c.args.bytes.now c.in_ok-end.end
    (c.length.ensures.steps told).seen (c.in_ok-end.ensures.length told) (c.in_ok-write.ensures.written told)
