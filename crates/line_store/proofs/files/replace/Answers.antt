use Rattle.std.proofs.Common.{◌≡◌, length}
use Rattle.disk_model.specs.Disk.{Torn, Cut}
use Rattle.disk_model.proofs.Moments.{touches_none, touches_then}
use Rattle.line_store.specs.Store.{Anyhow}
use Rattle.line_store.proofs.files.replace.Goals as goal

pub returns-in_err-cut-clause-touches : goal.returns-in_err-cut-clause-touches
returns-in_err-cut-clause-touches g c told =
    let is = g.met.D.Disk.lawful c.args.disk.now told in
    let start = touches_none c.args.file Anyhow _ is c.requires (λ a left. tt) in
    touches_then c.args.file Anyhow (Cut 0) _ _ _ is c.requires start (c.cut.ensures.steps told) (λ a b x r s. tt)

pub returns-in_err-write-clause-touches : goal.returns-in_err-write-clause-touches
returns-in_err-write-clause-touches g c told =
    let is = g.met.D.Disk.lawful c.args.disk.now told in
    let start = touches_none c.args.file Anyhow _ is c.requires (λ a left. tt) in
    let cut = touches_then c.args.file Anyhow (Cut 0) _ _ _ is c.requires start (c.cut.ensures.steps told) (λ a b x r s. tt) in
    touches_then c.args.file Anyhow (Torn 0 (length c.args.bytes.now)) _ _ _ is c.requires cut (c.write.ensures.steps told) (λ a b x r s. tt)

pub returns-in_err-sync-clause-touches : goal.returns-in_err-sync-clause-touches
returns-in_err-sync-clause-touches g c told =
    let is = g.met.D.Disk.lawful c.args.disk.now told in
    let start = touches_none c.args.file Anyhow _ is c.requires (λ a left. tt) in
    let cut = touches_then c.args.file Anyhow (Cut 0) _ _ _ is c.requires start (c.cut.ensures.steps told) (λ a b x r s. tt) in
    let wrote = touches_then c.args.file Anyhow (Torn 0 (length c.args.bytes.now)) _ _ _ is c.requires cut (c.write.ensures.steps told) (λ a b x r s. tt) in
    touches_then c.args.file Anyhow (λ a b. b ≡ a) _ _ _ is c.requires wrote (c.sync.ensures.steps told) (λ a b x r s. tt)

pub returns-clause-touches : goal.returns-clause-touches
returns-clause-touches g c told =
    let is = g.met.D.Disk.lawful c.args.disk.now told in
    let start = touches_none c.args.file Anyhow _ is c.requires (λ a left. tt) in
    let cut = touches_then c.args.file Anyhow (Cut 0) _ _ _ is c.requires start (c.cut.ensures.steps told) (λ a b x r s. tt) in
    let wrote = touches_then c.args.file Anyhow (Torn 0 (length c.args.bytes.now)) _ _ _ is c.requires cut (c.write.ensures.steps told) (λ a b x r s. tt) in
    touches_then c.args.file Anyhow (λ a b. b ≡ a) _ _ _ is c.requires wrote (c.sync.ensures.steps told) (λ a b x r s. tt)
