use Rattle.std.proofs.Common.{◌<◌, sym, ◌∙◌, ap, subst, arith}
use Rattle.mpi_words.specs.declared.control.Control.TheVariants.{Stop}
use Rattle.core_laws.specs.Protocol.{Protocol}
use Rattle.wave_commit.specs.Waves.{wave_after, restored_after}
use Rattle.job_network.specs.Networks.{IsNet, network_of, told_each}
use Rattle.job_network.proofs.Handlings.{wave_put, noted, notes_quietly, notes_last_ready, notes_last_stopped}
use Rattle.job_network.proofs.network.Network.note.Goals as goal

pub tell_all-requires : goal.tell_all-requires
tell_all-requires c =
    let n = c.requires.stands.0 in
    let p = c.requires.stands.1 in
    let logs = c.requires.stands.2 in
    let h = c.requires.stands.3 in
    let taken = c.take.ensures n p.wave p.restored h.stands.wave.noted in
    let last = notes_last_ready n c.args.from c.args.to 0 c.in-TellStop.line p logs c.args.control c.requires.notes (sym taken.0 ∙ c.in-TellStop.is) in
    let some : 0 < n = omega (arith, c.requires.stands.4.0) in (
      n,
      noted n p c.args.from c.args.control,
      logs,
      record { ranks = h.ranks; stands = wave_put n (network_of c.args.self.now) p logs (record { line = c.args.self.now.line; noted = c.take.new.self }) (wave_after n p.wave c.args.from c.args.control) (restored_after p.restored c.args.from c.args.control) (record { line = h.stands.wave.line ∙ last.same; noted = taken.1 }) h.stands },
      some,
    )

pub returns-in-Nothing : goal.returns-in-Nothing
returns-in-Nothing c n ops p logs h a b =
    let taken = c.take.ensures n p.wave p.restored h.stands.wave.noted in
    let quiet = notes_quietly n c.args.from c.args.to ops p logs c.args.control c.requires.notes (sym taken.0 ∙ c.in-Nothing.is) in
    let now = wave_put n (network_of c.args.self.now) p logs (record { line = c.args.self.now.line; noted = c.take.new.self }) (wave_after n p.wave c.args.from c.args.control) (restored_after p.restored c.args.from c.args.control) (record { line = h.stands.wave.line ∙ quiet.line; noted = taken.1 }) h.stands in
    (quiet.comes_to, subst (λ (q : Protocol). IsNet n (record c.args.self.now { wave = c.take.new.self }) q logs) quiet.after (record { ranks = h.ranks; stands = now }))

pub returns-in_ok-tell_all-in-TellStop : goal.returns-in_ok-tell_all-in-TellStop
returns-in_ok-tell_all-in-TellStop c n ops p logs h a b =
    let taken = c.take.ensures n p.wave p.restored h.stands.wave.noted in
    let last = notes_last_ready n c.args.from c.args.to ops c.in-TellStop.line p logs c.args.control c.requires.notes (sym taken.0 ∙ c.in-TellStop.is) in
    let some : 0 < n = omega (arith, a) in
    let now = wave_put n (network_of c.args.self.now) p logs (record { line = c.args.self.now.line; noted = c.take.new.self }) (wave_after n p.wave c.args.from c.args.control) (restored_after p.restored c.args.from c.args.control) (record { line = h.stands.wave.line ∙ last.same; noted = taken.1 }) h.stands in
    let told = c.in_ok-tell_all-in-TellStop.ensures n (noted n p c.args.from c.args.control) logs (record { ranks = h.ranks; stands = now }) some in
    (last.comes_to, subst (λ (q : Protocol). IsNet n c.tell_all.new.self q logs) (ap (λ l. told_each (noted n p c.args.from c.args.control) 0 (λ y. Stop l)) last.said ∙ last.after) told)

pub returns-in-Commit : goal.returns-in-Commit
returns-in-Commit c n ops p logs h a b =
    let taken = c.take.ensures n p.wave p.restored h.stands.wave.noted in
    let last = notes_last_stopped n c.args.from c.args.to ops c.in-Commit.line p logs c.args.control c.requires.notes (sym taken.0 ∙ c.in-Commit.is) in
    let now = wave_put n (network_of c.args.self.now) p logs (record { line = c.in-Commit.line; noted = c.take.new.self }) (wave_after n p.wave c.args.from c.args.control) (restored_after p.restored c.args.from c.args.control) (record { line = last.line_is; noted = taken.1 }) h.stands in
    (last.comes_to, subst (λ (q : Protocol). IsNet n (record c.args.self.now { line = c.in-Commit.line; wave = c.take.new.self }) q logs) last.after (record { ranks = h.ranks; stands = now }))
