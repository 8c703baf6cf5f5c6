use Rattle.std.proofs.Common.{◌≡◌, ◌+◌, suc, true, false, refl, sym, ◌∙◌, subst, arith}
use Rattle.std.specs.Prelude.{if◌then◌else◌}
use Rattle.mpi_words.specs.declared.control.Control.TheVariants.{Request}
use Rattle.core_laws.specs.Protocol.{wave_start, move_start}
use Rattle.wave_commit.specs.Waves.{IsWave, begun}
use Rattle.job_network.specs.Networks.{IsNet, network_of, told_each}
use Rattle.job_network.proofs.Handlings.{wave_put, may_from, may_not_from}
use Rattle.job_network.proofs.network.Network.start.Goals as goal

pub overflow_add-self : goal.overflow_add-self
overflow_add-self c =
    let n = c.requires.0 in
    let p = c.requires.1 in
    let h = c.requires.3 in
    let begins = c.start.ensures n p.wave p.restored h.stands.wave.line h.stands.wave.noted in
    omega (arith, (may_from n p (sym begins.0 ∙ c.in-Started.is)).room, h.stands.wave.line)

pub tell_all-requires : goal.tell_all-requires
tell_all-requires c =
    let n = c.requires.0 in
    let p = c.requires.1 in
    let logs = c.requires.2 in
    let h = c.requires.3 in
    let begins = c.start.ensures n p.wave p.restored h.stands.wave.line h.stands.wave.noted in (
      n,
      record p { wave = wave_start p.wave },
      logs,
      record { ranks = h.ranks; stands = wave_put n (network_of c.args.self.now) p logs (record { line = c.args.self.now.line; noted = c.start.new.self }) (wave_start p.wave) p.restored (record { line = h.stands.wave.line; noted = subst (λ r. IsWave n c.start.new.self (begun r p.wave) p.restored) c.in-Started.is begins.1 }) h.stands },
      c.requires.4,
    )

pub returns-in-NotNow : goal.returns-in-NotNow
returns-in-NotNow c n p logs h some =
    let begins = c.start.ensures n p.wave p.restored h.stands.wave.line h.stands.wave.noted in
    let not_yet = may_not_from n p c.in-NotNow.field-0 (sym begins.0 ∙ c.in-NotNow.is) in
    let now = wave_put n (network_of c.args.self.now) p logs (record { line = c.args.self.now.line; noted = c.start.new.self }) p.wave p.restored (record { line = h.stands.wave.line; noted = subst (λ r. IsWave n c.start.new.self (begun r p.wave) p.restored) c.in-NotNow.is begins.1 }) h.stands in
    subst (λ z. (false ≡ z) × IsNet n (record c.args.self.now { wave = c.start.new.self }) (if z then move_start p else p) logs) (sym not_yet) (refl, record { ranks = h.ranks; stands = now })

pub returns-in_ok-tell_all-in-Started : goal.returns-in_ok-tell_all-in-Started
returns-in_ok-tell_all-in-Started c n p logs h some =
    let begins = c.start.ensures n p.wave p.restored h.stands.wave.line h.stands.wave.noted in
    let starts = may_from n p (sym begins.0 ∙ c.in-Started.is) in
    let now = wave_put n (network_of c.args.self.now) p logs (record { line = c.args.self.now.line; noted = c.start.new.self }) (wave_start p.wave) p.restored (record { line = h.stands.wave.line; noted = subst (λ r. IsWave n c.start.new.self (begun r p.wave) p.restored) c.in-Started.is begins.1 }) h.stands in
    let told = c.in_ok-tell_all-in-Started.ensures n (record p { wave = wave_start p.wave }) logs (record { ranks = h.ranks; stands = now }) some in
    let next : c.args.self.now.line + 1 ≡ suc p.wave.line = omega (arith, h.stands.wave.line) in
    subst (λ z. (true ≡ z) × IsNet n c.tell_all.new.self (if z then move_start p else p) logs) (sym starts.may)
    (refl, subst (λ l. IsNet n c.tell_all.new.self (told_each (record p { wave = wave_start p.wave }) 0 (λ x. Request l)) logs) next told)
