use Rattle.std.proofs.Common.{◌≡◌, List, ◌∷◌, refl, sym, ◌∙◌, subst}
use Rattle.std.proofs.lemmas.Result.{IfOk-weaker}
use Rattle.mpi_words.specs.declared.control.Control.{Control}
use Rattle.core_laws.specs.Rows.{set_pair}
use Rattle.core_laws.specs.Protocol.{Protocol, move_pop}
use Rattle.core_laws.specs.Handling.{handles}
use Rattle.core_laws.specs.CoreTies.{Pairs}
use Rattle.job_network.specs.declared.handling.Handled.TheVariants as came
use Rattle.job_network.specs.Networks.{IsNet, network_of}
use Rattle.job_network.specs.Controls.{handled, outcome, outcome_of}
use Rattle.job_network.proofs.Places.{at_some}
use Rattle.job_network.proofs.Nets.{control_put}
use Rattle.job_network.proofs.Handlings.{handles_one, outcome_popped}
use Rattle.job_network.proofs.network.Network.handle.Goals as goal

pub take-requires : goal.take-requires
take-requires c =
    let n = c.requires.0 in
    let p = c.requires.1 in
    let logs = c.requires.2 in
    let h = c.requires.3 in
    let popped = at_some c.pop.result (λ item. (rest : List Control) × (p.control c.args.from c.args.to ≡ item ∷ rest) × Pairs n c.pop.new.self (set_pair p.control c.args.from c.args.to rest)) c.in-Some.control c.in-Some.is (c.pop.ensures.some n p.control h.stands.controls c.requires.4.0 c.requires.4.1) in (
      n,
      move_pop p c.args.from c.args.to popped.0,
      logs,
      record { ranks = h.ranks; stands = control_put n (network_of c.args.self.now) p logs c.pop.new.self (set_pair p.control c.args.from c.args.to popped.0) popped.2 h.stands },
      (c.requires.4.0, c.requires.4.1),
    )

pub returns-in-None : goal.returns-in-None
returns-in-None c n p logs h a b =
    let popped = c.in-None.ensures.none n p.control h.stands.controls a b in
    let same = control_put n (network_of c.args.self.now) p logs c.pop.new.self p.control (subst (λ z. Pairs n z p.control) (sym popped.1) h.stands.controls) h.stands in
    subst (λ l. (came.Nothing ≡ outcome_of n c.args.from c.args.to c.args.ops p logs l) × IsNet n (record c.args.self.now { controls = c.pop.new.self }) (handles n p c.args.from c.args.to l) logs) (sym popped.0) (refl, record { ranks = h.ranks; stands = same })

pub returns-in-Some : goal.returns-in-Some
returns-in-Some c n p logs h a b =
    let popped = at_some c.pop.result (λ item. (rest : List Control) × (p.control c.args.from c.args.to ≡ item ∷ rest) × Pairs n c.pop.new.self (set_pair p.control c.args.from c.args.to rest)) c.in-Some.control c.in-Some.is (c.pop.ensures.some n p.control h.stands.controls a b) in
    let q : Protocol = move_pop p c.args.from c.args.to popped.0 in
    IfOk-weaker c.take.result
    (λ did. (did ≡ outcome n c.args.from c.args.to c.args.ops q logs c.in-Some.control) × IsNet n c.take.new.self (handled n q c.args.from c.args.to c.in-Some.control) logs)
    (λ did. (did ≡ outcome_of n c.args.from c.args.to c.args.ops p logs (p.control c.args.from c.args.to)) × IsNet n c.take.new.self (handles n p c.args.from c.args.to (p.control c.args.from c.args.to)) logs)
    (λ did got. subst (λ l. (did ≡ outcome_of n c.args.from c.args.to c.args.ops p logs l) × IsNet n c.take.new.self (handles n p c.args.from c.args.to l) logs) (sym popped.1)
    (got.0 ∙ outcome_popped n c.args.from c.args.to c.args.ops p logs c.in-Some.control popped.0, subst (λ (z : Protocol). IsNet n c.take.new.self z logs) (sym (handles_one n p c.args.from c.args.to c.in-Some.control popped.0)) got.1))
    (c.take.ensures n q logs (record { ranks = h.ranks; stands = control_put n (network_of c.args.self.now) p logs c.pop.new.self (set_pair p.control c.args.from c.args.to popped.0) popped.2 h.stands }) a b)
