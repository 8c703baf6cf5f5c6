use Rattle.std.proofs.Common.{◌≡◌, ◌<◌, ℕ, [], get_or, arith, ap, ◌∙◌}
use Rattle.mpi_words.specs.declared.control.Control.{Control}
use Rattle.mpi_words.specs.declared.control.Control.TheVariants.{Request, Restored}
use Rattle.core_laws.proofs.Tied.{are_read}
use Rattle.job_network.specs.Networks.{network_of}
use Rattle.job_network.proofs.Nets.{told_none, told_more, told_all}
use Rattle.job_network.proofs.network.Network.tell.Goals as goal

pub loop-to-init : goal.loop-to-init
loop-to-init c n p logs its h b says = record { ranks = h.ranks; stands = told_none n (network_of c.args.self.now) p logs c.args.rank its h.stands }

pub push-requires-clause-from : goal.push-requires-clause-from
push-requires-clause-from c =
    let its : ℕ → Control = λ x. get_or c.args.says.now x Restored in
    let now = c.loop-to.invariant c.requires.0 c.requires.1 c.requires.2 its c.requires.3 c.requires.4.0 (are_read c.requires.0 c.args.says.now Restored c.requires.4.1) in
    omega (arith, now.stands.controls.size, c.requires.4.0)

pub push-requires-clause-to : goal.push-requires-clause-to
push-requires-clause-to c =
    let its : ℕ → Control = λ x. get_or c.args.says.now x Restored in
    let now = c.loop-to.invariant c.requires.0 c.requires.1 c.requires.2 its c.requires.3 c.requires.4.0 (are_read c.requires.0 c.args.says.now Restored c.requires.4.1) in
    omega (arith, (now.stands.controls.each c.args.rank [] c.requires.4.0).size, c.loop-to-test.true, c.requires.3.ranks)

pub loop-to-preserved : goal.loop-to-preserved
loop-to-preserved c n p logs its h b says =
    let now = c.loop-to.invariant n p logs its h b says in
    let i : c.loop-to.to < n = omega (arith, c.loop-to-test.true, h.ranks) in
    let at : c.from.result < n = omega (arith, i, c.from.ensures) in
    let first : Control = Request 0 in
    record { ranks = now.ranks; stands = told_more n (network_of c.loop-to.self) p logs c.args.rank c.loop-to.to its (get_or c.args.says.now c.from.result first) c.push.new.self b i (says.each c.from.result first at ∙ ap its c.from.ensures) c.in_ok-push.ensures now.stands }

pub returns : goal.returns
returns c n p logs its h b says =
    let now = c.loop-to.invariant n p logs its h b says in
    let all : c.loop-to.to ≡ n = omega (arith, c.loop-to-test.false, c.loop-to.auto.to-end, h.ranks) in
    record { ranks = now.ranks; stands = told_all n (network_of c.loop-to.self) p logs c.args.rank c.loop-to.to its all now.stands }
