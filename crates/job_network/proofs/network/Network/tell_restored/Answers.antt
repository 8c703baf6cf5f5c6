use Rattle.std.proofs.Common.{arith}
use Rattle.std.proofs.lemmas.Result.{on_ok_weaker}
use Rattle.mpi_words.specs.declared.control.Control.TheVariants.{Restored}
use Rattle.job_network.specs.Networks.{network_of}
use Rattle.job_network.proofs.Nets.{control_more}
use Rattle.job_network.proofs.network.Network.tell_restored.Goals as goal

pub returns : goal.returns
returns c n p logs h b = on_ok_weaker c.push.result
    (λ e. record { ranks = h.ranks; stands = control_more n (network_of c.args.self.now) p logs c.args.rank 0 Restored c.push.new.self b (omega arith) e h.stands })
    c.push.ensures
