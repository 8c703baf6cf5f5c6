use Rattle.std.proofs.Common.{ℕ, ◌<◌, List}
use Rattle.late_logs.specs.declared.entry.Entry.{Entry}
use Rattle.mpi_words.specs.declared.control.Control.{Control}
use Rattle.core_laws.specs.Ties.{Are}
use Rattle.core_laws.specs.Protocol.{Protocol}
use Rattle.job_network.specs.Networks.{IsNet}
use Rattle.job_network.proofs.Nets.{told_row}
use Rattle.job_network.proofs.network.Network.tell.Given as goal

abbrev pub invariant-loop-to : goal.invariant-loop-to
invariant-loop-to l = (n : ℕ) (p : Protocol) (logs : ℕ → List Entry) (its : ℕ → Control) → IsNet n l.fn.self p logs → l.rank < n → Are n l.says its → IsNet n l.self (told_row p l.rank its l.to) logs
