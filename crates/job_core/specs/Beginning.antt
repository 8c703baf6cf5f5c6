-- Ranks, and what lies between them, at their beginning.
use Rattle.std.specs.Prelude.{◌≡◌, ℕ, ◌≤◌, ◌^◌, true, [], Option}
use Rattle.mpi_words.specs.declared.operation.End.{End}
use Rattle.core_laws.specs.Protocol.{Protocol, restarted}
use Rattle.core_laws.specs.Replay.{Replaying}
use Rattle.job_network.specs.declared.member.Member.{Member}
use Rattle.job_network.specs.Members.{IsMember}

-- a rank whose machine is this, and that has met nothing
abbrev pub begun : {S : Type 0} → S → Replaying S
begun s = record { rank = record { machine = s; mail = []; output = [] }; log = []; left = 0 }

pub record IsBegun {S : Type 0} (ended : S → Option End) (bytes among serial : S → ℕ) (n : ℕ) (m : Member S) (s : S) : Type 0 where
  pub member : IsMember ended bytes among n m (begun s)
  pub ops : m.ops ≡ 0
  pub serials : serial m.machine ≤ 2 ^ 13

-- no message, no wave, and nobody restores
abbrev pub nothing_sent : Protocol
nothing_sent = record (restarted 0 (λ r x. 0) (λ r. true)) { restored = λ r. true }
