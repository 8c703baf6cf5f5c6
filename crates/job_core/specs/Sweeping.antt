-- What a sweep takes off its channels, and how far it has come.
use Rattle.std.specs.Prelude.{◌≡◌, ℕ, suc, List, Option}
use Rattle.mpi_words.specs.declared.operation.End.{End}
use Rattle.image_text.specs.declared.state.RankState.{RankState}
use Rattle.core_laws.specs.Process.{Ranks}
use Rattle.core_laws.specs.Quiet.{Event, Deliver, Handle}
use Rattle.core_laws.specs.Core as definition
use Rattle.core_laws.specs.Core.{steps_of}
use Rattle.core_laws.specs.CoreTies.{DoesAll}
use Rattle.core_laws.specs.Ties.{AreBy}
use Rattle.job_network.specs.Members.{IsMember}
use Rattle.job_network.specs.Networks.{IsLed, IsPlaced}
use Rattle.job_core.specs.declared.job.Core.{Core}
use Rattle.job_core.specs.declared.effect.Effect.{Effect}
use Rattle.job_core.specs.declared.sweep.Traffic.{Traffic}
use Rattle.job_core.specs.declared.sweep.Traffic.TheVariants.{Controls, Messages}
use Rattle.job_core.specs.Effects.{IsEffect}
use Rattle.job_core.specs.Cores.{held_of}

-- the event by which one control or one message leaves the channel from a rank to a rank
abbrev pub taken : Traffic → ℕ → ℕ → Event
taken Controls = Handle
taken Messages = Deliver

-- what these events of a sweep come to, that began at c: the core after them and what they wrote
pub record Swept {S : Type 0} (ended : S → Option End) (bytes among : S → ℕ) (saved : S → RankState) (P : Ranks S) (n : ℕ) (first : ℕ → ℕ) (c : definition.Core S) (es : List Event) (k : Core S) (effects : List Effect) : Type 0 where
  pub ranks : k.network.ranks ≡ n
  pub does : DoesAll (IsPlaced n) (IsLed n) (IsEffect saved n (λ r. suc (c.protocol.layer r).epoch)) P n first c es (held_of k) effects
  pub members : AreBy (IsMember ended bytes among n) n k.members.items (steps_of P n c es).one
