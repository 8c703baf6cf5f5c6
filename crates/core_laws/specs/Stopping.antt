-- Who has stopped in a wave, and what was sent after its sender's stop.
use Rattle.std.specs.Prelude.{ℕ, suc, Bool, not, ◌&&◌, List, [], ◌∷◌, ◌==◌}
use Rattle.mpi_words.specs.declared.message.Message.{Message}
use Rattle.core_laws.specs.Protocol.{Packet, Layer}

abbrev pub has_stopped : ℕ → Layer → Bool
has_stopped L l = (l.epoch == suc L) && not l.logging

-- sent after its sender's stop
abbrev pub is_after : ℕ → Packet → Bool
is_after L x = (x.1.epoch == suc L) && not x.1.logging

-- the messages without their labels
abbrev pub contents : List Packet → List Message
contents [] = []
contents (x ∷ q) = x.0 ∷ contents q
