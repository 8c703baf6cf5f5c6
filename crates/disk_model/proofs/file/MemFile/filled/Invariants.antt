use Rattle.std.proofs.Common.{◌≡◌, get_or, if◌then◌else◌, map}
use Rattle.std.specs.List.{range_with_len}
use Rattle.disk_model.specs.Files.{is_kept}
use Rattle.disk_model.specs.Stored.{state}
use Rattle.disk_model.proofs.file.MemFile.filled.Given as goal

abbrev pub invariant-loop-place : goal.invariant-loop-place
invariant-loop-place l = l.bytes.items ≡ map (λ place. if is_kept (state l.self) place then get_or l.self.synced.items place 0 else l.byte) (range_with_len 0 l.place)
