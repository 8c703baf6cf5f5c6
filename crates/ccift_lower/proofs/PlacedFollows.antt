-- A run with places is a run.
use Rattle.std.proofs.Common.{◌≡◌, List, [], ◌∷◌, Bool}
use Rattle.mpi_words.specs.declared.operation.Op.{Op}
use Rattle.mpi_words.specs.declared.operation.Reply.{Reply}
use Rattle.flat_code.specs.declared.code.FlatFunction.{FlatFunction}
use Rattle.flat_code.specs.Machine.{Machine}
use Rattle.ccift_lower.specs.Runs.{Ran}
use Rattle.ccift_lower.specs.Runs as runs
use Rattle.flat_code.specs.Placed.{Placed, PlacedRan, stayed, went, did, none_fits, after}

pub placed_runs : (code : List FlatFunction) (p q : Placed) (asked : List (Op × Reply)) → PlacedRan code p asked q → Ran code p.machine asked q.machine
placed_runs code _ _ _ (stayed p) = runs.stayed p.machine
placed_runs code _ _ _ (went p q mid asked began e run) = runs.went p.machine mid q.machine asked (none_fits p.heap) began e (placed_runs code (after code p mid) q asked run)
placed_runs code _ _ _ (did p q mid next asked o reply began e f run) = runs.did p.machine mid next q.machine asked (none_fits p.heap) o reply began e f (placed_runs code (record (after code p mid) { machine = next }) q asked run)
