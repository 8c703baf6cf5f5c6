-- Sessions of ranks that pause, each from the line that an earlier one committed.
use Rattle.std.proofs.Common.{ℕ, ◌+◌, ◌<◌, arith}
use Rattle.core_laws.specs.Core.{Core}
use Rattle.core_laws.specs.Written.{Written}
use Rattle.core_laws.specs.CoreEvents.{restart_from, start_of}
use Rattle.core_laws.specs.Kept.{IsKept, Committed}
use Rattle.core_laws.specs.Process.{Process}
use Rattle.core_laws.specs.Files.{Files, Filed}
use Rattle.core_laws.specs.Pausing.{Stepping, stepping, without_pauses}
use Rattle.core_laws.specs.PausingKept.{IsKeptPausing, CommittedPausing}
use Rattle.core_laws.proofs.PausingCore.{saved_pausing, restarts_pausing, start_pausing}
use Rattle.core_laws.proofs.MorePauses.{committed_more}
use Rattle.core_laws.proofs.RanksBelow.{committed_below}

pub begins_on : {S : Type 0} (P : Stepping S) (n : ℕ) → IsKeptPausing P n (start_of (stepping P))
begins_on P n more = (more, 0, omega arith, start_pausing P n more 0)

pub saved_on : {S : Type 0} (P : Stepping S) (n : ℕ) (c : Core S) → IsKeptPausing P n c → CommittedPausing P n c.saved
saved_on P n c h = let now = h 0 in (now.0, λ b few. committed_more P n now.0 b c.saved few (saved_pausing P n now.0 now.1 c now.3))

pub restart_on : {S : Type 0} (P : Stepping S) (n L : ℕ) (v : ℕ → Written S) → CommittedPausing P n v → IsKeptPausing P n (restart_from L v)
restart_on P n L v h more = (h.0 + more, 0, omega arith, restarts_pausing P n (h.0 + more) 0 L v (h.1 (h.0 + more) (omega arith)))

-- what the files have
pub disk_kept : {S : Type 0} (P : Process S) (n : ℕ) (f : Files S) (c : Core S) → IsKept P n c → Filed n f c → 0 < f.line → Committed P n f.committed
disk_kept P n f c k h some = let l = h.lines in committed_below P n c.saved f.committed (l.committed_images (omega (arith, some, l.line))) (l.committed_logs (omega (arith, some, l.line))) k.saved

pub disk_on : {S : Type 0} (P : Stepping S) (n : ℕ) (f : Files S) (c : Core S) → IsKeptPausing P n c → Filed n f c → 0 < f.line → CommittedPausing P n f.committed
disk_on P n f c k h some = let l = h.lines in let s = saved_on P n c k in
    (s.0, λ b few. committed_below (without_pauses b P) n c.saved f.committed (l.committed_images (omega (arith, some, l.line))) (l.committed_logs (omega (arith, some, l.line))) (s.1 b few))
