-- Over any sessions the core is kept, and the files have what it says that it has written.
use Rattle.std.proofs.Common.{◌≡◌, ℕ, zero, suc, ◌<◌, false, List, [], ◌∷◌, refl, arith}
use Rattle.std.specs.Prelude.{◌==◌}
use Rattle.std.proofs.lemmas.Bool.{cond_both, eqb-true, true≢false}
use Rattle.core_laws.specs.Process.{Process, Ranks, ranks}
use Rattle.core_laws.specs.Core.{Core}
use Rattle.core_laws.specs.CoreEvents.{Core_event, Session_event, Core_does, Restart, next_of, start_of, restart_from}
use Rattle.core_laws.specs.Kept.{IsKept}
use Rattle.core_laws.specs.Effects.{effects_of}
use Rattle.core_laws.specs.Files.{Files, with_effects, cut_back, Filed}
use Rattle.core_laws.specs.DiskSessions.{OnDisk, empty_disk, disk_next, disk_sessions}
use Rattle.core_laws.specs.Pausing.{Stepping, stepping}
use Rattle.core_laws.specs.PausingKept.{IsKeptPausing}
use Rattle.core_laws.proofs.CoreKept.{start_kept, next_kept, restart_kept}
use Rattle.core_laws.proofs.AllWritten.{start_filed, next_filed, next_filed_pausing, disk_filed}
use Rattle.core_laws.proofs.KeptForSweeps.{each_on}
use Rattle.core_laws.proofs.Sessions.{begins_on, restart_on, disk_kept, disk_on}

-- K is kept by events and by a new session
record KeptOnDisk {S : Type 0} (P : Ranks S) (n : ℕ) (K : Core S → Type 0) : Type 0 where
  begins : K (start_of P)
  next : (c : Core S) (e : Core_event) → K c → K (next_of P n c e)
  restart : (f : Files S) (c : Core S) → K c → Filed n f c → 0 < f.line → K (restart_from f.line f.committed)
  filed : (f : Files S) (c : Core S) (e : Core_event) → K c → Filed n f c → Filed n (with_effects f (effects_of P n c e)) (next_of P n c e)

some : (k : ℕ) → (k == 0) ≡ false → 0 < k
some zero e = absurd (true≢false e)
some (suc k) e = omega arith

one_kept : {S : Type 0} (P : Ranks S) (n : ℕ) (K : Core S → Type 0) → KeptOnDisk P n K → (d : OnDisk S) (e : Session_event) → K d.core → Filed n d.files d.core → K (disk_next P n d e).core × Filed n (disk_next P n d e).files (disk_next P n d e).core
one_kept P n K keeps d (Core_does e) k h = (keeps.next d.core e k, keeps.filed d.files d.core e k h)
one_kept P n K keeps d Restart k h = let f = d.files in (
  cond_both (f.line == 0) (start_of P) (restart_from f.line f.committed) K (λ e. keeps.begins) (λ e. keeps.restart f d.core k h (some f.line e)),
  cond_both (f.line == 0) (start_of P) (restart_from f.line f.committed) (Filed n (cut_back f)) (λ e. start_filed P n f (eqb-true f.line 0 e)) (λ e. disk_filed n f d.core (some f.line e) h),
)

sessions_kept : {S : Type 0} (P : Ranks S) (n : ℕ) (K : Core S → Type 0) → KeptOnDisk P n K → (es : List Session_event) (d : OnDisk S) → K d.core → Filed n d.files d.core → K (disk_sessions P n d es).core × Filed n (disk_sessions P n d es).files (disk_sessions P n d es).core
sessions_kept P n K keeps [] d k h = (k, h)
sessions_kept P n K keeps (e ∷ es) d k h = let one = one_kept P n K keeps d e k h in sessions_kept P n K keeps es (disk_next P n d e) one.0 one.1

empty_filed : {S : Type 0} (P : Ranks S) (n : ℕ) → Filed n (empty_disk P).files (start_of P)
empty_filed P n = let h = start_filed P n (empty_disk P).files refl in record {
  lines = record { images = h.lines.images; logs = h.lines.logs; line = refl; committed_images = h.lines.committed_images; committed_logs = h.lines.committed_logs };
  outputs = record { outputs = λ r b. refl; committed = λ r b. record { rest = []; is = refl }; written = λ r b. record { rest = []; is = refl } };
}

pub disk_sessions_kept : {S : Type 0} (P : Process S) (n : ℕ) (es : List Session_event) → IsKept P n (disk_sessions (ranks P) n (empty_disk (ranks P)) es).core × Filed n (disk_sessions (ranks P) n (empty_disk (ranks P)) es).files (disk_sessions (ranks P) n (empty_disk (ranks P)) es).core
disk_sessions_kept P n es = sessions_kept (ranks P) n (IsKept P n) (record {
  begins = start_kept P n;
  next = next_kept P n;
  restart = λ f c k h some. restart_kept P n f.line f.committed (disk_kept P n f c k h some);
  filed = next_filed P n;
}) es (empty_disk (ranks P)) (start_kept P n) (empty_filed (ranks P) n)

pub disk_sessions_pausing : {S : Type 0} (P : Stepping S) (n : ℕ) (es : List Session_event) → IsKeptPausing P n (disk_sessions (stepping P) n (empty_disk (stepping P)) es).core × Filed n (disk_sessions (stepping P) n (empty_disk (stepping P)) es).files (disk_sessions (stepping P) n (empty_disk (stepping P)) es).core
disk_sessions_pausing P n es = sessions_kept (stepping P) n (IsKeptPausing P n) (record {
  begins = begins_on P n;
  next = λ c e k. each_on P n c (Core_does e) k;
  restart = λ f c k h some. restart_on P n f.line f.committed (disk_on P n f c k h some);
  filed = λ f c e k h. let now = k 0 in next_filed_pausing P n now.0 now.1 f c e now.3 h;
}) es (empty_disk (stepping P)) (begins_on P n) (empty_filed (stepping P) n)
