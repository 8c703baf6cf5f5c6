-- A rank's arrivals and turns in code.
use Rattle.std.proofs.Common.{◌≡◌, ℕ, false, List, [], ◌∷◌, ◌++◌, sym, refl, ap, ◌∙◌, subst}
use Rattle.std.proofs.lemmas.Bool.{false≢true}
use Rattle.late_logs.specs.declared.entry.Entry.{Entry}
use Rattle.late_logs.specs.declared.entry.Entry.TheVariants.{Late, Intra}
use Rattle.mpi_words.specs.declared.message.Message.{Message}
use Rattle.mpi_words.specs.declared.operation.Op.{Op}
use Rattle.mpi_queues.specs.Arrivals.{Arrival}
use Rattle.core_laws.specs.Process.{Rank, Wants, arrive, acted}
use Rattle.core_laws.specs.Pausing.{Stepping, Asks, step_turn, stopped_at, with_machine}
use Rattle.core_laws.specs.Replay.{Replaying, absorb}
use Rattle.core_laws.specs.Core.{landed}
use Rattle.core_laws.specs.CoreTies.{Running, IsRunning}
use Rattle.job_network.specs.Members.{begins_late}

-- a turn that wants an operation
pub turn_wants : {S : Type 0} (P : Stepping S) (k : Rank S) (m : S) (op : Op) → P.step k.machine ≡ record { machine = m; stop = Asks (Wants op) } → step_turn P k ≡ acted P.answer (with_machine k m) (Wants op)
turn_wants P k m op e = ap (λ s. stopped_at P (with_machine k s.machine) s.stop) e

-- A message joins the mailbox, and a log goes on by its next entry.
pub joins : {S : Type 0} (k : Running S) (v : Replaying S) (s : ℕ) (m : Message) (mail : List Arrival) (log : List Entry) → mail ≡ k.mail ++ (s, m) ∷ [] → IsRunning k v → IsRunning (record k { mail = mail; log = log }) (record { rank = arrive v.rank s m; log = log; left = v.left })
joins k v s m mail log e h = record { machine = h.machine; mail = e ∙ ap (λ l. l ++ (s, m) ∷ []) h.mail; bytes = h.bytes; log = refl; left = h.left }

pub lands_alone : {S : Type 0} (k : Running S) (v : Replaying S) (s : ℕ) (m : Message) (mail : List Arrival) (log : List Entry) → mail ≡ k.mail ++ (s, m) ∷ [] → k.log ≡ [] → log ≡ [] → IsRunning k v → IsRunning (record k { mail = mail; log = log }) (landed v v.log s m)
lands_alone {S} k v s m mail log e none left h = subst (λ l. IsRunning (record k { mail = mail; log = log }) (landed v l s m)) (sym none ∙ h.log)
    (subst (λ l. IsRunning (record k { mail = mail; log = log }) (record { rank = arrive v.rank s m; log = l; left = v.left })) (left ∙ sym none ∙ h.log) (joins k v s m mail log e h))

-- the entry that waited for it goes
pub lands : {S : Type 0} (k : Running S) (v : Replaying S) (s : ℕ) (m : Message) (entry : Entry) (log : List Entry) → k.log ≡ entry ∷ log → IsRunning k v → absorb v.left (arrive v.rank s m) log ≡ landed v v.log s m
lands k v s m entry log e h = ap (λ l. landed v l s m) (sym e ∙ h.log)

-- a late entry at the front
pub late_lands : {S : Type 0} (k : Running S) (u : Replaying S) (s : ℕ) (m : Message) (log : List Entry) → k.log ≡ Late s m ∷ log → IsRunning k u → absorb u.left (arrive u.rank s m) log ≡ absorb u.left u.rank u.log
late_lands k u s m log e h = ap (absorb u.left u.rank) (sym e ∙ h.log)

pub absorb_ends : {S : Type 0} (left : ℕ) (k : Rank S) (log : List Entry) → begins_late log ≡ false → absorb left k log ≡ record { rank = k; log = log; left = left }
absorb_ends left k [] e = refl
absorb_ends left k (Late s m ∷ log) e = absurd (false≢true (sym e))
absorb_ends left k (Intra s ∷ log) e = refl
