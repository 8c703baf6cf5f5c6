-- Replay never sticks.
use Rattle.std.proofs.Common.{◌≡◌, ℕ, suc, pred, ◌<◌, ◌≤◌, true, false, not, List, [], ◌∷◌, length, sym, refl, ap, ◌∙◌, ⊎_elim, arith}
use Rattle.std.specs.Prelude.{◌&&◌, nat_lt}
use Rattle.std.proofs.lemmas.Bool.{cond-true, and_from, lt-ltb, eq-eqb, true≢false}
use Rattle.late_logs.specs.declared.entry.Entry.{Entry}
use Rattle.late_logs.specs.declared.entry.Entry.TheVariants.{Late as Late_entry, Intra as Intra_entry}
use Rattle.mpi_words.specs.declared.message.Message.{Message}
use Rattle.core_laws.specs.Protocol.{Packet}
use Rattle.core_laws.specs.Process.{Ranks, ranks, Process, Rank, arrive, turn, is_operation}
use Rattle.core_laws.specs.Quiet.{Event, Turn, Deliver, Handle, Begin_wave}
use Rattle.core_laws.specs.Stopping.{contents}
use Rattle.core_laws.specs.Replay.{absorb, may_turn}
use Rattle.core_laws.specs.Plan.{Helps}
use Rattle.core_laws.specs.Core.{Core, is_back, one_turned, core_turned, accepts, landed, core_delivers, step, step_of, back_of}
use Rattle.core_laws.specs.Kept.{IsKept, MovesOn}
use Rattle.core_laws.proofs.Changes.{set_at-same}
use Rattle.core_laws.proofs.PlanKept.{never_stuck, no_handle, no_wave, helps_turn, helps_delivery, may_left}
use Rattle.core_laws.proofs.RestoredTold.{is_back-from}

absorb_length : {S : Type 0} (l : ℕ) (k : Rank S) (log : List Entry) → length (absorb l k log).log ≤ length log
absorb_length l k [] = omega arith
absorb_length l k (Late_entry a m ∷ log) = omega (arith, absorb_length l (arrive k a m) log)
absorb_length l k (Intra_entry a ∷ log) = omega arith

turn_stirs : {S : Type 0} (P : Process S) (n : ℕ) (c : Core S) (r j : ℕ) → r < n → c.killed r ≡ false → (c.one r).left ≡ suc j → is_operation (turn P (c.one r).rank).did ≡ true → step P n c (Turn r) ≡ c → ⊥
turn_stirs P n c r j a up left op e = omega (arith, left, sym fell ∙ ap (λ d. (d.one r).left) e)
  where
    fell : ((step P n c (Turn r)).one r).left ≡ j
    fell = ap (λ d. (d.one r).left) (cond-true (nat_lt r n && (not (c.killed r) && may_turn (c.one r).log (c.one r).left)) (core_turned n c r (turn P (c.one r).rank)) c (and_from (nat_lt r n) (not (c.killed r) && may_turn (c.one r).log (c.one r).left) (lt-ltb r n a) (and_from (not (c.killed r)) (may_turn (c.one r).log (c.one r).left) (ap not up) (may_left (c.one r).log (c.one r).left (omega (arith, left))))))
        ∙ ap (λ v. v.left) (set_at-same c.one r (one_turned (c.one r) (turn P (c.one r).rank)))
        ∙ cond-true (is_operation (turn P (c.one r).rank).did) (pred (c.one r).left) (c.one r).left op
        ∙ ap pred left

pub deliver_stirs : {S : Type 0} (P : Ranks S) (n : ℕ) (c : Core S) (s r : ℕ) (log : List Entry) (q : List Packet) (m : Message) (rest : List Message) → s < n → r < n → c.killed r ≡ false → (c.one r).log ≡ Intra_entry s ∷ log → c.protocol.channel s r ≡ q → contents q ≡ m ∷ rest → step_of P n c (Deliver s r) ≡ c → ⊥
deliver_stirs P n c s r log [] m rest a b up names is has e = absurd (cc)
deliver_stirs {S} P n c s r log (x ∷ q) m rest a b up names is has e = omega (arith, absorb_length (c.one r).left (arrive (c.one r).rank s x.0) log, ap length (sym taken ∙ ap (λ d. (d.one r).log) e ∙ names))
  where
    ok : accepts (c.one r).log (c.one r).left s ≡ true
    ok = ap (λ l. accepts l (c.one r).left s) names ∙ eq-eqb s s refl

    taken : ((step_of P n c (Deliver s r)).one r).log ≡ (absorb (c.one r).left (arrive (c.one r).rank s x.0) log).log
    taken = ap (λ d. (d.one r).log) (cond-true (nat_lt s n && (nat_lt r n && (not (c.killed r) && accepts (c.one r).log (c.one r).left s))) (core_delivers n c s r (c.protocol.channel s r)) c
        (and_from (nat_lt s n) (nat_lt r n && (not (c.killed r) && accepts (c.one r).log (c.one r).left s)) (lt-ltb s n a) (and_from (nat_lt r n) (not (c.killed r) && accepts (c.one r).log (c.one r).left s) (lt-ltb r n b) (and_from (not (c.killed r)) (accepts (c.one r).log (c.one r).left s) (ap not up) ok)))
        ∙ ap (core_delivers n c s r) is)
        ∙ ap (λ v. v.log) (set_at-same c.one r (landed (c.one r) (c.one r).log s x.0))
        ∙ ap (λ l. (landed (c.one r) l s x.0).log) names

pub moves_on : {S : Type 0} (P : Process S) (n : ℕ) (c : Core S) (r : ℕ) → IsKept P n c → ((x : ℕ) → x < n → c.killed x ≡ false) → r < n → is_back (c.one r) ≡ false → MovesOn P n c
moves_on {S} P n c r h up a restores = ⊎_elim
    (λ done. absurd (true≢false (sym (is_back-from (c.one r) (done r a).0 (done r a).1) ∙ restores)))
    (λ w. go w.0 w.1)
    (never_stuck P n (back_of c) h.plan)
  where
    go : (e : Event) → Helps P n (back_of c) e → MovesOn P n c
    go (Turn y) w = let t = helps_turn P n (back_of c) y w in record { event = Turn y; restores = w; effect = turn_stirs P n c y t.ops t.inside (up y t.inside) t.left t.op }
    go (Deliver s y) w = let t = helps_delivery P n (back_of c) s y w in record { event = Deliver s y; restores = w; effect = deliver_stirs (ranks P) n c s y t.log (c.protocol.channel s y) t.message t.rest t.from t.inside (up y t.inside) t.names refl t.has }
    go (Handle s y) w = absurd (no_handle P n (back_of c) s y w)
    go Begin_wave w = absurd (no_wave P n (back_of c) w)
