-- A core whose ranks pause goes on as the one without pauses, which stays where the pauses are.
use Rattle.std.proofs.Common.{◌≡◌, ℕ, zero, suc, ◌≤◌, true, ◌++◌, Some, None, Option, sym, refl, ap, ◌∙◌, subst, inl, inr, ⊎_elim, arith}
use Rattle.std.specs.Prelude.{◌⊎◌}
use Rattle.mpi_queues.specs.Firsts.{Taken}
use Rattle.mpi_queues.specs.Arrivals.{Arrival, given}
use Rattle.mpi_words.specs.declared.operation.Op.TheVariants.{Send, Receive, Output, Mark}
use Rattle.mpi_words.specs.declared.operation.Reply.TheVariants.{Done, Got}
use Rattle.core_laws.specs.Process.{Rank, Want, Wants, Ended, Nothing, Sent, Local, Marked, turn, acted, received, is_operation}
use Rattle.core_laws.specs.Pausing.{Stop_at, Paused, Asks, Stepped, Stepping, stopped_at, with_machine, step_turn, settle, settled, wanted, without_pauses}
use Rattle.core_laws.specs.PausingKept.{Rests, Same, After_wait, After_pause, IsRank}

-- What rests behind wants the same.
pub settled_at : {S : Type 0} (P : Stepping S) (b : ℕ) (m : S) (w : Want) → (P.step m).stop ≡ Asks w → settled P b m ≡ P.step m
settled_at P zero m w e = refl
settled_at P (suc b) m w e = ap (λ s. settle (P.step m) s (settled P b (P.step m).machine)) e

paused≢wants : (w : Want) → Paused ≡ Asks w → ⊥
paused≢wants w e = absurd (cc)

pub same_wants : {S : Type 0} (P : Stepping S) (b j : ℕ) (m u : S) (w : Want) → Rests P j m u → j ≤ b → (P.step u).stop ≡ Asks w → settled P b m ≡ P.step u
same_wants P b j m u w (Same z e) few wants = settled_at P b m w (ap (λ x. (P.step x).stop) e ∙ wants) ∙ ap P.step e
same_wants P b j m u w (After_wait v z e at) few wants = settled_at P b m v e ∙ sym (P.again m v e) ∙ ap P.step at
same_wants P zero j m u w (After_pause i z e rest) few wants = absurd (omega arith)
same_wants P (suc b) j m u w (After_pause i z e rest) few wants = ap (λ s. settle (P.step m) s (settled P b (P.step m).machine)) e ∙ same_wants P b i (P.step m).machine u w rest (omega arith) wants

-- and one step more
rests_pause : {S : Type 0} (P : Stepping S) (j : ℕ) (m u : S) → Rests P j m u → (P.step u).stop ≡ Paused → Rests P (suc j) m (P.step u).machine
rests_pause P j m u (Same z e) p = After_pause 0 (ap suc z) (ap (λ x. (P.step x).stop) e ∙ p) (Same refl (ap (λ x. (P.step x).machine) e))
rests_pause P j m u (After_wait w z e at) p = absurd (paused≢wants w (sym p ∙ ap (λ x. (P.step x).stop) (sym at) ∙ ap (λ s. s.stop) (P.again m w e) ∙ e))
rests_pause P j m u (After_pause i z e rest) p = After_pause (suc i) (ap suc z) e (rests_pause P i (P.step m).machine u rest p)

rests_wait : {S : Type 0} (P : Stepping S) (j : ℕ) (m u : S) (w : Want) → Rests P j m u → (P.step u).stop ≡ Asks w → Rests P j m (P.step u).machine
rests_wait P j m u w (Same z e) p = After_wait w z (ap (λ x. (P.step x).stop) e ∙ p) (ap (λ x. (P.step x).machine) e)
rests_wait P j m u w (After_wait v z e at) p = After_wait v z e (sym (ap (λ s. s.machine) (P.again m v e)) ∙ ap (λ x. (P.step x).machine) at)
rests_wait P j m u w (After_pause i z e rest) p = After_pause i z e (rests_wait P i (P.step m).machine u w rest p)

pub turned : {S : Type 0} (P : Stepping S) (b : ℕ) (k : Rank S) → turn (without_pauses b P) k ≡ acted (without_pauses b P).answer k (wanted (settled P b k.machine).stop)
unfolding turn
turned P b k = refl

-- A turn: it makes the same operation, or only local steps.
pub data TurnsPausing {S : Type 0} (P : Stepping S) (b most : ℕ) (k u : Rank S) : Type 0 where
  Operates : step_turn P u ≡ turn (without_pauses b P) k → is_operation (step_turn P u).did ≡ true → TurnsPausing P b most k u
  Goes_on : (step_turn P u).did ≡ Nothing → IsRank P (suc most) k (step_turn P u).rank → TurnsPausing P b most k u

takes_pausing : {S : Type 0} (P : Stepping S) (b : ℕ) (k : Rank S) (o : Option (Taken Arrival)) (t : Stepped S) → settled P b k.machine ≡ t
    → ((received P.answer (with_machine k t.machine) o ≡ received (without_pauses b P).answer k o) × (is_operation (received P.answer (with_machine k t.machine) o).did ≡ true)) ⊎ ((received P.answer (with_machine k t.machine) o ≡ record { rank = with_machine k t.machine; did = Nothing }) × (received (without_pauses b P).answer k o ≡ record { rank = k; did = Nothing }))
takes_pausing P b k None t e = inr (refl, refl)
takes_pausing P b k (Some x) t e = inl (ap (λ s. record { rank = record { machine = P.answer s.machine (Got x.taken.0 x.taken.1); mail = x.others; output = k.output }; did = Local }) (sym e), refl)

-- what is wanted, answered from where the machine stopped
pub acts_pausing : {S : Type 0} (P : Stepping S) (b : ℕ) (k : Rank S) (w : Want) (t : Stepped S) → settled P b k.machine ≡ t
    → ((stopped_at P (with_machine k t.machine) (Asks w) ≡ acted (without_pauses b P).answer k w) × (is_operation (stopped_at P (with_machine k t.machine) (Asks w)).did ≡ true)) ⊎ ((stopped_at P (with_machine k t.machine) (Asks w) ≡ record { rank = with_machine k t.machine; did = Nothing }) × (acted (without_pauses b P).answer k w ≡ record { rank = k; did = Nothing }))
acts_pausing P b k (Wants (Send to m)) t e = inl (ap (λ s. record { rank = record { machine = P.answer s.machine Done; mail = k.mail; output = k.output }; did = Sent to m }) (sym e), refl)
acts_pausing P b k (Wants (Receive ps)) t e = takes_pausing P b k (given ps k.mail) t e
acts_pausing P b k (Wants (Output bytes)) t e = inl (ap (λ s. record { rank = record { machine = P.answer s.machine Done; mail = k.mail; output = k.output ++ bytes }; did = Local }) (sym e), refl)
acts_pausing P b k (Wants Mark) t e = inl (ap (λ s. record { rank = record { machine = P.answer s.machine Done; mail = k.mail; output = k.output }; did = Marked }) (sym e), refl)
acts_pausing P b k Ended t e = inr (refl, refl)

pub turns_pausing : {S : Type 0} (P : Stepping S) (b most : ℕ) (k u : Rank S) → most ≤ b → IsRank P most k u → TurnsPausing P b most k u
turns_pausing {S} P b most k u few h = go (P.step u.machine).stop refl
  where
    -- u has k's mail and output
    is : u ≡ with_machine k u.machine
    is = ap (λ l. record { machine = u.machine; mail = l; output = u.output }) h.mail ∙ ap (λ o. record { machine = u.machine; mail = k.mail; output = o }) h.output

    from : (s : Stop_at) → (P.step u.machine).stop ≡ s → step_turn P u ≡ stopped_at P (with_machine k (P.step u.machine).machine) s
    from s e = ap (λ x. stopped_at P (with_machine x (P.step u.machine).machine) (P.step u.machine).stop) is ∙ ap (stopped_at P (with_machine k (P.step u.machine).machine)) e

    go : (s : Stop_at) → (P.step u.machine).stop ≡ s → TurnsPausing P b most k u
    go Paused e = Goes_on (ap (λ t. t.did) (from Paused e)) (subst (IsRank P (suc most) k) (sym (ap (λ t. t.rank) (from Paused e)))
        (record { pauses = suc h.pauses; few = omega (arith, h.few); machine = rests_pause P h.pauses k.machine u.machine h.machine e; mail = refl; output = refl }))
    go (Asks w) e = ⊎_elim
        (λ d. Operates (from (Asks w) e ∙ d.0 ∙ ap (acted (without_pauses b P).answer k) (sym (ap (λ s. wanted s.stop) settles ∙ ap wanted e)) ∙ sym (turned P b k)) (ap (λ t. is_operation t.did) (from (Asks w) e) ∙ d.1))
        (λ d. Goes_on (ap (λ t. t.did) (from (Asks w) e ∙ d.0)) (subst (IsRank P (suc most) k) (sym (ap (λ t. t.rank) (from (Asks w) e ∙ d.0)))
        (record { pauses = h.pauses; few = omega (arith, h.few); machine = rests_wait P h.pauses k.machine u.machine w h.machine e; mail = refl; output = refl })))
        (acts_pausing P b k w (P.step u.machine) settles)
      where
        settles : settled P b k.machine ≡ P.step u.machine
        settles = same_wants P b h.pauses k.machine u.machine w h.machine (omega (arith, h.few)) e

-- A machine that pauses and stays never wants anything.
stuck : {S : Type 0} (P : Stepping S) (b : ℕ) (m : S) → (P.step m).stop ≡ Paused → (P.step m).machine ≡ m → (settled P b m).stop ≡ Paused
stuck P zero m e f = e
stuck P (suc b) m e f = ap (λ s. (settle (P.step m) s (settled P b (P.step m).machine)).stop) e ∙ ap (λ x. (settled P b x).stop) f ∙ stuck P b m e f

pub stuck_pausing : {S : Type 0} (P : Stepping S) (b j : ℕ) (m u : S) → Rests P j m u → j ≤ b → (P.step u).stop ≡ Paused → (P.step u).machine ≡ u → (settled P b m).stop ≡ Paused
stuck_pausing P b j m u (Same z e) few p f = subst (λ x. (settled P b x).stop ≡ Paused) (sym e) (stuck P b u p f)
stuck_pausing P b j m u (After_wait w z e at) few p f = absurd (paused≢wants w (sym p ∙ ap (λ x. (P.step x).stop) (sym at) ∙ ap (λ s. s.stop) (P.again m w e) ∙ e))
stuck_pausing P zero j m u (After_pause i z e rest) few p f = absurd (omega arith)
stuck_pausing P (suc b) j m u (After_pause i z e rest) few p f = ap (λ s. (settle (P.step m) s (settled P b (P.step m).machine)).stop) e ∙ stuck_pausing P b i (P.step m).machine u rest (omega arith) p f
