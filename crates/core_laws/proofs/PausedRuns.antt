-- What a quiet run without pauses reaches, one with them reaches too.
use Rattle.std.proofs.Common.{◌≡◌, ℕ, zero, suc, ◌<◌, true, false, List, [], ◌∷◌, ◌++◌, Some, None, Option, sym, refl, ap, ◌∙◌, inl, inr, ⊎_elim}
use Rattle.std.specs.Prelude.{nat_lt, ◌⊎◌}
use Rattle.std.proofs.lemmas.Bool.{cond-true, cond-false, cases_Bool, ltb-true, lt-ltb, false≢true, true≢false}
use Rattle.mpi_queues.specs.Firsts.{Taken}
use Rattle.mpi_queues.specs.Arrivals.{Arrival, given}
use Rattle.mpi_words.specs.declared.message.Message.{Message}
use Rattle.mpi_words.specs.declared.operation.Op.TheVariants.{Send, Receive, Output, Mark}
use Rattle.mpi_words.specs.declared.operation.Reply.TheVariants.{Done, Got}
use Rattle.core_laws.specs.Rows.{set_at}
use Rattle.core_laws.specs.Process.{Ranks, ranks, Process, Rank, Want, Wants, Ended, Did, Nothing, Sent, Local, Marked, turn, acted, received, is_operation}
use Rattle.core_laws.specs.Quiet.{Quiet, Event, Turn, Deliver, Handle, Begin_wave, sends, quiet_turn, quiet_next_of, quiet_start_of, quiet_run_of, IsReached, IsReached_of}
use Rattle.core_laws.specs.Pausing.{Stop_at, Paused, Asks, Stepping, stopped_at, with_machine, step_turn, stepping, settle, settled, wanted, without_pauses}
use Rattle.core_laws.proofs.Changes.{set_at-same}
use Rattle.core_laws.proofs.Operations.{turn_none}
use Rattle.core_laws.proofs.QuietRuns.{run_more}
use Rattle.core_laws.proofs.PlanKept.{set_twice, set_same}
use Rattle.core_laws.proofs.PausedTurns.{settled_at, acts_pausing, turned}

-- a turn without an operation leaves all
pub sends_none : (q : ℕ → ℕ → List Message) (r : ℕ) (d : Did) → is_operation d ≡ false → sends q r d ≡ q
sends_none q r Nothing e = refl
sends_none q r (Sent to m) e = absurd (true≢false e)
sends_none q r Local e = absurd (true≢false e)
sends_none q r Marked e = absurd (true≢false e)

quiet_path : {S : Type 0} (k k' : ℕ → Rank S) (c c' : ℕ → ℕ → List Message) → k ≡ k' → c ≡ c' → Path (Quiet S) (record { rank = k; channel = c }) (record { rank = k'; channel = c' })
quiet_path k k' c c' e f = ap (λ x. record { rank = x; channel = c }) e ∙ ap (λ x. record { rank = k'; channel = x }) f

pub idle_none : {S : Type 0} (P : Process S) (q : Quiet S) (r : ℕ) → is_operation (turn P (q.rank r)).did ≡ false → quiet_turn q r (turn P (q.rank r)) ≡ q
idle_none P q r e = quiet_path (set_at q.rank r (turn P (q.rank r)).rank) q.rank (sends q.channel r (turn P (q.rank r)).did) q.channel (ap (set_at q.rank r) (turn_none P (q.rank r) e) ∙ set_same q.rank r) (sends_none q.channel r (turn P (q.rank r)).did e)

-- after a pause the rest is the same
received_rest : {S : Type 0} (P : Stepping S) (b : ℕ) (k : Rank S) (o : Option (Taken Arrival)) → settled P (suc b) k.machine ≡ settled P b (P.step k.machine).machine → is_operation (received (without_pauses (suc b) P).answer k o).did ≡ true
    → received (without_pauses (suc b) P).answer k o ≡ received (without_pauses b P).answer (with_machine k (P.step k.machine).machine) o
received_rest P b k None e op = absurd (false≢true op)
received_rest P b k (Some x) e op = ap (λ s. record { rank = record { machine = P.answer s.machine (Got x.taken.0 x.taken.1); mail = x.others; output = k.output }; did = Local }) e

acted_rest : {S : Type 0} (P : Stepping S) (b : ℕ) (k : Rank S) (w : Want) → settled P (suc b) k.machine ≡ settled P b (P.step k.machine).machine → is_operation (acted (without_pauses (suc b) P).answer k w).did ≡ true
    → acted (without_pauses (suc b) P).answer k w ≡ acted (without_pauses b P).answer (with_machine k (P.step k.machine).machine) w
acted_rest P b k (Wants (Send to m)) e op = ap (λ s. record { rank = record { machine = P.answer s.machine Done; mail = k.mail; output = k.output }; did = Sent to m }) e
acted_rest P b k (Wants (Receive ps)) e op = received_rest P b k (given ps k.mail) e op
acted_rest P b k (Wants (Output bytes)) e op = ap (λ s. record { rank = record { machine = P.answer s.machine Done; mail = k.mail; output = k.output ++ bytes }; did = Local }) e
acted_rest P b k (Wants Mark) e op = ap (λ s. record { rank = record { machine = P.answer s.machine Done; mail = k.mail; output = k.output }; did = Marked }) e
acted_rest P b k Ended e op = absurd (false≢true op)

-- One turn is some turns.
abbrev Expands : {S : Type 0} → Stepping S → ℕ → ℕ → ℕ → Quiet S → Type 0
Expands P n r b q = is_operation (turn (without_pauses b P) (q.rank r)).did ≡ true → (es : List Event) × (quiet_run_of (stepping P) n q es ≡ quiet_turn q r (turn (without_pauses b P) (q.rank r)))

-- with fewer pauses
abbrev Fewer : {S : Type 0} → Stepping S → ℕ → ℕ → ℕ → Type 0
Fewer P n r zero = Unit {0}
Fewer {S} P n r (suc b) = (q : Quiet S) → Expands P n r b q

expand_by : {S : Type 0} (P : Stepping S) (n b : ℕ) (q : Quiet S) (r : ℕ) → r < n → Fewer P n r b → Expands P n r b q
expand_by {S} P n b q r inside fewer op = go (P.step (q.rank r).machine).stop refl b fewer op
  where
    k : Rank S
    k = q.rank r

    next : quiet_next_of (stepping P) n q (Turn r) ≡ quiet_turn q r (step_turn P k)
    next = cond-true (nat_lt r n) (quiet_turn q r (step_turn P k)) q (lt-ltb r n inside)

    -- a pause first
    paused : (b : ℕ) → Fewer P n r (suc b) → (P.step k.machine).stop ≡ Paused → is_operation (turn (without_pauses (suc b) P) k).did ≡ true → (es : List Event) × (quiet_run_of (stepping P) n q es ≡ quiet_turn q r (turn (without_pauses (suc b) P) k))
    paused b fewer e op = (
      Turn r ∷ more.0,
      ap (λ d. quiet_run_of (stepping P) n d more.0) (next ∙ ap (quiet_turn q r) (ap (stopped_at P (with_machine k (P.step k.machine).machine)) e)) ∙ more.1
          ∙ ap (λ x. quiet_turn q' r (turn (without_pauses b P) x)) (set_at-same q.rank r k')
          ∙ ap (λ x. record { rank = x; channel = sends q.channel r (turn (without_pauses b P) k').did }) (set_twice q.rank r k' (turn (without_pauses b P) k').rank)
          ∙ ap (quiet_turn q r) (sym same),
    )
      where
        k' : Rank S
        k' = with_machine k (P.step k.machine).machine

        q' : Quiet S
        q' = record { rank = set_at q.rank r k'; channel = q.channel }

        settles : settled P (suc b) k.machine ≡ settled P b (P.step k.machine).machine
        settles = ap (λ s. settle (P.step k.machine) s (settled P b (P.step k.machine).machine)) e

        wants : Want
        wants = wanted (settled P (suc b) k.machine).stop

        same : turn (without_pauses (suc b) P) k ≡ turn (without_pauses b P) k'
        same = turned P (suc b) k ∙ acted_rest P b k wants settles (ap (λ t. is_operation t.did) (sym (turned P (suc b) k)) ∙ op) ∙ ap (λ s. acted (without_pauses b P).answer k' (wanted s.stop)) settles ∙ sym (turned P b k')

        more : (es : List Event) × (quiet_run_of (stepping P) n q' es ≡ quiet_turn q' r (turn (without_pauses b P) (q'.rank r)))
        more = fewer q' (ap (λ x. is_operation (turn (without_pauses b P) x).did) (set_at-same q.rank r k') ∙ ap (λ t. is_operation t.did) (sym same) ∙ op)

    go : (s : Stop_at) → (P.step k.machine).stop ≡ s → (b : ℕ) → Fewer P n r b → is_operation (turn (without_pauses b P) k).did ≡ true → (es : List Event) × (quiet_run_of (stepping P) n q es ≡ quiet_turn q r (turn (without_pauses b P) k))
    go (Asks w) e b fewer op = ⊎_elim
        (λ d. (Turn r ∷ [], next ∙ ap (quiet_turn q r) (ap (stopped_at P (with_machine k (P.step k.machine).machine)) e ∙ d.0 ∙ sym is)))
        (λ d. absurd (false≢true (sym (ap (λ t. is_operation t.did) (is ∙ d.1)) ∙ op)))
        (acts_pausing P b k w (P.step k.machine) (settled_at P b k.machine w e))
      where
        is : turn (without_pauses b P) k ≡ acted (without_pauses b P).answer k w
        is = turned P b k ∙ ap (acted (without_pauses b P).answer k) (ap (λ s. wanted s.stop) (settled_at P b k.machine w e) ∙ ap wanted e)
    go Paused e zero fewer op = absurd (false≢true (sym (ap (λ t. is_operation t.did) (turned P 0 k ∙ ap (λ s. acted (without_pauses 0 P).answer k (wanted s)) e)) ∙ op))
    go Paused e (suc b) fewer op = paused b fewer e op

expand : {S : Type 0} (P : Stepping S) (n b : ℕ) (q : Quiet S) (r : ℕ) → r < n → Expands P n r b q
expand P n zero q r inside = expand_by P n zero q r inside tt
expand P n (suc b) q r inside = expand_by P n (suc b) q r inside (λ q'. expand P n b q' r inside)

expand_run : {S : Type 0} (P : Stepping S) (n b : ℕ) (es : List Event) (q : Quiet S) → (fs : List Event) × (quiet_run_of (stepping P) n q fs ≡ quiet_run_of (ranks (without_pauses b P)) n q es)
expand_run P n b [] q = ([], refl)
expand_run P n b (Deliver s r ∷ es) q = let m = expand_run P n b es (quiet_next_of (stepping P) n q (Deliver s r)) in (Deliver s r ∷ m.0, m.1)
expand_run P n b (Handle s r ∷ es) q = expand_run P n b es q
expand_run P n b (Begin_wave ∷ es) q = expand_run P n b es q
expand_run {S} P n b (Turn r ∷ es) q = let one = first (cases_Bool (nat_lt r n)) in let m = expand_run P n b es (quiet_next_of (ranks (without_pauses b P)) n q (Turn r)) in
    (one.0 ++ m.0, run_more (stepping P) n q one.0 m.0 ∙ ap (λ d. quiet_run_of (stepping P) n d m.0) one.1 ∙ m.1)
  where
    p : Ranks S
    p = ranks (without_pauses b P)

    first : (nat_lt r n ≡ true) ⊎ (nat_lt r n ≡ false) → (fs : List Event) × (quiet_run_of (stepping P) n q fs ≡ quiet_next_of p n q (Turn r))
    first (inr e) = ([], sym (cond-false (nat_lt r n) (quiet_turn q r (turn (without_pauses b P) (q.rank r))) q e))
    first (inl e) = ⊎_elim
        (λ op. let w = expand P n b q r (ltb-true r n e) op in (w.0, w.1 ∙ sym (cond-true (nat_lt r n) (quiet_turn q r (turn (without_pauses b P) (q.rank r))) q e)))
        (λ none. ([], sym (cond-true (nat_lt r n) (quiet_turn q r (turn (without_pauses b P) (q.rank r))) q e ∙ idle_none (without_pauses b P) q r none)))
        (cases_Bool (is_operation (turn (without_pauses b P) (q.rank r)).did))

pub reached_pausing : {S : Type 0} (P : Stepping S) (n b : ℕ) (q : Quiet S) → IsReached (without_pauses b P) n q → IsReached_of (stepping P) n q
reached_pausing P n b q h = let m = expand_run P n b h.0 (quiet_start_of (stepping P)) in (m.0, m.1 ∙ h.1)
