-- A line that stands where turns go through at most b pauses stands where they go through more.
use Rattle.std.proofs.Common.{◌≡◌, ℕ, zero, suc, pred, ◌<◌, ◌≤◌, true, List, [], ◌∷◌, ◌++◌, Some, None, Option, sym, refl, ap, ◌∙◌, subst, ⊎_elim, arith}
use Rattle.std.specs.Prelude.{◌&&◌, nat_lt, if◌then◌else◌}
use Rattle.std.proofs.lemmas.Bool.{cond_both, cases_Bool, cases_eq, and_parts, false≢true}
use Rattle.mpi_queues.specs.Firsts.{Taken}
use Rattle.mpi_queues.specs.Arrivals.{Arrival, given}
use Rattle.mpi_words.specs.declared.operation.Op.TheVariants.{Send, Receive, Output, Mark}
use Rattle.mpi_words.specs.declared.operation.Reply.TheVariants.{Done, Got}
use Rattle.core_laws.specs.Rows.{set_at}
use Rattle.core_laws.specs.Process.{Process, ranks, Rank, Want, Wants, Ended, Sent, Local, Marked, Turned, turn, acted, received, is_operation}
use Rattle.core_laws.specs.Quiet.{Quiet, Event, Turn, Deliver, Handle, Begin_wave, quiet_turn, quiet_next_of, quiet_start_of, quiet_run_of, IsReached}
use Rattle.core_laws.specs.Written.{Written}
use Rattle.core_laws.specs.Line.{Made, made, one_more, sendings, filled, replayed, PairFits, sends_to, intra_from}
use Rattle.core_laws.specs.Replay.{Back, back_channel, back_skip, back_turn, back_next, restart}
use Rattle.core_laws.specs.Plan.{Turn_helps, Delivery_helps, Plan}
use Rattle.core_laws.specs.Kept.{Committed}
use Rattle.core_laws.specs.Pausing.{Stop_at, Paused, Asks, Stepping, settle, settled, wanted, without_pauses}
use Rattle.core_laws.proofs.PlanKept.{next_turn, may_left, helps_turn, helps_delivery, no_handle, no_wave}
use Rattle.core_laws.proofs.PausedTurns.{settled_at, turned}
use Rattle.core_laws.proofs.PausedRuns.{idle_none}

-- A turn that makes an operation makes it with one pause more, too.
settled_more : {S : Type 0} (P : Stepping S) (b : ℕ) (m : S) (w : Want) → (settled P b m).stop ≡ Asks w → settled P (suc b) m ≡ settled P b m
settled_more P zero m w e = settled_at P 1 m w e
settled_more {S} P (suc b) m w e = go (P.step m).stop refl (λ d. settled_more P b (P.step m).machine w d)
  where
    rest : S
    rest = (P.step m).machine

    go : (s : Stop_at) → (P.step m).stop ≡ s → ((settled P b rest).stop ≡ Asks w → settled P (suc b) rest ≡ settled P b rest) → settled P (suc (suc b)) m ≡ settled P (suc b) m
    go (Asks v) d less = settled_at P (suc (suc b)) m v d ∙ sym (settled_at P (suc b) m v d)
    go Paused d less = let one = ap (λ s. settle (P.step m) s (settled P b rest)) d in
        ap (λ s. settle (P.step m) s (settled P (suc b) rest)) d ∙ less (ap (λ t. t.stop) (sym one) ∙ e) ∙ sym one

received_more : {S : Type 0} (P : Stepping S) (b : ℕ) (k : Rank S) (o : Option (Taken Arrival)) → settled P (suc b) k.machine ≡ settled P b k.machine → received (without_pauses (suc b) P).answer k o ≡ received (without_pauses b P).answer k o
received_more P b k None e = refl
received_more P b k (Some x) e = ap (λ s. record { rank = record { machine = P.answer s.machine (Got x.taken.0 x.taken.1); mail = x.others; output = k.output }; did = Local }) e

acted_more : {S : Type 0} (P : Stepping S) (b : ℕ) (k : Rank S) (w : Want) → settled P (suc b) k.machine ≡ settled P b k.machine → acted (without_pauses (suc b) P).answer k w ≡ acted (without_pauses b P).answer k w
acted_more P b k (Wants (Send to m)) e = ap (λ s. record { rank = record { machine = P.answer s.machine Done; mail = k.mail; output = k.output }; did = Sent to m }) e
acted_more P b k (Wants (Receive ps)) e = received_more P b k (given ps k.mail) e
acted_more P b k (Wants (Output bytes)) e = ap (λ s. record { rank = record { machine = P.answer s.machine Done; mail = k.mail; output = k.output ++ bytes }; did = Local }) e
acted_more P b k (Wants Mark) e = ap (λ s. record { rank = record { machine = P.answer s.machine Done; mail = k.mail; output = k.output }; did = Marked }) e
acted_more P b k Ended e = refl

-- B makes each operation that A makes
record Extends {S : Type 0} (A B : Process S) : Type 0 where
  begin : B.begin ≡ A.begin
  turn : (k : Rank S) → is_operation (turn A k).did ≡ true → turn B k ≡ turn A k

more_pauses : {S : Type 0} (P : Stepping S) (b : ℕ) → Extends (without_pauses b P) (without_pauses (suc b) P)
more_pauses {S} P b = record { begin = refl; turn = λ k op. go k op (settled P b k.machine).stop refl }
  where
    go : (k : Rank S) → is_operation (turn (without_pauses b P) k).did ≡ true → (s : Stop_at) → (settled P b k.machine).stop ≡ s → turn (without_pauses (suc b) P) k ≡ turn (without_pauses b P) k
    go k op Paused e = absurd (false≢true (sym (ap (λ t. is_operation t.did) (turned P b k ∙ ap (λ s. acted (without_pauses b P).answer k (wanted s)) e)) ∙ op))
    go k op (Asks w) e = let same = settled_more P b k.machine w e in
        turned P (suc b) k ∙ ap (λ s. acted (without_pauses (suc b) P).answer k (wanted s.stop)) same ∙ acted_more P b k (wanted (settled P b k.machine).stop) same ∙ sym (turned P b k)

-- What was made is made.
made_extends : {S : Type 0} (A B : Process S) → Extends A B → (j : ℕ) (k : Rank S) → (made A j k).all_made ≡ true → made B j k ≡ made A j k
made_extends A B x zero k e = refl
made_extends A B x (suc j) k e = let both = and_parts (made A j k).all_made (is_operation (turn A (made A j k).rank).did) e in
    ap (one_more B) (made_extends A B x j k both.0) ∙ ap (λ t. record { rank = t.rank; sends = (made A j k).sends ++ sendings t.did; all_made = (made A j k).all_made && is_operation t.did }) (x.turn (made A j k).rank both.1)

-- What was reached is reached.
run_extends : {S : Type 0} (A B : Process S) → Extends A B → (n : ℕ) (es : List Event) (q : Quiet S) → (fs : List Event) × (quiet_run_of (ranks B) n q fs ≡ quiet_run_of (ranks A) n q es)
run_extends A B x n [] q = ([], refl)
run_extends A B x n (Deliver s r ∷ es) q = let m = run_extends A B x n es (quiet_next_of (ranks A) n q (Deliver s r)) in (Deliver s r ∷ m.0, m.1)
run_extends A B x n (Handle s r ∷ es) q = run_extends A B x n es q
run_extends A B x n (Begin_wave ∷ es) q = run_extends A B x n es q
run_extends {S} A B x n (Turn r ∷ es) q = let m = run_extends A B x n es (quiet_next_of (ranks A) n q (Turn r)) in ⊎_elim
    (λ op. (Turn r ∷ m.0, ap (λ t. quiet_run_of (ranks B) n (if nat_lt r n then quiet_turn q r t else q) m.0) (x.turn (q.rank r) op) ∙ m.1))
    (λ none. (m.0, ap (λ d. quiet_run_of (ranks B) n d m.0) (sym (cond_both (nat_lt r n) (quiet_turn q r (turn A (q.rank r))) q (λ d. d ≡ q) (λ _. idle_none A q r none) (λ _. refl))) ∙ m.1))
    (cases_Bool (is_operation (turn A (q.rank r)).did))

reached_extends : {S : Type 0} (A B : Process S) → Extends A B → (n : ℕ) (q : Quiet S) → IsReached A n q → IsReached B n q
reached_extends {S} A B x n q h = let m = run_extends A B x n h.0 (quiet_start_of (ranks A)) in
    (m.0, ap (λ (begin : ℕ → S). quiet_run_of (ranks B) n (record { rank = λ r. record { machine = begin r; mail = []; output = [] }; channel = λ s r. [] }) m.0) x.begin ∙ m.1 ∙ h.1)

-- What is planned is planned.
turned_by : {S : Type 0} → Back S → ℕ → Turned S → Back S
turned_by b r t = record {
  one = set_at b.one r (record (b.one r) { rank = t.rank; left = if is_operation t.did then pred (b.one r).left else (b.one r).left });
  channel = back_channel b.channel b.skip r t.did;
  skip = back_skip b.skip r t.did;
}

turn_extends : {S : Type 0} (A B : Process S) → Extends A B → (b : Back S) (r : ℕ) → is_operation (turn A (b.one r).rank).did ≡ true → back_turn A b r ≡ back_turn B b r
unfolding turned_by
turn_extends A B x b r op = ap (turned_by b r) (sym (x.turn (b.one r).rank op))

plan_extends : {S : Type 0} (A B : Process S) → Extends A B → (n : ℕ) (es : List Event) (b : Back S) → Plan A n b es → Plan B n b es
plan_extends A B x n [] b p = p
plan_extends A B x n (Handle s r ∷ es) b p = absurd (no_handle A n b s r p.0)
plan_extends A B x n (Begin_wave ∷ es) b p = absurd (no_wave A n b p.0)
plan_extends A B x n (Deliver s r ∷ es) b p = let w = helps_delivery A n b s r p.0 in
    (Delivery_helps w.from w.inside w.log w.names (record { message = w.message; rest = w.rest; has = w.has }), plan_extends A B x n es (back_next A n b (Deliver s r)) p.1)
plan_extends {S} A B x n (Turn r ∷ es) b p = let w = helps_turn A n b r p.0 in let may = may_left (b.one r).log (b.one r).left (omega (arith, w.left)) in (
  Turn_helps w.inside w.ops w.left (ap (λ t. is_operation t.did) (x.turn (b.one r).rank w.op) ∙ w.op),
  subst (λ d. Plan B n d es) (next_turn A n b r w.inside may ∙ turn_extends A B x b r w.op ∙ sym (next_turn B n b r w.inside may)) (plan_extends A B x n es (back_next A n b (Turn r)) p.1),
)

committed_extends : {S : Type 0} (A B : Process S) → Extends A B → (n : ℕ) (v : ℕ → Written S) → Committed A n v → Committed B n v
committed_extends {S} A B x n v h = record {
  journal = h.journal;
  written = h.written;
  line = h.line;
  stand = record {
    reached = reached_extends A B x n h.line h.stand.reached;
    ranks = λ r a. record { all_made = ap (λ (m : Made S). m.all_made) (same r a) ∙ (h.stand.ranks r a).all_made; rank = ap (λ (m : Made S). m.rank) (same r a) ∙ (h.stand.ranks r a).rank };
    pairs = λ s r a b. subst (λ (m : Made S). PairFits (sends_to r m.sends) ((h.journal r).early s) (intra_from s (h.journal r).since) (h.line.channel s r)) (sym (same s a)) (h.stand.pairs s r a b);
    plan = (h.stand.plan.0, plan_extends A B x n h.stand.plan.0 (restart h.journal) h.stand.plan.1);
  };
}
  where
    same : (r : ℕ) → r < n → replayed B (h.journal r) ≡ replayed A (h.journal r)
    same r a = made_extends A B x (h.journal r).ops (filled (h.journal r).image (h.journal r).since) (h.stand.ranks r a).all_made

pub committed_more : {S : Type 0} (P : Stepping S) (n b most : ℕ) (v : ℕ → Written S) → b ≤ most → Committed (without_pauses b P) n v → Committed (without_pauses most P) n v
committed_more P n b zero v few h = let none : b ≡ 0 = omega (arith, few) in subst (λ k. Committed (without_pauses k P) n v) none h
committed_more P n b (suc most) v few h = ⊎_elim
    (λ e. subst (λ k. Committed (without_pauses k P) n v) e h)
    (λ e. committed_extends (without_pauses most P) (without_pauses (suc most) P) (more_pauses P most) n v (committed_more P n b most v (omega (arith, few, e)) h))
    (cases_eq b (suc most))
