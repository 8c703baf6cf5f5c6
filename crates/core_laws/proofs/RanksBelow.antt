-- A committed line is what it has of the ranks below n.
use Rattle.std.specs.Prelude.{pos}
use Rattle.std.proofs.Common.{◌≡◌, ℕ, pred, ◌<◌, Bool, true, false, cond, List, [], ◌∷◌, ◌++◌, sym, refl, ap, ◌∙◌, subst, inl, ⊎_elim, arith}
use Rattle.std.specs.Prelude.{nat_lt, if◌then◌else◌}
use Rattle.std.proofs.lemmas.Bool.{cond_both, cond-true, cases_eq, ltb-true, lt-ltb}
use Rattle.late_logs.specs.declared.entry.Entry.{Entry}
use Rattle.late_logs.specs.declared.entry.Entry.TheVariants.{Late as Late_entry, Intra as Intra_entry}
use Rattle.mpi_words.specs.declared.message.Message.{Message}
use Rattle.mpi_words.specs.declared.message.Datatype.TheVariants.{Int}
use Rattle.core_laws.specs.Rows.{set_pair}
use Rattle.core_laws.specs.Process.{Process, Did, Nothing, Sent, Local, Marked, turn, is_operation}
use Rattle.core_laws.specs.Quiet.{Event, Turn, Deliver, Handle, Begin_wave}
use Rattle.core_laws.specs.Written.{Written}
use Rattle.core_laws.specs.Line.{Logged, Journal, Stands, PairFits, sends_to, intra_from, replayed}
use Rattle.core_laws.specs.Replay.{entries, Back, back_channel, back_skip, back_turn, back_arrives, back_next, restart}
use Rattle.core_laws.specs.Plan.{Turn_helps, Delivery_helps, Plan}
use Rattle.core_laws.specs.Kept.{IsWritten, Committed}
use Rattle.core_laws.specs.Files.{IsImage, IsLog}
use Rattle.core_laws.proofs.Changes.{at_set_both, set_pair-other_column, at_set_pair_both}
use Rattle.core_laws.proofs.PlanKept.{one_done, next_turn, next_deliver, may_left, helps_turn, helps_delivery, no_handle, no_wave, took}
use Rattle.core_laws.proofs.PlanAlike.{one_of}

-- the same ranks below n, and the same between them
record Below {S : Type 0} (n : ℕ) (b c : Back S) : Type 0 where
  one : (r : ℕ) → r < n → c.one r ≡ b.one r
  channel : (s r : ℕ) → s < n → r < n → c.channel s r ≡ b.channel s r
  skip : (s r : ℕ) → s < n → r < n → c.skip s r ≡ b.skip s r

channel_below : (n : ℕ) (q q' : ℕ → ℕ → List Message) (k k' : ℕ → ℕ → ℕ) (y : ℕ) (d : Did) → y < n → ((s z : ℕ) → s < n → z < n → q' s z ≡ q s z) → ((s z : ℕ) → s < n → z < n → k' s z ≡ k s z)
    → (s z : ℕ) → s < n → z < n → back_channel q' k' y d s z ≡ back_channel q k y d s z
channel_below n q q' k k' y Nothing inside h g s z a b = h s z a b
channel_below n q q' k k' y Local inside h g s z a b = h s z a b
channel_below n q q' k k' y Marked inside h g s z a b = h s z a b
channel_below n q q' k k' y (Sent to m) inside h g s z a b = ⊎_elim
    (λ d. ap (λ x. cond x q' (set_pair q' y to (q' y to ++ m ∷ [])) s z) (ap (nat_lt 0) (g y to inside (subst (λ x. x < n) d b)))
    ∙ both (nat_lt 0 (k y to)) (at_set_pair_both (λ u v. u ≡ v) q' q y to (q' y to ++ m ∷ []) (q y to ++ m ∷ []) s z (λ _ e. ap (λ l. l ++ m ∷ []) (h y to inside (subst (λ x. x < n) d b))) (h s z a b)))
    (λ other. plain q' k' other ∙ h s z a b ∙ sym (plain q k other))
    (cases_eq z to)
  where
    plain : (q : ℕ → ℕ → List Message) (k : ℕ → ℕ → ℕ) → (z ≡ to → ⊥) → back_channel q k y (Sent to m) s z ≡ q s z
    plain q k other = cond_both (nat_lt 0 (k y to)) q (set_pair q y to (q y to ++ m ∷ [])) (λ c. c s z ≡ q s z) (λ _. refl) (λ _. set_pair-other_column q y to (q y to ++ m ∷ []) s z other)

    both : (x : Bool) → set_pair q' y to (q' y to ++ m ∷ []) s z ≡ set_pair q y to (q y to ++ m ∷ []) s z → cond x q' (set_pair q' y to (q' y to ++ m ∷ [])) s z ≡ cond x q (set_pair q y to (q y to ++ m ∷ [])) s z
    both true f = h s z a b
    both false f = f

skip_below : (n : ℕ) (k k' : ℕ → ℕ → ℕ) (y : ℕ) (d : Did) → y < n → ((s z : ℕ) → s < n → z < n → k' s z ≡ k s z) → (s z : ℕ) → s < n → z < n → back_skip k' y d s z ≡ back_skip k y d s z
skip_below n k k' y Nothing inside g s z a b = g s z a b
skip_below n k k' y Local inside g s z a b = g s z a b
skip_below n k k' y Marked inside g s z a b = g s z a b
skip_below n k k' y (Sent to m) inside g s z a b = at_set_pair_both (λ u v. u ≡ v) k' k y to (pred (k' y to)) (pred (k y to)) s z (λ _ d. ap pred (g y to inside (subst (λ x. x < n) d b))) (g s z a b)

turn_below : {S : Type 0} (P : Process S) (n : ℕ) (b c : Back S) (y : ℕ) → y < n → Below n b c → Below n (back_turn P b y) (back_turn P c y)
turn_below {S} P n b c y inside h = record {
  one = λ x a. at_set_both (λ u v. u ≡ v) c.one b.one y (one_done P (c.one y)) (one_done P (b.one y)) x (λ _. ap (one_done P) (h.one y inside)) (λ _. h.one x a);
  channel = λ s z a d. ap (λ v. back_channel c.channel c.skip y (turn P v.rank).did s z) (h.one y inside) ∙ channel_below n b.channel c.channel b.skip c.skip y (turn P (b.one y).rank).did inside h.channel h.skip s z a d;
  skip = λ s z a d. ap (λ v. back_skip c.skip y (turn P v.rank).did s z) (h.one y inside) ∙ skip_below n b.skip c.skip y (turn P (b.one y).rank).did inside h.skip s z a d;
}

deliver_below : {S : Type 0} (n : ℕ) (b c : Back S) (s y : ℕ) (log : List Entry) (m : Message) (rest : List Message) → y < n → Below n b c → Below n (back_arrives b s y (took (b.one y) log s m) m rest) (back_arrives c s y (took (c.one y) log s m) m rest)
deliver_below {S} n b c s y log m rest inside h = record {
  one = λ x a. at_set_both (λ u v. u ≡ v) c.one b.one y (took (c.one y) log s m) (took (b.one y) log s m) x (λ _. ap (λ v. took v log s m) (h.one y inside)) (λ _. h.one x a);
  channel = λ t z a d. at_set_pair_both (λ u v. u ≡ v) c.channel b.channel s y rest rest t z (λ _ _. refl) (h.channel t z a d);
  skip = h.skip;
}

plan_below : {S : Type 0} (P : Process S) (n : ℕ) (es : List Event) (b c : Back S) → Below n b c → Plan P n b es → Plan P n c es
plan_below P n [] b c h p = λ x a. subst (λ v. (v.log ≡ []) × (v.left ≡ 0)) (sym (h.one x a)) (p x a)
plan_below P n (Handle x y ∷ es) b c h p = absurd (no_handle P n b x y p.0)
plan_below P n (Begin_wave ∷ es) b c h p = absurd (no_wave P n b p.0)
plan_below {S} P n (Turn y ∷ es) b c h p =
    let w = helps_turn P n b y p.0 in
    let left = ap (λ v. v.left) (h.one y w.inside) ∙ w.left in (
      Turn_helps w.inside w.ops left (ap (λ v. is_operation (turn P v.rank).did) (h.one y w.inside) ∙ w.op),
      plan_below P n es (back_next P n b (Turn y)) (back_next P n c (Turn y))
          (subst (λ d. Below n d (back_next P n c (Turn y))) (sym (next_turn P n b y w.inside (may_left (b.one y).log (b.one y).left (omega (arith, w.left)))))
          (subst (Below n (back_turn P b y)) (sym (next_turn P n c y w.inside (may_left (c.one y).log (c.one y).left (omega (arith, left))))) (turn_below P n b c y w.inside h))) p.1,
    )
plan_below {S} P n (Deliver s y ∷ es) b c h p =
    let w = helps_delivery P n b s y p.0 in
    let names = ap (λ v. v.log) (h.one y w.inside) ∙ w.names in
    let has = h.channel s y w.from w.inside ∙ w.has in (
      Delivery_helps w.from w.inside w.log names (record { message = w.message; rest = w.rest; has = has }),
      plan_below P n es (back_next P n b (Deliver s y)) (back_next P n c (Deliver s y))
          (subst (λ d. Below n d (back_next P n c (Deliver s y))) (sym (next_deliver P n b s y w.log w.message w.rest w.from w.inside (inl w.names) w.has))
          (subst (Below n (back_arrives b s y (took (b.one y) w.log s w.message) w.message w.rest)) (sym (next_deliver P n c s y w.log w.message w.rest w.from w.inside (inl names) has)) (deliver_below n b c s y w.log w.message w.rest w.inside h))) p.1,
    )

-- arrivals that are logged so
named : List Entry → List Logged
named [] = []
named (Late_entry s m ∷ l) = record { source = s; message = m; late = true } ∷ named l
named (Intra_entry s ∷ l) = record { source = s; message = record { context = 0; tag = pos 0; kind = Int; items = [] }; late = false } ∷ named l

names_entries : (l : List Entry) → entries (named l) ≡ l
unfolding named
names_entries [] = refl
names_entries (Late_entry s m ∷ l) = ap (λ z. Late_entry s m ∷ z) (names_entries l)
names_entries (Intra_entry s ∷ l) = ap (λ z. Intra_entry s ∷ z) (names_entries l)

journal_from : {S : Type 0} → Written S → Journal S
journal_from w = record { image = w.image; early = w.early; since = named w.log; ops = w.ops }

is_from : {S : Type 0} (w : Written S) → IsWritten (journal_from w) w
unfolding journal_from
is_from w = record { image = refl; early = λ s. refl; log = names_entries w.log; ops = refl }

pub committed_below : {S : Type 0} (P : Process S) (n : ℕ) (v w : ℕ → Written S) → ((r : ℕ) → r < n → IsImage (w r) (v r)) → ((r : ℕ) → r < n → IsLog (w r) (v r)) → Committed P n v → Committed P n w
committed_below {S} P n v w images logs h = record {
  journal = j;
  written = λ r. cond_both (nat_lt r n) (h.journal r) (journal_from (w r)) (λ (k : Journal S). IsWritten k (w r))
      (λ e. let a = ltb-true r n e in let i = images r a in let l = logs r a in let was = h.written r in
      record { image = was.image ∙ sym i.image; early = λ s. was.early s ∙ sym (i.early s); log = was.log ∙ sym l.log; ops = was.ops ∙ sym l.ops })
      (λ e. is_from (w r));
  line = h.line;
  stand = record {
    reached = h.stand.reached;
    ranks = λ r a. subst (λ k. Stands P k (h.line.rank r)) (sym (same r a)) (h.stand.ranks r a);
    pairs = λ s r a b. subst (λ k. PairFits (sends_to r (replayed P k).sends) ((j r).early s) (intra_from s (j r).since) (h.line.channel s r)) (sym (same s a))
        (subst (λ k. PairFits (sends_to r (replayed P (h.journal s)).sends) (k.early s) (intra_from s k.since) (h.line.channel s r)) (sym (same r b)) (h.stand.pairs s r a b));
    plan = (h.stand.plan.0, plan_below P n h.stand.plan.0 (restart h.journal) (restart j) (record { one = λ r a. ap one_of (same r a); channel = λ s r a b. refl; skip = λ s r a b. ap (λ k. k.early s) (same r b) }) h.stand.plan.1);
  };
}
  where
    j : ℕ → Journal S
    j r = if nat_lt r n then h.journal r else journal_from (w r)

    same : (r : ℕ) → r < n → j r ≡ h.journal r
    same r a = cond-true (nat_lt r n) (h.journal r) (journal_from (w r)) (lt-ltb r n a)
