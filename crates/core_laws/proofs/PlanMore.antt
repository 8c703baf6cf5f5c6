-- A plan for one operation, or one arrival, more.
use Rattle.std.proofs.Common.{◌≡◌, ℕ, zero, suc, pred, ◌<◌, true, List, [], ◌∷◌, ◌++◌, drop, sym, refl, ap, ◌∙◌, subst, inl, ⊎_elim, arith}
use Rattle.std.proofs.lemmas.List.{append-nil}
use Rattle.std.specs.Prelude.{if◌then◌else◌}
use Rattle.std.proofs.lemmas.Bool.{cond-true, cases_eq}
use Rattle.late_logs.specs.declared.entry.Entry.{Entry}
use Rattle.late_logs.specs.declared.entry.Entry.TheVariants.{Late as Late_entry, Intra as Intra_entry}
use Rattle.mpi_words.specs.declared.message.Message.{Message}
use Rattle.core_laws.specs.Rows.{set_at, set_pair}
use Rattle.core_laws.specs.Process.{Process, Rank, turn, arrive, is_operation}
use Rattle.core_laws.specs.Quiet.{Quiet, Event, Turn, Deliver, Handle, Begin_wave}
use Rattle.core_laws.specs.Line.{Logged, sends_to, intra_from}
use Rattle.core_laws.specs.Replay.{Replaying, absorb, Back, back_channel, back_skip, back_turn, back_arrives, back_next, back_run, Lags, PairLags}
use Rattle.core_laws.specs.Plan.{IsDone, Turn_helps, Delivery_helps, Plan, HasPlan}
use Rattle.core_laws.proofs.Changes.{at_set, set_at-same, set_at-other}
use Rattle.core_laws.proofs.Operations.{turn_more}
use Rattle.core_laws.proofs.LagKept.{lag_restoring, lag_deliver, is_none, no_entries, entries_are, replay_none, after_late}
use Rattle.core_laws.proofs.PlanKept.{set_comm, set_twice, one_done, next_turn, next_deliver, may_left, helps_turn, helps_delivery, no_handle, no_wave, took}

-- A plan's run keeps the state that is lagged behind.
pub record Reaches {S : Type 0} (P : Process S) (n : ℕ) (b : Back S) (v : Quiet S) : Type 0 where
  pub since : ℕ → List Logged
  pub lags : Lags P n b v since

lags_plan : {S : Type 0} (P : Process S) (n : ℕ) (es : List Event) (b : Back S) (v : Quiet S) (since : ℕ → List Logged) → Plan P n b es → Lags P n b v since → Reaches P n (back_run P n b es) v
lags_plan P n [] b v since h lags = record { since = since; lags = lags }
lags_plan P n (Handle x y ∷ es) b v since h lags = absurd (no_handle P n b x y h.0)
lags_plan P n (Begin_wave ∷ es) b v since h lags = absurd (no_wave P n b h.0)
lags_plan P n (Turn r ∷ es) b v since h lags = let w = helps_turn P n b r h.0 in
    lags_plan P n es (back_next P n b (Turn r)) v since h.1
    (subst (λ c. Lags P n c v since) (sym (next_turn P n b r w.inside (may_left (b.one r).log (b.one r).left (omega (arith, w.left))))) (lag_restoring P n b v since r w.ops w.inside w.left w.op lags))
lags_plan P n (Deliver s r ∷ es) b v since h lags = let w = helps_delivery P n b s r h.0 in let l = entries_are (since r) s w.log (sym (lags.logs r w.inside) ∙ w.names) in
    lags_plan P n es (back_next P n b (Deliver s r)) v (set_at since r (after_late l.1)) h.1
    (subst (λ c. Lags P n c v (set_at since r (after_late l.1))) (ap (λ g. back_arrives b s r (absorb (b.one r).left (arrive (b.one r).rank s w.message) g) w.message w.rest) l.5 ∙ sym (next_deliver P n b s r w.log w.message w.rest w.from w.inside (inl w.names) w.has))
    (lag_deliver P n b v since s r w.message w.rest l.0 l.1 w.from w.inside w.has l.2 l.3 l.4 lags))

plan_done : {S : Type 0} (P : Process S) (n : ℕ) (es : List Event) (b : Back S) → Plan P n b es → IsDone n (back_run P n b es)
plan_done P n [] b h = h
plan_done P n (e ∷ es) b h = plan_done P n es (back_next P n b e) h.1

-- at its end the ranks and channels are those of v
pub done_rank : {S : Type 0} (P : Process S) (n : ℕ) (b : Back S) (v : Quiet S) → IsDone n b → Reaches P n b v → (r : ℕ) → r < n → (b.one r).rank ≡ v.rank r
done_rank P n b v done h r a = is_none P (b.one r) (h.since r) (v.rank r) (done r a).1 (no_entries (h.since r) (sym (h.lags.logs r a) ∙ (done r a).0)) (h.lags.stands r a)

pub done_channel : {S : Type 0} (P : Process S) (n : ℕ) (b : Back S) (v : Quiet S) → IsDone n b → Reaches P n b v → (s r : ℕ) → s < n → r < n → b.channel s r ≡ v.channel s r
done_channel {S} P n b v done h s r a c = sym (append-nil (b.channel s r)) ∙ ap (λ l. b.channel s r ++ l) (sym (nothing (b.skip s r))) ∙ pairs.rest ∙ ap (λ l. intra_from s l ++ v.channel s r) (empty r c)
  where
    empty : (r : ℕ) → r < n → h.since r ≡ []
    empty r a = no_entries (h.since r) (sym (h.lags.logs r a) ∙ (done r a).0)

    none : List Message
    none = []

    nothing : (k : ℕ) → drop k none ≡ none
    nothing zero = refl
    nothing (suc k) = refl

    pairs : PairLags (b.channel s r) [] (b.skip s r) (intra_from s (h.since r)) (v.channel s r)
    pairs = subst (λ d. PairLags (b.channel s r) (sends_to r d.sends) (b.skip s r) (intra_from s (h.since r)) (v.channel s r)) (replay_none P (b.one s) (h.since s) (done s a).1 (empty s a)) (h.lags.pairs s r a c)

-- and nothing is left to leave out
pub done_skip : {S : Type 0} (P : Process S) (n : ℕ) (b : Back S) (v : Quiet S) → IsDone n b → Reaches P n b v → (s r : ℕ) → s < n → r < n → b.skip s r ≡ 0
done_skip {S} P n b v done h s r a c = omega (arith, pairs.enough)
  where
    empty : (r : ℕ) → r < n → h.since r ≡ []
    empty r a = no_entries (h.since r) (sym (h.lags.logs r a) ∙ (done r a).0)

    pairs : PairLags (b.channel s r) [] (b.skip s r) (intra_from s (h.since r)) (v.channel s r)
    pairs = subst (λ d. PairLags (b.channel s r) (sends_to r d.sends) (b.skip s r) (intra_from s (h.since r)) (v.channel s r)) (replay_none P (b.one s) (h.since s) (done s a).1 (empty s a)) (h.lags.pairs s r a c)

-- A change at the end of one rank's replay.
record EndTurn {S : Type 0} (P : Process S) (E : Replaying S → Replaying S) (v : Replaying S) : Type 0 where
  did : (turn P (E v).rank).did ≡ (turn P v.rank).did
  ops : ℕ
  left : (E v).left ≡ suc ops
  same : one_done P (E v) ≡ E (one_done P v)

record EndTake {S : Type 0} (E : Replaying S → Replaying S) (v : Replaying S) (s : ℕ) (log : List Entry) (m : Message) : Type 0 where
  after : List Entry
  names : (E v).log ≡ Intra_entry s ∷ after
  same : took (E v) after s m ≡ E (took v log s m)

record IsEnd {S : Type 0} (P : Process S) (E : Replaying S → Replaying S) : Type 0 where
  turns : (v : Replaying S) (j : ℕ) → v.left ≡ suc j → is_operation (turn P v.rank).did ≡ true → EndTurn P E v
  takes : (v : Replaying S) (s : ℕ) (log : List Entry) (m : Message) → v.log ≡ Intra_entry s ∷ log → EndTake E v s log m

abbrev extended : {S : Type 0} → (Replaying S → Replaying S) → ℕ → Back S → Back S
extended E r b = record b { one = set_at b.one r (E (b.one r)) }

end_turn : {S : Type 0} (P : Process S) (E : Replaying S → Replaying S) → IsEnd P E → (r : ℕ) (b : Back S) (y j : ℕ) → (b.one y).left ≡ suc j → is_operation (turn P (b.one y).rank).did ≡ true
    → (back_turn P (extended E r b) y ≡ extended E r (back_turn P b y)) × (is_operation (turn P ((extended E r b).one y).rank).did ≡ true) × ((k : ℕ) × (((extended E r b).one y).left ≡ suc k))
end_turn {S} P E end r b y j left op = ⊎_elim here there (cases_eq y r)
  where
    Goal : ℕ → Type 0
    Goal y = (back_turn P (extended E r b) y ≡ extended E r (back_turn P b y)) × (is_operation (turn P ((extended E r b).one y).rank).did ≡ true) × ((k : ℕ) × (((extended E r b).one y).left ≡ suc k))

    at_r : (b.one r).left ≡ suc j → is_operation (turn P (b.one r).rank).did ≡ true → Goal r
    at_r left op = let e = end.turns (b.one r) j left op in let x = set_at-same b.one r (E (b.one r)) in (
      ap (λ v. record { one = set_at (set_at b.one r (E (b.one r))) r (one_done P v); channel = back_channel b.channel b.skip r (turn P v.rank).did; skip = back_skip b.skip r (turn P v.rank).did }) x
          ∙ ap (λ d. record { one = set_at (set_at b.one r (E (b.one r))) r (one_done P (E (b.one r))); channel = back_channel b.channel b.skip r d; skip = back_skip b.skip r d }) e.did
          ∙ ap (λ o. record { one = o; channel = back_channel b.channel b.skip r (turn P (b.one r).rank).did; skip = back_skip b.skip r (turn P (b.one r).rank).did })
          (set_twice b.one r (E (b.one r)) (one_done P (E (b.one r))) ∙ ap (set_at b.one r) e.same ∙ sym (ap (λ v. set_at (set_at b.one r (one_done P (b.one r))) r (E v)) (set_at-same b.one r (one_done P (b.one r))) ∙ set_twice b.one r (one_done P (b.one r)) (E (one_done P (b.one r))))),
      ap (λ v. is_operation (turn P v.rank).did) x ∙ ap is_operation e.did ∙ op,
      (e.ops, ap (λ v. v.left) x ∙ e.left),
    )

    here : y ≡ r → Goal y
    here e = subst Goal (sym e) (at_r (ap (λ z. (b.one z).left) (sym e) ∙ left) (ap (λ z. is_operation (turn P (b.one z).rank).did) (sym e) ∙ op))

    there : (y ≡ r → ⊥) → Goal y
    there e = let x = set_at-other b.one r (E (b.one r)) y e in (
      ap (λ v. record { one = set_at (set_at b.one r (E (b.one r))) y (one_done P v); channel = back_channel b.channel b.skip y (turn P v.rank).did; skip = back_skip b.skip y (turn P v.rank).did }) x
          ∙ ap (λ o. record { one = o; channel = back_channel b.channel b.skip y (turn P (b.one y).rank).did; skip = back_skip b.skip y (turn P (b.one y).rank).did })
          (set_comm b.one r y (E (b.one r)) (one_done P (b.one y)) (λ z. e (sym z)) ∙ sym (ap (λ v. set_at (set_at b.one y (one_done P (b.one y))) r (E v)) (set_at-other b.one y (one_done P (b.one y)) r (λ z. e (sym z))))),
      ap (λ v. is_operation (turn P v.rank).did) x ∙ op,
      (j, ap (λ v. v.left) x ∙ left),
    )

end_take : {S : Type 0} (P : Process S) (E : Replaying S → Replaying S) → IsEnd P E → (r : ℕ) (b : Back S) (s y : ℕ) (log : List Entry) (m : Message) (rest : List Message) → (b.one y).log ≡ Intra_entry s ∷ log
    → (after : List Entry) × (((extended E r b).one y).log ≡ Intra_entry s ∷ after) × (back_arrives (extended E r b) s y (took ((extended E r b).one y) after s m) m rest ≡ extended E r (back_arrives b s y (took (b.one y) log s m) m rest))
end_take {S} P E end r b s y log m rest names = ⊎_elim here there (cases_eq y r)
  where
    Goal : ℕ → Type 0
    Goal y = (after : List Entry) × (((extended E r b).one y).log ≡ Intra_entry s ∷ after) × (back_arrives (extended E r b) s y (took ((extended E r b).one y) after s m) m rest ≡ extended E r (back_arrives b s y (took (b.one y) log s m) m rest))

    at_r : (b.one r).log ≡ Intra_entry s ∷ log → Goal r
    at_r names = let e = end.takes (b.one r) s log m names in let x = set_at-same b.one r (E (b.one r)) in (
      e.after,
      ap (λ v. v.log) x ∙ e.names,
      ap (λ o. record { one = o; channel = set_pair b.channel s r rest; skip = b.skip })
          (ap (λ v. set_at (set_at b.one r (E (b.one r))) r (took v e.after s m)) x ∙ set_twice b.one r (E (b.one r)) (took (E (b.one r)) e.after s m) ∙ ap (set_at b.one r) e.same
          ∙ sym (ap (λ v. set_at (set_at b.one r (took (b.one r) log s m)) r (E v)) (set_at-same b.one r (took (b.one r) log s m)) ∙ set_twice b.one r (took (b.one r) log s m) (E (took (b.one r) log s m)))),
    )

    here : y ≡ r → Goal y
    here e = subst Goal (sym e) (at_r (ap (λ z. (b.one z).log) (sym e) ∙ names))

    there : (y ≡ r → ⊥) → Goal y
    there e = let x = set_at-other b.one r (E (b.one r)) y e in (
      log,
      ap (λ v. v.log) x ∙ names,
      ap (λ o. record { one = o; channel = set_pair b.channel s y rest; skip = b.skip })
          (ap (λ v. set_at (set_at b.one r (E (b.one r))) y (took v log s m)) x ∙ set_comm b.one r y (E (b.one r)) (took (b.one y) log s m) (λ z. e (sym z))
          ∙ sym (ap (λ v. set_at (set_at b.one y (took (b.one y) log s m)) r (E v)) (set_at-other b.one y (took (b.one y) log s m) r (λ z. e (sym z))))),
    )

-- the same plan goes on in the extended state, up to the plan's end
extend_plan : {S : Type 0} (P : Process S) (n : ℕ) (E : Replaying S → Replaying S) → IsEnd P E → (r : ℕ) (es : List Event) (b : Back S) → Plan P n b es → HasPlan P n (extended E r (back_run P n b es)) → HasPlan P n (extended E r b)
extend_plan P n E end r [] b h finish = finish
extend_plan P n E end r (Handle x y ∷ es) b h finish = absurd (no_handle P n b x y h.0)
extend_plan P n E end r (Begin_wave ∷ es) b h finish = absurd (no_wave P n b h.0)
extend_plan P n E end r (Turn y ∷ es) b h finish =
    let w = helps_turn P n b y h.0 in
    let t = end_turn P E end r b y w.ops w.left w.op in
    let k = extend_plan P n E end r es (back_next P n b (Turn y)) h.1 finish in (
      Turn y ∷ k.0,
      (
        Turn_helps w.inside t.2.0 t.2.1 t.1,
        subst (λ c. Plan P n c k.0) (ap (extended E r) (next_turn P n b y w.inside (may_left (b.one y).log (b.one y).left (omega (arith, w.left)))) ∙ sym t.0 ∙ sym (next_turn P n (extended E r b) y w.inside (may_left ((extended E r b).one y).log ((extended E r b).one y).left (omega (arith, t.2.1))))) k.1,
      ),
    )
extend_plan P n E end r (Deliver s y ∷ es) b h finish =
    let w = helps_delivery P n b s y h.0 in
    let t = end_take P E end r b s y w.log w.message w.rest w.names in
    let k = extend_plan P n E end r es (back_next P n b (Deliver s y)) h.1 finish in (
      Deliver s y ∷ k.0,
      (
        Delivery_helps w.from w.inside t.0 t.1 (record { message = w.message; rest = w.rest; has = w.has }),
        subst (λ c. Plan P n c k.0) (ap (extended E r) (next_deliver P n b s y w.log w.message w.rest w.from w.inside (inl w.names) w.has) ∙ sym t.2 ∙ sym (next_deliver P n (extended E r b) s y t.0 w.message w.rest w.from w.inside (inl t.1) w.has)) k.1,
      ),
    )

-- One operation more.
abbrev pub end_op : {S : Type 0} → Replaying S → Replaying S
end_op v = record v { left = suc v.left }

pub absorb_more : {S : Type 0} (l : ℕ) (k : Rank S) (log : List Entry) → absorb (suc l) k log ≡ end_op (absorb l k log)
absorb_more l k [] = refl
absorb_more l k (Late_entry a x ∷ log) = absorb_more l (arrive k a x) log
absorb_more l k (Intra_entry a ∷ log) = refl

is_end_op : {S : Type 0} (P : Process S) → IsEnd P end_op
is_end_op P = record {
  turns = λ v j left op. record {
    did = refl;
    ops = v.left;
    left = refl;
    same = ap (λ i. record { rank = (turn P v.rank).rank; log = v.log; left = i })
        (cond-true (is_operation (turn P v.rank).did) (pred (suc v.left)) (suc v.left) op ∙ omega (arith, left) ∙ sym (ap suc (cond-true (is_operation (turn P v.rank).did) (pred v.left) v.left op)));
  };
  takes = λ v s log m names. record { after = log; names = names; same = absorb_more v.left (arrive v.rank s m) log };
}

-- An intra arrival more.
abbrev pub end_intra : {S : Type 0} → ℕ → Replaying S → Replaying S
end_intra a v = record v { log = v.log ++ Intra_entry a ∷ [] }

pub absorb_intra : {S : Type 0} (a l : ℕ) (k : Rank S) (log : List Entry) → absorb l k (log ++ Intra_entry a ∷ []) ≡ end_intra a (absorb l k log)
absorb_intra a l k [] = refl
absorb_intra a l k (Late_entry b x ∷ log) = absorb_intra a l (arrive k b x) log
absorb_intra a l k (Intra_entry b ∷ log) = refl

is_end_intra : {S : Type 0} (P : Process S) (a : ℕ) → IsEnd P (end_intra a)
is_end_intra P a = record {
  turns = λ v j left op. record { did = refl; ops = j; left = left; same = refl };
  takes = λ v s log m names. record { after = log ++ Intra_entry a ∷ []; names = ap (λ l. l ++ Intra_entry a ∷ []) names; same = absorb_intra a v.left (arrive v.rank s m) log };
}

-- A late arrival more.
abbrev pub late_end : {S : Type 0} → ℕ → Message → Replaying S → List Entry → Replaying S
late_end a x v [] = record v { rank = arrive v.rank a x }
late_end a x v (e ∷ l) = record v { log = (e ∷ l) ++ Late_entry a x ∷ [] }

abbrev pub end_late : {S : Type 0} → ℕ → Message → Replaying S → Replaying S
end_late a x v = late_end a x v v.log

pub absorb_late : {S : Type 0} (a : ℕ) (x : Message) (l : ℕ) (k : Rank S) (log : List Entry) → absorb l k (log ++ Late_entry a x ∷ []) ≡ end_late a x (absorb l k log)
absorb_late a x l k [] = refl
absorb_late a x l k (Late_entry b y ∷ log) = absorb_late a x l (arrive k b y) log
absorb_late a x l k (Intra_entry b ∷ log) = refl

late_turn : {S : Type 0} (P : Process S) (a : ℕ) (x : Message) (k : Rank S) (log : List Entry) (left j : ℕ) → left ≡ suc j → is_operation (turn P k).did ≡ true → EndTurn P (end_late a x) (record { rank = k; log = log; left = left })
late_turn {S} P a x k [] left j e op = let t = turn_more P k a x op in record {
  did = ap (λ z. z.did) t;
  ops = j;
  left = e;
  same = ap (λ z. record { rank = z.rank; log = []; left = if is_operation z.did then pred left else left }) t;
}
late_turn P a x k (b ∷ log) left j e op = record { did = refl; ops = j; left = e; same = refl }

late_take : {S : Type 0} (a : ℕ) (x : Message) (k : Rank S) (log : List Entry) (left s : ℕ) (rest : List Entry) (m : Message) → log ≡ Intra_entry s ∷ rest → EndTake (end_late a x) (record { rank = k; log = log; left = left }) s rest m
late_take a x k [] left s rest m e = absurd (cc)
late_take a x k (b ∷ log) left s rest m e = record { after = rest ++ Late_entry a x ∷ []; names = ap (λ l. l ++ Late_entry a x ∷ []) e; same = absorb_late a x left (arrive k s m) rest }

is_end_late : {S : Type 0} (P : Process S) (a : ℕ) (x : Message) → IsEnd P (end_late a x)
is_end_late P a x = record {
  turns = λ v j left op. late_turn P a x v.rank v.log v.left j left op;
  takes = λ v s log m names. late_take a x v.rank v.log v.left s log m names;
}

-- The plan for it.
pub plan_op : {S : Type 0} (P : Process S) (n : ℕ) (b : Back S) (v : Quiet S) (since : ℕ → List Logged) (r : ℕ) → r < n → Lags P n b v since → is_operation (turn P (v.rank r)).did ≡ true → HasPlan P n b → HasPlan P n (extended end_op r b)
plan_op {S} P n b v since r inside lags op h = extend_plan P n end_op (is_end_op P) r h.0 b h.1 (Turn r ∷ [], (Turn_helps inside (f.one r).left left op', subst (IsDone n) (sym (next_turn P n e r inside (may_left (e.one r).log (e.one r).left (omega (arith, left))))) after))
  where
    f : Back S
    f = back_run P n b h.0

    done : IsDone n f
    done = plan_done P n h.0 b h.1

    e : Back S
    e = extended end_op r f

    x : e.one r ≡ end_op (f.one r)
    x = set_at-same f.one r (end_op (f.one r))

    left : (e.one r).left ≡ suc (f.one r).left
    left = ap (λ z. z.left) x

    op' : is_operation (turn P (e.one r).rank).did ≡ true
    op' = ap (λ z. is_operation (turn P z.rank).did) x ∙ ap (λ z. is_operation (turn P z).did) (done_rank P n f v done (lags_plan P n h.0 b v since h.1 lags) r inside) ∙ op

    after : IsDone n (back_turn P e r)
    after y a = at_set (λ z. (z.log ≡ []) × (z.left ≡ 0)) e.one r (one_done P (e.one r)) y
        (λ _. (ap (λ z. z.log) x ∙ (done r inside).0, cond-true (is_operation (turn P (e.one r).rank).did) (pred (e.one r).left) (e.one r).left op' ∙ ap pred left ∙ omega (arith, (done r inside).1)))
        (λ d. at_set (λ z. (z.log ≡ []) × (z.left ≡ 0)) f.one r (end_op (f.one r)) y (λ g. absurd (d g)) (λ _. done y a))

pub plan_intra : {S : Type 0} (P : Process S) (n : ℕ) (b : Back S) (v : Quiet S) (since : ℕ → List Logged) (s r : ℕ) (m : Message) (rest : List Message) → s < n → r < n → Lags P n b v since → v.channel s r ≡ m ∷ rest → HasPlan P n b → HasPlan P n (extended (end_intra s) r b)
plan_intra {S} P n b v since s r m rest a inside lags has h = extend_plan P n (end_intra s) (is_end_intra P s) r h.0 b h.1
    (Deliver s r ∷ [], (Delivery_helps a inside [] names (record { message = m; rest = rest; has = there }), subst (IsDone n) (sym (next_deliver P n e s r [] m rest a inside (inl names) there)) after))
  where
    f : Back S
    f = back_run P n b h.0

    done : IsDone n f
    done = plan_done P n h.0 b h.1

    e : Back S
    e = extended (end_intra s) r f

    x : e.one r ≡ end_intra s (f.one r)
    x = set_at-same f.one r (end_intra s (f.one r))

    names : (e.one r).log ≡ Intra_entry s ∷ []
    names = ap (λ z. z.log) x ∙ ap (λ l. l ++ Intra_entry s ∷ []) (done r inside).0

    there : e.channel s r ≡ m ∷ rest
    there = done_channel P n f v done (lags_plan P n h.0 b v since h.1 lags) s r a inside ∙ has

    after : IsDone n (back_arrives e s r (took (e.one r) [] s m) m rest)
    after y c = at_set (λ z. (z.log ≡ []) × (z.left ≡ 0)) e.one r (took (e.one r) [] s m) y
        (λ _. (refl, ap (λ z. z.left) x ∙ (done r inside).1))
        (λ d. at_set (λ z. (z.log ≡ []) × (z.left ≡ 0)) f.one r (end_intra s (f.one r)) y (λ g. absurd (d g)) (λ _. done y c))

pub plan_late : {S : Type 0} (P : Process S) (n : ℕ) (b : Back S) (r a : ℕ) (x : Message) → r < n → HasPlan P n b → HasPlan P n (extended (end_late a x) r b)
plan_late {S} P n b r a x inside h = extend_plan P n (end_late a x) (is_end_late P a x) r h.0 b h.1 ([], after)
  where
    f : Back S
    f = back_run P n b h.0

    done : IsDone n f
    done = plan_done P n h.0 b h.1

    after : IsDone n (extended (end_late a x) r f)
    after y c = at_set (λ z. (z.log ≡ []) × (z.left ≡ 0)) f.one r (end_late a x (f.one r)) y
        (λ _. subst (λ l. ((late_end a x (f.one r) l).log ≡ []) × ((late_end a x (f.one r) l).left ≡ 0)) (sym (done r inside).0) (done r inside))
        (λ _. done y c)
