-- What a plan does not see: a rank that has nothing left to restore, and what waits for it.
use Rattle.std.proofs.Common.{◌≡◌, ℕ, suc, pred, Bool, true, false, cond, List, [], ◌∷◌, ◌++◌, sym, refl, ap, ◌∙◌, subst, inl, ⊎_elim, arith}
use Rattle.std.proofs.Math.Path.{fun_ext}
use Rattle.std.specs.Prelude.{nat_lt}
use Rattle.std.proofs.lemmas.Bool.{cond_both, cond-true, cond-false, cases_eq, cases_Bool}
use Rattle.late_logs.specs.declared.entry.Entry.{Entry}
use Rattle.late_logs.specs.declared.entry.Entry.TheVariants.{Late as Late_entry, Intra as Intra_entry}
use Rattle.mpi_words.specs.declared.message.Message.{Message}
use Rattle.core_laws.specs.Rows.{set_at, set_pair}
use Rattle.core_laws.specs.Protocol.{Class, is_late}
use Rattle.core_laws.specs.Process.{Process, Rank, Did, Nothing, Sent, Local, Marked, Turned, turn, is_operation}
use Rattle.core_laws.specs.Quiet.{Event, Turn, Deliver, Handle, Begin_wave}
use Rattle.core_laws.specs.Line.{Logged, Journal, journal_turn, journal_arrive}
use Rattle.core_laws.specs.Replay.{entry, entries, Replaying, absorb, Back, back_channel, back_skip, back_turn, back_arrives, back_next, restart}
use Rattle.core_laws.specs.Plan.{Turn_helps, Delivery_helps, Plan, HasPlan}
use Rattle.core_laws.proofs.Changes.{at_set, at_set_both, set_at-same, set_at-other, set_pair-other_column, at_set_pair_both}
use Rattle.core_laws.proofs.PlanKept.{set_same, back_path, one_done, next_turn, next_deliver, may_left, helps_turn, helps_delivery, no_handle, no_wave, took}
use Rattle.core_laws.proofs.PlanMore.{end_op, end_intra, end_late, absorb_more, absorb_late, absorb_intra}

record Alike {S : Type 0} (r : ℕ) (b c : Back S) : Type 0 where
  one : (x : ℕ) → (x ≡ r → ⊥) → c.one x ≡ b.one x
  done : ((b.one r).log ≡ []) × ((b.one r).left ≡ 0)
  done' : ((c.one r).log ≡ []) × ((c.one r).left ≡ 0)
  channel : (s y : ℕ) → (y ≡ r → ⊥) → c.channel s y ≡ b.channel s y
  skip : (s y : ℕ) → (y ≡ r → ⊥) → c.skip s y ≡ b.skip s y

channel_alike : (q q' : ℕ → ℕ → List Message) (k k' : ℕ → ℕ → ℕ) (r y : ℕ) (d : Did) → ((s z : ℕ) → (z ≡ r → ⊥) → q' s z ≡ q s z) → ((s z : ℕ) → (z ≡ r → ⊥) → k' s z ≡ k s z)
    → (s z : ℕ) → (z ≡ r → ⊥) → back_channel q' k' y d s z ≡ back_channel q k y d s z
channel_alike q q' k k' r y Nothing h g s z e = h s z e
channel_alike q q' k k' r y Local h g s z e = h s z e
channel_alike q q' k k' r y Marked h g s z e = h s z e
channel_alike q q' k k' r y (Sent to m) h g s z e = ⊎_elim
    (λ d. cond_both (nat_lt 0 (k' y to)) q' (set_pair q' y to (q' y to ++ m ∷ [])) (λ c. c s z ≡ back_channel q k y (Sent to m) s z)
    (λ _. h s z e ∙ sym (plain q k d)) (λ _. set_pair-other_column q' y to (q' y to ++ m ∷ []) s z (λ f. e (f ∙ d)) ∙ h s z e ∙ sym (plain q k d)))
    (λ d. ap (λ b. cond b q' (set_pair q' y to (q' y to ++ m ∷ [])) s z) (ap (nat_lt 0) (g y to d))
    ∙ both (nat_lt 0 (k y to)) (at_set_pair_both (λ u v. u ≡ v) q' q y to (q' y to ++ m ∷ []) (q y to ++ m ∷ []) s z (λ _ _. ap (λ l. l ++ m ∷ []) (h y to d)) (h s z e)))
    (cases_eq to r)
  where
    plain : (q : ℕ → ℕ → List Message) (k : ℕ → ℕ → ℕ) → to ≡ r → back_channel q k y (Sent to m) s z ≡ q s z
    plain q k d = cond_both (nat_lt 0 (k y to)) q (set_pair q y to (q y to ++ m ∷ [])) (λ c. c s z ≡ q s z) (λ _. refl) (λ _. set_pair-other_column q y to (q y to ++ m ∷ []) s z (λ f. e (f ∙ d)))

    both : (b : Bool) → set_pair q' y to (q' y to ++ m ∷ []) s z ≡ set_pair q y to (q y to ++ m ∷ []) s z → cond b q' (set_pair q' y to (q' y to ++ m ∷ [])) s z ≡ cond b q (set_pair q y to (q y to ++ m ∷ [])) s z
    both true f = h s z e
    both false f = f

skip_alike : (k k' : ℕ → ℕ → ℕ) (r y : ℕ) (d : Did) → ((s z : ℕ) → (z ≡ r → ⊥) → k' s z ≡ k s z) → (s z : ℕ) → (z ≡ r → ⊥) → back_skip k' y d s z ≡ back_skip k y d s z
skip_alike k k' r y Nothing g s z e = g s z e
skip_alike k k' r y Local g s z e = g s z e
skip_alike k k' r y Marked g s z e = g s z e
skip_alike k k' r y (Sent to m) g s z e = at_set_pair_both (λ u v. u ≡ v) k' k y to (pred (k' y to)) (pred (k y to)) s z (λ _ d. ap pred (g y to (λ f. e (d ∙ f)))) (g s z e)

alike_turn : {S : Type 0} (P : Process S) (r : ℕ) (b c : Back S) (y : ℕ) → (y ≡ r → ⊥) → Alike r b c → Alike r (back_turn P b y) (back_turn P c y)
alike_turn {S} P r b c y e h = record {
  one = λ x d. at_set_both (λ u v. u ≡ v) c.one b.one y (one_done P (c.one y)) (one_done P (b.one y)) x (λ _. ap (one_done P) (h.one y e)) (λ _. h.one x d);
  done = subst (λ v. (v.log ≡ []) × (v.left ≡ 0)) (sym (set_at-other b.one y (one_done P (b.one y)) r (λ z. e (sym z)))) h.done;
  done' = subst (λ v. (v.log ≡ []) × (v.left ≡ 0)) (sym (set_at-other c.one y (one_done P (c.one y)) r (λ z. e (sym z)))) h.done';
  channel = λ s z d. ap (λ v. back_channel c.channel c.skip y (turn P v.rank).did s z) (h.one y e) ∙ channel_alike b.channel c.channel b.skip c.skip r y (turn P (b.one y).rank).did h.channel h.skip s z d;
  skip = λ s z d. ap (λ v. back_skip c.skip y (turn P v.rank).did s z) (h.one y e) ∙ skip_alike b.skip c.skip r y (turn P (b.one y).rank).did h.skip s z d;
}

alike_deliver : {S : Type 0} (r : ℕ) (b c : Back S) (s y : ℕ) (log : List Entry) (m : Message) (rest : List Message) → (y ≡ r → ⊥) → Alike r b c → Alike r (back_arrives b s y (took (b.one y) log s m) m rest) (back_arrives c s y (took (c.one y) log s m) m rest)
alike_deliver {S} r b c s y log m rest e h = record {
  one = λ x d. at_set_both (λ u v. u ≡ v) c.one b.one y (took (c.one y) log s m) (took (b.one y) log s m) x (λ _. ap (λ v. took v log s m) (h.one y e)) (λ _. h.one x d);
  done = subst (λ v. (v.log ≡ []) × (v.left ≡ 0)) (sym (set_at-other b.one y (took (b.one y) log s m) r (λ z. e (sym z)))) h.done;
  done' = subst (λ v. (v.log ≡ []) × (v.left ≡ 0)) (sym (set_at-other c.one y (took (c.one y) log s m) r (λ z. e (sym z)))) h.done';
  channel = λ t z d. at_set_pair_both (λ u v. u ≡ v) c.channel b.channel s y rest rest t z (λ _ _. refl) (h.channel t z d);
  skip = h.skip;
}

plan_alike : {S : Type 0} (P : Process S) (n r : ℕ) (es : List Event) (b c : Back S) → Alike r b c → Plan P n b es → Plan P n c es
plan_alike P n r [] b c h p = λ x a. ⊎_elim (λ e. subst (λ z. ((c.one z).log ≡ []) × ((c.one z).left ≡ 0)) (sym e) h.done') (λ e. subst (λ v. (v.log ≡ []) × (v.left ≡ 0)) (sym (h.one x e)) (p x a)) (cases_eq x r)
plan_alike P n r (Handle x y ∷ es) b c h p = absurd (no_handle P n b x y p.0)
plan_alike P n r (Begin_wave ∷ es) b c h p = absurd (no_wave P n b p.0)
plan_alike {S} P n r (Turn y ∷ es) b c h p =
    let w = helps_turn P n b y p.0 in
    let other : y ≡ r → ⊥ = λ e. not_both (b.one r).left w.ops h.done.1 (ap (λ z. (b.one z).left) (sym e) ∙ w.left) in
    let left = ap (λ v. v.left) (h.one y other) ∙ w.left in (
      Turn_helps w.inside w.ops left (ap (λ v. is_operation (turn P v.rank).did) (h.one y other) ∙ w.op),
      plan_alike P n r es (back_next P n b (Turn y)) (back_next P n c (Turn y))
          (subst (λ d. Alike r d (back_next P n c (Turn y))) (sym (next_turn P n b y w.inside (may_left (b.one y).log (b.one y).left (omega (arith, w.left)))))
          (subst (Alike r (back_turn P b y)) (sym (next_turn P n c y w.inside (may_left (c.one y).log (c.one y).left (omega (arith, left))))) (alike_turn P r b c y other h))) p.1,
    )
  where
    not_both : (k j : ℕ) → k ≡ 0 → k ≡ suc j → ⊥
    not_both k j e f = omega arith
plan_alike {S} P n r (Deliver s y ∷ es) b c h p =
    let w = helps_delivery P n b s y p.0 in
    let other : y ≡ r → ⊥ = λ e. not_both (b.one r).log w.log h.done.0 (ap (λ z. (b.one z).log) (sym e) ∙ w.names) in
    let names = ap (λ v. v.log) (h.one y other) ∙ w.names in
    let has = h.channel s y other ∙ w.has in (
      Delivery_helps w.from w.inside w.log names (record { message = w.message; rest = w.rest; has = has }),
      plan_alike P n r es (back_next P n b (Deliver s y)) (back_next P n c (Deliver s y))
          (subst (λ d. Alike r d (back_next P n c (Deliver s y))) (sym (next_deliver P n b s y w.log w.message w.rest w.from w.inside (inl w.names) w.has))
          (subst (Alike r (back_arrives b s y (took (b.one y) w.log s w.message) w.message w.rest)) (sym (next_deliver P n c s y w.log w.message w.rest w.from w.inside (inl names) has)) (alike_deliver r b c s y w.log w.message w.rest other h))) p.1,
    )
  where
    not_both : (k l : List Entry) → k ≡ [] → k ≡ Intra_entry s ∷ l → ⊥
    not_both k l e f = (cc)

-- The restart of journals, one of which changes.
abbrev pub one_of : {S : Type 0} → Journal S → Replaying S
one_of j = absorb j.ops j.image (entries j.since)

-- before its save
pub plan_unsaved : {S : Type 0} (P : Process S) (n : ℕ) (j : ℕ → Journal S) (r : ℕ) (v : Journal S) → (j r).since ≡ [] → (j r).ops ≡ 0 → v.since ≡ [] → v.ops ≡ 0 → HasPlan P n (restart j) → HasPlan P n (restart (set_at j r v))
plan_unsaved {S} P n j r v a b c d h = (
  h.0,
  plan_alike P n r h.0 (restart j) (restart (set_at j r v)) (record {
    one = λ x e. ap one_of (set_at-other j r v x e);
    done = nothing (j r) a b;
    done' = subst (λ w. ((one_of w).log ≡ []) × ((one_of w).left ≡ 0)) (sym (set_at-same j r v)) (nothing v c d);
    channel = λ s y e. refl;
    skip = λ s y e. ap (λ w. w.early s) (set_at-other j r v y e);
  }) h.1,
)
  where
    nothing : (w : Journal S) → w.since ≡ [] → w.ops ≡ 0 → ((one_of w).log ≡ []) × ((one_of w).left ≡ 0)
    nothing w e f = (ap (λ l. (absorb w.ops w.image (entries l)).log) e, ap (λ l. (absorb w.ops w.image (entries l)).left) e ∙ f)

-- after it
restart_extended : {S : Type 0} (j : ℕ → Journal S) (r : ℕ) (v : Journal S) (E : Replaying S → Replaying S) → one_of v ≡ E (one_of (j r)) → ((s : ℕ) → v.early s ≡ (j r).early s)
    → restart (set_at j r v) ≡ record (restart j) { one = set_at (restart j).one r (E ((restart j).one r)) }
restart_extended {S} j r v E e f = back_path (λ x. one_of (set_at j r v x)) (set_at (λ x. one_of (j x)) r (E (one_of (j r)))) (λ s y. []) (λ s y. []) (λ s y. (set_at j r v y).early s) (λ s y. (j y).early s)
    (fun_ext (λ x. at_set_both (λ w z. one_of w ≡ z) j (λ x. one_of (j x)) r v (E (one_of (j r))) x (λ _. e) (λ _. refl))) refl
    (fun_ext (λ s. fun_ext (λ y. at_set (λ w. w.early s ≡ (j y).early s) j r v y (λ d. f s ∙ ap (λ z. (j z).early s) (sym d)) (λ _. refl))))

pub entries-push : (l : List Logged) (a : Logged) → entries (l ++ a ∷ []) ≡ entries l ++ entry a ∷ []
entries-push [] a = refl
entries-push (b ∷ l) a = ap (λ z. entry b ∷ z) (entries-push l a)

-- a turn of a saved rank
pub plan_turn : {S : Type 0} (P : Process S) (n : ℕ) (j : ℕ → Journal S) (r : ℕ) (t : Turned S) → (is_operation t.did ≡ true → HasPlan P n (record (restart j) { one = set_at (restart j).one r (end_op ((restart j).one r)) })) → HasPlan P n (restart j) → HasPlan P n (restart (set_at j r (journal_turn true (j r) t)))
plan_turn {S} P n j r t grown h = ⊎_elim
    (λ e. subst (HasPlan P n) (sym (restart_extended j r (journal_turn true (j r) t) end_op (ap (λ k. absorb k (j r).image (entries (j r).since)) (cond-true (is_operation t.did) (suc (j r).ops) (j r).ops e) ∙ more (j r).ops (j r).image (entries (j r).since)) (λ s. refl))) (grown e))
    (λ e. subst (λ k. HasPlan P n (restart (set_at j r (record (j r) { ops = k })))) (sym (cond-false (is_operation t.did) (suc (j r).ops) (j r).ops e)) (subst (λ f. HasPlan P n (restart f)) (sym (set_same j r)) h))
    (cases_Bool (is_operation t.did))
  where
    more : (l : ℕ) (k : Rank S) (log : List Entry) → absorb (suc l) k log ≡ end_op (absorb l k log)
    more l k log = absorb_more l k log

-- an arrival at a saved rank
pub plan_arrive : {S : Type 0} (P : Process S) (n : ℕ) (j : ℕ → Journal S) (r a : ℕ) (m : Message) (cl : Class)
    → (is_late cl ≡ true → HasPlan P n (record (restart j) { one = set_at (restart j).one r (end_late a m ((restart j).one r)) }))
    → (is_late cl ≡ false → HasPlan P n (record (restart j) { one = set_at (restart j).one r (end_intra a ((restart j).one r)) }))
    → HasPlan P n (restart (set_at j r (journal_arrive true cl (j r) a m)))
plan_arrive {S} P n j r a m cl late intra = ⊎_elim
    (λ e. subst (HasPlan P n) (sym (restart_extended j r (journal_arrive true cl (j r) a m) (end_late a m)
    (ap (absorb (j r).ops (j r).image) (entries-push (j r).since new ∙ ap (λ z. entries (j r).since ++ z ∷ []) (cond-true (is_late cl) (Late_entry a m) (Intra_entry a) e)) ∙ absorb_late a m (j r).ops (j r).image (entries (j r).since)) (λ s. refl))) (late e))
    (λ e. subst (HasPlan P n) (sym (restart_extended j r (journal_arrive true cl (j r) a m) (end_intra a)
    (ap (absorb (j r).ops (j r).image) (entries-push (j r).since new ∙ ap (λ z. entries (j r).since ++ z ∷ []) (cond-false (is_late cl) (Late_entry a m) (Intra_entry a) e)) ∙ absorb_intra a (j r).ops (j r).image (entries (j r).since)) (λ s. refl))) (intra e))
    (cases_Bool (is_late cl))
  where
    new : Logged
    new = record { source = a; message = m; late = is_late cl }
