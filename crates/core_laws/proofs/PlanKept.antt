-- Each event keeps that a plan is there.
use Rattle.std.proofs.Common.{◌≡◌, ℕ, zero, suc, pred, ◌<◌, true, false, List, [], ◌∷◌, ◌++◌, sym, refl, ap, ◌∙◌, subst, inl, inr, ⊎_elim, arith}
use Rattle.std.proofs.Math.Path.{fun_ext}
use Rattle.std.specs.Prelude.{◌&&◌, ◌==◌, nat_lt, ◌⊎◌, if◌then◌else◌}
use Rattle.std.proofs.lemmas.Bool.{cond_both, cond-true, cond-false, cases_Bool, and_parts, and_from, ltb-true, eq-eqb, ne_eqb, cases_eq, true≢false, lt-ltb}
use Rattle.late_logs.specs.declared.entry.Entry.{Entry}
use Rattle.late_logs.specs.declared.entry.Entry.TheVariants.{Late as Late_entry, Intra as Intra_entry}
use Rattle.mpi_words.specs.declared.message.Message.{Message}
use Rattle.core_laws.specs.Rows.{set_at, set_pair}
use Rattle.core_laws.specs.Process.{Process, Rank, Did, Nothing, Sent, Local, Marked, turn, arrive, is_operation}
use Rattle.core_laws.specs.Quiet.{Event, Turn, Deliver, Handle, Begin_wave}
use Rattle.core_laws.specs.Replay.{Replaying, absorb, Back, may_turn, back_channel, back_skip, back_turn, back_arrives, back_deliver, back_next, back_run}
use Rattle.core_laws.specs.Plan.{IsDone, Helps, Turn_helps, Delivery_helps, Plan, HasPlan}
use Rattle.core_laws.proofs.Changes
use Rattle.core_laws.proofs.Changes.{at_set, at_set_both, set_at-same, set_at-other}
use Rattle.core_laws.proofs.Operations.{turn_more, turn_none}

-- Writes at two places, and at one.
pub set_comm : {A : Type 0} → (f : ℕ → A) (a b : ℕ) (v w : A) → (a ≡ b → ⊥) → set_at (set_at f a v) b w ≡ set_at (set_at f b w) a v
set_comm f a b v w h = fun_ext (λ x. at_set (λ z. z ≡ set_at (set_at f b w) a v x) (set_at f a v) b w x
    (λ e. sym (ap (set_at (set_at f b w) a v) e ∙ set_at-other (set_at f b w) a v b (λ d. h (sym d)) ∙ set_at-same f b w))
    (λ e. at_set_both (λ y z. y ≡ z) f (set_at f b w) a v v x (λ _. refl) (λ _. sym (set_at-other f b w x e))))

pub set_twice : {A : Type 0} → (f : ℕ → A) (a : ℕ) (v w : A) → set_at (set_at f a v) a w ≡ set_at f a w
set_twice f a v w = fun_ext (λ x. at_set_both (λ y z. y ≡ z) (set_at f a v) f a w w x (λ _. refl) (λ e. set_at-other f a v x e))

pub set_same : {A : Type 0} → (f : ℕ → A) (a : ℕ) → set_at f a (f a) ≡ f
set_same f a = fun_ext (λ x. at_set (λ z. z ≡ f x) f a (f a) x (λ e. ap f (sym e)) (λ _. refl))

pub back_path : {S : Type 0} (o o' : ℕ → Replaying S) (c c' : ℕ → ℕ → List Message) (k k' : ℕ → ℕ → ℕ) → o ≡ o' → c ≡ c' → k ≡ k' → Path (Back S) (record { one = o; channel = c; skip = k }) (record { one = o'; channel = c'; skip = k' })
back_path o o' c c' k k' p q r = ap (λ x. record { one = x; channel = c; skip = k }) p ∙ ap (λ x. record { one = o'; channel = x; skip = k }) q ∙ ap (λ x. record { one = o'; channel = c'; skip = x }) r

-- A turn by the rows of its rank.
new_row : (ℕ → List Message) → (ℕ → ℕ) → Did → ℕ → List Message
new_row row skip (Sent to m) = if nat_lt 0 (skip to) then row else set_at row to (row to ++ m ∷ [])
new_row row skip Nothing = row
new_row row skip Local = row
new_row row skip Marked = row

new_skip : (ℕ → ℕ) → Did → ℕ → ℕ
new_skip skip (Sent to m) = set_at skip to (pred (skip to))
new_skip skip Nothing = skip
new_skip skip Local = skip
new_skip skip Marked = skip

channel_row : (q : ℕ → ℕ → List Message) (skip : ℕ → ℕ → ℕ) (r : ℕ) (d : Did) → back_channel q skip r d ≡ set_at q r (new_row (q r) (skip r) d)
unfolding new_row
channel_row q skip r Nothing = sym (set_same q r)
channel_row q skip r Local = sym (set_same q r)
channel_row q skip r Marked = sym (set_same q r)
channel_row q skip r (Sent to m) = cond_both (nat_lt 0 (skip r to)) q (set_pair q r to (q r to ++ m ∷ [])) (λ c. c ≡ set_at q r (if nat_lt 0 (skip r to) then q r else set_at (q r) to (q r to ++ m ∷ [])))
    (λ e. sym (ap (set_at q r) (cond-true (nat_lt 0 (skip r to)) (q r) (set_at (q r) to (q r to ++ m ∷ [])) e) ∙ set_same q r))
    (λ e. sym (ap (set_at q r) (cond-false (nat_lt 0 (skip r to)) (q r) (set_at (q r) to (q r to ++ m ∷ [])) e)))

skip_row : (skip : ℕ → ℕ → ℕ) (r : ℕ) (d : Did) → back_skip skip r d ≡ set_at skip r (new_skip (skip r) d)
unfolding new_skip
skip_row skip r Nothing = sym (set_same skip r)
skip_row skip r Local = sym (set_same skip r)
skip_row skip r Marked = sym (set_same skip r)
skip_row skip r (Sent to m) = refl

abbrev pub one_done : {S : Type 0} → Process S → Replaying S → Replaying S
one_done P v = record v { rank = (turn P v.rank).rank; left = if is_operation (turn P v.rank).did then pred v.left else v.left }

by_rows : {S : Type 0} → Process S → Back S → ℕ → Replaying S → (ℕ → List Message) → (ℕ → ℕ) → Back S
by_rows P b r v row skip = record {
  one = set_at b.one r (one_done P v);
  channel = set_at b.channel r (new_row row skip (turn P v.rank).did);
  skip = set_at b.skip r (new_skip skip (turn P v.rank).did);
}

turn_by_rows : {S : Type 0} (P : Process S) (b : Back S) (r : ℕ) → back_turn P b r ≡ by_rows P b r (b.one r) (b.channel r) (b.skip r)
unfolding by_rows
turn_by_rows P b r = let d = (turn P (b.one r).rank).did in
    back_path (set_at b.one r (one_done P (b.one r))) (set_at b.one r (one_done P (b.one r))) (back_channel b.channel b.skip r d) (set_at b.channel r (new_row (b.channel r) (b.skip r) d)) (back_skip b.skip r d) (set_at b.skip r (new_skip (b.skip r) d)) refl (channel_row b.channel b.skip r d) (skip_row b.skip r d)

-- Two turns of different ranks.
rows_other : {S : Type 0} (P : Process S) (b : Back S) (y r : ℕ) → (y ≡ r → ⊥) → back_turn P (back_turn P b y) r ≡ by_rows P (by_rows P b y (b.one y) (b.channel y) (b.skip y)) r (b.one r) (b.channel r) (b.skip r)
unfolding by_rows
rows_other {S} P b y r h = ap (λ c. back_turn P c r) (turn_by_rows P b y) ∙ turn_by_rows P (by_rows P b y (b.one y) (b.channel y) (b.skip y)) r
    ∙ ap (λ v. by_rows P (by_rows P b y (b.one y) (b.channel y) (b.skip y)) r v (set_at b.channel y (new_row (b.channel y) (b.skip y) d) r) (set_at b.skip y (new_skip (b.skip y) d) r)) (set_at-other b.one y (one_done P (b.one y)) r (λ e. h (sym e)))
    ∙ ap (λ v. by_rows P (by_rows P b y (b.one y) (b.channel y) (b.skip y)) r (b.one r) v (set_at b.skip y (new_skip (b.skip y) d) r)) (set_at-other b.channel y (new_row (b.channel y) (b.skip y) d) r (λ e. h (sym e)))
    ∙ ap (λ v. by_rows P (by_rows P b y (b.one y) (b.channel y) (b.skip y)) r (b.one r) (b.channel r) v) (set_at-other b.skip y (new_skip (b.skip y) d) r (λ e. h (sym e)))
  where
    d : Did
    d = (turn P (b.one y).rank).did

turn_turn : {S : Type 0} (P : Process S) (b : Back S) (y r : ℕ) → (y ≡ r → ⊥) → back_turn P (back_turn P b y) r ≡ back_turn P (back_turn P b r) y
unfolding by_rows
turn_turn {S} P b y r h = rows_other P b y r h
    ∙ back_path (set_at (set_at b.one y (one_done P (b.one y))) r (one_done P (b.one r))) (set_at (set_at b.one r (one_done P (b.one r))) y (one_done P (b.one y)))
    (set_at (set_at b.channel y (row y)) r (row r)) (set_at (set_at b.channel r (row r)) y (row y))
    (set_at (set_at b.skip y (skips y)) r (skips r)) (set_at (set_at b.skip r (skips r)) y (skips y))
    (set_comm b.one y r (one_done P (b.one y)) (one_done P (b.one r)) h)
    (set_comm b.channel y r (row y) (row r) h)
    (set_comm b.skip y r (skips y) (skips r) h)
    ∙ sym (rows_other P b r y (λ e. h (sym e)))
  where
    row : ℕ → ℕ → List Message
    row x = new_row (b.channel x) (b.skip x) (turn P (b.one x).rank).did

    skips : ℕ → ℕ → ℕ
    skips x = new_skip (b.skip x) (turn P (b.one x).rank).did

-- What a delivery makes of its rank, and a turn beside it.
abbrev pub took : {S : Type 0} → Replaying S → List Entry → ℕ → Message → Replaying S
took v log s m = absorb v.left (arrive v.rank s m) log

pub absorb_turn : {S : Type 0} (P : Process S) (l l' : ℕ) (k : Rank S) (log : List Entry) → is_operation (turn P k).did ≡ true → turn P (absorb l k log).rank ≡ record { rank = (absorb l' (turn P k).rank log).rank; did = (turn P k).did }
absorb_turn P l l' k [] op = refl
absorb_turn P l l' k (Late_entry a x ∷ log) op = let e = turn_more P k a x op in
    absorb_turn P l l' (arrive k a x) log (ap (λ t. is_operation t.did) e ∙ op) ∙ ap (λ t. record { rank = (absorb l' t.rank log).rank; did = t.did }) e
absorb_turn P l l' k (Intra_entry a ∷ log) op = refl

pub absorb_log : {S : Type 0} (l l' : ℕ) (k k' : Rank S) (log : List Entry) → (absorb l k log).log ≡ (absorb l' k' log).log
absorb_log l l' k k' [] = refl
absorb_log l l' k k' (Late_entry a x ∷ log) = absorb_log l l' (arrive k a x) (arrive k' a x) log
absorb_log l l' k k' (Intra_entry a ∷ log) = refl

pub absorb_left : {S : Type 0} (l : ℕ) (k : Rank S) (log : List Entry) → (absorb l k log).left ≡ l
absorb_left l k [] = refl
absorb_left l k (Late_entry a x ∷ log) = absorb_left l (arrive k a x) log
absorb_left l k (Intra_entry a ∷ log) = refl

pub restored_path : {S : Type 0} (k k' : Rank S) (g g' : List Entry) (l l' : ℕ) → k ≡ k' → g ≡ g' → l ≡ l' → Path (Replaying S) (record { rank = k; log = g; left = l }) (record { rank = k'; log = g'; left = l' })
restored_path k k' g g' l l' p q r = ap (λ x. record { rank = x; log = g; left = l }) p ∙ ap (λ x. record { rank = k'; log = x; left = l }) q ∙ ap (λ x. record { rank = k'; log = g'; left = x }) r

-- the turn of a rank that has one message more
pub took_turn : {S : Type 0} (P : Process S) (v : Replaying S) (log : List Entry) (s : ℕ) (m : Message) (l' : ℕ) → is_operation (turn P v.rank).did ≡ true → turn P (took v log s m).rank ≡ record { rank = (absorb l' (arrive (turn P v.rank).rank s m) log).rank; did = (turn P v.rank).did }
took_turn P v log s m l' op = let e = turn_more P v.rank s m op in
    absorb_turn P v.left l' (arrive v.rank s m) log (ap (λ t. is_operation t.did) e ∙ op) ∙ ap (λ t. record { rank = (absorb l' t.rank log).rank; did = t.did }) e

done_took : {S : Type 0} (P : Process S) (v : Replaying S) (log : List Entry) (s : ℕ) (m : Message) → is_operation (turn P v.rank).did ≡ true → one_done P (took v log s m) ≡ took (one_done P v) log s m
done_took {S} P v log s m op = restored_path (turn P (took v log s m).rank).rank (absorb l' (arrive (turn P v.rank).rank s m) log).rank (took v log s m).log (absorb l' (arrive (turn P v.rank).rank s m) log).log
    (if is_operation (turn P (took v log s m).rank).did then pred (took v log s m).left else (took v log s m).left) (absorb l' (arrive (turn P v.rank).rank s m) log).left
    (ap (λ t. t.rank) e) (absorb_log v.left l' (arrive v.rank s m) (arrive (turn P v.rank).rank s m) log)
    (ap (λ t. if is_operation t.did then pred (took v log s m).left else (took v log s m).left) e ∙ ap (λ i. if is_operation (turn P v.rank).did then pred i else i) (absorb_left v.left (arrive v.rank s m) log) ∙ sym (absorb_left l' (arrive (turn P v.rank).rank s m) log))
  where
    l' : ℕ
    l' = if is_operation (turn P v.rank).did then pred v.left else v.left

    e : turn P (took v log s m).rank ≡ record { rank = (absorb l' (arrive (turn P v.rank).rank s m) log).rank; did = (turn P v.rank).did }
    e = took_turn P v log s m l' op

-- A row with a push and a pop.
record RowTail (row : ℕ → List Message) (skip : ℕ → ℕ) (d : Did) (r : ℕ) (m : Message) (rest : List Message) : Type 0 where
  after : List Message
  has : new_row row skip d r ≡ m ∷ after
  same : new_row (set_at row r rest) skip d ≡ set_at (new_row row skip d) r after

row_tail : (row : ℕ → List Message) (skip : ℕ → ℕ) (d : Did) (r : ℕ) (m : Message) (rest : List Message) → row r ≡ m ∷ rest → RowTail row skip d r m rest
unfolding new_row
row_tail row skip Nothing r m rest e = record { after = rest; has = e; same = refl }
row_tail row skip Local r m rest e = record { after = rest; has = e; same = refl }
row_tail row skip Marked r m rest e = record { after = rest; has = e; same = refl }
row_tail row skip (Sent to x) r m rest e = ⊎_elim skipped (λ f. ⊎_elim (here f) (other f) (cases_eq to r)) (cases_Bool (nat_lt 0 (skip to)))
  where
    open_row : ((n : ℕ) → List Message) → ℕ → List Message
    open_row g = set_at g to (g to ++ x ∷ [])

    skipped : nat_lt 0 (skip to) ≡ true → RowTail row skip (Sent to x) r m rest
    skipped f = record {
      after = rest;
      has = ap (λ g. g r) (cond-true (nat_lt 0 (skip to)) row (set_at row to (row to ++ x ∷ [])) f) ∙ e;
      same = cond-true (nat_lt 0 (skip to)) (set_at row r rest) (set_at (set_at row r rest) to (set_at row r rest to ++ x ∷ [])) f ∙ sym (ap (λ g. set_at g r rest) (cond-true (nat_lt 0 (skip to)) row (set_at row to (row to ++ x ∷ [])) f));
    }

    here : nat_lt 0 (skip to) ≡ false → to ≡ r → RowTail row skip (Sent to x) r m rest
    here f d = record {
      after = rest ++ x ∷ [];
      has = ap (λ g. g r) (cond-false (nat_lt 0 (skip to)) row (set_at row to (row to ++ x ∷ [])) f) ∙ ap (λ z. set_at row z (row z ++ x ∷ []) r) d ∙ set_at-same row r (row r ++ x ∷ []) ∙ ap (λ l. l ++ x ∷ []) e;
      same = cond-false (nat_lt 0 (skip to)) (set_at row r rest) (set_at (set_at row r rest) to (set_at row r rest to ++ x ∷ [])) f
          ∙ ap (λ z. set_at (set_at row r rest) z (set_at row r rest z ++ x ∷ [])) d ∙ ap (λ l. set_at (set_at row r rest) r (l ++ x ∷ [])) (set_at-same row r rest) ∙ set_twice row r rest (rest ++ x ∷ [])
          ∙ sym (ap (λ g. set_at g r (rest ++ x ∷ [])) (cond-false (nat_lt 0 (skip to)) row (set_at row to (row to ++ x ∷ [])) f ∙ ap (λ z. set_at row z (row z ++ x ∷ [])) d) ∙ set_twice row r (row r ++ x ∷ []) (rest ++ x ∷ []));
    }

    other : nat_lt 0 (skip to) ≡ false → (to ≡ r → ⊥) → RowTail row skip (Sent to x) r m rest
    other f d = record {
      after = rest;
      has = ap (λ g. g r) (cond-false (nat_lt 0 (skip to)) row (set_at row to (row to ++ x ∷ [])) f) ∙ set_at-other row to (row to ++ x ∷ []) r (λ z. d (sym z)) ∙ e;
      same = cond-false (nat_lt 0 (skip to)) (set_at row r rest) (set_at (set_at row r rest) to (set_at row r rest to ++ x ∷ [])) f
          ∙ ap (λ l. set_at (set_at row r rest) to (l ++ x ∷ [])) (set_at-other row r rest to d)
          ∙ set_comm row r to rest (row to ++ x ∷ []) (λ z. d (sym z))
          ∙ sym (ap (λ g. set_at g r rest) (cond-false (nat_lt 0 (skip to)) row (set_at row to (row to ++ x ∷ [])) f));
    }

-- A turn and a delivery, in either order.
did_part : {S : Type 0} (P : Process S) (one : ℕ → Replaying S) (y r : ℕ) (log : List Entry) (s : ℕ) (m : Message) → is_operation (turn P (one y).rank).did ≡ true → (turn P (set_at one r (took (one r) log s m) y).rank).did ≡ (turn P (one y).rank).did
did_part P one y r log s m op = at_set (λ v. (turn P v.rank).did ≡ (turn P (one y).rank).did) one r (took (one r) log s m) y
    (λ e. subst (λ z. (turn P (took (one r) log s m).rank).did ≡ (turn P (one z).rank).did) (sym e) (ap (λ t. t.did) (took_turn P (one r) log s m 0 (subst (λ z. is_operation (turn P (one z).rank).did ≡ true) e op))))
    (λ e. refl)

one_part : {S : Type 0} (P : Process S) (one : ℕ → Replaying S) (y r : ℕ) (log : List Entry) (s : ℕ) (m : Message) → is_operation (turn P (one y).rank).did ≡ true
    → set_at (set_at one r (took (one r) log s m)) y (one_done P (set_at one r (took (one r) log s m) y)) ≡ set_at (set_at one y (one_done P (one y))) r (took (set_at one y (one_done P (one y)) r) log s m)
one_part {S} P one y r log s m op = ⊎_elim here there (cases_eq y r)
  where
    goal : ℕ → Type 0
    goal y = set_at (set_at one r (took (one r) log s m)) y (one_done P (set_at one r (took (one r) log s m) y)) ≡ set_at (set_at one y (one_done P (one y))) r (took (set_at one y (one_done P (one y)) r) log s m)

    at_r : is_operation (turn P (one r).rank).did ≡ true → goal r
    at_r op = ap (λ v. set_at (set_at one r (took (one r) log s m)) r (one_done P v)) (set_at-same one r (took (one r) log s m))
        ∙ set_twice one r (took (one r) log s m) (one_done P (took (one r) log s m))
        ∙ ap (set_at one r) (done_took P (one r) log s m op)
        ∙ sym (ap (λ v. set_at (set_at one r (one_done P (one r))) r (took v log s m)) (set_at-same one r (one_done P (one r))) ∙ set_twice one r (one_done P (one r)) (took (one_done P (one r)) log s m))

    here : y ≡ r → goal y
    here e = subst goal (sym e) (at_r (subst (λ z. is_operation (turn P (one z).rank).did ≡ true) e op))

    there : (y ≡ r → ⊥) → goal y
    there e = ap (λ v. set_at (set_at one r (took (one r) log s m)) y (one_done P v)) (set_at-other one r (took (one r) log s m) y e)
        ∙ set_comm one r y (took (one r) log s m) (one_done P (one y)) (λ d. e (sym d))
        ∙ sym (ap (λ v. set_at (set_at one y (one_done P (one y))) r (took v log s m)) (set_at-other one y (one_done P (one y)) r (λ d. e (sym d))))

record Swapped {S : Type 0} (P : Process S) (b t : Back S) (y s r : ℕ) (log : List Entry) (m : Message) (rest : List Message) : Type 0 where
  after : List Message
  has : t.channel s r ≡ m ∷ after
  same : back_turn P (back_arrives b s r (took (b.one r) log s m) m rest) y ≡ back_arrives t s r (took (t.one r) log s m) m after

record RowSwapped (q : ℕ → ℕ → List Message) (skip : ℕ → ℕ) (y s r : ℕ) (d : Did) (m : Message) (rest : List Message) : Type 0 where
  after : List Message
  has : set_at q y (new_row (q y) skip d) s r ≡ m ∷ after
  same : set_at (set_pair q s r rest) y (new_row (set_pair q s r rest y) skip d) ≡ set_pair (set_at q y (new_row (q y) skip d)) s r after

row_swapped : (q : ℕ → ℕ → List Message) (skip : ℕ → ℕ) (y s r : ℕ) (d : Did) (m : Message) (rest : List Message) → q s r ≡ m ∷ rest → RowSwapped q skip y s r d m rest
row_swapped q skip y s r d m rest e = ⊎_elim here there (cases_eq y s)
  where
    at_s : RowSwapped q skip s s r d m rest
    at_s = let t = row_tail (q s) skip d r m rest e in record {
      after = t.after;
      has = ap (λ g. g r) (set_at-same q s (new_row (q s) skip d)) ∙ t.has;
      same = ap (λ g. set_at (set_pair q s r rest) s (new_row g skip d)) (set_at-same q s (set_at (q s) r rest)) ∙ set_twice q s (set_at (q s) r rest) (new_row (set_at (q s) r rest) skip d) ∙ ap (set_at q s) t.same
          ∙ sym (ap (λ g. set_at (set_at q s (new_row (q s) skip d)) s (set_at g r t.after)) (set_at-same q s (new_row (q s) skip d)) ∙ set_twice q s (new_row (q s) skip d) (set_at (new_row (q s) skip d) r t.after));
    }

    here : y ≡ s → RowSwapped q skip y s r d m rest
    here f = subst (λ z. RowSwapped q skip z s r d m rest) (sym f) at_s

    there : (y ≡ s → ⊥) → RowSwapped q skip y s r d m rest
    there f = record {
      after = rest;
      has = ap (λ g. g r) (set_at-other q y (new_row (q y) skip d) s (λ z. f (sym z))) ∙ e;
      same = ap (λ g. set_at (set_pair q s r rest) y (new_row g skip d)) (set_at-other q s (set_at (q s) r rest) y f) ∙ set_comm q s y (set_at (q s) r rest) (new_row (q y) skip d) (λ z. f (sym z))
          ∙ sym (ap (λ g. set_at (set_at q y (new_row (q y) skip d)) s (set_at g r rest)) (set_at-other q y (new_row (q y) skip d) s (λ z. f (sym z))));
    }

turn_deliver : {S : Type 0} (P : Process S) (b : Back S) (y s r : ℕ) (log : List Entry) (m : Message) (rest : List Message) → is_operation (turn P (b.one y).rank).did ≡ true → b.channel s r ≡ m ∷ rest → Swapped P b (back_turn P b y) y s r log m rest
unfolding by_rows
turn_deliver {S} P b y s r log m rest op e = subst (λ t. Swapped P b t y s r log m rest) (sym (turn_by_rows P b y)) rows
  where
    d : Did
    d = (turn P (b.one y).rank).did

    w : RowSwapped b.channel (b.skip y) y s r d m rest
    w = row_swapped b.channel (b.skip y) y s r d m rest e

    v : Replaying S
    v = took (b.one r) log s m

    rows : Swapped P b (by_rows P b y (b.one y) (b.channel y) (b.skip y)) y s r log m rest
    rows = record {
      after = w.after;
      has = w.has;
      same = turn_by_rows P (back_arrives b s r v m rest) y
          ∙ ap (λ x. record { one = set_at (set_at b.one r v) y (one_done P (set_at b.one r v y)); channel = set_at (set_pair b.channel s r rest) y (new_row (set_pair b.channel s r rest y) (b.skip y) x); skip = set_at b.skip y (new_skip (b.skip y) x) }) (did_part P b.one y r log s m op)
          ∙ back_path (set_at (set_at b.one r v) y (one_done P (set_at b.one r v y))) (set_at (set_at b.one y (one_done P (b.one y))) r (took (set_at b.one y (one_done P (b.one y)) r) log s m))
          (set_at (set_pair b.channel s r rest) y (new_row (set_pair b.channel s r rest y) (b.skip y) d)) (set_pair (set_at b.channel y (new_row (b.channel y) (b.skip y) d)) s r w.after)
          (set_at b.skip y (new_skip (b.skip y) d)) (set_at b.skip y (new_skip (b.skip y) d))
          (one_part P b.one y r log s m op) w.same refl;
    }

-- Two deliveries to different ranks.
pair_comm : (q : ℕ → ℕ → List Message) (t y s r : ℕ) (k l : List Message) → (y ≡ r → ⊥) → set_pair (set_pair q t y k) s r l ≡ set_pair (set_pair q s r l) t y k
pair_comm q t y s r k l h = ⊎_elim here there (cases_eq t s)
  where
    there : (t ≡ s → ⊥) → set_pair (set_pair q t y k) s r l ≡ set_pair (set_pair q s r l) t y k
    there e = ap (λ g. set_at (set_pair q t y k) s (set_at g r l)) (set_at-other q t (set_at (q t) y k) s (λ z. e (sym z))) ∙ set_comm q t s (set_at (q t) y k) (set_at (q s) r l) e
        ∙ sym (ap (λ g. set_at (set_pair q s r l) t (set_at g y k)) (set_at-other q s (set_at (q s) r l) t e))

    at_s : set_pair (set_pair q s y k) s r l ≡ set_pair (set_pair q s r l) s y k
    at_s = ap (λ g. set_at (set_pair q s y k) s (set_at g r l)) (set_at-same q s (set_at (q s) y k)) ∙ set_twice q s (set_at (q s) y k) (set_at (set_at (q s) y k) r l) ∙ ap (set_at q s) (set_comm (q s) y r k l h)
        ∙ sym (ap (λ g. set_at (set_pair q s r l) s (set_at g y k)) (set_at-same q s (set_at (q s) r l)) ∙ set_twice q s (set_at (q s) r l) (set_at (set_at (q s) r l) y k))

    here : t ≡ s → set_pair (set_pair q t y k) s r l ≡ set_pair (set_pair q s r l) t y k
    here e = subst (λ z. set_pair (set_pair q z y k) s r l ≡ set_pair (set_pair q s r l) z y k) (sym e) at_s

deliver_deliver : {S : Type 0} (b : Back S) (t y s r : ℕ) (g h : List Entry) (m x : Message) (k l : List Message) → (y ≡ r → ⊥)
    → back_arrives (back_arrives b t y (took (b.one y) g t m) m k) s r (took ((back_arrives b t y (took (b.one y) g t m) m k).one r) h s x) x l
    ≡ back_arrives (back_arrives b s r (took (b.one r) h s x) x l) t y (took ((back_arrives b s r (took (b.one r) h s x) x l).one y) g t m) m k
deliver_deliver {S} b t y s r g h m x k l e = back_path (set_at (set_at b.one y v) r (took (set_at b.one y v r) h s x)) (set_at (set_at b.one r w) y (took (set_at b.one r w y) g t m))
    (set_pair (set_pair b.channel t y k) s r l) (set_pair (set_pair b.channel s r l) t y k) b.skip b.skip
    (ap (λ z. set_at (set_at b.one y v) r (took z h s x)) (set_at-other b.one y v r (λ z. e (sym z))) ∙ set_comm b.one y r v w e ∙ sym (ap (λ z. set_at (set_at b.one r w) y (took z g t m)) (set_at-other b.one r w y e)))
    (pair_comm b.channel t y s r k l e) refl
  where
    v : Replaying S
    v = took (b.one y) g t m

    w : Replaying S
    w = took (b.one r) h s x

-- What an event does where it has an effect.
pub next_turn : {S : Type 0} (P : Process S) (n : ℕ) (b : Back S) (r : ℕ) → r < n → may_turn (b.one r).log (b.one r).left ≡ true → back_next P n b (Turn r) ≡ back_turn P b r
next_turn P n b r inside may = cond-true (nat_lt r n && may_turn (b.one r).log (b.one r).left) (back_turn P b r) b (and_from (nat_lt r n) (may_turn (b.one r).log (b.one r).left) (lt-ltb r n inside) may)

pub may_left : (log : List Entry) (left : ℕ) → 0 < left → may_turn log left ≡ true
may_left [] left h = refl
may_left (x ∷ log) left h = lt-ltb 0 left h

-- a delivery by the rank's log: to a restoring rank, or to a restored one
abbrev pub Kind : {S : Type 0} → Replaying S → ℕ → List Entry → Type 0
Kind v s log = (v.log ≡ Intra_entry s ∷ log) ⊎ ((v.log ≡ []) × (v.left ≡ 0) × (log ≡ []))

pub next_deliver : {S : Type 0} (P : Process S) (n : ℕ) (b : Back S) (s r : ℕ) (log : List Entry) (m : Message) (rest : List Message) → s < n → r < n → Kind (b.one r) s log → b.channel s r ≡ m ∷ rest
    → back_next P n b (Deliver s r) ≡ back_arrives b s r (took (b.one r) log s m) m rest
next_deliver {S} P n b s r log m rest a c kind has = cond-true (nat_lt s n && nat_lt r n) (back_deliver b s r (b.channel s r) (b.one r).log (b.one r).left) b (and_from (nat_lt s n) (nat_lt r n) (lt-ltb s n a) (lt-ltb r n c))
    ∙ ap (λ q. back_deliver b s r q (b.one r).log (b.one r).left) has ∙ ⊎_elim restoring restored kind
  where
    restoring : (b.one r).log ≡ Intra_entry s ∷ log → back_deliver b s r (m ∷ rest) (b.one r).log (b.one r).left ≡ back_arrives b s r (took (b.one r) log s m) m rest
    restoring e = ap (λ l. back_deliver b s r (m ∷ rest) l (b.one r).left) e ∙ cond-true (s == s) (back_arrives b s r (took (b.one r) log s m) m rest) b (eq-eqb s s refl)

    restored : ((b.one r).log ≡ []) × ((b.one r).left ≡ 0) × (log ≡ []) → back_deliver b s r (m ∷ rest) (b.one r).log (b.one r).left ≡ back_arrives b s r (took (b.one r) log s m) m rest
    restored e = ap (λ l. back_deliver b s r (m ∷ rest) l (b.one r).left) e.0 ∙ ap (λ k. back_deliver b s r (m ∷ rest) [] k) e.1
        ∙ ap (λ l. back_arrives b s r (record { rank = arrive (b.one r).rank s m; log = l; left = (b.one r).left }) m rest) e.0
        ∙ ap (λ l. back_arrives b s r (took (b.one r) l s m) m rest) (sym e.2)

-- A turn keeps the plan.
pub done_turn : {S : Type 0} (P : Process S) (n : ℕ) (b : Back S) (r : ℕ) → IsDone n b → IsDone n (back_turn P b r)
done_turn P n b r h x a = at_set (λ v. (v.log ≡ []) × (v.left ≡ 0)) b.one r (one_done P (b.one r)) x
    (λ e. let o = subst (λ z. ((b.one z).log ≡ []) × ((b.one z).left ≡ 0)) e (h x a) in (o.0, cond_both (is_operation (turn P (b.one r).rank).did) (pred (b.one r).left) (b.one r).left (λ k. k ≡ 0) (λ _. ap pred o.1) (λ _. o.1)))
    (λ _. h x a)

pub turn_log : {S : Type 0} (P : Process S) (b : Back S) (r y : ℕ) → ((back_turn P b r).one y).log ≡ (b.one y).log
turn_log P b r y = at_set (λ v. v.log ≡ (b.one y).log) b.one r (one_done P (b.one r)) y (λ e. sym (ap (λ z. (b.one z).log) e)) (λ _. refl)

pub no_handle : {S : Type 0} (P : Process S) (n : ℕ) (b : Back S) (s y : ℕ) → Helps P n b (Handle s y) → ⊥
no_handle P n b s y x = elim x [ ]

pub no_wave : {S : Type 0} (P : Process S) (n : ℕ) (b : Back S) → Helps P n b Begin_wave → ⊥
no_wave P n b x = elim x [ ]

pub record TurnHelps {S : Type 0} (P : Process S) (n : ℕ) (b : Back S) (r : ℕ) : Type 0 where
  pub inside : r < n
  pub ops : ℕ
  pub left : (b.one r).left ≡ suc ops
  pub op : is_operation (turn P (b.one r).rank).did ≡ true

pub record DeliveryHelps {S : Type 0} (n : ℕ) (b : Back S) (s r : ℕ) : Type 0 where
  pub from : s < n
  pub inside : r < n
  pub log : List Entry
  pub names : (b.one r).log ≡ Intra_entry s ∷ log
  pub message : Message
  pub rest : List Message
  pub has : b.channel s r ≡ message ∷ rest

pub helps_turn : {S : Type 0} (P : Process S) (n : ℕ) (b : Back S) (r : ℕ) → Helps P n b (Turn r) → TurnHelps P n b r
helps_turn P n b r (Turn_helps a j l o) = record { inside = a; ops = j; left = l; op = o }

pub helps_delivery : {S : Type 0} (P : Process S) (n : ℕ) (b : Back S) (s r : ℕ) → Helps P n b (Deliver s r) → DeliveryHelps n b s r
helps_delivery P n b s r (Delivery_helps a c log e d) = record { from = a; inside = c; log = log; names = e; message = d.message; rest = d.rest; has = d.has }

pub turn_kept : {S : Type 0} (P : Process S) (b : Back S) (y r : ℕ) → (r ≡ y → ⊥) → (back_turn P b y).one r ≡ b.one r
turn_kept P b y r h = set_at-other b.one y (record (b.one y) { rank = (turn P (b.one y).rank).rank; left = if is_operation (turn P (b.one y).rank).did then pred (b.one y).left else (b.one y).left }) r h

keep_turn_turn : {S : Type 0} (P : Process S) (n : ℕ) (es : List Event) (b : Back S) (y r : ℕ) → r < n → may_turn (b.one r).log (b.one r).left ≡ true → is_operation (turn P (b.one r).rank).did ≡ true
    → ((c : Back S) → may_turn (c.one r).log (c.one r).left ≡ true → is_operation (turn P (c.one r).rank).did ≡ true → Plan P n c es → HasPlan P n (back_turn P c r))
    → TurnHelps P n b y → Plan P n (back_next P n b (Turn y)) es → HasPlan P n (back_turn P b r)
keep_turn_turn {S} P n es b y r inside may op ih w plan = ⊎_elim here there (cases_eq y r)
  where
    may_y : may_turn (b.one y).log (b.one y).left ≡ true
    may_y = may_left (b.one y).log (b.one y).left (omega (arith, w.left))

    b1 : Back S
    b1 = back_turn P b y

    plan1 : Plan P n b1 es
    plan1 = subst (λ c. Plan P n c es) (next_turn P n b y w.inside may_y) plan

    here : y ≡ r → HasPlan P n (back_turn P b r)
    here e = (es, subst (λ z. Plan P n (back_turn P b z) es) e plan1)

    there : (y ≡ r → ⊥) → HasPlan P n (back_turn P b r)
    there e = let k = ih b1 (subst (λ v. may_turn v.log v.left ≡ true) (sym (turn_kept P b y r (λ z. e (sym z)))) may) (subst (λ v. is_operation (turn P v.rank).did ≡ true) (sym (turn_kept P b y r (λ z. e (sym z)))) op) plan1 in
        let left : ((back_turn P b r).one y).left ≡ suc w.ops = ap (λ v. v.left) (turn_kept P b r y e) ∙ w.left in (
          Turn y ∷ k.0,
          (
            Turn_helps w.inside w.ops left (ap (λ v. is_operation (turn P v.rank).did) (turn_kept P b r y e) ∙ w.op),
            subst (λ c. Plan P n c k.0) (turn_turn P b y r e ∙ sym (next_turn P n (back_turn P b r) y w.inside (may_left ((back_turn P b r).one y).log ((back_turn P b r).one y).left (omega (arith, left))))) k.1,
          ),
        )

may_took : {S : Type 0} (v : Replaying S) (log : List Entry) (s : ℕ) (m : Message) → 0 < v.left → may_turn (took v log s m).log (took v log s m).left ≡ true
may_took v log s m h = may_left (took v log s m).log (took v log s m).left (subst (λ k. 0 < k) (sym (absorb_left v.left (arrive v.rank s m) log)) h)

may_restoring : (log : List Entry) (x : Entry) (rest : List Entry) (left : ℕ) → log ≡ x ∷ rest → may_turn log left ≡ true → 0 < left
may_restoring [] x rest left e may = absurd (cc)
may_restoring (y ∷ log) x rest left e may = ltb-true 0 left may

keep_turn_deliver : {S : Type 0} (P : Process S) (n : ℕ) (es : List Event) (b : Back S) (t y r : ℕ) → r < n → may_turn (b.one r).log (b.one r).left ≡ true → is_operation (turn P (b.one r).rank).did ≡ true
    → ((c : Back S) → may_turn (c.one r).log (c.one r).left ≡ true → is_operation (turn P (c.one r).rank).did ≡ true → Plan P n c es → HasPlan P n (back_turn P c r))
    → DeliveryHelps n b t y → Plan P n (back_next P n b (Deliver t y)) es → HasPlan P n (back_turn P b r)
keep_turn_deliver {S} P n es b t y r inside may op ih w plan = (
  Deliver t y ∷ k.0,
  (
    Delivery_helps w.from w.inside w.log names (record { message = w.message; rest = swapped.after; has = swapped.has }),
    subst (λ c. Plan P n c k.0) (swapped.same ∙ sym (next_deliver P n b2 t y w.log w.message swapped.after w.from w.inside (inl names) swapped.has)) k.1,
  ),
)
  where
    v : Replaying S
    v = took (b.one y) w.log t w.message

    b1 : Back S
    b1 = back_arrives b t y v w.message w.rest

    b2 : Back S
    b2 = back_turn P b r

    plan1 : Plan P n b1 es
    plan1 = subst (λ c. Plan P n c es) (next_deliver P n b t y w.log w.message w.rest w.from w.inside (inl w.names) w.has) plan

    names : (b2.one y).log ≡ Intra_entry t ∷ w.log
    names = turn_log P b r y ∙ w.names

    swapped : Swapped P b b2 r t y w.log w.message w.rest
    swapped = turn_deliver P b r t y w.log w.message w.rest op w.has

    may1 : may_turn (b1.one r).log (b1.one r).left ≡ true
    may1 = at_set (λ v. may_turn v.log v.left ≡ true) b.one y v r
        (λ e. may_took (b.one y) w.log t w.message (subst (λ z. 0 < (b.one z).left) e (may_restoring (b.one r).log (Intra_entry t) w.log (b.one r).left (ap (λ z. (b.one z).log) e ∙ w.names) may)))
        (λ _. may)

    k : HasPlan P n (back_turn P b1 r)
    k = ih b1 may1 (ap is_operation (did_part P b.one r y w.log t w.message op) ∙ op) plan1

keep_turn : {S : Type 0} (P : Process S) (n : ℕ) (es : List Event) (b : Back S) (r : ℕ) → r < n → may_turn (b.one r).log (b.one r).left ≡ true → is_operation (turn P (b.one r).rank).did ≡ true → Plan P n b es → HasPlan P n (back_turn P b r)
keep_turn P n [] b r inside may op h = ([], done_turn P n b r h)
keep_turn {S} P n (Handle s y ∷ es) b r inside may op h = absurd (no_handle P n b s y h.0)
keep_turn {S} P n (Begin_wave ∷ es) b r inside may op h = absurd (no_wave P n b h.0)
keep_turn {S} P n (Turn y ∷ es) b r inside may op h = keep_turn_turn P n es b y r inside may op (λ c m o p. keep_turn P n es c r inside m o p) (helps_turn P n b y h.0) h.1
keep_turn {S} P n (Deliver t y ∷ es) b r inside may op h = keep_turn_deliver P n es b t y r inside may op (λ c m o p. keep_turn P n es c r inside m o p) (helps_delivery P n b t y h.0) h.1

-- A delivery keeps the plan.
done_deliver : {S : Type 0} (P : Process S) (n : ℕ) (b : Back S) (s r : ℕ) (log : List Entry) (m : Message) (rest : List Message) → r < n → Kind (b.one r) s log → IsDone n b → IsDone n (back_arrives b s r (took (b.one r) log s m) m rest)
done_deliver {S} P n b s r log m rest inside kind h x a = at_set (λ v. (v.log ≡ []) × (v.left ≡ 0)) b.one r (took (b.one r) log s m) x
    (λ e. ⊎_elim (λ f. absurd (empty (b.one r).log (h r inside).0 f)) (λ f. (ap (λ l. (took (b.one r) l s m).log) f.2, absorb_left (b.one r).left (arrive (b.one r).rank s m) log ∙ f.1)) kind)
    (λ _. h x a)
  where
    empty : (l : List Entry) → l ≡ [] → l ≡ Intra_entry s ∷ log → ⊥
    empty l e f = (cc)

keep_deliver_turn : {S : Type 0} (P : Process S) (n : ℕ) (es : List Event) (b : Back S) (y s r : ℕ) (log : List Entry) (m : Message) (rest : List Message) → s < n → r < n → Kind (b.one r) s log → b.channel s r ≡ m ∷ rest
    → ((c : Back S) (l : List Message) → Kind (c.one r) s log → c.channel s r ≡ m ∷ l → Plan P n c es → HasPlan P n (back_arrives c s r (took (c.one r) log s m) m l))
    → TurnHelps P n b y → Plan P n (back_next P n b (Turn y)) es → HasPlan P n (back_arrives b s r (took (b.one r) log s m) m rest)
keep_deliver_turn {S} P n es b y s r log m rest a inside kind has ih w plan = (
  Turn y ∷ k.0,
  (
    Turn_helps w.inside w.ops left (ap is_operation (did_part P b.one y r log s m w.op) ∙ w.op),
    subst (λ c. Plan P n c k.0) (sym swapped.same ∙ sym (next_turn P n b2 y w.inside (may_left (b2.one y).log (b2.one y).left (omega (arith, left))))) k.1,
  ),
)
  where
    b1 : Back S
    b1 = back_turn P b y

    b2 : Back S
    b2 = back_arrives b s r (took (b.one r) log s m) m rest

    plan1 : Plan P n b1 es
    plan1 = subst (λ c. Plan P n c es) (next_turn P n b y w.inside (may_left (b.one y).log (b.one y).left (omega (arith, w.left)))) plan

    swapped : Swapped P b b1 y s r log m rest
    swapped = turn_deliver P b y s r log m rest w.op has

    kind1 : Kind (b1.one r) s log
    kind1 = ⊎_elim (λ e. inl (turn_log P b y r ∙ e))
        (λ e. inr (turn_log P b y r ∙ e.0, ap (λ v. v.left) (turn_kept P b y r (λ d. zero_suc (b.one r).left w.ops e.1 (ap (λ z. (b.one z).left) d ∙ w.left))) ∙ e.1, e.2)) kind
      where
        zero_suc : (k j : ℕ) → k ≡ 0 → k ≡ suc j → ⊥
        zero_suc k j e f = omega arith

    k : HasPlan P n (back_arrives b1 s r (took (b1.one r) log s m) m swapped.after)
    k = ih b1 swapped.after kind1 swapped.has plan1

    left : (b2.one y).left ≡ suc w.ops
    left = at_set (λ v. v.left ≡ suc w.ops) b.one r (took (b.one r) log s m) y (λ e. absorb_left (b.one r).left (arrive (b.one r).rank s m) log ∙ ap (λ z. (b.one z).left) (sym e) ∙ w.left) (λ _. w.left)

keep_deliver_deliver : {S : Type 0} (P : Process S) (n : ℕ) (es : List Event) (b : Back S) (t y s r : ℕ) (log : List Entry) (m : Message) (rest : List Message) → s < n → r < n → Kind (b.one r) s log → b.channel s r ≡ m ∷ rest
    → ((c : Back S) (l : List Message) → Kind (c.one r) s log → c.channel s r ≡ m ∷ l → Plan P n c es → HasPlan P n (back_arrives c s r (took (c.one r) log s m) m l))
    → DeliveryHelps n b t y → Plan P n (back_next P n b (Deliver t y)) es → HasPlan P n (back_arrives b s r (took (b.one r) log s m) m rest)
keep_deliver_deliver {S} P n es b t y s r log m rest a inside kind has ih w plan = ⊎_elim here there (cases_eq y r)
  where
    b1 : Back S
    b1 = back_arrives b t y (took (b.one y) w.log t w.message) w.message w.rest

    b2 : Back S
    b2 = back_arrives b s r (took (b.one r) log s m) m rest

    plan1 : Plan P n b1 es
    plan1 = subst (λ c. Plan P n c es) (next_deliver P n b t y w.log w.message w.rest w.from w.inside (inl w.names) w.has) plan

    here : y ≡ r → HasPlan P n b2
    here e = ⊎_elim same (λ f. absurd (not_empty (b.one r).log f.0 (ap (λ z. (b.one z).log) (sym e) ∙ w.names))) kind
      where
        not_empty : (l : List Entry) → l ≡ [] → l ≡ Intra_entry t ∷ w.log → ⊥
        not_empty l e f = (cc)

        entries_same : (x : List Entry) → x ≡ Intra_entry t ∷ w.log → x ≡ Intra_entry s ∷ log → (t ≡ s) × (w.log ≡ log)
        entries_same x e f = (cc, cc)

        messages_same : (x : List Message) → x ≡ w.message ∷ w.rest → x ≡ m ∷ rest → (w.message ≡ m) × (w.rest ≡ rest)
        messages_same x e f = (cc, cc)

        same : (b.one r).log ≡ Intra_entry s ∷ log → HasPlan P n b2
        same f = let i = entries_same (b.one r).log (ap (λ z. (b.one z).log) (sym e) ∙ w.names) f in
            let j = messages_same (b.channel s r) (sym (ap (λ z. b.channel z r) i.0) ∙ sym (ap (b.channel t) e) ∙ w.has) has in (
              es,
              subst (λ c. Plan P n c es)
                  (ap (λ z. back_arrives b t z (took (b.one z) w.log t w.message) w.message w.rest) e ∙ ap (λ z. back_arrives b z r (took (b.one r) w.log z w.message) w.message w.rest) i.0
                  ∙ ap (λ z. back_arrives b s r (took (b.one r) z s w.message) w.message w.rest) i.1 ∙ ap (λ z. back_arrives b s r (took (b.one r) log s z) z w.rest) j.0 ∙ ap (λ z. back_arrives b s r (took (b.one r) log s m) m z) j.1) plan1,
            )

    there : (y ≡ r → ⊥) → HasPlan P n b2
    there e = (
      Deliver t y ∷ k.0,
      (
        Delivery_helps w.from w.inside w.log names (record { message = w.message; rest = w.rest; has = has2 }),
        subst (λ c. Plan P n c k.0) (deliver_deliver b t y s r w.log log w.message m w.rest rest e ∙ sym (next_deliver P n b2 t y w.log w.message w.rest w.from w.inside (inl names) has2)) k.1,
      ),
    )
      where
        one1 : b1.one r ≡ b.one r
        one1 = set_at-other b.one y (took (b.one y) w.log t w.message) r (λ z. e (sym z))

        names : (b2.one y).log ≡ Intra_entry t ∷ w.log
        names = ap (λ v. v.log) (set_at-other b.one r (took (b.one r) log s m) y e) ∙ w.names

        has2 : b2.channel t y ≡ w.message ∷ w.rest
        has2 = Changes.set_pair-other_column b.channel s r rest t y e ∙ w.has

        k : HasPlan P n (back_arrives b1 s r (took (b1.one r) log s m) m rest)
        k = ih b1 rest (subst (λ v. Kind v s log) (sym one1) kind) (Changes.set_pair-other_column b.channel t y w.rest s r (λ z. e (sym z)) ∙ has) plan1

keep_deliver : {S : Type 0} (P : Process S) (n : ℕ) (es : List Event) (b : Back S) (s r : ℕ) (log : List Entry) (m : Message) (rest : List Message) → s < n → r < n → Kind (b.one r) s log → b.channel s r ≡ m ∷ rest → Plan P n b es → HasPlan P n (back_arrives b s r (took (b.one r) log s m) m rest)
keep_deliver P n [] b s r log m rest a c kind has h = ([], done_deliver P n b s r log m rest c kind h)
keep_deliver P n (Handle x y ∷ es) b s r log m rest a c kind has h = absurd (no_handle P n b x y h.0)
keep_deliver P n (Begin_wave ∷ es) b s r log m rest a c kind has h = absurd (no_wave P n b h.0)
keep_deliver P n (Turn y ∷ es) b s r log m rest a c kind has h = keep_deliver_turn P n es b y s r log m rest a c kind has (λ d l k g p. keep_deliver P n es d s r log m l a c k g p) (helps_turn P n b y h.0) h.1
keep_deliver P n (Deliver t y ∷ es) b s r log m rest a c kind has h = keep_deliver_deliver P n es b t y s r log m rest a c kind has (λ d l k g p. keep_deliver P n es d s r log m l a c k g p) (helps_delivery P n b t y h.0) h.1

-- Every event of the ranks keeps that there is a plan.
idle_turn : {S : Type 0} (P : Process S) (b : Back S) (r : ℕ) → is_operation (turn P (b.one r).rank).did ≡ false → back_turn P b r ≡ b
idle_turn {S} P b r idle = back_path (set_at b.one r v) b.one (back_channel b.channel b.skip r d) b.channel (back_skip b.skip r d) b.skip
    (ap (set_at b.one r) (restored_path (turn P (b.one r).rank).rank (b.one r).rank (b.one r).log (b.one r).log (if is_operation d then pred (b.one r).left else (b.one r).left) (b.one r).left (turn_none P (b.one r).rank idle) refl (cond-false (is_operation d) (pred (b.one r).left) (b.one r).left idle)) ∙ set_same b.one r)
    (no_send d idle) (no_skip d idle)
  where
    d : Did
    d = (turn P (b.one r).rank).did

    v : Replaying S
    v = record (b.one r) { rank = (turn P (b.one r).rank).rank; left = if is_operation d then pred (b.one r).left else (b.one r).left }

    no_send : (d : Did) → is_operation d ≡ false → back_channel b.channel b.skip r d ≡ b.channel
    no_send Nothing e = refl
    no_send (Sent to m) e = absurd (true≢false e)
    no_send Local e = absurd (true≢false e)
    no_send Marked e = absurd (true≢false e)

    no_skip : (d : Did) → is_operation d ≡ false → back_skip b.skip r d ≡ b.skip
    no_skip Nothing e = refl
    no_skip (Sent to m) e = absurd (true≢false e)
    no_skip Local e = absurd (true≢false e)
    no_skip Marked e = absurd (true≢false e)

record Arrives {S : Type 0} (b : Back S) (s r : ℕ) : Type 0 where
  log : List Entry
  message : Message
  rest : List Message
  kind : Kind (b.one r) s log
  has : b.channel s r ≡ message ∷ rest

effect : {S : Type 0} (b : Back S) (s r : ℕ) (q : List Message) (log : List Entry) (left : ℕ) → b.channel s r ≡ q → (b.one r).log ≡ log → (b.one r).left ≡ left → Arrives b s r ⊎ (back_deliver b s r q log left ≡ b)
effect b s r [] log left has logs lefts = inr refl
effect b s r (m ∷ rest) [] zero has logs lefts = inl (record { log = []; message = m; rest = rest; kind = inr (logs, lefts, refl); has = has })
effect b s r (m ∷ rest) [] (suc left) has logs lefts = inr refl
effect b s r (m ∷ rest) (Late_entry a x ∷ log) left has logs lefts = inr refl
effect b s r (m ∷ rest) (Intra_entry a ∷ log) left has logs lefts = ⊎_elim
    (λ e. inl (record { log = log; message = m; rest = rest; kind = inl (logs ∙ ap (λ z. Intra_entry z ∷ log) e); has = has }))
    (λ e. inr (cond-false (a == s) (back_arrives b s r (absorb (b.one r).left (arrive (b.one r).rank s m) log) m rest) b (ne_eqb a s e)))
    (cases_eq a s)

pub plan_next : {S : Type 0} (P : Process S) (n : ℕ) (b : Back S) (e : Event) → HasPlan P n b → HasPlan P n (back_next P n b e)
plan_next P n b (Handle s r) h = h
plan_next P n b Begin_wave h = h
plan_next P n b (Turn r) h = cond_both (nat_lt r n && may_turn (b.one r).log (b.one r).left) (back_turn P b r) b (HasPlan P n)
    (λ e. let both = and_parts (nat_lt r n) (may_turn (b.one r).log (b.one r).left) e in
    ⊎_elim (λ op. keep_turn P n h.0 b r (ltb-true r n both.0) both.1 op h.1) (λ idle. subst (HasPlan P n) (sym (idle_turn P b r idle)) h) (cases_Bool (is_operation (turn P (b.one r).rank).did)))
    (λ e. h)
plan_next P n b (Deliver s r) h = ⊎_elim
    (λ e. let both = and_parts (nat_lt s n) (nat_lt r n) e in let a = ltb-true s n both.0 in let c = ltb-true r n both.1 in
    ⊎_elim (λ w. subst (HasPlan P n) (sym (next_deliver P n b s r w.log w.message w.rest a c w.kind w.has)) (keep_deliver P n h.0 b s r w.log w.message w.rest a c w.kind w.has h.1))
    (λ same. subst (HasPlan P n) (sym (cond-true (nat_lt s n && nat_lt r n) (back_deliver b s r (b.channel s r) (b.one r).log (b.one r).left) b e ∙ same)) h)
    (effect b s r (b.channel s r) (b.one r).log (b.one r).left refl refl refl))
    (λ e. subst (HasPlan P n) (sym (cond-false (nat_lt s n && nat_lt r n) (back_deliver b s r (b.channel s r) (b.one r).log (b.one r).left) b e)) h)
    (cases_Bool (nat_lt s n && nat_lt r n))

pub plan_run : {S : Type 0} (P : Process S) (n : ℕ) (es : List Event) (b : Back S) → HasPlan P n b → HasPlan P n (back_run P n b es)
plan_run P n [] b h = h
plan_run P n (e ∷ es) b h = plan_run P n es (back_next P n b e) (plan_next P n b e h)

-- Replay never sticks: where some rank restores, some event of a restoring rank has an effect.
pub never_stuck : {S : Type 0} (P : Process S) (n : ℕ) (b : Back S) → HasPlan P n b → IsDone n b ⊎ ((e : Event) × Helps P n b e)
never_stuck P n b h = go h.0 h.1
  where
    go : (es : List Event) → Plan P n b es → IsDone n b ⊎ ((e : Event) × Helps P n b e)
    go [] h = inl h
    go (e ∷ es) h = inr (e, h.0)
