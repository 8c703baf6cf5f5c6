-- Lists that stand for data per rank and per pair, after a change; and lists of events, one after the other.
use Rattle.std.proofs.Common.{◌≡◌, ℕ, zero, suc, ◌<◌, Bool, true, false, not, List, [], ◌∷◌, ◌++◌, sym, refl, ap, ◌∙◌, subst, slice_set, get_or, ⊎_elim, arith}
use Rattle.std.specs.Prelude.{◌&&◌, nat_lt, if◌then◌else◌, slice_index_or}
use Rattle.std.proofs.lemmas.Bool.{cases_Bool, cases_eq, cases_lt, cases_order, lt-ltb, le-ltb, cond-true, cond-false, cond_both, false≢true}
use Rattle.std.proofs.lemmas.List.{length-set, get_or-set_same, get_or-set_other, append_assoc, append-nil}
use Rattle.late_logs.specs.declared.entry.Entry.{Entry}
use Rattle.core_laws.specs.Rows.{set_at, set_pair}
use Rattle.core_laws.specs.Ties.{AreBy, Are}
use Rattle.core_laws.specs.CoreTies.{Pairs, EachIs, Regular, Placed, placed, log_while, logs_of, Network, IsNetwork, Held, Holds, DoesAll}
use Rattle.mpi_words.specs.declared.message.Message.{Message}
use Rattle.core_laws.specs.Replay.{Replaying}
use Rattle.core_laws.specs.Protocol.{Class, Wave, Packet, Layer, Protocol, class_of, layer_stop, move_stop}
use Rattle.core_laws.specs.Written.{Written, log_more, written_arrive, written_turn}
use Rattle.core_laws.specs.Handling.{after_save, after_stop, stops_at, then_stop, written_delivered}
use Rattle.core_laws.specs.Process.{Ranks, Turned, is_operation}
use Rattle.core_laws.specs.Quiet.{Event}
use Rattle.core_laws.specs.Core.{Core, step_of, steps_of, core_turned, core_arrived, core_began}
use Rattle.core_laws.specs.CoreEvents.{below, times, row_events, pair_events}
use Rattle.core_laws.specs.Effects.{Effect, step_effects_of, steps_effects_of}
use Rattle.core_laws.proofs.Changes.{set_at-same, set_at-other}
use Rattle.core_laws.proofs.SweepStages.{row-append, pair-append}

-- one item is written, and of the others the same is said
pub are_by_at : {A B : Type 0} (P : A → B → Type 0) (n : ℕ) (items : List A) (f g : ℕ → B) (k : ℕ) (w : A) → k < n → P w (g k) → ((x : ℕ) → x < n → (x ≡ k → ⊥) → g x ≡ f x) → AreBy P n items f → AreBy P n (slice_set items k w) g
are_by_at P n items f g k w inside here others h = record {
  size = length-set items k w ∙ h.size;
  each = λ x d b. ⊎_elim
      (λ e. subst (λ z. P (get_or (slice_set items k w) z d) (g z)) (sym e) (subst (λ a. P a (g k)) (sym (get_or-set_same items k w d (omega (arith, h.size)))) here))
      (λ e. subst (P (get_or (slice_set items k w) x d)) (sym (others x b e)) (subst (λ a. P a (f x)) (sym (get_or-set_other items k x w d e)) (h.each x d b)))
      (cases_eq x k);
}

pub are_by_set : {A B : Type 0} (P : A → B → Type 0) (n : ℕ) (items : List A) (f : ℕ → B) (k : ℕ) (w : A) (v : B) → k < n → P w v → AreBy P n items f → AreBy P n (slice_set items k w) (set_at f k v)
are_by_set P n items f k w v inside here h = are_by_at P n items f (set_at f k v) k w inside (subst (P w) (sym (set_at-same f k v)) here) (λ x b e. set_at-other f k v x e) h

-- the same items, of which more or other is said
pub are_by_map : {A B C : Type 0} (P : A → B → Type 0) (Q : A → C → Type 0) (n : ℕ) (items : List A) (f : ℕ → B) (g : ℕ → C) → ((x : ℕ) (a : A) → x < n → P a (f x) → Q a (g x)) → AreBy P n items f → AreBy Q n items g
are_by_map P Q n items f g same h = record { size = h.size; each = λ x d b. same x (get_or items x d) b (h.each x d b) }

-- a write at a pair, and one by a function of what is there: a push or a pop
pub pairs_set : {A : Type 0} (n : ℕ) (rows : List (List A)) (f : ℕ → ℕ → A) (a b : ℕ) (d : List A) (w : A) → a < n → b < n → Pairs n rows f → Pairs n (slice_set rows a (slice_set (slice_index_or rows a d) b w)) (set_pair f a b w)
pairs_set n rows f a b d w ia ib h = are_by_set (Are n) n rows f a (slice_set (get_or rows a d) b w) (set_at (f a) b w) ia (are_by_set (λ x y. x ≡ y) n (get_or rows a d) (f a) b w w ib refl (h.each a d ia)) h

pub pairs_at : {A : Type 0} (n : ℕ) (rows : List (List A)) (f : ℕ → ℕ → A) (a b : ℕ) (d : List A) (e : A) → a < n → b < n → Pairs n rows f → slice_index_or (slice_index_or rows a d) b e ≡ f a b
pairs_at n rows f a b d e ia ib h = (h.each a d ia).each b e ib

pub pairs_changed : {A : Type 0} (n : ℕ) (rows : List (List A)) (f : ℕ → ℕ → A) (a b : ℕ) (d : List A) (e : A) (g : A → A) → a < n → b < n → Pairs n rows f
    → Pairs n (slice_set rows a (slice_set (slice_index_or rows a d) b (g (slice_index_or (slice_index_or rows a d) b e)))) (set_pair f a b (g (f a b)))
pairs_changed n rows f a b d e g ia ib h = subst (λ v. Pairs n (slice_set rows a (slice_set (get_or rows a d) b (g (get_or (get_or rows a d) b e)))) (set_pair f a b v))
    (ap g (pairs_at n rows f a b d e ia ib h)) (pairs_set n rows f a b d (g (get_or (get_or rows a d) b e)) ia ib h)

-- A row of which the first i lists have got one element more.
abbrev pub told_until : {A : Type 0} → (ℕ → List A) → (ℕ → A) → ℕ → ℕ → List A
told_until q y i x = if nat_lt x i then q x ++ y x ∷ [] else q x

later : (x i : ℕ) → (x ≡ i → ⊥) → nat_lt x (suc i) ≡ nat_lt x i
later x i e = ⊎_elim
    (λ d. lt-ltb x (suc i) (omega arith) ∙ sym (lt-ltb x i d))
    (λ d. le-ltb x (suc i) (⊎_elim (λ g. absurd (e g)) (λ g. omega (arith, g)) (cases_order x i)) ∙ sym (le-ltb x i d))
    (cases_lt x i)

until_here : {A : Type 0} (q : ℕ → List A) (y : ℕ → A) (i : ℕ) → told_until q y i i ≡ q i
until_here q y i = cond-false (nat_lt i i) (q i ++ y i ∷ []) (q i) (le-ltb i i (omega arith))

until_next : {A : Type 0} (q : ℕ → List A) (y : ℕ → A) (i : ℕ) → told_until q y (suc i) i ≡ q i ++ y i ∷ []
until_next q y i = cond-true (nat_lt i (suc i)) (q i ++ y i ∷ []) (q i) (lt-ltb i (suc i) (omega arith))

until_other : {A : Type 0} (q : ℕ → List A) (y : ℕ → A) (i x : ℕ) → (x ≡ i → ⊥) → told_until q y (suc i) x ≡ told_until q y i x
until_other q y i x e = ap (λ b. if b then q x ++ y x ∷ [] else q x) (later x i e)

-- a loop that pushes one element to each list of a row: its beginning, its step and its end
pub row_first : {A : Type 0} (n : ℕ) (rows : List (List (List A))) (f : ℕ → ℕ → List A) (a : ℕ) (y : ℕ → A) → Pairs n rows f → Pairs n rows (set_at f a (told_until (f a) y 0))
row_first n rows f a y h = are_by_map (Are n) (Are n) n rows f (set_at f a (told_until (f a) y 0)) (λ x row b old. ⊎_elim
    (λ e. subst (Are n row) (sym (ap (set_at f a (told_until (f a) y 0)) e ∙ set_at-same f a (told_until (f a) y 0))) (are_by_map (λ u v. u ≡ v) (λ u v. u ≡ v) n row (f a) (told_until (f a) y 0) (λ z l c g. g ∙ sym (cond-false (nat_lt z 0) (f a z ++ y z ∷ []) (f a z) (le-ltb z 0 (omega arith)))) (subst (λ z. Are n row (f z)) e old)))
    (λ e. subst (Are n row) (sym (set_at-other f a (told_until (f a) y 0) x e)) old)
    (cases_eq x a)) h

pub row_next : {A : Type 0} (n : ℕ) (rows : List (List (List A))) (f : ℕ → ℕ → List A) (a i : ℕ) (y : ℕ → A) (d : List (List A)) (e : List A) → a < n → i < n → Pairs n rows (set_at f a (told_until (f a) y i))
    → Pairs n (slice_set rows a (slice_set (slice_index_or rows a d) i (slice_index_or (slice_index_or rows a d) i e ++ y i ∷ []))) (set_at f a (told_until (f a) y (suc i)))
row_next {A} n rows f a i y d e ia ii h = are_by_at (Are n) n rows (set_at f a (told_until (f a) y i)) (set_at f a (told_until (f a) y (suc i))) a (slice_set row i (get_or row i e ++ y i ∷ [])) ia
    (subst (Are n (slice_set row i (get_or row i e ++ y i ∷ []))) (sym (set_at-same f a (told_until (f a) y (suc i))))
    (are_by_at (λ u v. u ≡ v) n row (told_until (f a) y i) (told_until (f a) y (suc i)) i (get_or row i e ++ y i ∷ []) ii
    (ap (λ l. l ++ y i ∷ []) (was.each i e ii ∙ until_here (f a) y i) ∙ sym (until_next (f a) y i)) (λ x _ g. until_other (f a) y i x g) was))
    (λ x _ g. set_at-other f a (told_until (f a) y (suc i)) x g ∙ sym (set_at-other f a (told_until (f a) y i) x g)) h
  where
    row : List (List A)
    row = get_or rows a d

    was : Are n row (told_until (f a) y i)
    was = subst (Are n row) (set_at-same f a (told_until (f a) y i)) (h.each a d ia)

pub row_last : {A : Type 0} (n : ℕ) (rows : List (List (List A))) (f : ℕ → ℕ → List A) (a : ℕ) (y : ℕ → A) → Pairs n rows (set_at f a (told_until (f a) y n)) → Pairs n rows (set_at f a (λ x. f a x ++ y x ∷ []))
row_last n rows f a y h = are_by_map (Are n) (Are n) n rows (set_at f a (told_until (f a) y n)) (set_at f a (λ x. f a x ++ y x ∷ [])) (λ x row b old. ⊎_elim
    (λ e. subst (Are n row) (sym (ap (set_at f a (λ x. f a x ++ y x ∷ [])) e ∙ set_at-same f a (λ x. f a x ++ y x ∷ [])))
    (are_by_map (λ u v. u ≡ v) (λ u v. u ≡ v) n row (told_until (f a) y n) (λ x. f a x ++ y x ∷ []) (λ z l c g. g ∙ cond-true (nat_lt z n) (f a z ++ y z ∷ []) (f a z) (lt-ltb z n c))
    (subst (Are n row) (ap (set_at f a (told_until (f a) y n)) e ∙ set_at-same f a (told_until (f a) y n)) old)))
    (λ e. subst (Are n row) (set_at-other f a (told_until (f a) y n) x e ∙ sym (set_at-other f a (λ x. f a x ++ y x ∷ []) x e)) old)
    (cases_eq x a)) h

-- Lists of events, one after the other, and what they write.
pub steps-append : {S : Type 0} (P : Ranks S) (n : ℕ) (c : Core S) (xs ys : List Event) → steps_of P n c (xs ++ ys) ≡ steps_of P n (steps_of P n c xs) ys
steps-append P n c [] ys = refl
steps-append P n c (e ∷ xs) ys = steps-append P n (step_of P n c e) xs ys

pub effects-append : {S : Type 0} (P : Ranks S) (n : ℕ) (c : Core S) (xs ys : List Event) → steps_effects_of P n c (xs ++ ys) ≡ steps_effects_of P n c xs ++ steps_effects_of P n (steps_of P n c xs) ys
effects-append P n c [] ys = refl
effects-append P n c (e ∷ xs) ys = ap (λ l. step_effects_of P n c e ++ l) (effects-append P n (step_of P n c e) xs ys) ∙ sym (append_assoc (step_effects_of P n c e) (steps_effects_of P n (step_of P n c e) xs) (steps_effects_of P n (steps_of P n (step_of P n c e) xs) ys))

pub each_is-append : {A B : Type 0} (R : A → B → Type 0) (xs ys : List A) (us vs : List B) → EachIs R xs us → EachIs R ys vs → EachIs R (xs ++ ys) (us ++ vs)
each_is-append R [] ys [] vs h k = k
each_is-append R [] ys (u ∷ us) vs h k = absurd h
each_is-append R (x ∷ xs) ys [] vs h k = absurd h
each_is-append R (x ∷ xs) ys (u ∷ us) vs h k = (h.0, each_is-append R xs ys us vs h.1 k)

pub does_more : {S K W E : Type 0} (IsLayer : K → Placed → Type 0) (IsWave : W → Wave → (ℕ → Bool) → Type 0) (IsEffect : (ℕ → ℕ) → E → Effect S → Type 0) (P : Ranks S) (n : ℕ) (first : ℕ → ℕ) (c : Core S) (xs ys : List Event) (h : Held S K W) (done more : List E)
    → EachIs (IsEffect first) done (steps_effects_of P n c xs) → DoesAll IsLayer IsWave IsEffect P n first (steps_of P n c xs) ys h more → DoesAll IsLayer IsWave IsEffect P n first c (xs ++ ys) h (done ++ more)
does_more IsLayer IsWave IsEffect P n first c xs ys h done more was goes = record {
  core = subst (Holds IsLayer IsWave n first h) (sym (steps-append P n c xs ys)) goes.core;
  effects = subst (EachIs (IsEffect first) (done ++ more)) (sym (effects-append P n c xs ys)) (each_is-append (IsEffect first) done more (steps_effects_of P n c xs) (steps_effects_of P n (steps_of P n c xs) ys) was goes.effects);
}

-- one rank's layer is changed, and the log with it
pub placed_set : {K : Type 0} (IsLayer : K → Placed → Type 0) (n : ℕ) (items : List K) (layer : ℕ → Layer) (logs : ℕ → List Entry) (r : ℕ) (k : K) (l : Layer) (log : List Entry) → r < n
    → IsLayer k (record { rank = r; layer = l; log = log_while l.logging log }) → AreBy IsLayer n items (placed layer logs) → AreBy IsLayer n (slice_set items r k) (placed (set_at layer r l) (set_at logs r log))
placed_set IsLayer n items layer logs r k l log inside is h = are_by_at IsLayer n items (placed layer logs) (placed (set_at layer r l) (set_at logs r log)) r k inside
    (subst (λ z. IsLayer k (record { rank = r; layer = z; log = log_while z.logging (set_at logs r log r) })) (sym (set_at-same layer r l))
    (subst (λ z. IsLayer k (record { rank = r; layer = l; log = log_while l.logging z })) (sym (set_at-same logs r log)) is))
    (λ x _ e. ap (λ (z : Layer). record { rank = x; layer = z; log = log_while z.logging (set_at logs r log x) }) (set_at-other layer r l x e) ∙ ap (λ z. record { rank = x; layer = layer x; log = log_while (layer x).logging z }) (set_at-other logs r log x e)) h

pub placed_layer : {K : Type 0} (IsLayer : K → Placed → Type 0) (n : ℕ) (items : List K) (layer : ℕ → Layer) (logs : ℕ → List Entry) (r : ℕ) (k : K) (l : Layer) → r < n
    → IsLayer k (record { rank = r; layer = l; log = log_while l.logging (logs r) }) → AreBy IsLayer n items (placed layer logs) → AreBy IsLayer n (slice_set items r k) (placed (set_at layer r l) logs)
placed_layer IsLayer n items layer logs r k l inside is h = are_by_at IsLayer n items (placed layer logs) (placed (set_at layer r l) logs) r k inside
    (subst (λ z. IsLayer k (record { rank = r; layer = z; log = log_while z.logging (logs r) })) (sym (set_at-same layer r l)) is)
    (λ x _ e. ap (λ (z : Layer). record { rank = x; layer = z; log = log_while z.logging (logs x) }) (set_at-other layer r l x e)) h

-- the loops of a sweep: once more, for one receiver more, and for one sender more
pub times_more : (k : ℕ) (e : Event) → times (suc k) e ≡ times k e ++ e ∷ []
times_more zero e = refl
times_more (suc k) e = ap (λ l. e ∷ l) (times_more k e)

pub row_more : (e : ℕ → Event) (count : ℕ → ℕ) (i : ℕ) → row_events e count (below (suc i)) ≡ row_events e count (below i) ++ times (count i) (e i)
row_more e count i = row-append e count (below i) (i ∷ []) ∙ ap (λ l. row_events e count (below i) ++ l) (append-nil (times (count i) (e i)))

pub pair_more : (n : ℕ) (e : ℕ → ℕ → Event) (count : ℕ → ℕ → ℕ) (i : ℕ) → pair_events n e count (below (suc i)) ≡ pair_events n e count (below i) ++ row_events (e i) (count i) (below n)
pair_more n e count i = pair-append n e count (below i) (i ∷ []) ∙ ap (λ l. pair_events n e count (below i) ++ l) (append-nil (row_events (e i) (count i) (below n)))

-- What is logged, and how many operations are counted, of a rank that logs.
pub turn_log : {S : Type 0} (stopped saved : Bool) (w : Written S) (t : Turned S) → (written_turn stopped saved w t).log ≡ w.log
turn_log true saved w t = refl
turn_log false true w t = refl
turn_log false false w t = refl

pub turn_ops : {S : Type 0} (n : ℕ) (c : Core S) (r : ℕ) (t : Turned S) → r < n → Regular n c → (c.protocol.layer r).logging ≡ true
    → (written_turn (after_stop c.protocol r) (after_save c.protocol r) (c.written r) t).ops ≡ (if is_operation t.did then suc (c.written r).ops else (c.written r).ops)
turn_ops n c r t b h e = subst (λ z. (written_turn (z && not (c.protocol.layer r).logging) z (c.written r) t).ops ≡ (if is_operation t.did then suc (c.written r).ops else (c.written r).ops)) (sym (h.logs r b e).1)
    (subst (λ z. (written_turn (true && not z) true (c.written r) t).ops ≡ (if is_operation t.did then suc (c.written r).ops else (c.written r).ops)) (sym e) refl)

-- at a save nothing is logged or counted yet
pub save_log : {S : Type 0} (n : ℕ) (c : Core S) (r : ℕ) (t : Turned S) → r < n → Regular n c → (c.protocol.layer r).asked ≡ true
    → ((written_turn (after_stop c.protocol r) (after_save c.protocol r) (c.written r) t).log ≡ []) × ((written_turn (after_stop c.protocol r) (after_save c.protocol r) (c.written r) t).ops ≡ 0)
save_log n c r t b h e = (
  turn_log (after_stop c.protocol r) (after_save c.protocol r) (c.written r) t ∙ (h.empty r b e).0,
  subst (λ z. (written_turn (z && not (c.protocol.layer r).logging) z (c.written r) t).ops ≡ 0) (sym (h.asked r b e).1) (h.empty r b e).1,
)

-- at an arrival that doesn't stop it a rank that logs goes on
pub arrival_log : {S : Type 0} (n : ℕ) (c : Core S) (s r : ℕ) (x : Packet) → r < n → Regular n c → ((then_stop c.protocol r x).layer r).logging ≡ true
    → (written_delivered c.written (then_stop c.protocol r x) s r x r).log ≡ log_more (class_of (c.protocol.layer r).epoch x.1.epoch) (c.written r).log s x.0
arrival_log {S} n c s r x b h = cond_both (stops_at (p.layer r) x) (move_stop p r) p (λ (q : Protocol). (q.layer r).logging ≡ true → (written_delivered c.written q s r x r).log ≡ log_more (class_of (p.layer r).epoch x.1.epoch) (c.written r).log s x.0)
    (λ _ e. absurd (false≢true (sym (ap (λ (l : Layer). l.logging) (set_at-same p.layer r (layer_stop (p.layer r)))) ∙ e)))
    (λ _ e. ap (λ (w : Written S). w.log) (set_at-same c.written r (written_arrive (after_stop p r) (after_save p r) (class_of (p.layer r).epoch x.1.epoch) (c.written r) s x.0))
    ∙ subst (λ z. (written_arrive (z && not (p.layer r).logging) z (class_of (p.layer r).epoch x.1.epoch) (c.written r) s x.0).log ≡ log_more (class_of (p.layer r).epoch x.1.epoch) (c.written r).log s x.0) (sym (h.logs r b e).1)
    (subst (λ z. (written_arrive (true && not z) true (class_of (p.layer r).epoch x.1.epoch) (c.written r) s x.0).log ≡ log_more (class_of (p.layer r).epoch x.1.epoch) (c.written r).log s x.0) (sym e) refl))
  where
    p : Protocol
    p = c.protocol

-- where no wave is under way nobody logs
pub idle_log : {S : Type 0} (n : ℕ) (c : Core S) (r : ℕ) → r < n → Regular n c → c.protocol.wave.under_way ≡ false → (c.protocol.layer r).logging ≡ false
idle_log n c r b h none = ⊎_elim (λ e. absurd (false≢true (sym none ∙ (h.logs r b e).0))) (λ e. e) (cases_Bool (c.protocol.layer r).logging)

pub arrive_ops : {S : Type 0} (stopped saved : Bool) (cl : Class) (w : Written S) (s : ℕ) (m : Message) → (written_arrive stopped saved cl w s m).ops ≡ w.ops
arrive_ops true saved cl w s m = refl
arrive_ops false true cl w s m = refl
arrive_ops false false cl w s m = refl

-- only the logs of ranks that log are compared
pub network_logs : {K W : Type 0} (IsLayer : K → Placed → Type 0) (IsWave : W → Wave → (ℕ → Bool) → Type 0) (n : ℕ) (k : Network K W) (p : Protocol) (logs more : ℕ → List Entry)
    → ((r : ℕ) → r < n → (p.layer r).logging ≡ true → more r ≡ logs r) → IsNetwork IsLayer IsWave n k p logs → IsNetwork IsLayer IsWave n k p more
network_logs IsLayer IsWave n k p logs more same h = record {
  layers = are_by_map IsLayer IsLayer n k.layers (placed p.layer logs) (placed p.layer more)
      (λ r a b is. subst (λ l. IsLayer a (record { rank = r; layer = p.layer r; log = l })) (go (p.layer r).logging (logs r) (more r) (same r b)) is) h.layers;
  channels = h.channels;
  controls = h.controls;
  wave = h.wave;
}
  where
    go : (logging : Bool) (old new : List Entry) → (logging ≡ true → new ≡ old) → log_while logging old ≡ log_while logging new
    go true old new e = sym (e refl)
    go false old new e = refl

-- the logs after a turn, an arrival, and the beginning of a wave
pub turn_logs : {S : Type 0} (n : ℕ) (c : Core S) (r : ℕ) (t : Turned S) (x : ℕ) → logs_of (core_turned n c r t) x ≡ logs_of c x
turn_logs {S} n c r t x = ⊎_elim
    (λ e. ap (logs_of (core_turned n c r t)) e ∙ ap (λ (w : Written S). w.log) (set_at-same c.written r now) ∙ turn_log (after_stop c.protocol r) (after_save c.protocol r) (c.written r) t ∙ sym (ap (logs_of c) e))
    (λ e. ap (λ (w : Written S). w.log) (set_at-other c.written r now x e))
    (cases_eq x r)
  where
    now : Written S
    now = written_turn (after_stop c.protocol r) (after_save c.protocol r) (c.written r) t

pub arrival_logs : {S : Type 0} (n : ℕ) (c : Core S) (s r : ℕ) (v : Replaying S) (x : Packet) (rest : List Packet) → r < n → Regular n c → (y : ℕ) → ((then_stop c.protocol r x).layer y).logging ≡ true
    → logs_of (core_arrived n c s r v x rest) y ≡ set_at (logs_of c) r (log_more (class_of (c.protocol.layer r).epoch x.1.epoch) (logs_of c r) s x.0) y
arrival_logs {S} n c s r v x rest b h y logs = ⊎_elim
    (λ e. ap (logs_of after) e ∙ arrival_log n c s r x b h (sym (ap (λ z. ((then_stop c.protocol r x).layer z).logging) e) ∙ logs) ∙ sym (ap (set_at (logs_of c) r now) e ∙ set_at-same (logs_of c) r now))
    (λ e. ap (λ (w : Written S). w.log) (set_at-other c.written r (written_arrive (after_stop q r) (after_save q r) (class_of (q.layer r).epoch x.1.epoch) (c.written r) s x.0) y e) ∙ sym (set_at-other (logs_of c) r now y e))
    (cases_eq y r)
  where
    q : Protocol
    q = then_stop c.protocol r x

    after : Core S
    after = core_arrived n c s r v x rest

    now : List Entry
    now = log_more (class_of (c.protocol.layer r).epoch x.1.epoch) (logs_of c r) s x.0

pub begin_logs : {S : Type 0} (n : ℕ) (c : Core S) (r : ℕ) → r < n → Regular n c → c.protocol.wave.under_way ≡ false → (c.protocol.layer r).logging ≡ true → logs_of (core_began c) r ≡ logs_of c r
begin_logs n c r b h none e = absurd (false≢true (sym (idle_log n c r b h none) ∙ e))
