-- Each move keeps what is kept of one pair.
use Rattle.std.proofs.Common.{pred, ◌≡◌, ℕ, suc, ◌+◌, ◌<◌, ◌≤◌, Bool, true, false, List, [], ◌∷◌, ◌++◌, Some, None, Option, sym, refl, ap, ◌∙◌, subst, ⊎_elim, arith}
use Rattle.std.specs.Prelude.{IfSome, is_some, ◌&&◌, ◌==◌}
use Rattle.std.specs.List.{AllByRecursion}
use Rattle.std.proofs.lemmas.Bool.{eqb-true, eq-eqb, ne_eqb, lt-ltb, le-ltb, cases_eq, false_from_ne_true, and_parts, and_from, and_left, and_right, cases_lt, cases_order}
use Rattle.mpi_words.specs.declared.control.Control.{Control}
use Rattle.mpi_words.specs.declared.control.Control.TheVariants.{Request, Count, Ready, Stop, Stopped, Restored}
use Rattle.mpi_words.specs.declared.message.Message.{Message}
use Rattle.core_laws.specs.Protocol.{Packet}
use Rattle.core_laws.proofs.ManyControls.{many-push, many-first}
use Rattle.core_laws.specs.Invariant.{PairKept, In, Out, total, arrived, on_channel, counts_on, CountsSay, bit}

-- One more message on a channel, one more control.
pub on_channel-push : (e : ℕ) (q : List Packet) (p : Packet) → on_channel e (q ++ p ∷ []) ≡ on_channel e q + on_channel e (p ∷ [])
on_channel-push e [] p = omega arith
on_channel-push e (x ∷ q) p = omega (arith, on_channel-push e q p)

pub all-push : {X : Type 0} (P : X → Type 0) (q : List X) (p : X) → AllByRecursion P q → P p → AllByRecursion P (q ++ p ∷ [])
all-push P [] p h k = (k, tt)
all-push P (x ∷ q) p h k = (h.0, all-push P q p h.1 k)

pub all-map : {X : Type 0} (P Q : X → Type 0) → ((x : X) → P x → Q x) → (q : List X) → AllByRecursion P q → AllByRecursion Q q
all-map P Q f [] h = tt
all-map P Q f (x ∷ q) h = (f x h.0, all-map P Q f q h.1)

pub CountsSay-push : (k : ℕ) (c : List Control) (x : Control) → CountsSay k c → CountsSay k (x ∷ []) → CountsSay k (c ++ x ∷ [])
CountsSay-push k [] x h e = e
CountsSay-push k (Request l ∷ c) x h e = CountsSay-push k c x h e
CountsSay-push k (Count l j ∷ c) x h e = (h.0, CountsSay-push k c x h.1 e)
CountsSay-push k (Ready l ∷ c) x h e = CountsSay-push k c x h e
CountsSay-push k (Stop l ∷ c) x h e = CountsSay-push k c x h e
CountsSay-push k (Stopped l ∷ c) x h e = CountsSay-push k c x h e
CountsSay-push k (Restored ∷ c) x h e = CountsSay-push k c x h e

-- what has arrived, by the receiver's epoch
pub arrived_late : (i : In) (e : ℕ) → e < i.epoch → arrived i e ≡ i.old
arrived_late i e h = rw (lt-ltb e i.epoch h) refl

arrived_at : (i : In) (e : ℕ) → e ≡ i.epoch → arrived i e ≡ i.got
arrived_at i e h = rw (le-ltb e i.epoch (omega arith), eq-eqb e i.epoch h) refl

arrived_early : (i : In) (e : ℕ) → i.epoch < e → arrived i e ≡ i.early
arrived_early i e h = rw (le-ltb e i.epoch (omega arith), ne_eqb e i.epoch (λ d. omega arith)) refl

abbrev is_ready : ℕ → In → Bool
is_ready L i = (i.epoch == suc L) && i.was_ready

not_ready : (L : ℕ) (i : In) → (i.epoch ≡ suc L → i.was_ready ≡ true → ⊥) → bit (is_ready L i) ≡ 0
not_ready L i h = ap bit (false_from_ne_true (is_ready L i) (λ e. h (eqb-true i.epoch (suc L) (and_parts (i.epoch == suc L) i.was_ready e).0) (and_parts (i.epoch == suc L) i.was_ready e).1))

on_channel-same : (e : ℕ) (m : Message) (b : Bool) → on_channel e ((m, record { epoch = e; logging = b }) ∷ []) ≡ 1
on_channel-same e m b = rw (eq-eqb e e refl) refl

on_channel-other : (e d : ℕ) (m : Message) (b : Bool) → (d ≡ e → ⊥) → on_channel e ((m, record { epoch = d; logging = b }) ∷ []) ≡ 0
on_channel-other e d m b h = rw (ne_eqb d e h) refl

no_counts : (k : ℕ) (c : List Control) → counts_on c ≡ 0 → CountsSay k c
no_counts k [] h = tt
no_counts k (Request l ∷ c) h = no_counts k c h
no_counts k (Count l j ∷ c) h = absurd (omega arith)
no_counts k (Ready l ∷ c) h = no_counts k c h
no_counts k (Stop l ∷ c) h = no_counts k c h
no_counts k (Stopped l ∷ c) h = no_counts k c h
no_counts k (Restored ∷ c) h = no_counts k c h

not_told : (t : Option ℕ) (P : ℕ → Type 0) → bit (is_some t) ≡ 0 → IfSome t P
not_told None P h = tt
not_told (Some k) P h = absurd (omega arith)

pub pair_send : (L : ℕ) (o : Out) (i : In) (q : List Packet) (c : List Control) (m : Message) → PairKept L o i q c
    → PairKept L (record o { sent = suc o.sent }) i (q ++ (m, record { epoch = o.epoch; logging = o.logging }) ∷ []) c
pair_send L o i q c m h = record {
  sender = h.sender;
  receiver = h.receiver;
  epochs = all-push (λ p. (L ≤ p.1.epoch) × (p.1.epoch ≤ o.epoch)) q new h.epochs (h.sender.0, omega arith);
  sent = omega (arith, h.sent, on_channel-push o.epoch q new, on_channel-same o.epoch m o.logging);
  none_yet = λ e. omega (arith, h.none_yet e, on_channel-push (suc L) q new, on_channel-other (suc L) o.epoch m o.logging (λ d. omega arith));
  no_early = h.no_early;
  say = λ e. subst (λ k. CountsSay k c) (same e) (h.say e);
  told = λ e. subst (λ t. IfSome i.told (λ k. k ≡ t)) (same e) (h.told e);
  untold = h.untold;
  told_once = h.told_once;
  ready = λ e r. ((h.ready e r).0, omega (arith, (h.ready e r).0, (h.ready e r).1, on_channel-push L q new, on_channel-other L o.epoch m o.logging (λ d. omega (arith, (h.ready e r).0))));
  flags = all-push (λ p. p.1.epoch ≡ suc L → p.1.logging ≡ false → o.logging ≡ false) q new h.flags (λ e f. f);
}
  where
    new : Packet
    new = (m, record { epoch = o.epoch; logging = o.logging })

    same : o.epoch ≡ suc L → total i L q ≡ total i L (q ++ new ∷ [])
    same e = omega (arith, on_channel-push L q new, on_channel-other L o.epoch m o.logging (λ d. omega arith))

-- its last send of this epoch is counted
pub pair_save_out : (L l : ℕ) (o : Out) (i : In) (q : List Packet) (c : List Control) → o.epoch ≡ L → o.skip ≡ 0 → PairKept L o i q c
    → PairKept L (record { epoch = suc o.epoch; logging = true; sent = 0; skip = o.skip }) i q (c ++ Count l o.sent ∷ [])
pair_save_out L l o i q c at none h = record {
  sender = (omega arith, omega arith);
  receiver = h.receiver;
  epochs = all-map (λ p. (L ≤ p.1.epoch) × (p.1.epoch ≤ o.epoch)) (λ p. (L ≤ p.1.epoch) × (p.1.epoch ≤ suc o.epoch)) (λ p e. (e.0, omega arith)) q h.epochs;
  sent = rw at (omega (arith, h.none_yet at, none));
  none_yet = λ e. absurd (omega arith);
  no_early = h.no_early;
  say = λ e. CountsSay-push (total i L q) c (Count l o.sent) (no_counts (total i L q) c (omega (arith, h.untold at))) (omega (arith, h.sent ∙ ap (λ e. total i e q) at, none), tt);
  told = λ e. not_told i.told (λ k. k ≡ total i L q) (omega (arith, h.untold at));
  untold = λ e. absurd (omega arith);
  told_once = λ e. omega (arith, h.untold at, many-push 1 c (Count l o.sent), not_ready L i (λ d r. omega (arith, (h.ready d r).0)));
  ready = λ e r. absurd (omega (arith, (h.ready e r).0));
  flags = all-map (λ p. (L ≤ p.1.epoch) × (p.1.epoch ≤ o.epoch)) (λ p. p.1.epoch ≡ suc L → p.1.logging ≡ false → true ≡ false) (λ p e d f. absurd (omega arith)) q h.epochs;
}

-- A change of the receiver that leaves each total.
pub pair_in : (L : ℕ) (o : Out) (i i' : In) (q q' : List Packet) (c : List Control) → PairKept L o i q c
    → (L ≤ i'.epoch) × (i'.epoch ≤ suc L)
    → ((e : ℕ) → L ≤ e → e ≤ suc L → total i' e q' ≡ total i e q)
    → i'.told ≡ i.told
    → (i'.epoch ≡ suc L → i'.early ≡ 0)
    → is_ready L i' ≡ is_ready L i
    → ((P : Packet → Type 0) → AllByRecursion P q → AllByRecursion P q')
    → (on_channel L q ≡ 0 → on_channel L q' ≡ 0)
    → PairKept L o i' q' c
pair_in L o i i' q q' c h bounds same told early ready fewer none = record {
  sender = h.sender;
  receiver = bounds;
  epochs = fewer (λ p. (L ≤ p.1.epoch) × (p.1.epoch ≤ o.epoch)) h.epochs;
  sent = h.sent ∙ sym (same o.epoch h.sender.0 h.sender.1);
  none_yet = λ e. same (suc L) (omega arith) (omega arith) ∙ h.none_yet e;
  no_early = early;
  say = λ e. subst (λ k. CountsSay k c) (sym (same L (omega arith) (omega arith))) (h.say e);
  told = λ e. subst (λ t. IfSome t (λ k. k ≡ total i' L q')) (sym told) (subst (λ t. IfSome i.told (λ k. k ≡ t)) (sym (same L (omega arith) (omega arith))) (h.told e));
  untold = λ e. subst (λ t. counts_on c + bit (is_some t) ≡ 0) (sym told) (h.untold e);
  told_once = λ e. subst (λ t. counts_on c + bit (is_some t) + bit (is_ready L i') ≡ 1) (sym told) (subst (λ b. counts_on c + bit (is_some i.told) + bit b ≡ 1) (sym ready) (h.told_once e));
  ready = λ e r. let both = and_parts (i.epoch == suc L) i.was_ready (sym ready ∙ and_from (i'.epoch == suc L) i'.was_ready (eq-eqb i'.epoch (suc L) e) r) in
      let was = h.ready (eqb-true i.epoch (suc L) both.0) both.1 in (was.0, none was.1);
  flags = fewer (λ p. p.1.epoch ≡ suc L → p.1.logging ≡ false → o.logging ≡ false) h.flags;
}

save_in : In → In
save_in i = record { epoch = suc i.epoch; was_ready = false; got = i.early; old = i.got; early = 0; told = i.told }

pub pair_save_in : (L : ℕ) (o : Out) (i : In) (q : List Packet) (c : List Control) → i.epoch ≡ L → PairKept L o i q c
    → PairKept L o (record { epoch = suc i.epoch; was_ready = false; got = i.early; old = i.got; early = 0; told = i.told }) q c
pair_save_in L o i q c at h = pair_in L o i new q q c h (omega arith, omega arith) same refl (λ e. refl) ready (λ P a. a) (λ a. a)
  where
    new : In
    new = record { epoch = suc i.epoch; was_ready = false; got = i.early; old = i.got; early = 0; told = i.told }

    same : (e : ℕ) → L ≤ e → e ≤ suc L → total new e q ≡ total i e q
    same e a b = ⊎_elim
        (λ d. omega (arith, arrived_late new e (omega arith), arrived_at i e (omega arith)))
        (λ d. omega (arith, arrived_at new e (omega arith), arrived_early i e (omega arith)))
        (cases_lt e (suc L))

    ready : is_ready L new ≡ is_ready L i
    ready = and_right (suc i.epoch == suc L) false refl ∙ sym (and_left (i.epoch == suc L) i.was_ready (ne_eqb i.epoch (suc L) (λ d. omega arith)))

-- An arrival, late, intra or early, leaves each total.
on_channel-head : (e : ℕ) (p : Packet) (q : List Packet) → p.1.epoch ≡ e → on_channel e (p ∷ q) ≡ suc (on_channel e q)
on_channel-head e p q h = rw (eq-eqb p.1.epoch e h) (omega arith)

on_channel-past : (e : ℕ) (p : Packet) (q : List Packet) → (p.1.epoch ≡ e → ⊥) → on_channel e (p ∷ q) ≡ on_channel e q
on_channel-past e p q h = rw (ne_eqb p.1.epoch e h) (omega arith)

pub pair_late : (L : ℕ) (o : Out) (i : In) (p : Packet) (q : List Packet) (c : List Control) → p.1.epoch < i.epoch → PairKept L o i (p ∷ q) c → PairKept L o (record i { old = suc i.old }) q c
pair_late L o i p q c at h = pair_in L o i new (p ∷ q) q c h h.receiver same refl h.no_early refl (λ P a. a.1) (λ a. omega arith)
  where
    new : In
    new = record i { old = suc i.old }

    same : (e : ℕ) → L ≤ e → e ≤ suc L → total new e q ≡ total i e (p ∷ q)
    same e a b = ⊎_elim
        (λ d. omega (arith, arrived_late new e (omega (arith, h.receiver)), arrived_late i e (omega (arith, h.receiver)), on_channel-head e p q (omega (arith, h.receiver, h.epochs.0))))
        (λ d. omega (arith, arrived_at new e (omega (arith, h.receiver, h.epochs.0)), arrived_at i e (omega (arith, h.receiver, h.epochs.0)), on_channel-past e p q (λ x. omega arith)))
        (cases_lt e (suc L))

pub pair_intra : (L : ℕ) (o : Out) (i : In) (p : Packet) (q : List Packet) (c : List Control) → p.1.epoch ≡ i.epoch → PairKept L o i (p ∷ q) c → PairKept L o (record i { got = suc i.got }) q c
pair_intra L o i p q c at h = pair_in L o i new (p ∷ q) q c h h.receiver same refl h.no_early refl (λ P a. a.1) (λ a. omega arith)
  where
    new : In
    new = record i { got = suc i.got }

    same : (e : ℕ) → L ≤ e → e ≤ suc L → total new e q ≡ total i e (p ∷ q)
    same e a b = ⊎_elim
        (λ d. omega (arith, arrived_at new e d, arrived_at i e d, on_channel-head e p q (omega arith)))
        (λ d. ⊎_elim
        (λ y. omega (arith, arrived_late new e y, arrived_late i e y, on_channel-past e p q (λ x. omega arith)))
        (λ y. omega (arith, arrived_early new e y, arrived_early i e y, on_channel-past e p q (λ x. omega arith)))
        d)
        (cases_order e i.epoch)

pub pair_early : (L : ℕ) (o : Out) (i : In) (p : Packet) (q : List Packet) (c : List Control) → i.epoch < p.1.epoch → PairKept L o i (p ∷ q) c → PairKept L o (record i { early = suc i.early }) q c
pair_early L o i p q c at h = pair_in L o i new (p ∷ q) q c h h.receiver same refl (λ e. absurd (omega (arith, h.epochs.0, h.sender))) refl (λ P a. a.1) (λ a. omega arith)
  where
    new : In
    new = record i { early = suc i.early }

    same : (e : ℕ) → L ≤ e → e ≤ suc L → total new e q ≡ total i e (p ∷ q)
    same e a b = ⊎_elim
        (λ d. omega (arith, arrived_at new e (omega (arith, h.receiver)), arrived_at i e (omega (arith, h.receiver)), on_channel-past e p q (λ x. omega arith)))
        (λ d. omega (arith, arrived_early new e (omega (arith, h.receiver, h.epochs.0, h.sender)), arrived_early i e (omega (arith, h.receiver, h.epochs.0, h.sender)), on_channel-head e p q (omega (arith, h.receiver, h.epochs.0, h.sender))))
        (cases_lt e (suc L))

-- A control that is no Count, put behind the others or taken from before them.
pub pair_push : (L : ℕ) (o : Out) (i : In) (q : List Packet) (c : List Control) (x : Control) → counts_on (x ∷ []) ≡ 0 → PairKept L o i q c → PairKept L o i q (c ++ x ∷ [])
pair_push L o i q c x none h = record {
  sender = h.sender;
  receiver = h.receiver;
  epochs = h.epochs;
  sent = h.sent;
  none_yet = h.none_yet;
  no_early = h.no_early;
  say = λ e. CountsSay-push (total i L q) c x (h.say e) (no_counts (total i L q) (x ∷ []) none);
  told = h.told;
  untold = λ e. omega (arith, h.untold e, many-push 1 c x);
  told_once = λ e. omega (arith, h.told_once e, many-push 1 c x);
  ready = h.ready;
  flags = h.flags;
}

says_rest : (k : ℕ) (x : Control) (c : List Control) → CountsSay k (x ∷ c) → CountsSay k c
says_rest k (Request l) c h = h
says_rest k (Count l j) c h = h.1
says_rest k (Ready l) c h = h
says_rest k (Stop l) c h = h
says_rest k (Stopped l) c h = h
says_rest k Restored c h = h

pub pair_pop : (L : ℕ) (o : Out) (i : In) (q : List Packet) (x : Control) (c : List Control) → counts_on (x ∷ []) ≡ 0 → PairKept L o i q (x ∷ c) → PairKept L o i q c
pair_pop L o i q x c none h = record {
  sender = h.sender;
  receiver = h.receiver;
  epochs = h.epochs;
  sent = h.sent;
  none_yet = h.none_yet;
  no_early = h.no_early;
  say = λ e. says_rest (total i L q) x c (h.say e);
  told = h.told;
  untold = λ e. omega (arith, h.untold e, many-first 1 x c);
  told_once = λ e. omega (arith, h.told_once e, many-first 1 x c);
  ready = h.ready;
  flags = h.flags;
}

-- a Count is told
pub pair_told : (L l k : ℕ) (o : Out) (i : In) (q : List Packet) (c : List Control) → PairKept L o i q (Count l k ∷ c) → PairKept L o (record i { told = Some k }) q c
pair_told L l k o i q c h = record {
  sender = h.sender;
  receiver = h.receiver;
  epochs = h.epochs;
  sent = h.sent;
  none_yet = h.none_yet;
  no_early = h.no_early;
  say = λ e. (h.say e).1;
  told = λ e. (h.say e).0;
  untold = λ e. absurd (omega (arith, h.untold e));
  told_once = λ e. omega (arith, h.told_once e);
  ready = h.ready;
  flags = h.flags;
}

-- the receiver is ready: what was told has arrived
told_is : (t : Option ℕ) (k n : ℕ) → t ≡ Some k → IfSome t (λ j. j ≡ n) → k ≡ n
told_is t k n e h = rw e at h

pub pair_ready : (L : ℕ) (o : Out) (i : In) (q : List Packet) (c : List Control) → i.epoch ≡ suc L → i.told ≡ Some i.old → PairKept L o i q c
    → PairKept L o (record i { was_ready = true; told = None }) q c
pair_ready L o i q c at told h = record {
  sender = h.sender;
  receiver = h.receiver;
  epochs = h.epochs;
  sent = h.sent;
  none_yet = h.none_yet;
  no_early = h.no_early;
  say = h.say;
  told = λ e. tt;
  untold = λ e. absurd (unsaved e);
  told_once = λ e. omega (arith, h.told_once e, is_told, not_ready-before e, ap bit (and_from (i.epoch == suc L) true (eq-eqb i.epoch (suc L) at) refl));
  ready = λ e r. (saved, omega (arith, told_is i.told i.old (total i L q) told (h.told saved), arrived_late i L (omega arith)));
  flags = h.flags;
}
  where
    is_told : bit (is_some i.told) ≡ 1
    is_told = rw told refl

    unsaved : o.epoch ≡ L → ⊥
    unsaved e = omega (arith, h.untold e, is_told)

    saved : o.epoch ≡ suc L
    saved = ⊎_elim (λ d. absurd (unsaved (omega (arith, h.sender)))) (λ d. omega (arith, h.sender)) (cases_lt o.epoch (suc L))

    not_ready-before : o.epoch ≡ suc L → bit (is_ready L i) ≡ 0
    not_ready-before e = omega (arith, h.told_once e, is_told)

-- the sender stops
pub pair_stop : (L : ℕ) (o : Out) (i : In) (q : List Packet) (c : List Control) → PairKept L o i q c → PairKept L (record o { logging = false }) i q c
pair_stop L o i q c h = record {
  sender = h.sender;
  receiver = h.receiver;
  epochs = h.epochs;
  sent = h.sent;
  none_yet = h.none_yet;
  no_early = h.no_early;
  say = h.say;
  told = h.told;
  untold = h.untold;
  told_once = h.told_once;
  ready = h.ready;
  flags = all-map (λ p. p.1.epoch ≡ suc L → p.1.logging ≡ false → o.logging ≡ false) (λ p. p.1.epoch ≡ suc L → p.1.logging ≡ false → false ≡ false) (λ p a e f. refl) q h.flags;
}

-- the next line
no_old : (L : ℕ) (P : ℕ → Type 0) (q : List Packet) → AllByRecursion (λ p. (L ≤ p.1.epoch) × P p.1.epoch) q → on_channel L q ≡ 0 → AllByRecursion (λ p. (suc L ≤ p.1.epoch) × P p.1.epoch) q
no_old L P [] h none = tt
no_old L P (p ∷ q) h none = ((⊎_elim (λ e. absurd (omega (arith, on_channel-head L p q e, none))) (λ d. omega (arith, h.0.0)) (cases_eq p.1.epoch L), h.0.1), no_old L P q h.1 (omega (arith, none)))

none_above : (L e : ℕ) (q : List Packet) → AllByRecursion (λ p. (L ≤ p.1.epoch) × (p.1.epoch ≤ e)) q → on_channel (suc e) q ≡ 0
none_above L e [] h = refl
none_above L e (p ∷ q) h = on_channel-past (suc e) p q (λ x. omega (arith, h.0)) ∙ none_above L e q h.1

pub pair_commit : (L : ℕ) (o : Out) (i : In) (q : List Packet) (c : List Control) → o.epoch ≡ suc L → i.epoch ≡ suc L → i.was_ready ≡ true → PairKept L o i q c → PairKept (suc L) o i q c
pair_commit L o i q c from at ready h = record {
  sender = (omega arith, omega arith);
  receiver = (omega arith, omega arith);
  epochs = no_old L (λ e. e ≤ o.epoch) q h.epochs (h.ready at ready).1;
  sent = h.sent;
  none_yet = λ e. omega (arith, arrived_early i (suc (suc L)) (omega arith), h.no_early at, above (suc (suc L)) (omega arith));
  no_early = λ e. absurd (omega arith);
  say = λ e. absurd (omega arith);
  told = λ e. absurd (omega arith);
  untold = λ e. omega (arith, h.told_once from, ap bit (and_from (i.epoch == suc L) i.was_ready (eq-eqb i.epoch (suc L) at) ready));
  told_once = λ e. absurd (omega arith);
  ready = λ e r. absurd (omega arith);
  flags = all-map (λ p. (L ≤ p.1.epoch) × (p.1.epoch ≤ o.epoch)) (λ p. p.1.epoch ≡ suc (suc L) → p.1.logging ≡ false → o.logging ≡ false) (λ p e d f. absurd (omega arith)) q h.epochs;
}
  where
    above : (e : ℕ) → e ≡ suc o.epoch → on_channel e q ≡ 0
    above e d = rw d (none_above L o.epoch q h.epochs)

-- a send that is left out
pub pair_skip : (L : ℕ) (o : Out) (i : In) (q : List Packet) (c : List Control) → 0 < o.skip → PairKept L o i q c → PairKept L (record o { sent = suc o.sent; skip = pred o.skip }) i q c
pair_skip L o i q c more h = record {
  sender = h.sender;
  receiver = h.receiver;
  epochs = h.epochs;
  sent = omega (arith, h.sent);
  none_yet = h.none_yet;
  no_early = h.no_early;
  say = h.say;
  told = h.told;
  untold = h.untold;
  told_once = h.told_once;
  ready = h.ready;
  flags = h.flags;
}
