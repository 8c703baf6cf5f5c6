-- In a wave, images and logs stand for the cut.
use Rattle.std.proofs.Common.{◌≡◌, ℕ, zero, suc, ◌<◌, ◌≤◌, Bool, true, false, not, cond, List, [], ◌∷◌, ◌++◌, length, drop, sym, refl, ap, ◌∙◌, subst, ⊎_elim, arith, append_assoc, length-append}
use Rattle.std.proofs.lemmas.List.{append-nil, drop-append-le}
use Rattle.std.specs.Prelude.{◌&&◌, ◌==◌, ◌⊎◌, if◌then◌else◌}
use Rattle.std.proofs.lemmas.Bool.{cond-true, cond-false, and_from, and_left, and_right, eq-eqb, ne_eqb, cases_eq, false≢true}
use Rattle.mpi_words.specs.declared.message.Message.{Message}
use Rattle.core_laws.specs.Rows.{set_at, set_pair}
use Rattle.core_laws.specs.Protocol.{Packet, Layer, Class, Late, Intra, Early, early_more, is_late}
use Rattle.core_laws.specs.Process.{Process, Rank, Did, Nothing, Sent, Local, Marked, Turned, turn, arrive, is_operation}
use Rattle.core_laws.specs.Line.{Logged, Sending, made, sendings, filled, sends_to, intra_from, new_in, Journal, Cut, replayed, PairFits, Stands, journal_turn, journal_arrive}
use Rattle.core_laws.proofs.Changes
use Rattle.core_laws.proofs.Changes.{each_set, at_set, at_set_both, row_frame, column_frame, set_pair-row, set_pair-column, set_pair-other_row, set_pair-other_column}
use Rattle.core_laws.proofs.Operations.{turn_none, made_more, filled-more}

-- Lists.
cond_append : (b : Bool) (l z : List Message) (m : Message) → cond b (m ∷ (l ++ z)) (l ++ z) ≡ cond b (m ∷ l) l ++ z
cond_append true l z m = refl
cond_append false l z m = refl

sends_to-append : (r : ℕ) (l k : List Sending) → sends_to r (l ++ k) ≡ sends_to r l ++ sends_to r k
sends_to-append r [] k = refl
sends_to-append r (x ∷ l) k = rw (sends_to-append r l k) (cond_append (x.to == r) (sends_to r l) (sends_to r k) x.message)

new_in-append : (L : ℕ) (l k : List Packet) → new_in L (l ++ k) ≡ new_in L l ++ new_in L k
new_in-append L [] k = refl
new_in-append L (x ∷ l) k = rw (new_in-append L l k) (cond_append (x.1.epoch == suc L) (new_in L l) (new_in L k) x.0)

intra_from-append : (s : ℕ) (l k : List Logged) → intra_from s (l ++ k) ≡ intra_from s l ++ intra_from s k
intra_from-append s [] k = refl
intra_from-append s (a ∷ l) k = rw (intra_from-append s l k) (cond_append ((a.source == s) && not a.late) (intra_from s l) (intra_from s k) a.message)

drop_one : (e : ℕ) (l : List Message) (m : Message) (rest : List Message) → drop e l ≡ m ∷ rest → (suc e ≤ length l) × (drop (suc e) l ≡ rest)
drop_one zero [] m rest h = absurd (cc)
drop_one zero (x ∷ l) m rest h = (omega arith, cc)
drop_one (suc e) [] m rest h = absurd (cc)
drop_one (suc e) (x ∷ l) m rest h = let r = drop_one e l m rest h in (omega (arith, r.0), r.1)

-- How the two sides of a pair go on.
fits_push : (sends : List Message) (e : ℕ) (intra new : List Message) (m : Message) → PairFits sends e intra new → PairFits (sends ++ m ∷ []) e intra (new ++ m ∷ [])
fits_push sends e intra new m h = record {
  enough = omega (arith, h.enough, length-append sends (m ∷ []));
  rest = drop-append-le e sends (m ∷ []) h.enough ∙ ap (λ l. l ++ m ∷ []) h.rest ∙ append_assoc intra new (m ∷ []);
}

fits_intra : (sends : List Message) (e : ℕ) (intra new : List Message) (m : Message) → PairFits sends e intra (m ∷ new) → PairFits sends e (intra ++ m ∷ []) new
fits_intra sends e intra new m h = record { enough = h.enough; rest = h.rest ∙ sym (append_assoc intra (m ∷ []) new) }

fits_early : (sends : List Message) (e : ℕ) (new : List Message) (m : Message) → PairFits sends e [] (m ∷ new) → PairFits sends (suc e) [] new
fits_early sends e new m h = let r = drop_one e sends m new h.rest in record { enough = r.0; rest = r.1 }

-- A journal's turn.
unsaved_replay : {S : Type 0} (P : Process S) (j : Journal S) → j.since ≡ [] → j.ops ≡ 0 → replayed P j ≡ record { rank = j.image; sends = []; all_made = true }
unsaved_replay P j since ops = ap (λ o. made P o (filled j.image j.since)) ops ∙ ap (λ l. made P 0 (filled j.image l)) since

-- a saved rank makes one operation more, or none
saved_turn : {S : Type 0} (P : Process S) (j : Journal S) (k : Rank S) → Stands P j k → Stands P (journal_turn true j (turn P k)) (turn P k).rank
saved_turn {S} P j k h = go (is_operation (turn P k).did) refl
  where
    go : (b : Bool) → is_operation (turn P k).did ≡ b → Stands P (record j { ops = if b then suc j.ops else j.ops }) (turn P k).rank
    go true e = record { all_made = and_from (replayed P j).all_made (is_operation (turn P (replayed P j).rank).did) h.all_made (ap (λ z. is_operation (turn P z).did) h.rank ∙ e); rank = ap (λ z. (turn P z).rank) h.rank }
    go false e = record { all_made = h.all_made; rank = h.rank ∙ sym (turn_none P k e) }

saved_turn_sends : {S : Type 0} (P : Process S) (j : Journal S) (k : Rank S) → Stands P j k → (replayed P (journal_turn true j (turn P k))).sends ≡ (replayed P j).sends ++ sendings (turn P k).did
saved_turn_sends {S} P j k h = go (is_operation (turn P k).did) refl
  where
    none : (d : Did) → is_operation d ≡ false → sendings d ≡ []
    none Nothing e = refl
    none (Sent to m) e = absurd (false≢true (sym e))
    none Local e = refl
    none Marked e = refl

    go : (b : Bool) → is_operation (turn P k).did ≡ b → (replayed P (record j { ops = if b then suc j.ops else j.ops })).sends ≡ (replayed P j).sends ++ sendings (turn P k).did
    go true e = ap (λ z. (replayed P j).sends ++ sendings (turn P z).did) h.rank
    go false e = sym (append-nil (replayed P j).sends) ∙ ap (λ l. (replayed P j).sends ++ l) (sym (none (turn P k).did e))

-- a journal's arrival
saved_arrive : {S : Type 0} (P : Process S) (cl : Class) (j : Journal S) (k : Rank S) (s : ℕ) (m : Message) → Stands P j k → replayed P (journal_arrive true cl j s m) ≡ record { rank = arrive (replayed P j).rank s m; sends = (replayed P j).sends; all_made = (replayed P j).all_made }
saved_arrive P cl j k s m h = ap (made P j.ops) (filled-more j.image j.since (record { source = s; message = m; late = is_late cl })) ∙ made_more P j.ops (filled j.image j.since) s m h.all_made

pub stands_arrive : {S : Type 0} (P : Process S) (b : Bool) (cl : Class) (j : Journal S) (k : Rank S) (s : ℕ) (m : Message) → (b ≡ false → (j.since ≡ []) × (j.ops ≡ 0)) → Stands P j k → Stands P (journal_arrive b cl j s m) (arrive k s m)
stands_arrive P true cl j k s m u h = let e = saved_arrive P cl j k s m h in record { all_made = ap (λ d. d.all_made) e ∙ h.all_made; rank = ap (λ d. d.rank) e ∙ ap (λ z. arrive z s m) h.rank }
stands_arrive P false cl j k s m u h =
    let e = unsaved_replay P (journal_arrive false cl j s m) (u refl).0 (u refl).1 in
    let o = unsaved_replay P j (u refl).0 (u refl).1 in
    record { all_made = ap (λ d. d.all_made) e; rank = ap (λ d. d.rank) e ∙ ap (λ z. arrive z s m) (sym (ap (λ d. d.rank) o) ∙ h.rank) }

sends_arrive : {S : Type 0} (P : Process S) (b : Bool) (cl : Class) (j : Journal S) (k : Rank S) (s : ℕ) (m : Message) → (b ≡ false → (j.since ≡ []) × (j.ops ≡ 0)) → Stands P j k → (replayed P (journal_arrive b cl j s m)).sends ≡ (replayed P j).sends
sends_arrive P true cl j k s m u h = ap (λ d. d.sends) (saved_arrive P cl j k s m h)
sends_arrive P false cl j k s m u h = ap (λ d. d.sends) (unsaved_replay P (journal_arrive false cl j s m) (u refl).0 (u refl).1) ∙ sym (ap (λ d. d.sends) (unsaved_replay P j (u refl).0 (u refl).1))

pub stands_turn : {S : Type 0} (P : Process S) (b : Bool) (j : Journal S) (k : Rank S) → (b ≡ false → (j.since ≡ []) × (j.ops ≡ 0)) → Stands P j k → Stands P (journal_turn b j (turn P k)) (turn P k).rank
stands_turn P true j k u h = saved_turn P j k h
stands_turn P false j k u h = let e = unsaved_replay P (journal_turn false j (turn P k)) (u refl).0 (u refl).1 in record { all_made = ap (λ d. d.all_made) e; rank = ap (λ d. d.rank) e }

-- The channels of the cut after a turn.
abbrev pub packet_sends : (ℕ → ℕ → List Packet) → Layer → ℕ → Did → ℕ → ℕ → List Packet
packet_sends q l r (Sent to m) = set_pair q r to (q r to ++ (m, record { epoch = l.epoch; logging = l.logging }) ∷ [])
packet_sends q l r Nothing = q
packet_sends q l r Local = q
packet_sends q l r Marked = q

abbrev pub cut_turned : {S : Type 0} → Process S → Cut S → Bool → Layer → ℕ → Cut S
cut_turned P c saved l r = record {
  rank = set_at c.rank r (turn P (c.rank r)).rank;
  channel = packet_sends c.channel l r (turn P (c.rank r)).did;
  journal = set_at c.journal r (journal_turn saved (c.journal r) (turn P (c.rank r)));
}

-- what one pair has after a turn of its sender
turn_fits : (L : ℕ) (q : ℕ → ℕ → List Packet) (l : Layer) (r y : ℕ) (d : Did) (sends : List Sending) (e : ℕ) (intra : List Message) → l.epoch ≡ suc L
    → PairFits (sends_to y sends) e intra (new_in L (q r y)) → PairFits (sends_to y (sends ++ sendings d)) e intra (new_in L (packet_sends q l r d r y))
turn_fits L q l r y Nothing sends e intra at h = subst (λ z. PairFits (sends_to y z) e intra (new_in L (q r y))) (sym (append-nil sends)) h
turn_fits L q l r y Local sends e intra at h = subst (λ z. PairFits (sends_to y z) e intra (new_in L (q r y))) (sym (append-nil sends)) h
turn_fits L q l r y Marked sends e intra at h = subst (λ z. PairFits (sends_to y z) e intra (new_in L (q r y))) (sym (append-nil sends)) h
turn_fits L q l r y (Sent to m) sends e intra at h =
    subst (λ z. PairFits z e intra (new_in L (packet_sends q l r (Sent to m) r y))) (sym (sends_to-append y sends (record { to = to; message = m } ∷ [])))
    (subst (λ c. PairFits (sends_to y sends ++ sends_to y (record { to = to; message = m } ∷ [])) e intra (new_in L c)) (sym (set_pair-row q r to (q r to ++ x ∷ []) y))
    (⊎_elim
    (λ d. subst (λ c. PairFits (sends_to y sends ++ sends_to y (record { to = to; message = m } ∷ [])) e intra (new_in L c)) (sym (ap (λ z. set_at (q r) to (q r to ++ x ∷ []) z) d ∙ Changes.set_at-same (q r) to (q r to ++ x ∷ [])))
    (subst (λ n. PairFits (sends_to y sends ++ sends_to y (record { to = to; message = m } ∷ [])) e intra n) (sym (new_in-append L (q r to) (x ∷ []) ∙ ap (λ n. new_in L (q r to) ++ n) one_new))
    (subst (λ z. PairFits (sends_to y sends ++ z) e intra (new_in L (q r to) ++ m ∷ [])) (sym (cond-true (to == y) (m ∷ []) [] (eq-eqb to y (sym d))))
    (fits_push (sends_to y sends) e intra (new_in L (q r to)) m (subst (λ z. PairFits (sends_to y sends) e intra (new_in L (q r z))) d h)))))
    (λ d. subst (λ c. PairFits (sends_to y sends ++ sends_to y (record { to = to; message = m } ∷ [])) e intra (new_in L c)) (sym (Changes.set_at-other (q r) to (q r to ++ x ∷ []) y d))
    (subst (λ z. PairFits (sends_to y sends ++ z) e intra (new_in L (q r y))) (sym (cond-false (to == y) (m ∷ []) [] (ne_eqb to y (λ g. d (sym g)))))
    (subst (λ z. PairFits z e intra (new_in L (q r y))) (sym (append-nil (sends_to y sends))) h)))
    (cases_eq y to)))
  where
    x : Packet
    x = (m, record { epoch = l.epoch; logging = l.logging })

    one_new : new_in L (x ∷ []) ≡ m ∷ []
    one_new = cond-true (l.epoch == suc L) (m ∷ []) [] (eq-eqb l.epoch (suc L) at)

-- a send of epoch L is no new message
old_new : (L : ℕ) (q : ℕ → ℕ → List Packet) (l : Layer) (r y : ℕ) (d : Did) → (l.epoch ≡ suc L → ⊥) → new_in L (packet_sends q l r d r y) ≡ new_in L (q r y)
old_new L q l r y Nothing at = refl
old_new L q l r y Local at = refl
old_new L q l r y Marked at = refl
old_new L q l r y (Sent to m) at = ap (new_in L) (set_pair-row q r to (q r to ++ x ∷ []) y) ∙ at_set (λ c. new_in L c ≡ new_in L (q r y)) (q r) to (q r to ++ x ∷ []) y
    (λ d. new_in-append L (q r to) (x ∷ []) ∙ ap (λ n. new_in L (q r to) ++ n) (cond-false (l.epoch == suc L) (m ∷ []) [] (ne_eqb l.epoch (suc L) at)) ∙ append-nil (new_in L (q r to)) ∙ ap (λ z. new_in L (q r z)) (sym d))
    (λ d. refl)
  where
    x : Packet
    x = (m, record { epoch = l.epoch; logging = l.logging })

other_rows : (q : ℕ → ℕ → List Packet) (l : Layer) (r : ℕ) (d : Did) (s y : ℕ) → (s ≡ r → ⊥) → packet_sends q l r d s y ≡ q s y
other_rows q l r Nothing s y h = refl
other_rows q l r Local s y h = refl
other_rows q l r Marked s y h = refl
other_rows q l r (Sent to m) s y h = set_pair-other_row q r to (q r to ++ (m, record { epoch = l.epoch; logging = l.logging }) ∷ []) s y h

pub turn_early : {S : Type 0} (b : Bool) (j : Journal S) (t : Turned S) (s : ℕ) → (journal_turn b j t).early s ≡ j.early s
turn_early true j t s = refl
turn_early false j t s = refl

pub turn_since : {S : Type 0} (b : Bool) (j : Journal S) (t : Turned S) → (journal_turn b j t).since ≡ j.since
turn_since true j t = refl
turn_since false j t = refl

abbrev pub pair_line : {S : Type 0} → Process S → ℕ → ℕ → ℕ → Journal S → Journal S → List Packet → Type 0
pair_line P L s r from to q = PairFits (sends_to r (replayed P from).sends) (to.early s) (intra_from s to.since) (new_in L q)

-- The fits of all pairs after a turn of rank r.
pub fits_turn : {S : Type 0} (P : Process S) (n L : ℕ) (c : Cut S) (l : Layer) (r : ℕ) (saved : Bool) → (saved ≡ true → l.epoch ≡ suc L) → (saved ≡ false → (l.epoch ≡ suc L → ⊥) × ((c.journal r).since ≡ []) × ((c.journal r).ops ≡ 0)) → Stands P (c.journal r) (c.rank r)
    → ((s y : ℕ) → s < n → y < n → pair_line P L s y (c.journal s) (c.journal y) (c.channel s y))
    → (s y : ℕ) → s < n → y < n → pair_line P L s y ((cut_turned P c saved l r).journal s) ((cut_turned P c saved l r).journal y) ((cut_turned P c saved l r).channel s y)
fits_turn {S} P n L c l r saved at unsaved stands h = row_frame (λ s y f t q. s < n → y < n → pair_line P L s y f t q) c.journal r (journal_turn saved (c.journal r) (turn P (c.rank r))) c.channel (packet_sends c.channel l r (turn P (c.rank r)).did)
    h
    (λ s y e. other_rows c.channel l r (turn P (c.rank r)).did s y e)
    (λ y w old a b. from saved at unsaved y w (old a b))
    (λ s w b old x z. subst (λ e. PairFits (sends_to r (replayed P w).sends) e (intra_from s (journal_turn saved (c.journal r) (turn P (c.rank r))).since) (new_in L b)) (sym (turn_early saved (c.journal r) (turn P (c.rank r)) s))
    (subst (λ i. PairFits (sends_to r (replayed P w).sends) ((c.journal r).early s) (intra_from s i) (new_in L b)) (sym (turn_since saved (c.journal r) (turn P (c.rank r)))) (old x z)))
  where
    from : (saved : Bool) → (saved ≡ true → l.epoch ≡ suc L) → (saved ≡ false → (l.epoch ≡ suc L → ⊥) × ((c.journal r).since ≡ []) × ((c.journal r).ops ≡ 0)) → (y : ℕ) (w : Journal S) → pair_line P L r y (c.journal r) w (c.channel r y) → pair_line P L r y (journal_turn saved (c.journal r) (turn P (c.rank r))) w (packet_sends c.channel l r (turn P (c.rank r)).did r y)
    from true at unsaved y w old = subst (λ z. PairFits (sends_to y z) (w.early r) (intra_from r w.since) (new_in L (packet_sends c.channel l r (turn P (c.rank r)).did r y))) (sym (saved_turn_sends P (c.journal r) (c.rank r) stands))
        (turn_fits L c.channel l r y (turn P (c.rank r)).did (replayed P (c.journal r)).sends (w.early r) (intra_from r w.since) (at refl) old)
    from false at unsaved y w old = subst (λ n. PairFits (sends_to y (replayed P (journal_turn false (c.journal r) (turn P (c.rank r)))).sends) (w.early r) (intra_from r w.since) n) (sym (old_new L c.channel l r y (turn P (c.rank r)).did (unsaved refl).0))
        (subst (λ z. PairFits (sends_to y z) (w.early r) (intra_from r w.since) (new_in L (c.channel r y))) (ap (λ d. d.sends) (unsaved_replay P (c.journal r) (unsaved refl).1 (unsaved refl).2) ∙ sym (ap (λ d. d.sends) (unsaved_replay P (journal_turn false (c.journal r) (turn P (c.rank r))) (unsaved refl).1 (unsaved refl).2))) old)

-- An arrival at rank r from a.
arrive_early : {S : Type 0} (b : Bool) (cl : Class) (j : Journal S) (a : ℕ) (m : Message) (s : ℕ) → (s ≡ a → ⊥) → (journal_arrive b cl j a m).early s ≡ j.early s
arrive_early true cl j a m s e = refl
arrive_early false Late j a m s e = refl
arrive_early false Intra j a m s e = refl
arrive_early false Early j a m s e = Changes.set_at-other j.early a (suc (j.early a)) s e

arrive_intra : {S : Type 0} (b : Bool) (cl : Class) (j : Journal S) (a : ℕ) (m : Message) (s : ℕ) → (s ≡ a → ⊥) → intra_from s (journal_arrive b cl j a m).since ≡ intra_from s j.since
arrive_intra true cl j a m s e = intra_from-append s j.since (record { source = a; message = m; late = is_late cl } ∷ []) ∙ ap (λ l. intra_from s j.since ++ l) (cond-false ((a == s) && not (is_late cl)) (m ∷ []) [] (and_left (a == s) (not (is_late cl)) (ne_eqb a s (λ d. e (sym d))))) ∙ append-nil (intra_from s j.since)
arrive_intra false cl j a m s e = refl

-- at the pair itself: late or intra after the save, intra or early before it
arrive_here : {S : Type 0} (L : ℕ) (b : Bool) (cl : Class) (j : Journal S) (a : ℕ) (x : Packet) (rest : List Packet) (sends : List Message)
    → (b ≡ true → ((cl ≡ Late) × (x.1.epoch ≡ suc L → ⊥)) ⊎ ((cl ≡ Intra) × (x.1.epoch ≡ suc L)))
    → (b ≡ false → (j.since ≡ []) × (((x.1.epoch ≡ suc L → ⊥) × ((cl ≡ Early) → ⊥)) ⊎ ((cl ≡ Early) × (x.1.epoch ≡ suc L))))
    → PairFits sends (j.early a) (intra_from a j.since) (new_in L (x ∷ rest))
    → PairFits sends ((journal_arrive b cl j a x.0).early a) (intra_from a (journal_arrive b cl j a x.0).since) (new_in L rest)
arrive_here L true cl j a x rest sends on off h = subst (λ i. PairFits sends (j.early a) i (new_in L rest)) (sym (intra_from-append a j.since (new ∷ []))) (⊎_elim late intra (on refl))
  where
    new : Logged
    new = record { source = a; message = x.0; late = is_late cl }

    late : (cl ≡ Late) × (x.1.epoch ≡ suc L → ⊥) → PairFits sends (j.early a) (intra_from a j.since ++ intra_from a (new ∷ [])) (new_in L rest)
    late e = subst (λ i. PairFits sends (j.early a) i (new_in L rest)) (sym (ap (λ l. intra_from a j.since ++ l) (cond-false ((a == a) && not (is_late cl)) (x.0 ∷ []) [] (and_right (a == a) (not (is_late cl)) (ap (λ z. not (is_late z)) e.0))) ∙ append-nil (intra_from a j.since)))
        (subst (λ z. PairFits sends (j.early a) (intra_from a j.since) z) (cond-false (x.1.epoch == suc L) (x.0 ∷ new_in L rest) (new_in L rest) (ne_eqb x.1.epoch (suc L) e.1)) h)

    intra : (cl ≡ Intra) × (x.1.epoch ≡ suc L) → PairFits sends (j.early a) (intra_from a j.since ++ intra_from a (new ∷ [])) (new_in L rest)
    intra e = subst (λ i. PairFits sends (j.early a) (intra_from a j.since ++ i) (new_in L rest)) (sym (cond-true ((a == a) && not (is_late cl)) (x.0 ∷ []) [] (and_from (a == a) (not (is_late cl)) (eq-eqb a a refl) (ap (λ z. not (is_late z)) e.0))))
        (fits_intra sends (j.early a) (intra_from a j.since) (new_in L rest) x.0 (subst (λ z. PairFits sends (j.early a) (intra_from a j.since) z) (cond-true (x.1.epoch == suc L) (x.0 ∷ new_in L rest) (new_in L rest) (eq-eqb x.1.epoch (suc L) e.1)) h))
arrive_here L false cl j a x rest sends on off h = ⊎_elim old early (off refl).1
  where
    old : (x.1.epoch ≡ suc L → ⊥) × ((cl ≡ Early) → ⊥) → PairFits sends (early_more cl j.early a a) (intra_from a j.since) (new_in L rest)
    old e = subst (λ k. PairFits sends k (intra_from a j.since) (new_in L rest)) (sym (same cl e.1)) (subst (λ z. PairFits sends (j.early a) (intra_from a j.since) z) (cond-false (x.1.epoch == suc L) (x.0 ∷ new_in L rest) (new_in L rest) (ne_eqb x.1.epoch (suc L) e.0)) h)
      where
        same : (cl : Class) → ((cl ≡ Early) → ⊥) → early_more cl j.early a a ≡ j.early a
        same Late e = refl
        same Intra e = refl
        same Early e = absurd (e refl)

    early : (cl ≡ Early) × (x.1.epoch ≡ suc L) → PairFits sends (early_more cl j.early a a) (intra_from a j.since) (new_in L rest)
    early e = subst (λ k. PairFits sends k (intra_from a j.since) (new_in L rest)) (sym (ap (λ z. early_more z j.early a a) e.0 ∙ Changes.set_at-same j.early a (suc (j.early a))))
        (subst (λ i. PairFits sends (suc (j.early a)) i (new_in L rest)) (sym (ap (intra_from a) (off refl).0))
        (fits_early sends (j.early a) (new_in L rest) x.0 (subst (λ i. PairFits sends (j.early a) i (x.0 ∷ new_in L rest)) (ap (intra_from a) (off refl).0)
        (subst (λ z. PairFits sends (j.early a) (intra_from a j.since) z) (cond-true (x.1.epoch == suc L) (x.0 ∷ new_in L rest) (new_in L rest) (eq-eqb x.1.epoch (suc L) e.1)) h))))

pub fits_arrive : {S : Type 0} (P : Process S) (n L : ℕ) (c : Cut S) (a r : ℕ) (b : Bool) (cl : Class) (x : Packet) (rest : List Packet) → c.channel a r ≡ x ∷ rest
    → (b ≡ true → ((cl ≡ Late) × (x.1.epoch ≡ suc L → ⊥)) ⊎ ((cl ≡ Intra) × (x.1.epoch ≡ suc L)))
    → (b ≡ false → ((c.journal r).since ≡ []) × (((x.1.epoch ≡ suc L → ⊥) × ((cl ≡ Early) → ⊥)) ⊎ ((cl ≡ Early) × (x.1.epoch ≡ suc L))))
    → (b ≡ false → ((c.journal r).since ≡ []) × ((c.journal r).ops ≡ 0)) → Stands P (c.journal r) (c.rank r)
    → ((s y : ℕ) → s < n → y < n → pair_line P L s y (c.journal s) (c.journal y) (c.channel s y))
    → (s y : ℕ) → s < n → y < n → pair_line P L s y (set_at c.journal r (journal_arrive b cl (c.journal r) a x.0) s) (set_at c.journal r (journal_arrive b cl (c.journal r) a x.0) y) (set_pair c.channel a r rest s y)
fits_arrive {S} P n L c a r b cl x rest is on off u stands h = column_frame (λ s y f t q. s < n → y < n → pair_line P L s y f t q) c.journal r after c.channel (set_pair c.channel a r rest)
    h
    (λ s y e. set_pair-other_column c.channel a r rest s y e)
    (λ s w old d f. subst (λ q. pair_line P L s r w after q) (sym (set_pair-column c.channel a r rest s))
    (at_set (λ q. pair_line P L s r w after q) (λ z. c.channel z r) a rest s
    (λ e. subst (λ z. PairFits (sends_to r (replayed P w).sends) (after.early z) (intra_from z after.since) (new_in L rest)) (sym e)
    (arrive_here L b cl (c.journal r) a x rest (sends_to r (replayed P w).sends) on off
    (subst (λ q. PairFits (sends_to r (replayed P w).sends) ((c.journal r).early a) (intra_from a (c.journal r).since) (new_in L q)) is
    (subst (λ z. PairFits (sends_to r (replayed P w).sends) ((c.journal r).early z) (intra_from z (c.journal r).since) (new_in L (c.channel z r))) e (old d f)))))
    (λ e. subst (λ k. PairFits (sends_to r (replayed P w).sends) k (intra_from s after.since) (new_in L (c.channel s r))) (sym (arrive_early b cl (c.journal r) a x.0 s e))
    (subst (λ i. PairFits (sends_to r (replayed P w).sends) ((c.journal r).early s) i (new_in L (c.channel s r))) (sym (arrive_intra b cl (c.journal r) a x.0 s e)) (old d f)))))
    (λ y w q old d f. subst (λ z. PairFits (sends_to y z) (w.early r) (intra_from r w.since) (new_in L q)) (sym (sends_arrive P b cl (c.journal r) (c.rank r) a x.0 u stands)) (old d f))
  where
    after : Journal S
    after = journal_arrive b cl (c.journal r) a x.0
