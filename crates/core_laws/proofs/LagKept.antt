-- Each event keeps that the job lags behind a state that a quiet run reaches.
use Rattle.std.proofs.Common.{◌≡◌, ℕ, zero, suc, pred, ◌<◌, Bool, true, false, not, List, [], ◌∷◌, ◌++◌, drop, sym, refl, ap, ◌∙◌, subst, ⊎_elim, arith, append_assoc}
use Rattle.std.proofs.lemmas.List.{append-nil}
use Rattle.std.specs.Prelude.{◌&&◌, ◌==◌, nat_lt, if◌then◌else◌}
use Rattle.std.proofs.lemmas.Bool.{cond_both, cond-true, cond-false, cases_Bool, and_parts, and_from, and_left, and_right, ltb-true, eqb-true, eq-eqb, ne_eqb, cases_eq, false≢true, true≢false, lt-ltb, le-ltb}
use Rattle.late_logs.specs.declared.entry.Entry.{Entry}
use Rattle.late_logs.specs.declared.entry.Entry.TheVariants.{Late as Late_entry, Intra as Intra_entry}
use Rattle.mpi_words.specs.declared.message.Message.{Message}
use Rattle.core_laws.specs.Rows.{set_at, set_pair}
use Rattle.core_laws.specs.Process.{Process, Rank, Did, Nothing, Sent, Local, Marked, Turned, turn, arrive, is_operation}
use Rattle.core_laws.specs.Quiet.{Quiet, Event, Turn, Deliver, Handle, Begin_wave, sends, quiet_next, quiet_arrives, IsReached}
use Rattle.core_laws.specs.Line.{Logged, Sending, Made, made, one_more, sendings, filled, sends_to, intra_from, Journal, replayed, Stands, PairFits}
use Rattle.core_laws.specs.Replay.{entry, entries, Replaying, absorb, Back, may_turn, back_channel, back_skip, back_turn, back_arrives, back_deliver, back_next, back_run, restart, PairLags, journal_of, Lags, IsLag}
use Rattle.core_laws.proofs.Changes
use Rattle.core_laws.proofs.Changes.{each_set, at_set, at_set_both, at_set_pair, at_set_pair_both, row_frame, column_frame, set_pair-row, set_pair-column, set_pair-other_row, set_pair-other_column}
use Rattle.core_laws.proofs.Operations.{turn_more, turn_none}
use Rattle.core_laws.proofs.QuietRuns.{reached_next, turned}

-- The first operation of several.
abbrev after_one : {S : Type 0} → Turned S → Made S → Made S
after_one t d = record { rank = d.rank; sends = sendings t.did ++ d.sends; all_made = is_operation t.did && d.all_made }

and_assoc : (a b c : Bool) → ((a && b) && c) ≡ (a && (b && c))
and_assoc true b c = refl
and_assoc false b c = refl

made_path : {S : Type 0} (k : Rank S) (s s' : List Sending) (a a' : Bool) → s ≡ s' → a ≡ a' → Path (Made S) (record { rank = k; sends = s; all_made = a }) (record { rank = k; sends = s'; all_made = a' })
made_path k s s' a a' p q = ap (λ x. record { rank = k; sends = x; all_made = a }) p ∙ ap (λ x. record { rank = k; sends = s'; all_made = x }) q

and_true : (b : Bool) → (true && b) ≡ (b && true)
and_true true = refl
and_true false = refl

made_front : {S : Type 0} (P : Process S) (j : ℕ) (k : Rank S) → made P (suc j) k ≡ after_one (turn P k) (made P j (turn P k).rank)
made_front P zero k = made_path (turn P k).rank (sendings (turn P k).did) (sendings (turn P k).did ++ []) (true && is_operation (turn P k).did) (is_operation (turn P k).did && true) (sym (append-nil (sendings (turn P k).did))) (and_true (is_operation (turn P k).did))
made_front P (suc j) k = ap (one_more P) (made_front P j k) ∙ (let d = made P j (turn P k).rank in let t = turn P d.rank in made_path t.rank ((sendings (turn P k).did ++ d.sends) ++ sendings t.did) (sendings (turn P k).did ++ (d.sends ++ sendings t.did)) ((is_operation (turn P k).did && d.all_made) && is_operation t.did) (is_operation (turn P k).did && (d.all_made && is_operation t.did)) (append_assoc (sendings (turn P k).did) d.sends (sendings t.did)) (and_assoc (is_operation (turn P k).did) d.all_made (is_operation t.did)))

-- a turn with all arrivals of the log in the mailbox
filled_turn : {S : Type 0} (P : Process S) (k : Rank S) (l : List Logged) → is_operation (turn P k).did ≡ true → turn P (filled k l) ≡ record { rank = filled (turn P k).rank l; did = (turn P k).did }
filled_turn P k [] e = refl
filled_turn P k (a ∷ l) e = let m = turn_more P k a.source a.message e in
    filled_turn P (arrive k a.source a.message) l (ap (λ t. is_operation t.did) m ∙ e) ∙ ap (λ t. record { rank = filled t.rank l; did = t.did }) m

-- A restoring rank's operation: what it makes after it is what it was to make.
abbrev one_done : {S : Type 0} → Process S → Replaying S → Replaying S
one_done P v = record v { rank = (turn P v.rank).rank; left = if is_operation (turn P v.rank).did then pred v.left else v.left }

replay_front : {S : Type 0} (P : Process S) (v : Replaying S) (since : List Logged) (j : ℕ) → v.left ≡ suc j → is_operation (turn P v.rank).did ≡ true
    → replayed P (journal_of v since) ≡ after_one (turn P v.rank) (made P j (filled (turn P v.rank).rank since))
replay_front P v since j left op = ap (λ i. made P i (filled v.rank since)) left ∙ made_front P j (filled v.rank since) ∙ ap (λ t. record { rank = (made P j t.rank).rank; sends = sendings t.did ++ (made P j t.rank).sends; all_made = is_operation t.did && (made P j t.rank).all_made }) (filled_turn P v.rank since op)

done_left : {S : Type 0} (P : Process S) (v : Replaying S) (j : ℕ) → v.left ≡ suc j → is_operation (turn P v.rank).did ≡ true → (one_done P v).left ≡ j
done_left P v j left op = cond-true (is_operation (turn P v.rank).did) (pred v.left) v.left op ∙ omega arith

stands_done : {S : Type 0} (P : Process S) (v : Replaying S) (since : List Logged) (k : Rank S) (j : ℕ) → v.left ≡ suc j → is_operation (turn P v.rank).did ≡ true → Stands P (journal_of v since) k → Stands P (journal_of (one_done P v) since) k
stands_done P v since k j left op h = let e = replay_front P v since j left op in let d = ap (λ i. made P i (filled (turn P v.rank).rank since)) (done_left P v j left op) in record {
  all_made = ap (λ m. m.all_made) d ∙ (and_parts (is_operation (turn P v.rank).did) (made P j (filled (turn P v.rank).rank since)).all_made (sym (ap (λ m. m.all_made) e) ∙ h.all_made)).1;
  rank = ap (λ m. m.rank) d ∙ sym (ap (λ m. m.rank) e) ∙ h.rank;
}

sends_done : {S : Type 0} (P : Process S) (v : Replaying S) (since : List Logged) (j : ℕ) → v.left ≡ suc j → is_operation (turn P v.rank).did ≡ true
    → (replayed P (journal_of v since)).sends ≡ sendings (turn P v.rank).did ++ (replayed P (journal_of (one_done P v) since)).sends
sends_done P v since j left op = ap (λ m. m.sends) (replay_front P v since j left op) ∙ ap (λ i. sendings (turn P v.rank).did ++ (made P i (filled (turn P v.rank).rank since)).sends) (sym (done_left P v j left op))

-- A turn without an operation changes nothing.
one_done_none : {S : Type 0} (P : Process S) (v : Replaying S) → is_operation (turn P v.rank).did ≡ false → one_done P v ≡ v
one_done_none P v e = ap (λ k. record { rank = k; log = v.log; left = if is_operation (turn P v.rank).did then pred v.left else v.left }) (turn_none P v.rank e) ∙ ap (λ i. record { rank = v.rank; log = v.log; left = i }) (cond-false (is_operation (turn P v.rank).did) (pred v.left) v.left e)

-- A send: it is left out, or it goes on the channel.
lags_skip : (channel sends : List Message) (k : ℕ) (intra new : List Message) (m : Message) → PairLags channel (m ∷ sends) (suc k) intra new → PairLags channel sends k intra new
lags_skip channel sends k intra new m h = record { enough = omega (arith, h.enough); rest = h.rest }

lags_send : (channel sends : List Message) (intra new : List Message) (m : Message) → PairLags channel (m ∷ sends) 0 intra new → PairLags (channel ++ m ∷ []) sends 0 intra new
lags_send channel sends intra new m h = record { enough = omega arith; rest = append_assoc channel (m ∷ []) sends ∙ h.rest }

-- a restored rank sends: v's rank sends too
lags_both : (channel : List Message) (skip : ℕ) (intra new : List Message) (m : Message) → PairLags channel [] skip intra new → PairLags (channel ++ m ∷ []) [] skip intra (new ++ m ∷ [])
lags_both channel skip intra new m h = let none : skip ≡ 0 = omega (arith, h.enough) in
    subst (λ k. PairLags (channel ++ m ∷ []) [] k intra (new ++ m ∷ [])) (sym none) (let o = subst (λ k. PairLags channel [] k intra new) none h in
    record { enough = omega arith; rest = append-nil (channel ++ m ∷ []) ∙ ap (λ l. l ++ m ∷ []) (sym (append-nil channel) ∙ o.rest) ∙ append_assoc intra new (m ∷ []) })

-- The row of the rank that has the turn.
pair_sent : (q : ℕ → ℕ → List Message) (skip : ℕ → ℕ → ℕ) (r y : ℕ) (d : Did) (after : List Sending) (intra new : List Message)
    → PairLags (q r y) (sends_to y (sendings d ++ after)) (skip r y) intra new → PairLags (back_channel q skip r d r y) (sends_to y after) (back_skip skip r d r y) intra new
pair_sent q skip r y Nothing after intra new h = h
pair_sent q skip r y Local after intra new h = h
pair_sent q skip r y Marked after intra new h = h
pair_sent q skip r y (Sent to m) after intra new h = ⊎_elim here there (cases_eq y to)
  where
    push : List Message
    push = q r to ++ m ∷ []

    row : (c : ℕ → ℕ → List Message) (k : ℕ → ℕ → ℕ) → List Message
    row c k = c r y

    go : (k : ℕ) → skip r to ≡ k → y ≡ to → PairLags (back_channel q skip r (Sent to m) r y) (sends_to y after) (back_skip skip r (Sent to m) r y) intra new
    go k e d = subst (λ n. PairLags (back_channel q skip r (Sent to m) r y) (sends_to y after) n intra new) (sym (ap (λ z. back_skip skip r (Sent to m) r z) d ∙ set_pair-row skip r to (pred (skip r to)) to ∙ Changes.set_at-same (skip r) to (pred (skip r to)) ∙ ap pred e)) (with k e)
      where
        at : (n : ℕ) → skip r to ≡ n → PairLags (q r y) (m ∷ sends_to y after) n intra new
        at n f = subst (λ l. PairLags (q r y) l n intra new) (cond-true (to == y) (m ∷ sends_to y after) (sends_to y after) (eq-eqb to y (sym d))) (subst (λ n. PairLags (q r y) (sends_to y (record { to = to; message = m } ∷ after)) n intra new) (ap (skip r) d ∙ f) h)

        with : (n : ℕ) → skip r to ≡ n → PairLags (back_channel q skip r (Sent to m) r y) (sends_to y after) (pred n) intra new
        with zero f = subst (λ c. PairLags (c r y) (sends_to y after) 0 intra new) (sym (cond-false (nat_lt 0 (skip r to)) q (set_pair q r to push) (le-ltb 0 (skip r to) (omega arith))))
            (subst (λ c. PairLags c (sends_to y after) 0 intra new) (sym (ap (λ z. set_pair q r to push r z) d ∙ set_pair-row q r to push to ∙ Changes.set_at-same (q r) to push))
            (subst (λ c. PairLags (c ++ m ∷ []) (sends_to y after) 0 intra new) (ap (q r) d) (lags_send (q r y) (sends_to y after) intra new m (at 0 f))))
        with (suc n) f = subst (λ c. PairLags (c r y) (sends_to y after) n intra new) (sym (cond-true (nat_lt 0 (skip r to)) q (set_pair q r to push) (lt-ltb 0 (skip r to) (omega arith))))
            (lags_skip (q r y) (sends_to y after) n intra new m (at (suc n) f))

    here : y ≡ to → PairLags (back_channel q skip r (Sent to m) r y) (sends_to y after) (back_skip skip r (Sent to m) r y) intra new
    here d = go (skip r to) refl d

    there : (y ≡ to → ⊥) → PairLags (back_channel q skip r (Sent to m) r y) (sends_to y after) (back_skip skip r (Sent to m) r y) intra new
    there d = subst (λ n. PairLags (back_channel q skip r (Sent to m) r y) (sends_to y after) n intra new) (sym (set_pair-other_column skip r to (pred (skip r to)) r y d))
        (subst (λ c. PairLags c (sends_to y after) (skip r y) intra new) (sym (cond_both (nat_lt 0 (skip r to)) q (set_pair q r to push) (λ c. c r y ≡ q r y) (λ e. refl) (λ e. set_pair-other_column q r to push r y d)))
        (subst (λ l. PairLags (q r y) l (skip r y) intra new) (cond-false (to == y) (m ∷ sends_to y after) (sends_to y after) (ne_eqb to y (λ g. d (sym g)))) h))

-- the other rows
channel_other : (q : ℕ → ℕ → List Message) (skip : ℕ → ℕ → ℕ) (r : ℕ) (d : Did) (s y : ℕ) → (s ≡ r → ⊥) → back_channel q skip r d s y ≡ q s y
channel_other q skip r Nothing s y e = refl
channel_other q skip r Local s y e = refl
channel_other q skip r Marked s y e = refl
channel_other q skip r (Sent to m) s y e = cond_both (nat_lt 0 (skip r to)) q (set_pair q r to (q r to ++ m ∷ [])) (λ c. c s y ≡ q s y) (λ _. refl) (λ _. set_pair-other_row q r to (q r to ++ m ∷ []) s y e)

skip_other : (skip : ℕ → ℕ → ℕ) (r : ℕ) (d : Did) (s y : ℕ) → (s ≡ r → ⊥) → back_skip skip r d s y ≡ skip s y
skip_other skip r Nothing s y e = refl
skip_other skip r Local s y e = refl
skip_other skip r Marked s y e = refl
skip_other skip r (Sent to m) s y e = set_pair-other_row skip r to (pred (skip r to)) s y e

sends_other : (q : ℕ → ℕ → List Message) (r : ℕ) (d : Did) (s y : ℕ) → (s ≡ r → ⊥) → sends q r d s y ≡ q s y
sends_other q r Nothing s y e = refl
sends_other q r Local s y e = refl
sends_other q r Marked s y e = refl
sends_other q r (Sent to m) s y e = set_pair-other_row q r to (q r to ++ m ∷ []) s y e

-- The row of a restored rank: v's rank sends too.
pair_both : (q v : ℕ → ℕ → List Message) (skip : ℕ → ℕ → ℕ) (r y : ℕ) (d : Did) (intra : List Message)
    → PairLags (q r y) [] (skip r y) intra (v r y) → PairLags (back_channel q skip r d r y) [] (back_skip skip r d r y) intra (sends v r d r y)
pair_both q v skip r y Nothing intra h = h
pair_both q v skip r y Local intra h = h
pair_both q v skip r y Marked intra h = h
pair_both q v skip r y (Sent to m) intra h = ⊎_elim here there (cases_eq y to)
  where
    push : List Message
    push = q r to ++ m ∷ []

    here : y ≡ to → PairLags (back_channel q skip r (Sent to m) r y) [] (back_skip skip r (Sent to m) r y) intra (sends v r (Sent to m) r y)
    here d = subst (λ c. PairLags (c r y) [] (set_pair skip r to (pred (skip r to)) r y) intra (set_pair v r to (v r to ++ m ∷ []) r y)) (sym (cond-false (nat_lt 0 (skip r to)) q (set_pair q r to push) (le-ltb 0 (skip r to) (omega (arith, none)))))
        (subst (λ k. PairLags (set_pair q r to push r y) [] k intra (set_pair v r to (v r to ++ m ∷ []) r y)) (sym (ap (λ z. set_pair skip r to (pred (skip r to)) r z) d ∙ set_pair-row skip r to (pred (skip r to)) to ∙ Changes.set_at-same (skip r) to (pred (skip r to)) ∙ ap pred none ∙ sym (ap (skip r) d ∙ none)))
        (at_set_pair_both (λ a b. PairLags a [] (skip r y) intra b) q v r to push (v r to ++ m ∷ []) r y
        (λ _ d. subst (λ z. PairLags (q r z ++ m ∷ []) [] (skip r y) intra (v r z ++ m ∷ [])) d (lags_both (q r y) (skip r y) intra (v r y) m h)) h))
      where
        none : skip r to ≡ 0
        none = sym (ap (skip r) d) ∙ omega (arith, h.enough)

    there : (y ≡ to → ⊥) → PairLags (back_channel q skip r (Sent to m) r y) [] (back_skip skip r (Sent to m) r y) intra (sends v r (Sent to m) r y)
    there d = subst (λ n. PairLags (back_channel q skip r (Sent to m) r y) [] n intra (sends v r (Sent to m) r y)) (sym (set_pair-other_column skip r to (pred (skip r to)) r y d))
        (subst (λ c. PairLags c [] (skip r y) intra (sends v r (Sent to m) r y)) (sym (cond_both (nat_lt 0 (skip r to)) q (set_pair q r to push) (λ c. c r y ≡ q r y) (λ e. refl) (λ e. set_pair-other_column q r to push r y d)))
        (subst (λ c. PairLags (q r y) [] (skip r y) intra c) (sym (set_pair-other_column v r to (v r to ++ m ∷ []) r y d)) h))

-- A turn.
pub lag_restoring : {S : Type 0} (P : Process S) (n : ℕ) (b : Back S) (v : Quiet S) (since : ℕ → List Logged) (r j : ℕ) → r < n → (b.one r).left ≡ suc j → is_operation (turn P (b.one r).rank).did ≡ true → Lags P n b v since → Lags P n (back_turn P b r) v since
lag_restoring {S} P n b v since r j inside left op h = record {
  logs = λ x a. at_set (λ o. o.log ≡ entries (since x)) b.one r (one_done P (b.one r)) x (λ e. ap (λ z. (b.one z).log) (sym e) ∙ h.logs x a) (λ _. h.logs x a);
  stands = λ x a. at_set (λ o. Stands P (journal_of o (since x)) (v.rank x)) b.one r (one_done P (b.one r)) x (λ e. subst (λ z. Stands P (journal_of (one_done P (b.one r)) (since z)) (v.rank z)) (sym e) (stands_done P (b.one r) (since r) (v.rank r) j left op (h.stands r inside))) (λ _. h.stands x a);
  pairs = λ s y a c. at_set (λ o. PairLags (back_channel b.channel b.skip r did s y) (sends_to y (replayed P (journal_of o (since s))).sends) (back_skip b.skip r did s y) (intra_from s (since y)) (v.channel s y)) b.one r (one_done P (b.one r)) s
      (λ e. subst (λ z. PairLags (back_channel b.channel b.skip r did z y) (sends_to y (replayed P (journal_of (one_done P (b.one r)) (since z))).sends) (back_skip b.skip r did z y) (intra_from z (since y)) (v.channel z y)) (sym e)
      (pair_sent b.channel b.skip r y did (replayed P (journal_of (one_done P (b.one r)) (since r))).sends (intra_from r (since y)) (v.channel r y)
      (subst (λ l. PairLags (b.channel r y) (sends_to y l) (b.skip r y) (intra_from r (since y)) (v.channel r y)) (sends_done P (b.one r) (since r) j left op) (h.pairs r y inside c))))
      (λ e. subst (λ q. PairLags q (sends_to y (replayed P (journal_of (b.one s) (since s))).sends) (back_skip b.skip r did s y) (intra_from s (since y)) (v.channel s y)) (sym (channel_other b.channel b.skip r did s y e))
      (subst (λ k. PairLags (b.channel s y) (sends_to y (replayed P (journal_of (b.one s) (since s))).sends) k (intra_from s (since y)) (v.channel s y)) (sym (skip_other b.skip r did s y e)) (h.pairs s y a c)));
}
  where
    did : Did
    did = (turn P (b.one r).rank).did

-- a restored rank's journal
pub replay_none : {S : Type 0} (P : Process S) (v : Replaying S) (since : List Logged) → v.left ≡ 0 → since ≡ [] → replayed P (journal_of v since) ≡ record { rank = v.rank; sends = []; all_made = true }
replay_none P v since left none = ap (λ i. made P i (filled v.rank since)) left ∙ ap (λ l. made P 0 (filled v.rank l)) none

pub stands_none : {S : Type 0} (P : Process S) (v : Replaying S) (since : List Logged) (k : Rank S) → v.left ≡ 0 → since ≡ [] → v.rank ≡ k → Stands P (journal_of v since) k
stands_none P v since k left none is = let e = replay_none P v since left none in record { all_made = ap (λ m. m.all_made) e; rank = ap (λ m. m.rank) e ∙ is }

pub is_none : {S : Type 0} (P : Process S) (v : Replaying S) (since : List Logged) (k : Rank S) → v.left ≡ 0 → since ≡ [] → Stands P (journal_of v since) k → v.rank ≡ k
is_none P v since k left none h = sym (ap (λ m. m.rank) (replay_none P v since left none)) ∙ h.rank

done_none : {S : Type 0} (P : Process S) (v : Replaying S) → v.left ≡ 0 → (one_done P v).left ≡ 0
done_none P v left = cond_both (is_operation (turn P v.rank).did) (pred v.left) v.left (λ i. i ≡ 0) (λ e. ap pred left) (λ e. left)

pub lag_restored : {S : Type 0} (P : Process S) (n : ℕ) (b : Back S) (v : Quiet S) (since : ℕ → List Logged) (r : ℕ) → r < n → (b.one r).left ≡ 0 → since r ≡ [] → Lags P n b v since
    → Lags P n (back_turn P b r) (turned v r (turn P (b.one r).rank)) since
lag_restored {S} P n b v since r inside left none h = record {
  logs = λ x a. at_set (λ o. o.log ≡ entries (since x)) b.one r (one_done P (b.one r)) x (λ e. ap (λ z. (b.one z).log) (sym e) ∙ h.logs x a) (λ _. h.logs x a);
  stands = λ x a. at_set_both (λ o k. Stands P (journal_of o (since x)) k) b.one v.rank r (one_done P (b.one r)) (turn P (b.one r).rank).rank x
      (λ e. stands_none P (one_done P (b.one r)) (since x) (turn P (b.one r).rank).rank (done_none P (b.one r) left) (ap since e ∙ none) refl) (λ _. h.stands x a);
  pairs = λ s y a c. at_set (λ o. PairLags (back_channel b.channel b.skip r did s y) (sends_to y (replayed P (journal_of o (since s))).sends) (back_skip b.skip r did s y) (intra_from s (since y)) (sends v.channel r did s y)) b.one r (one_done P (b.one r)) s
      (λ e. subst (λ z. PairLags (back_channel b.channel b.skip r did z y) (sends_to y (replayed P (journal_of (one_done P (b.one r)) (since z))).sends) (back_skip b.skip r did z y) (intra_from z (since y)) (sends v.channel r did z y)) (sym e)
      (subst (λ d. PairLags (back_channel b.channel b.skip r did r y) (sends_to y d.sends) (back_skip b.skip r did r y) (intra_from r (since y)) (sends v.channel r did r y)) (sym (replay_none P (one_done P (b.one r)) (since r) (done_none P (b.one r) left) none))
      (pair_both b.channel v.channel b.skip r y did (intra_from r (since y))
      (subst (λ d. PairLags (b.channel r y) (sends_to y d.sends) (b.skip r y) (intra_from r (since y)) (v.channel r y)) (replay_none P (b.one r) (since r) left none) (h.pairs r y inside c)))))
      (λ e. subst (λ q. PairLags q (sends_to y (replayed P (journal_of (b.one s) (since s))).sends) (back_skip b.skip r did s y) (intra_from s (since y)) (sends v.channel r did s y)) (sym (channel_other b.channel b.skip r did s y e))
      (subst (λ k. PairLags (b.channel s y) (sends_to y (replayed P (journal_of (b.one s) (since s))).sends) k (intra_from s (since y)) (sends v.channel r did s y)) (sym (skip_other b.skip r did s y e))
      (subst (λ l. PairLags (b.channel s y) (sends_to y (replayed P (journal_of (b.one s) (since s))).sends) (b.skip s y) (intra_from s (since y)) l) (sym (sends_other v.channel r did s y e)) (h.pairs s y a c))));
}
  where
    did : Did
    did = (turn P (b.one r).rank).did

-- A turn without an operation leaves all as it was.
none_channel : (q : ℕ → ℕ → List Message) (skip : ℕ → ℕ → ℕ) (r : ℕ) (d : Did) → is_operation d ≡ false → (back_channel q skip r d ≡ q) × (back_skip skip r d ≡ skip)
none_channel q skip r Nothing e = (refl, refl)
none_channel q skip r (Sent to m) e = absurd (true≢false e)
none_channel q skip r Local e = absurd (true≢false e)
none_channel q skip r Marked e = absurd (true≢false e)

lag_idle : {S : Type 0} (P : Process S) (n : ℕ) (b : Back S) (v : Quiet S) (since : ℕ → List Logged) (r : ℕ) → is_operation (turn P (b.one r).rank).did ≡ false → Lags P n b v since → Lags P n (back_turn P b r) v since
lag_idle {S} P n b v since r idle h = record {
  logs = λ x a. same (λ x o. o.log ≡ entries (since x)) x (h.logs x a);
  stands = λ x a. same (λ x o. Stands P (journal_of o (since x)) (v.rank x)) x (h.stands x a);
  pairs = λ s y a c. same (λ s o. PairLags (back_channel b.channel b.skip r did s y) (sends_to y (replayed P (journal_of o (since s))).sends) (back_skip b.skip r did s y) (intra_from s (since y)) (v.channel s y)) s
      (subst (λ q. PairLags (q s y) (sends_to y (replayed P (journal_of (b.one s) (since s))).sends) (back_skip b.skip r did s y) (intra_from s (since y)) (v.channel s y)) (sym (none_channel b.channel b.skip r did idle).0)
      (subst (λ k. PairLags (b.channel s y) (sends_to y (replayed P (journal_of (b.one s) (since s))).sends) (k s y) (intra_from s (since y)) (v.channel s y)) (sym (none_channel b.channel b.skip r did idle).1) (h.pairs s y a c)));
}
  where
    did : Did
    did = (turn P (b.one r).rank).did

    same : (Q : ℕ → Replaying S → Type 0) (x : ℕ) → Q x (b.one x) → Q x (set_at b.one r (one_done P (b.one r)) x)
    same Q x o = at_set (Q x) b.one r (one_done P (b.one r)) x (λ e. subst (Q x) (ap b.one e ∙ sym (one_done_none P (b.one r) idle)) o) (λ _. o)

-- Leading late entries.
pub after_late : List Logged → List Logged
after_late [] = []
after_late (a ∷ l) = if a.late then after_late l else a ∷ l

record Absorbed {S : Type 0} (P : Process S) (ops : ℕ) (k : Rank S) (since : List Logged) (v : Replaying S) (rest : List Logged) : Type 0 where
  log : v.log ≡ entries rest
  left : v.left ≡ ops
  full : filled v.rank rest ≡ filled k since
  intra : (s : ℕ) → intra_from s rest ≡ intra_from s since

absorb_step : {S : Type 0} (P : Process S) (ops : ℕ) (k : Rank S) (a : Logged) (l : List Logged) (b : Bool) → a.late ≡ b
    → Absorbed P ops (arrive k a.source a.message) l (absorb ops (arrive k a.source a.message) (entries l)) (after_late l)
    → Absorbed P ops k (a ∷ l) (absorb ops k ((if b then Late_entry a.source a.message else Intra_entry a.source) ∷ entries l)) (if b then after_late l else a ∷ l)
absorb_step P ops k a l true e step = record { log = step.log; left = step.left; full = step.full; intra = λ s. step.intra s ∙ sym (cond-false ((a.source == s) && not a.late) (a.message ∷ intra_from s l) (intra_from s l) (and_right (a.source == s) (not a.late) (ap not e))) }
absorb_step P ops k a l false e step = record { log = ap (λ z. z ∷ entries l) (sym (cond-false a.late (Late_entry a.source a.message) (Intra_entry a.source) e)); left = refl; full = refl; intra = λ s. refl }

absorbs : {S : Type 0} (P : Process S) (ops : ℕ) (k : Rank S) (since : List Logged) → Absorbed P ops k since (absorb ops k (entries since)) (after_late since)
unfolding after_late
absorbs P ops k [] = record { log = refl; left = refl; full = refl; intra = λ s. refl }
absorbs P ops k (a ∷ l) = absorb_step P ops k a l a.late refl (absorbs P ops (arrive k a.source a.message) l)

absorbed_replay : {S : Type 0} (P : Process S) (ops : ℕ) (k : Rank S) (since : List Logged) (v : Replaying S) (rest : List Logged) → Absorbed P ops k since v rest → replayed P (journal_of v rest) ≡ made P ops (filled k since)
absorbed_replay P ops k since v rest h = ap (λ i. made P i (filled v.rank rest)) h.left ∙ ap (made P ops) h.full

-- The restart lags behind what the line stands for.
pub lag_restart : {S : Type 0} (P : Process S) (n : ℕ) (j : ℕ → Journal S) (g : Quiet S)
    → ((r : ℕ) → r < n → Stands P (j r) (g.rank r))
    → ((s r : ℕ) → s < n → r < n → PairFits (sends_to r (replayed P (j s)).sends) ((j r).early s) (intra_from s (j r).since) (g.channel s r))
    → Lags P n (restart j) g (λ r. after_late (j r).since)
lag_restart {S} P n j g stands fits = record {
  logs = λ r a. (here r).log;
  stands = λ r a. record { all_made = ap (λ m. m.all_made) (back r) ∙ (stands r a).all_made; rank = ap (λ m. m.rank) (back r) ∙ (stands r a).rank };
  pairs = λ s r a b. let f = fits s r a b in subst (λ m. PairLags [] (sends_to r m.sends) ((j r).early s) (intra_from s (after_late (j r).since)) (g.channel s r)) (sym (back s))
      (subst (λ i. PairLags [] (sends_to r (replayed P (j s)).sends) ((j r).early s) i (g.channel s r)) (sym ((here r).intra s)) (record { enough = f.enough; rest = f.rest }));
}
  where
    here : (r : ℕ) → Absorbed P (j r).ops (j r).image (j r).since (absorb (j r).ops (j r).image (entries (j r).since)) (after_late (j r).since)
    here r = absorbs P (j r).ops (j r).image (j r).since

    back : (r : ℕ) → replayed P (journal_of (absorb (j r).ops (j r).image (entries (j r).since)) (after_late (j r).since)) ≡ replayed P (j r)
    back r = absorbed_replay P (j r).ops (j r).image (j r).since (absorb (j r).ops (j r).image (entries (j r).since)) (after_late (j r).since) (here r)

-- A delivery to a restoring rank.
heads : (x y : Message) (l k : List Message) → x ∷ l ≡ y ∷ k → (x ≡ y) × (l ≡ k)
heads x y l k e = (cc, cc)

pub lag_deliver : {S : Type 0} (P : Process S) (n : ℕ) (b : Back S) (v : Quiet S) (since : ℕ → List Logged) (s r : ℕ) (m : Message) (rest : List Message) (a : Logged) (l : List Logged) → s < n → r < n → b.channel s r ≡ m ∷ rest → since r ≡ a ∷ l → a.late ≡ false → a.source ≡ s
    → Lags P n b v since → Lags P n (back_arrives b s r (absorb (b.one r).left (arrive (b.one r).rank s m) (entries l)) m rest) v (set_at since r (after_late l))
lag_deliver {S} P n b v since s r m rest a l is inside has names intra from h = record {
  logs = λ x d. at_set_both (λ o i. o.log ≡ entries i) b.one since r one (after_late l) x (λ _. abs.log) (λ _. h.logs x d);
  stands = λ x d. at_set_both (λ o i. Stands P (journal_of o i) (v.rank x)) b.one since r one (after_late l) x
      (λ e. subst (λ z. Stands P (journal_of one (after_late l)) (v.rank z)) (sym e) (record { all_made = ap (λ y. y.all_made) same ∙ (h.stands r inside).all_made; rank = ap (λ y. y.rank) same ∙ (h.stands r inside).rank })) (λ _. h.stands x d);
  pairs = λ x y d f. at_set_both (λ o i. PairLags (set_pair b.channel s r rest x y) (sends_to y (replayed P (journal_of o i)).sends) (b.skip x y) (intra_from x (set_at since r (after_late l) y)) (v.channel x y)) b.one since r one (after_late l) x
      (λ e. subst (λ z. PairLags (set_pair b.channel s r rest x y) (sends_to y z.sends) (b.skip x y) (intra_from x (set_at since r (after_late l) y)) (v.channel x y)) (ap (λ z. replayed P (journal_of (b.one z) (since z))) e ∙ sym same) (column x y d f))
      (λ e. column x y d f);
}
  where
    one : Replaying S
    one = absorb (b.one r).left (arrive (b.one r).rank s m) (entries l)

    abs : Absorbed P (b.one r).left (arrive (b.one r).rank s m) l one (after_late l)
    abs = absorbs P (b.one r).left (arrive (b.one r).rank s m) l

    sent : List Message
    sent = sends_to r (replayed P (journal_of (b.one s) (since s))).sends

    named : intra_from s (since r) ≡ a.message ∷ intra_from s l
    named = ap (intra_from s) names ∙ cond-true ((a.source == s) && not a.late) (a.message ∷ intra_from s l) (intra_from s l) (and_from (a.source == s) (not a.late) (eq-eqb a.source s from) (ap not intra))

    both : (m ≡ a.message) × (rest ++ drop (b.skip s r) sent ≡ intra_from s l ++ v.channel s r)
    both = heads m a.message (rest ++ drop (b.skip s r) sent) (intra_from s l ++ v.channel s r) (ap (λ c. c ++ drop (b.skip s r) sent) (sym has) ∙ (h.pairs s r is inside).rest ∙ ap (λ i. i ++ v.channel s r) named)

    same : replayed P (journal_of one (after_late l)) ≡ replayed P (journal_of (b.one r) (since r))
    same = absorbed_replay P (b.one r).left (arrive (b.one r).rank s m) l one (after_late l) abs
        ∙ ap (λ z. made P (b.one r).left (filled (arrive (b.one r).rank s z) l)) both.0
        ∙ ap (λ z. made P (b.one r).left (filled (arrive (b.one r).rank z a.message) l)) (sym from)
        ∙ ap (λ z. made P (b.one r).left (filled (b.one r).rank z)) (sym names)

    column : (x y : ℕ) → x < n → y < n → PairLags (set_pair b.channel s r rest x y) (sends_to y (replayed P (journal_of (b.one x) (since x))).sends) (b.skip x y) (intra_from x (set_at since r (after_late l) y)) (v.channel x y)
    column x y d f = at_set (λ i. PairLags (set_pair b.channel s r rest x y) (sends_to y (replayed P (journal_of (b.one x) (since x))).sends) (b.skip x y) (intra_from x i) (v.channel x y)) since r (after_late l) y
        (λ e. subst (λ z. PairLags (set_pair b.channel s r rest x z) (sends_to z (replayed P (journal_of (b.one x) (since x))).sends) (b.skip x z) (intra_from x (after_late l)) (v.channel x z)) (sym e)
        (subst (λ c. PairLags c (sends_to r (replayed P (journal_of (b.one x) (since x))).sends) (b.skip x r) (intra_from x (after_late l)) (v.channel x r)) (sym (set_pair-column b.channel s r rest x))
        (subst (λ i. PairLags (set_at (λ z. b.channel z r) s rest x) (sends_to r (replayed P (journal_of (b.one x) (since x))).sends) (b.skip x r) i (v.channel x r)) (sym (abs.intra x))
        (at_set (λ c. PairLags c (sends_to r (replayed P (journal_of (b.one x) (since x))).sends) (b.skip x r) (intra_from x l) (v.channel x r)) (λ z. b.channel z r) s rest x
        (λ g. subst (λ z. PairLags rest (sends_to r (replayed P (journal_of (b.one z) (since z))).sends) (b.skip z r) (intra_from z l) (v.channel z r)) (sym g) (record { enough = (h.pairs s r is inside).enough; rest = both.1 }))
        (λ g. subst (λ i. PairLags (b.channel x r) (sends_to r (replayed P (journal_of (b.one x) (since x))).sends) (b.skip x r) i (v.channel x r))
        (ap (intra_from x) names ∙ cond-false ((a.source == x) && not a.late) (a.message ∷ intra_from x l) (intra_from x l) (and_left (a.source == x) (not a.late) (ne_eqb a.source x (λ k. g (sym k ∙ from)))))
        (h.pairs x r d inside))))))
        (λ e. subst (λ c. PairLags c (sends_to y (replayed P (journal_of (b.one x) (since x))).sends) (b.skip x y) (intra_from x (since y)) (v.channel x y)) (sym (set_pair-other_column b.channel s r rest x y e)) (h.pairs x y d f))

-- a delivery of the quiet job
pub delivers : {S : Type 0} (P : Process S) (n : ℕ) (v : Quiet S) (s r : ℕ) (m : Message) (tail : List Message) → s < n → r < n → v.channel s r ≡ m ∷ tail → quiet_next P n v (Deliver s r) ≡ record { rank = set_at v.rank r (arrive (v.rank r) s m); channel = set_pair v.channel s r tail }
delivers P n v s r m tail is inside first = cond-true (nat_lt s n && nat_lt r n) (quiet_arrives v s r (v.channel s r)) v (and_from (nat_lt s n) (nat_lt r n) (lt-ltb s n is) (lt-ltb r n inside)) ∙ ap (λ l. quiet_arrives v s r l) first

-- A delivery to a restored rank: v delivers too.
pub lag_both : {S : Type 0} (P : Process S) (n : ℕ) (b : Back S) (v : Quiet S) (since : ℕ → List Logged) (s r : ℕ) (m : Message) (rest : List Message) → s < n → r < n → b.channel s r ≡ m ∷ rest → since r ≡ [] → (b.one r).left ≡ 0
    → Lags P n b v since → (tail : List Message) × (v.channel s r ≡ m ∷ tail) × Lags P n (back_arrives b s r (record (b.one r) { rank = arrive (b.one r).rank s m }) m rest) (record { rank = set_at v.rank r (arrive (v.rank r) s m); channel = set_pair v.channel s r tail }) since
lag_both {S} P n b v since s r m rest is inside has none left h = (
  tail,
  first,
  record {
    logs = λ x d. at_set (λ o. o.log ≡ entries (since x)) b.one r one x (λ e. ap (λ z. (b.one z).log) (sym e) ∙ h.logs x d) (λ _. h.logs x d);
    stands = λ x d. at_set_both (λ o k. Stands P (journal_of o (since x)) k) b.one v.rank r one (arrive (v.rank r) s m) x
        (λ e. stands_none P one (since x) (arrive (v.rank r) s m) left (ap since e ∙ none) (ap (λ z. arrive z s m) rank)) (λ _. h.stands x d);
    pairs = λ x y d f. at_set (λ o. PairLags (set_pair b.channel s r rest x y) (sends_to y (replayed P (journal_of o (since x))).sends) (b.skip x y) (intra_from x (since y)) (set_pair v.channel s r tail x y)) b.one r one x
        (λ e. subst (λ z. PairLags (set_pair b.channel s r rest x y) (sends_to y z) (b.skip x y) (intra_from x (since y)) (set_pair v.channel s r tail x y)) (ap (λ z. (replayed P (journal_of (b.one z) (since z))).sends) e ∙ ap (λ z. z.sends) (replay_none P (b.one r) (since r) left none) ∙ sym (ap (λ z. z.sends) (replay_none P one (since x) left (ap since e ∙ none)))) (both x y d f))
        (λ e. both x y d f);
  },
)
  where
    one : Replaying S
    one = record (b.one r) { rank = arrive (b.one r).rank s m }

    sent : List Message
    sent = sends_to r (replayed P (journal_of (b.one s) (since s))).sends

    tail : List Message
    tail = rest ++ drop (b.skip s r) sent

    rank : (b.one r).rank ≡ v.rank r
    rank = is_none P (b.one r) (since r) (v.rank r) left none (h.stands r inside)

    first : v.channel s r ≡ m ∷ tail
    first = sym (ap (λ c. c ++ drop (b.skip s r) sent) (sym has) ∙ (h.pairs s r is inside).rest ∙ ap (λ l. intra_from s l ++ v.channel s r) none)

    both : (x y : ℕ) → x < n → y < n → PairLags (set_pair b.channel s r rest x y) (sends_to y (replayed P (journal_of (b.one x) (since x))).sends) (b.skip x y) (intra_from x (since y)) (set_pair v.channel s r tail x y)
    both x y d f = at_set_pair_both (λ p q. PairLags p (sends_to y (replayed P (journal_of (b.one x) (since x))).sends) (b.skip x y) (intra_from x (since y)) q) b.channel v.channel s r rest tail x y
        (λ ex ey. subst (λ z. PairLags rest (sends_to y (replayed P (journal_of (b.one z) (since z))).sends) (b.skip z y) (intra_from z (since y)) tail) (sym ex)
        (subst (λ z. PairLags rest (sends_to z (replayed P (journal_of (b.one s) (since s))).sends) (b.skip s z) (intra_from s (since z)) tail) (sym ey)
        (record { enough = (h.pairs s r is inside).enough; rest = sym (ap (λ l. intra_from s l ++ tail) none) })))
        (h.pairs x y d f)

lag_deliver_both : {S : Type 0} (P : Process S) (n : ℕ) (b : Back S) (v : Quiet S) (since : ℕ → List Logged) (s r : ℕ) (m : Message) (rest : List Message) → s < n → r < n → b.channel s r ≡ m ∷ rest → since r ≡ [] → (b.one r).left ≡ 0 → IsReached P n v
    → Lags P n b v since → IsLag P n (back_arrives b s r (record (b.one r) { rank = arrive (b.one r).rank s m }) m rest)
lag_deliver_both {S} P n b v since s r m rest is inside has none left reached h = record {
  ahead = record { rank = set_at v.rank r (arrive (v.rank r) s m); channel = set_pair v.channel s r w.0 };
  reached = subst (λ q. IsReached P n q) (delivers P n v s r m w.0 is inside w.1) (reached_next P n v (Deliver s r) reached);
  since = since;
  lags = w.2;
}
  where
    w : (tail : List Message) × (v.channel s r ≡ m ∷ tail) × Lags P n (back_arrives b s r (record (b.one r) { rank = arrive (b.one r).rank s m }) m rest) (record { rank = set_at v.rank r (arrive (v.rank r) s m); channel = set_pair v.channel s r tail }) since
    w = lag_both P n b v since s r m rest is inside has none left h

-- Each event of the ranks keeps the lag.
pub no_entries : (l : List Logged) → entries l ≡ [] → l ≡ []
no_entries [] e = refl
no_entries (a ∷ l) e = absurd (cc)

lag_turn : {S : Type 0} (P : Process S) (n : ℕ) (b : Back S) (r : ℕ) → r < n → may_turn (b.one r).log (b.one r).left ≡ true → IsLag P n b → IsLag P n (back_turn P b r)
lag_turn {S} P n b r inside may h = ⊎_elim (λ op. go (b.one r).left refl op) (λ idle. record { ahead = h.ahead; reached = h.reached; since = h.since; lags = lag_idle P n b h.ahead h.since r idle h.lags }) (cases_Bool (is_operation (turn P (b.one r).rank).did))
  where
    none : (l : List Entry) → may_turn l 0 ≡ true → l ≡ []
    none [] e = refl
    none (x ∷ l) e = absurd (false≢true e)

    go : (k : ℕ) → (b.one r).left ≡ k → is_operation (turn P (b.one r).rank).did ≡ true → IsLag P n (back_turn P b r)
    go (suc j) left op = record { ahead = h.ahead; reached = h.reached; since = h.since; lags = lag_restoring P n b h.ahead h.since r j inside left op h.lags }
    go zero left op = record {
      ahead = turned h.ahead r (turn P (b.one r).rank);
      reached = subst (λ q. IsReached P n q) (cond-true (nat_lt r n) (turned h.ahead r (turn P (h.ahead.rank r))) h.ahead (lt-ltb r n inside) ∙ ap (λ k. turned h.ahead r (turn P k)) (sym (is_none P (b.one r) (h.since r) (h.ahead.rank r) left empty (h.lags.stands r inside)))) (reached_next P n h.ahead (Turn r) h.reached);
      since = h.since;
      lags = lag_restored P n b h.ahead h.since r inside left empty h.lags;
    }
      where
        empty : h.since r ≡ []
        empty = no_entries (h.since r) (sym (h.lags.logs r inside) ∙ none (b.one r).log (subst (λ k. may_turn (b.one r).log k ≡ true) left may))

-- what an entry Intra comes from
entry_is : (x : Logged) (a : ℕ) → entry x ≡ Intra_entry a → (x.late ≡ false) × (x.source ≡ a)
entry_is x a e = go x.late refl e
  where
    go : (b : Bool) → x.late ≡ b → (if b then Late_entry x.source x.message else Intra_entry x.source) ≡ Intra_entry a → (x.late ≡ false) × (x.source ≡ a)
    go true d e = absurd (cc)
    go false d e = (d, cc)

pub entries_are : (l : List Logged) (a : ℕ) (log : List Entry) → entries l ≡ Intra_entry a ∷ log → (x : Logged) × (k : List Logged) × (l ≡ x ∷ k) × (x.late ≡ false) × (x.source ≡ a) × (entries k ≡ log)
entries_are [] a log e = absurd (cc)
entries_are (x ∷ k) a log e = let i = entry_is x a (cc) in (x, k, refl, i.0, i.1, cc)

lag_delivers : {S : Type 0} (P : Process S) (n : ℕ) (b : Back S) (s r : ℕ) (q : List Message) (log : List Entry) (left : ℕ) → s < n → r < n → b.channel s r ≡ q → (b.one r).log ≡ log → (b.one r).left ≡ left → IsLag P n b → IsLag P n (back_deliver b s r q log left)
lag_delivers P n b s r [] log left c d has logs lefts h = h
lag_delivers P n b s r (m ∷ rest) [] zero c d has logs lefts h = lag_deliver_both P n b h.ahead h.since s r m rest c d has (no_entries (h.since r) (sym (h.lags.logs r d) ∙ logs)) lefts h.reached h.lags
lag_delivers P n b s r (m ∷ rest) [] (suc left) c d has logs lefts h = h
lag_delivers P n b s r (m ∷ rest) (Late_entry a x ∷ log) left c d has logs lefts h = h
lag_delivers {S} P n b s r (m ∷ rest) (Intra_entry a ∷ log) left c d has logs lefts h = cond_both (a == s) (back_arrives b s r (absorb (b.one r).left (arrive (b.one r).rank s m) log) m rest) b (IsLag P n)
    (λ e. let w = entries_are (h.since r) a log (sym (h.lags.logs r d) ∙ logs) in record {
      ahead = h.ahead;
      reached = h.reached;
      since = set_at h.since r (after_late w.1);
      lags = subst (λ l. Lags P n (back_arrives b s r (absorb (b.one r).left (arrive (b.one r).rank s m) l) m rest) h.ahead (set_at h.since r (after_late w.1))) w.5
          (lag_deliver P n b h.ahead h.since s r m rest w.0 w.1 c d has w.2 w.3 (w.4 ∙ eqb-true a s e) h.lags);
    })
    (λ e. h)

pub lag_next : {S : Type 0} (P : Process S) (n : ℕ) (b : Back S) (e : Event) → IsLag P n b → IsLag P n (back_next P n b e)
lag_next P n b (Turn r) h = cond_both (nat_lt r n && may_turn (b.one r).log (b.one r).left) (back_turn P b r) b (IsLag P n)
    (λ e. let both = and_parts (nat_lt r n) (may_turn (b.one r).log (b.one r).left) e in lag_turn P n b r (ltb-true r n both.0) both.1 h) (λ e. h)
lag_next P n b (Deliver s r) h = cond_both (nat_lt s n && nat_lt r n) (back_deliver b s r (b.channel s r) (b.one r).log (b.one r).left) b (IsLag P n)
    (λ e. let both = and_parts (nat_lt s n) (nat_lt r n) e in lag_delivers P n b s r (b.channel s r) (b.one r).log (b.one r).left (ltb-true s n both.0) (ltb-true r n both.1) refl refl refl h) (λ e. h)
lag_next P n b (Handle s r) h = h
lag_next P n b Begin_wave h = h

pub lag_run : {S : Type 0} (P : Process S) (n : ℕ) (es : List Event) (b : Back S) → IsLag P n b → IsLag P n (back_run P n b es)
lag_run P n [] b h = h
lag_run P n (e ∷ es) b h = lag_run P n es (back_next P n b e) (lag_next P n b e h)
