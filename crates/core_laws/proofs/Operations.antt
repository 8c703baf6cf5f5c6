-- What a rank makes by itself: more arrivals change nothing of it.
use Rattle.std.proofs.Common.{◌≡◌, ℕ, zero, suc, true, false, List, [], ◌∷◌, ◌++◌, Some, None, Option, sym, refl, ap, ◌∙◌}
use Rattle.std.specs.Prelude.{◌&&◌}
use Rattle.std.proofs.lemmas.Bool.{and_parts, false≢true}
use Rattle.mpi_queues.specs.Firsts.{Taken}
use Rattle.mpi_queues.specs.Arrivals.{Arrival, given}
use Rattle.mpi_queues.proofs.Orders.{given_for_good}
use Rattle.mpi_words.specs.declared.message.Message.{Message}
use Rattle.mpi_words.specs.declared.operation.Op.TheVariants.{Send, Receive, Output, Mark}
use Rattle.core_laws.specs.Process.{Process, Rank, Want, Wants, Ended, Turned, turn, acted, received, arrive, is_operation}
use Rattle.core_laws.specs.Line.{Made, made, one_more, sendings, Logged, filled}

abbrev grown : {S : Type 0} → Turned S → ℕ → Message → Turned S
grown t s m = record { rank = arrive t.rank s m; did = t.did }

received_more : {S : Type 0} (P : Process S) (k : Rank S) (s : ℕ) (m : Message) (o o' : Option (Taken Arrival)) → ((t : Taken Arrival) → o ≡ Some t → o' ≡ Some (record { taken = t.taken; others = t.others ++ (s, m) ∷ [] })) → is_operation (received P.answer k o).did ≡ true
    → received P.answer (arrive k s m) o' ≡ grown (received P.answer k o) s m
received_more P k s m None o' h e = absurd (false≢true e)
received_more P k s m (Some t) o' h e = ap (received P.answer (arrive k s m)) (h t refl)

acted_more : {S : Type 0} (P : Process S) (k : Rank S) (s : ℕ) (m : Message) (w : Want) → is_operation (acted P.answer k w).did ≡ true → acted P.answer (arrive k s m) w ≡ grown (acted P.answer k w) s m
acted_more P k s m (Wants (Send to x)) e = refl
acted_more P k s m (Wants (Receive ps)) e = received_more P k s m (given ps k.mail) (given ps (k.mail ++ (s, m) ∷ [])) (λ t d. given_for_good ps k.mail ((s, m) ∷ []) t d) e
acted_more P k s m (Wants (Output bytes)) e = refl
acted_more P k s m (Wants Mark) e = refl
acted_more P k s m Ended e = absurd (false≢true e)

pub turn_more : {S : Type 0} (P : Process S) (k : Rank S) (s : ℕ) (m : Message) → is_operation (turn P k).did ≡ true → turn P (arrive k s m) ≡ grown (turn P k) s m
unfolding turn
turn_more P k s m e = acted_more P k s m (P.want k.machine) e

received_none : {S : Type 0} (P : Process S) (k : Rank S) (o : Option (Taken Arrival)) → is_operation (received P.answer k o).did ≡ false → (received P.answer k o).rank ≡ k
received_none P k None e = refl
received_none P k (Some t) e = absurd (false≢true (sym e))

acted_none : {S : Type 0} (P : Process S) (k : Rank S) (w : Want) → is_operation (acted P.answer k w).did ≡ false → (acted P.answer k w).rank ≡ k
acted_none P k (Wants (Send to x)) e = absurd (false≢true (sym e))
acted_none P k (Wants (Receive ps)) e = received_none P k (given ps k.mail) e
acted_none P k (Wants (Output bytes)) e = absurd (false≢true (sym e))
acted_none P k (Wants Mark) e = absurd (false≢true (sym e))
acted_none P k Ended e = refl

-- a turn without an operation leaves the rank
pub turn_none : {S : Type 0} (P : Process S) (k : Rank S) → is_operation (turn P k).did ≡ false → (turn P k).rank ≡ k
unfolding turn
turn_none P k e = acted_none P k (P.want k.machine) e

abbrev grown_made : {S : Type 0} → Made S → ℕ → Message → Made S
grown_made d s m = record { rank = arrive d.rank s m; sends = d.sends; all_made = d.all_made }

-- what was made with some arrivals is made with more
pub made_more : {S : Type 0} (P : Process S) (j : ℕ) (k : Rank S) (s : ℕ) (m : Message) → (made P j k).all_made ≡ true → made P j (arrive k s m) ≡ grown_made (made P j k) s m
made_more P zero k s m e = refl
made_more P (suc j) k s m e = let both = and_parts (made P j k).all_made (is_operation (turn P (made P j k).rank).did) e in
    ap (one_more P) (made_more P j k s m both.0) ∙ ap (λ t. record { rank = t.rank; sends = (made P j k).sends ++ sendings t.did; all_made = (made P j k).all_made && is_operation t.did }) (turn_more P (made P j k).rank s m both.1)

pub filled-more : {S : Type 0} (k : Rank S) (l : List Logged) (a : Logged) → filled k (l ++ a ∷ []) ≡ arrive (filled k l) a.source a.message
filled-more k [] a = refl
filled-more k (b ∷ l) a = filled-more (arrive k b.source b.message) l a
