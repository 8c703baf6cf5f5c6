-- The list of a pair, and what is put in its place.
use Rattle.std.proofs.Common.{◌≡◌, ℕ, ◌<◌, List, [], ◌∷◌, ◌++◌, length, map, replicate, ◌==◌, ◌&&◌, if◌then◌else◌, Bool, true, false, refl, Some, option_map, sym, ap, ◌∙◌, subst, ⊎_elim, slice_set, slice_index_or, arith}
use Rattle.std.proofs.lemmas.Bool.{cases_eq, eqb-true, eq-eqb, ne_eqb}
use Rattle.std.proofs.lemmas.List.{length-map, get_or-map, get_or_default, length-set, get_or-set_same, get_or-set_other, get_or-replicate, length-replicate, set-get_or, map-set}
use Rattle.std.specs.Global.{Vec}
use Rattle.std.specs.Vec.{with_item}
use Rattle.mpi_words.specs.declared.message.Message.{Message}
use Rattle.mpi_words.specs.declared.pattern.Pattern.{Pattern}
use Rattle.mpi_words.specs.Matching.{matches}
use Rattle.mpi_queues.specs.Firsts.{take_first}
use Rattle.mpi_queues.specs.declared.queue.Queue.{Queue}
use Rattle.mpi_queues.specs.Laws.{StaysSquare, IsPairAlone}
use Rattle.mpi_queues.specs.Pairs.{Queues, IsSquare, queue, put_queue, sent, received, taken_from}

-- putting back what stands there changes nothing
pub put_same : (q : Queues) (from to : ℕ) → put_queue q from to (queue q from to) ≡ q
put_same q from to = ap (slice_set q to) (set-get_or (slice_index_or q to []) from []) ∙ set-get_or q to []

-- a put keeps the numbers of receivers and senders
pub put_square : (n : ℕ) (q : Queues) (from to : ℕ) (list : List Message) → IsSquare n q → IsSquare n (put_queue q from to list)
put_square n q from to list s = record {
  receivers = length-set q to row ∙ s.receivers;
  senders = λ k below. ⊎_elim
      (λ e. ap length (ap (λ z. slice_index_or (slice_set q to row) z []) e ∙ get_or-set_same q to row [] (omega (arith, s.receivers, below, e))) ∙ length-set (slice_index_or q to []) from list ∙ s.senders to (omega (arith, below, e)))
      (λ e. ap length (get_or-set_other q to k row [] e) ∙ s.senders k below)
      (cases_eq k to);
}
  where
    row : List (List Message)
    row = slice_set (slice_index_or q to []) from list

pub stays_square : StaysSquare
stays_square = record {
  begins = λ n. record { receivers = length-replicate n (replicate n []); senders = λ to below. ap length (get_or-replicate n to (replicate n []) [] below) ∙ length-replicate n [] };
  stays = put_square;
}

-- what stands in a list after a put
put_item : {A : Type 0} (xs : List A) (at k : ℕ) (x d : A) → at < length xs → slice_index_or (slice_set xs at x) k d ≡ (if k == at then x else slice_index_or xs k d)
put_item xs at k x d within = ⊎_elim
    (λ e. rw (eq-eqb k at e) (ap (λ j. slice_index_or (slice_set xs at x) j d) e ∙ get_or-set_same xs at x d within))
    (λ e. rw (ne_eqb k at e) (get_or-set_other xs at k x d e))
    (cases_eq k at)

-- whatever two tests say
both_tests : {A : Type 0} (b c : Bool) (x y z : A) → (b ≡ true → y ≡ z) → (if b then (if c then x else y) else z) ≡ (if b && c then x else z)
both_tests true true x y z e = refl
both_tests true false x y z e = e refl
both_tests false c x y z e = refl

row_of_if : (b : Bool) (from : ℕ) (row other : List (List Message)) → slice_index_or (if b then row else other) from [] ≡ (if b then slice_index_or row from [] else slice_index_or other from [])
row_of_if true from row other = refl
row_of_if false from row other = refl

pub pair_alone : IsPairAlone
pair_alone n q from to other_from other_to list s from_within to_within =
    ap (λ r. slice_index_or r other_from []) (put_item q to other_to (slice_set (slice_index_or q to []) from list) [] (omega (arith, s.receivers, to_within)))
    ∙ row_of_if (other_to == to) other_from (slice_set (slice_index_or q to []) from list) (slice_index_or q other_to [])
    ∙ ap (λ l. if other_to == to then l else queue q other_from other_to) (put_item (slice_index_or q to []) from other_from list [] (omega (arith, s.senders to to_within, from_within)))
    ∙ both_tests (other_to == to) (other_from == from) list (queue q other_from to) (queue q other_from other_to) (λ e. ap (queue q other_from) (sym (eqb-true other_to to e)))

-- a receiver's row in the program, and the lists of all of them
abbrev pub Row : Type 0
Row = Vec Queue

abbrev pub lists_of : List Row → Queues
lists_of rows = map (λ row. row.items) rows

-- what the row of a receiver is
pub row_there : (rows : List Row) (to : ℕ) (row : Row) → to < length (lists_of rows) → row ≡ slice_index_or rows to row → row.items ≡ slice_index_or (lists_of rows) to []
row_there rows to row within is = ap (λ (r : Row). r.items) is ∙ sym (get_or-map (λ (r : Row). r.items) rows to row [] (omega (arith, within, length-map rows (λ (r : Row). r.items))))

pub row_length : (n : ℕ) (rows : List Row) (to : ℕ) (row : Row) → IsSquare n (lists_of rows) → to < n → row ≡ slice_index_or rows to row → length row.items ≡ n
row_length n rows to row s within is = ap length (row_there rows to row (omega (arith, s.receivers, within)) is) ∙ s.senders to within

-- what the list of a pair is
pub queue_there : (n : ℕ) (rows : List Row) (from to : ℕ) (row : Row) (list : List Message) → IsSquare n (lists_of rows) → from < n → to < n → row ≡ slice_index_or rows to row → list ≡ slice_index_or row.items from list → list ≡ queue (lists_of rows) from to
queue_there n rows from to row list s from_within to_within is at = at ∙ get_or_default row.items from list [] (omega (arith, from_within, row_length n rows to row s to_within is)) ∙ ap (λ r. slice_index_or r from []) (row_there rows to row (omega (arith, s.receivers, to_within)) is)

-- another list of one pair
pub row_put : (n : ℕ) (rows : List Row) (from to : ℕ) (row : Row) (list : List Message) → IsSquare n (lists_of rows) → to < n → row ≡ slice_index_or rows to row → lists_of (slice_set rows to (with_item row from list)) ≡ put_queue (lists_of rows) from to list
row_put n rows from to row list s within is = map-set (λ (r : Row). r.items) rows to (with_item row from list) ∙ ap (λ r. slice_set (lists_of rows) to (slice_set r from list)) (row_there rows to row (omega (arith, s.receivers, within)) is)

pub row_square : (n : ℕ) (rows : List Row) (from to : ℕ) (row : Row) (list : List Message) → IsSquare n (lists_of rows) → to < n → row ≡ slice_index_or rows to row → IsSquare n (lists_of (slice_set rows to (with_item row from list)))
row_square n rows from to row list s within is = subst (IsSquare n) (sym (row_put n rows from to row list s within is)) (put_square n (lists_of rows) from to list s)

-- the same list of one pair
pub row_kept : (n : ℕ) (rows : List Row) (from to : ℕ) (row : Row) (list new : List Message) → IsSquare n (lists_of rows) → from < n → to < n → row ≡ slice_index_or rows to row → list ≡ slice_index_or row.items from list → new ≡ list → lists_of (slice_set rows to (with_item row from new)) ≡ lists_of rows
row_kept n rows from to row list new s from_within to_within is at same = row_put n rows from to row new s to_within is ∙ ap (put_queue (lists_of rows) from to) (same ∙ queue_there n rows from to row list s from_within to_within is at) ∙ put_same (lists_of rows) from to

-- one message more
pub row_sent : (n : ℕ) (rows : List Row) (from to : ℕ) (row : Row) (list new : List Message) (m : Message) → IsSquare n (lists_of rows) → from < n → to < n → row ≡ slice_index_or rows to row → list ≡ slice_index_or row.items from list → new ≡ list ++ m ∷ [] → lists_of (slice_set rows to (with_item row from new)) ≡ sent (lists_of rows) from to m
row_sent n rows from to row list new m s from_within to_within is at more = row_put n rows from to row new s to_within is ∙ ap (put_queue (lists_of rows) from to) (more ∙ ap (λ l. l ++ m ∷ []) (queue_there n rows from to row list s from_within to_within is at))

-- without the first match
pub row_received : (n : ℕ) (rows : List Row) (from to : ℕ) (row : Row) (list new : List Message) (m : Message) (p : Pattern) → IsSquare n (lists_of rows) → from < n → to < n → row ≡ slice_index_or rows to row → list ≡ slice_index_or row.items from list → Some (record { taken = m; others = new }) ≡ take_first (matches p from) list
    → Some (record { source = from; message = m; queues = lists_of (slice_set rows to (with_item row from new)) }) ≡ taken_from (lists_of rows) to p from
row_received n rows from to row list new m p s from_within to_within is at e =
    ap (λ q. Some (record { source = from; message = m; queues = q })) (row_put n rows from to row new s to_within is)
    ∙ ap (option_map (received (lists_of rows) from to)) (e ∙ ap (take_first (matches p from)) (queue_there n rows from to row list s from_within to_within is at))
