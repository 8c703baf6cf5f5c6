-- What is written of ranks, one after the other.
use Rattle.std.proofs.Common.{◌≡◌, ℕ, zero, suc, ◌+◌, ◌<◌, ◌≤◌, Bool, true, false, ◌&&◌, List, [], ◌∷◌, ◌++◌, length, drop, Option, Some, None, refl, ap, sym, ◌∙◌, arith, append_assoc, add-one}
use Rattle.std.specs.Prelude.{slice_get, codes, is_none, is_some, not}
use Rattle.mpi_words.specs.declared.operation.End.{End}
use Rattle.std.specs.Fmt.{decimal}
use Rattle.std.proofs.lemmas.List.{drop_all}
use Rattle.plain_job.specs.Job.{Standing, Runs, Ended, Rank, end_of}
use Rattle.c3_top.specs.Run.{finished_from, unfinished_from, ended_text, left_text, ended_at, left_at, all_ended, has_ended, name_text, doing_text, bytes_text}

-- of the k-th rank, which is called by another number
abbrev ended_as : List Rank → ℕ → ℕ → List ℕ
ended_as ranks k n = elim (slice_get ranks k) [ None ↦ [] | Some r ↦ ended_text n r.standing r.output ]

abbrev left_as : List Rank → ℕ → ℕ → List ℕ
left_as ranks k n = elim (slice_get ranks k) [ None ↦ [] | Some r ↦ left_text n r ]

finished_next : (ranks : List Rank) (k n : ℕ) → k < length ranks → finished_from n (drop k ranks) ≡ ended_as ranks k n ++ finished_from (suc n) (drop (suc k) ranks)
finished_next [] k n h = absurd (omega arith)
finished_next (r ∷ rs) zero n h = refl
finished_next (r ∷ rs) (suc k) n h = finished_next rs k n (omega arith)

left_next : (ranks : List Rank) (k n : ℕ) → k < length ranks → unfinished_from n (drop k ranks) ≡ left_as ranks k n ++ unfinished_from (suc n) (drop (suc k) ranks)
left_next [] k n h = absurd (omega arith)
left_next (r ∷ rs) zero n h = refl
left_next (r ∷ rs) (suc k) n h = left_next rs k n (omega arith)

-- what is written and what is left to write
pub finished_more : (ranks : List Rank) (k m : ℕ) (old new all : List ℕ) → k < length ranks → m ≡ k + 1 → new ≡ old ++ ended_at ranks k → old ++ finished_from k (drop k ranks) ≡ all → new ++ finished_from m (drop m ranks) ≡ all
finished_more ranks k m old new all h e f g =
    let s : m ≡ suc k = e ∙ add-one k in
    ap (λ l. l ++ finished_from m (drop m ranks)) f ∙ append_assoc old (ended_at ranks k) (finished_from m (drop m ranks))
    ∙ ap (λ j. old ++ (ended_at ranks k ++ finished_from j (drop j ranks))) s ∙ ap (λ l. old ++ l) (sym (finished_next ranks k k h)) ∙ g

pub left_more : (ranks : List Rank) (k m : ℕ) (old new all : List ℕ) → k < length ranks → m ≡ k + 1 → new ≡ old ++ left_at ranks k → old ++ unfinished_from k (drop k ranks) ≡ all → new ++ unfinished_from m (drop m ranks) ≡ all
left_more ranks k m old new all h e f g =
    let s : m ≡ suc k = e ∙ add-one k in
    ap (λ l. l ++ unfinished_from m (drop m ranks)) f ∙ append_assoc old (left_at ranks k) (unfinished_from m (drop m ranks))
    ∙ ap (λ j. old ++ (left_at ranks k ++ unfinished_from j (drop j ranks))) s ∙ ap (λ l. old ++ l) (sym (left_next ranks k k h)) ∙ g

pub finished_end : (ranks : List Rank) (k : ℕ) (text : List ℕ) → length ranks ≤ k → text ++ finished_from k (drop k ranks) ≡ finished_from 0 ranks → text ++ codes "finished\n" ≡ finished_from 0 ranks
finished_end ranks k text h g = ap (λ l. text ++ finished_from k l) (sym (drop_all k ranks h)) ∙ g

pub left_end : (ranks : List Rank) (k : ℕ) (text : List ℕ) → length ranks ≤ k → text ++ unfinished_from k (drop k ranks) ≡ unfinished_from 0 ranks → text ++ codes "unfinished\n" ≡ unfinished_from 0 ranks
left_end ranks k text h g = ap (λ l. text ++ unfinished_from k l) (sym (drop_all k ranks h)) ∙ g

-- ---- what is written of one, by its parts

abbrev output_in : List Rank → ℕ → List ℕ
output_in ranks k = elim (slice_get ranks k) [ None ↦ [] | Some r ↦ r.output ]

abbrev ops_in : List Rank → ℕ → ℕ
ops_in ranks k = elim (slice_get ranks k) [ None ↦ 0 | Some r ↦ r.ops ]

abbrev end_in : List Rank → ℕ → Option End
end_in ranks k = elim (slice_get ranks k) [ None ↦ None | Some r ↦ end_of r.standing ]

some_ended : (s : Standing) → has_ended s ≡ is_some (end_of s)
some_ended (Runs s) = refl
some_ended (Ended e) = refl

left_parts : (ranks : List Rank) (k n : ℕ) → k < length ranks → left_as ranks k n ≡ name_text n ++ doing_text (is_some (end_in ranks k)) ++ decimal (ops_in ranks k) ++ bytes_text (output_in ranks k)
left_parts [] k n h = absurd (omega arith)
left_parts (r ∷ rs) zero n h = ap (λ b. name_text n ++ doing_text b ++ decimal r.ops ++ bytes_text r.output) (some_ended r.standing)
left_parts (r ∷ rs) (suc k) n h = left_parts rs k n (omega arith)

regrouped : (a b c d e : List ℕ) → (((a ++ b) ++ c) ++ d) ++ e ≡ a ++ (((b ++ c) ++ d) ++ e)
regrouped a b c d e = ap (λ l. l ++ e) (ap (λ l. l ++ d) (append_assoc a b c) ∙ append_assoc a (b ++ c) d) ∙ append_assoc a ((b ++ c) ++ d) e

pub left_pushed : (ranks : List Rank) (k ops : ℕ) (b : Bool) (output a0 a1 a2 a3 a4 : List ℕ) → k < length ranks → a1 ≡ a0 ++ name_text k → a2 ≡ a1 ++ doing_text b → b ≡ is_some (end_in ranks k) → a3 ≡ a2 ++ decimal ops → ops ≡ ops_in ranks k
    → a4 ≡ a3 ++ bytes_text output → output ≡ output_in ranks k → a4 ≡ a0 ++ left_at ranks k
left_pushed ranks k ops b output a0 a1 a2 a3 a4 h e1 e2 eb e3 eo e4 ep =
    let parts : left_at ranks k ≡ name_text k ++ doing_text b ++ decimal ops ++ bytes_text output = rw (eb, eo, ep) (left_parts ranks k k h) in
    e4 ∙ ap (λ l. l ++ bytes_text output) (e3 ∙ ap (λ l. l ++ decimal ops) (e2 ∙ ap (λ l. l ++ doing_text b) e1))
    ∙ regrouped a0 (name_text k) (doing_text b) (decimal ops) (bytes_text output) ∙ ap (λ l. a0 ++ l) (sym parts)

-- ---- whether all have ended

still_runs : (s : Standing) → is_none (end_of s) ≡ true → has_ended s ≡ false
still_runs (Runs s) h = refl
still_runs (Ended e) h = absurd cc

is_over : (s : Standing) → is_none (end_of s) ≡ false → has_ended s ≡ true
is_over (Runs s) h = absurd cc
is_over (Ended e) h = refl

pub none_told : (o p : Option End) (r : Bool) → is_some o ≡ not r → r ≡ true → o ≡ p → is_none p ≡ true
none_told None p true h e f = ap is_none (sym f)
none_told None p false h e f = absurd cc
none_told (Some x) p true h e f = absurd cc
none_told (Some x) p false h e f = absurd cc

pub some_told : (o p : Option End) (r : Bool) → is_some o ≡ not r → r ≡ false → o ≡ p → is_none p ≡ false
some_told None p true h e f = absurd cc
some_told None p false h e f = absurd cc
some_told (Some x) p true h e f = absurd cc
some_told (Some x) p false h e f = ap is_none (sym f)

pub one_runs : (ranks : List Rank) (k : ℕ) → k < length ranks → is_none (end_in ranks k) ≡ true → all_ended (drop k ranks) ≡ false
one_runs [] k h e = absurd (omega arith)
one_runs (r ∷ rs) zero h e = ap (λ b. b && all_ended rs) (still_runs r.standing e)
one_runs (r ∷ rs) (suc k) h e = one_runs rs k (omega arith) e

one_over : (ranks : List Rank) (k : ℕ) → k < length ranks → is_none (end_in ranks k) ≡ false → all_ended (drop k ranks) ≡ all_ended (drop (suc k) ranks)
one_over [] k h e = absurd (omega arith)
one_over (r ∷ rs) zero h e = ap (λ b. b && all_ended rs) (is_over r.standing e)
one_over (r ∷ rs) (suc k) h e = one_over rs k (omega arith) e

pub over_so_far : (ranks : List Rank) (k m : ℕ) → k < length ranks → m ≡ k + 1 → is_none (end_in ranks k) ≡ false → all_ended (drop k ranks) ≡ all_ended ranks → all_ended (drop m ranks) ≡ all_ended ranks
over_so_far ranks k m h s e f = ap (λ n. all_ended (drop n ranks)) (s ∙ add-one k) ∙ sym (one_over ranks k h e) ∙ f
