-- A schedule has no more events than it counts.
use Rattle.std.proofs.Common.{◌≡◌, ℕ, zero, suc, ◌+◌, ◌*◌, ◌≤◌, List, [], ◌∷◌, ◌++◌, length, map, flat_map, replicate, arith, length-append}
use Rattle.std.specs.List.{range_with_len}
use Rattle.std.proofs.lemmas.List.FromFn.{length-map-range_with_len}
use Rattle.std.proofs.lemmas.List.Sums.{sum_by-cons}
use Rattle.std.proofs.Math.Nat.{mul-suc}
use Rattle.job_core.specs.declared.event.Event.{Event}
use Rattle.job_core.specs.declared.event.Event.TheVariants.{Turn, Sweep}
use Rattle.job_schedule.specs.declared.schedule.Word.{Word}
use Rattle.job_schedule.specs.declared.schedule.Word.TheVariants.{One, Round}
use Rattle.job_schedule.specs.declared.schedule.Entry.{Entry}
use Rattle.job_schedule.specs.Events.{count_of, entry_events, events_of, total_of, weight_of, word_events}

word_few : (n : ℕ) (w : Word) → n ≤ 64 → length (word_events n w) ≤ weight_of w
word_few n (One event) h = omega arith
word_few n Round h = omega (arith, length-append (map Turn (range_with_len 0 n)) (Sweep ∷ []), length-map-range_with_len Turn 0 n)

times_few : (n k : ℕ) (w : Word) → n ≤ 64 → length (flat_map (word_events n) (replicate k w)) ≤ weight_of w * k
times_few n zero w h = omega arith
times_few n (suc k) w h =
    let rest : List Event = flat_map (word_events n) (replicate k w) in
    let all : length (word_events n w ++ rest) ≡ length (word_events n w) + length rest = length-append (word_events n w) rest in
    let more : weight_of w * suc k ≡ weight_of w * k + weight_of w = mul-suc (weight_of w) k in
    let here = word_few n w h in
    let there = times_few n k w h in
    rw more (omega (arith, all, here, there))

few_more : (n : ℕ) (e : Entry) (es : List Entry) → length (entry_events n e) ≤ count_of e → length (events_of n es) ≤ total_of es → length (events_of n (e ∷ es)) ≤ total_of (e ∷ es)
few_more n e es h k =
    let all : length (events_of n (e ∷ es)) ≡ length (entry_events n e) + length (events_of n es) = length-append (entry_events n e) (events_of n es) in
    let total : total_of (e ∷ es) ≡ count_of e + total_of es = sum_by-cons count_of e es in
    rw (all, total) (omega (arith, h, k))

pub few : (n : ℕ) (entries : List Entry) → n ≤ 64 → length (events_of n entries) ≤ total_of entries
few n [] h = omega arith
few n (e ∷ es) h = few_more n e es (times_few n e.repeats e.what h) (few n es h)
