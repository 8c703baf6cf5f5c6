-- What the entries of a schedule stand for.
use Rattle.std.specs.Prelude.{ℕ, ◌*◌, List, [], ◌∷◌, ◌++◌, map, replicate, sum_by, flat_map}
use Rattle.std.specs.List.{range_with_len}
use Rattle.job_core.specs.declared.event.Event.{Event}
use Rattle.job_core.specs.declared.event.Event.TheVariants.{Turn, Sweep}
use Rattle.job_schedule.specs.declared.schedule.Word.{Word}
use Rattle.job_schedule.specs.declared.schedule.Word.TheVariants.{One, Round}
use Rattle.job_schedule.specs.declared.schedule.Entry.{Entry}

-- the events of a word for n ranks; a round is a turn of each rank and then a sweep
abbrev pub word_events : ℕ → Word → List Event
word_events n (One event) = event ∷ []
word_events n Round = map Turn (range_with_len 0 n) ++ Sweep ∷ []

-- of an entry: those of its word, repeated
abbrev pub entry_events : ℕ → Entry → List Event
entry_events n e = flat_map (word_events n) (replicate e.repeats e.what)

-- of a schedule
abbrev pub events_of : ℕ → List Entry → List Event
events_of n entries = flat_map (entry_events n) entries

-- what a word counts as; a round counts as 65, whatever the number of ranks
abbrev pub weight_of : Word → ℕ
weight_of (One event) = 1
weight_of Round = 65

-- what an entry counts as, and a schedule
abbrev pub count_of : Entry → ℕ
count_of e = weight_of e.what * e.repeats

abbrev pub total_of : List Entry → ℕ
total_of entries = sum_by count_of entries
