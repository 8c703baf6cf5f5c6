-- The words of a schedule's text, and what each stands for, as they are read.
use Rattle.std.specs.Prelude.{ℕ, ◌+◌, min, Bool, true, false, not, ◌&&◌, ◌||◌, ◌==◌, nat_lt, if◌then◌else◌, List, [], ◌∷◌, ◌++◌, length, take, drop, slice_index, Option, Some, None, option_map, option_and_then, is_none, position, take_while, find, filter_map}
use Rattle.std.specs.Str.{all_ascii_digits}
use Rattle.std.specs.Str.Parse.{digits_value}
use Rattle.job_core.specs.declared.event.Event.TheVariants.{Turn, Deliver, Control, Sweep, Wave, Kill, Restart}
use Rattle.job_schedule.specs.declared.schedule.Word.{Word}
use Rattle.job_schedule.specs.declared.schedule.Word.TheVariants.{One, Round}
use Rattle.job_schedule.specs.declared.schedule.Entry.{Entry}
use Rattle.job_schedule.specs.Events.{total_of}
use Rattle.job_schedule.specs.Schedule.{Answer, Whole, BadEvent, TooMany, Piece, is_white, in_word}

-- ---- the words of a text

-- the word that a text begins with, at a place, if one can begin there
abbrev pub piece_at : Bool → ℕ → List ℕ → List Piece
piece_at true place text = record { place = place; bytes = take_while in_word text } ∷ []
piece_at false place text = []

-- the words of a text from a place on; a word begins at the start or after a white byte, and ends before the next white byte or at the end
abbrev pub pieces_from : Bool → ℕ → List ℕ → List Piece
pieces_from fresh place [] = []
pieces_from fresh place (b ∷ bs) = piece_at (fresh && in_word b) place (b ∷ bs) ++ pieces_from (is_white b) (place + 1) bs

abbrev pub pieces_of : List ℕ → List Piece
pieces_of text = pieces_from true 0 text

-- ---- numbers

-- the number that digits stand for
abbrev pub value_of : List ℕ → Option ℕ
value_of ds = if all_ascii_digits ds then Some (digits_value 10 ds) else None

-- at least one byte and at most nine, and no zero before others
abbrev pub is_short : List ℕ → Bool
is_short ds = not (length ds == 0 || nat_lt 9 (length ds)) && not (slice_index ds 0 == 48 && nat_lt 1 (length ds))

abbrev pub number_of : List ℕ → Option ℕ
number_of ds = if is_short ds then value_of ds else None

abbrev pub rank_of : List ℕ → Option ℕ
rank_of ds = option_map (λ n. min n 65535) (number_of ds)

-- ---- words

abbrev pub turn_of : List ℕ → Option Word
turn_of rest = option_map (λ r. One (Turn r)) (rank_of rest)

abbrev pub kill_of : List ℕ → Option Word
kill_of rest = option_map (λ r. One (Kill r)) (rank_of rest)

-- two ranks around a place, and around > (62)
abbrev pub ranks_at : List ℕ → ℕ → Option (ℕ × ℕ)
ranks_at text at = option_and_then (λ from. option_map (λ to. (from, to)) (rank_of (drop (at + 1) text))) (rank_of (take at text))

abbrev pub ranks_of : List ℕ → Option (ℕ × ℕ)
ranks_of text = option_and_then (ranks_at text) (position (λ b. b == 62) text)

abbrev pub deliver_of : List ℕ → Option Word
deliver_of rest = option_map (λ pair. One (Deliver pair.0 pair.1)) (ranks_of rest)

abbrev pub control_of : List ℕ → Option Word
control_of rest = option_map (λ pair. One (Control pair.0 pair.1)) (ranks_of rest)

-- nothing follows the letter
abbrev pub alone : Word → List ℕ → Option Word
alone word rest = if length rest == 0 then Some word else None

-- the letters t, k, d, c, s, w, x and r
abbrev pub by_letter : ℕ → List ℕ → Option Word
by_letter letter rest =
    if letter == 116 then turn_of rest else (
    if letter == 107 then kill_of rest else (
    if letter == 100 then deliver_of rest else (
    if letter == 99 then control_of rest else (
    if letter == 115 then alone (One Sweep) rest else (
    if letter == 119 then alone (One Wave) rest else (
    if letter == 120 then alone (One Restart) rest else (
    if letter == 114 then alone Round rest else None)))))))

abbrev pub word_of : List ℕ → Option Word
word_of [] = None
word_of (letter ∷ rest) = by_letter letter rest

-- at least one
abbrev pub repeats_of : List ℕ → Option ℕ
repeats_of text = option_and_then (λ n. if n == 0 then None else Some n) (number_of text)

abbrev pub times : Option ℕ → Option Word → Option Entry
times n word = option_and_then (λ w. option_map (λ k. record { what = w; repeats = k }) n) word

-- a word, or a word and its repeats around a place
abbrev pub entry_at : List ℕ → Option ℕ → Option Entry
entry_at text None = times (Some 1) (word_of text)
entry_at text (Some at) = times (repeats_of (drop (at + 1) text)) (word_of (take at text))

-- around * (42)
abbrev pub entry_of : List ℕ → Option Entry
entry_of text = entry_at text (position (λ b. b == 42) text)

-- ---- schedules

abbrev pub stands_for : Piece → Option Entry
stands_for p = entry_of p.bytes

abbrev pub entries_in : List Piece → List Entry
entries_in pieces = filter_map stands_for pieces

abbrev pub first_bad : List Piece → Option ℕ
first_bad pieces = option_map (λ p. p.place) (find (λ p. is_none (stands_for p)) pieces)

-- the answer where no word is bad
abbrev pub by_total : List Entry → Answer
by_total entries = if nat_lt 200000 (total_of entries) then TooMany (total_of entries) else Whole entries

-- the answer, where the first bad word is at the place, if any is
abbrev pub by_bad : Option ℕ → List Entry → Answer
by_bad (Some place) entries = BadEvent place
by_bad None entries = by_total entries

-- the answer to the words of a text
abbrev pub answer_of : List Piece → Answer
answer_of pieces = by_bad (first_bad pieces) (entries_in pieces)
