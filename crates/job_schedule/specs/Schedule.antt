-- What a text says as a schedule.
use Rattle.std.specs.Prelude.{ℕ, ◌≡◌, ◌<◌, ◌≤◌, ◌+◌, Bool, true, not, ◌||◌, ◌==◌, List, [], ◌∷◌, ◌++◌, length, Option, Some, None, Result, Ok, Err}
use Rattle.std.specs.List.{AllZip, list_all}
use Rattle.job_schedule.specs.declared.fault.ScheduleFault.{ScheduleFault}
use Rattle.job_schedule.specs.declared.fault.ScheduleFault.TheVariants as fault
use Rattle.job_schedule.specs.declared.schedule.Entry.{Entry}
use Rattle.job_schedule.specs.Events.{total_of}
use Rattle.job_schedule.specs.Words.{IsEntry}

-- a space, a tab, a carriage return or a line feed
abbrev pub is_white : ℕ → Bool
is_white b = b == 32 || (b == 9 || (b == 13 || b == 10))

abbrev pub in_word : ℕ → Bool
in_word b = not (is_white b)

-- nothing, or a white byte and more
abbrev pub ends_word : List ℕ → Bool
ends_word [] = true
ends_word (b ∷ bs) = is_white b

-- a word of a text: the place of its first byte, and its bytes
pub record Piece : Type 0 where
  pub place : ℕ
  pub bytes : List ℕ

-- the words of a text that begins at a place; a word ends before a white byte or at the text's end
pub data Pieces : (place : ℕ) (text : List ℕ) → List Piece → Type 0 where
  empty : (place : ℕ) → Pieces place [] []
  white : (place b : ℕ) (rest : List ℕ) (pieces : List Piece) → is_white b ≡ true → Pieces (place + 1) rest pieces → Pieces place (b ∷ rest) pieces
  word : (place : ℕ) (b : ℕ) (w rest : List ℕ) (pieces : List Piece) → list_all in_word (b ∷ w) ≡ true → ends_word rest ≡ true → Pieces (place + length (b ∷ w)) rest pieces → Pieces place (b ∷ w ++ rest) (record { place = place; bytes = b ∷ w } ∷ pieces)

-- these words stand for the entries, each for one
abbrev pub Stand : List Piece → List Entry → Type 0
Stand pieces entries = AllZip (λ p e. IsEntry p.bytes e) pieces entries

-- what a text is: a schedule, or one with a bad word, or one of too many events
pub data Answer : Type 0 where
  Whole : (entries : List Entry) → Answer
  BadEvent : (place : ℕ) → Answer
  TooMany : (count : ℕ) → Answer

-- the answer to a text; the bad word is the first that stands for nothing
pub data Reads (text : List ℕ) : Answer → Type 0 where
  whole : (pieces : List Piece) (entries : List Entry) → Pieces 0 text pieces → Stand pieces entries → total_of entries ≤ 200000 → Reads text (Whole entries)
  bad : (before after : List Piece) (p : Piece) (entries : List Entry) → Pieces 0 text (before ++ p ∷ after) → Stand before entries → ((e : Entry) → IsEntry p.bytes e → ⊥) → Reads text (BadEvent p.place)
  many : (pieces : List Piece) (entries : List Entry) → Pieces 0 text pieces → Stand pieces entries → 200000 < total_of entries → Reads text (TooMany (total_of entries))

-- nothing, where memory ran out
abbrev pub said : Result (List Entry) ScheduleFault → Option Answer
said (Ok entries) = Some (Whole entries)
said (Err (fault.BadEvent place)) = Some (BadEvent place)
said (Err (fault.TooMany count)) = Some (TooMany count)
said (Err fault.NoMemory) = None
