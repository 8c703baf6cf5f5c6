-- What a job's files stand for, whichever bytes a stop has left in the rest.
use Rattle.std.specs.Prelude.{ℕ, zero, suc, ◌+◌, ◌*◌, ◌%◌, min, Bool, ◌==◌, List, [], ◌∷◌, ◌++◌, take, get_or, Option, None, Some, if◌then◌else◌}
use Rattle.disk_model.specs.Disk.{Contents}

abbrev pub output_file : ℕ → ℕ
output_file rank = 5 + 5 * rank

abbrev pub image_file : ℕ → ℕ → ℕ
image_file rank line = 6 + 5 * rank + line % 2

abbrev pub log_file : ℕ → ℕ → ℕ
log_file rank line = 8 + 5 * rank + line % 2

-- the leading bytes 0x01
abbrev pub leading : List ℕ → ℕ
leading [] = 0
leading (b ∷ bytes) = if b == 1 then suc (leading bytes) else 0

-- the committed line
abbrev pub line_of : List ℕ → ℕ
line_of bytes = min (leading bytes) 65535

-- the gate is open
abbrev pub opens_gate : List ℕ → Bool
opens_gate bytes = get_or bytes 0 0 == 74

-- the job is finished
abbrev pub opens_end : List ℕ → Bool
opens_end bytes = get_or bytes 0 0 == 69

-- the ranks that a job's text names, and the length of output that an image's text names
unfoldable pub ranks_of : List ℕ → ℕ
ranks_of job = get_or job 6 0 + 256 * get_or job 7 0

unfoldable pub output_of : List ℕ → ℕ
output_of image = get_or image 20 0 + 256 * get_or image 21 0 + 65536 * get_or image 22 0 + 16777216 * get_or image 23 0

-- f at each number below n
abbrev pub table : {A : Type 0} → (ℕ → A) → ℕ → List A
table f zero = []
table f (suc n) = table f n ++ f n ∷ []

-- what a line holds of a rank: its image, its log, and its output as far as the image names it
pub record Saved : Type 0 where
  pub image : List ℕ
  pub log : List ℕ
  pub output : List ℕ

abbrev pub saved : Contents → ℕ → ℕ → Saved
saved c line rank = record {
  image = c (image_file rank line);
  log = c (log_file rank line);
  output = take (output_of (c (image_file rank line))) (c (output_file rank));
}

-- what the ends and the outputs are
pub record Finished : Type 0 where
  pub ends : List ℕ
  pub outputs : List (List ℕ)

pub record Reading : Type 0 where
  pub job : List ℕ
  pub line : ℕ
  pub states : List Saved
  pub finished : Option Finished

abbrev pub states : Contents → ℕ → List Saved
states c zero = []
states c (suc line) = table (saved c (suc line)) (ranks_of (c 0))

abbrev pub finished : Contents → Option Finished
finished c = if opens_end (c 4) then Some (record { ends = c 3; outputs = table (λ rank. c (output_file rank)) (ranks_of (c 0)) }) else None

-- the reading, were this line the committed one
abbrev pub reading_at : Contents → ℕ → Reading
reading_at c line = record { job = c 0; line = line; states = states c line; finished = finished c }

-- the reading, where the gate is open
abbrev pub reading : Contents → Option Reading
reading c = if opens_gate (c 1) then Some (reading_at c (line_of (c 2))) else None
