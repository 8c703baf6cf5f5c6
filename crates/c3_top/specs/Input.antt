-- What the input holds: the text of a program, and a schedule.
use Rattle.std.specs.Prelude.{ℕ, suc, Bool, true, ◌&&◌, ◌||◌, not, ◌==◌, List, [], ◌∷◌, length, take, drop, take_while, codes, Option, Some, None, option_map, if◌then◌else◌}
use Rattle.std.specs.List.{list_all}
use Rattle.std.specs.Str.{bytes_eq}
use Rattle.job_core.specs.declared.event.Event.{Event}
use Rattle.job_core.specs.declared.event.Event.TheVariants.{Turn, Deliver, Control, Sweep, Wave, Kill, Restart}

pub record Parts : Type 0 where
  pub text : List ℕ
  pub schedule : List ℕ

-- ---- the line `#pragma ccc schedule`, with spaces, tabs and carriage returns at its ends

abbrev pub is_end : ℕ → Bool
is_end b = b == 32 || (b == 9 || b == 13)

abbrev pub is_feed : ℕ → Bool
is_feed b = b == 10

-- a text without its first bytes that pass a test
abbrev pub skip_while : (ℕ → Bool) → List ℕ → List ℕ
skip_while f [] = []
skip_while f (b ∷ bs) = if f b then skip_while f bs else b ∷ bs

abbrev pub is_marked : List ℕ → Bool
is_marked text = bytes_eq (take 20 text) (codes "#pragma ccc schedule") && list_all is_end (drop 20 text)

abbrev pub is_schedule_line : List ℕ → Bool
is_schedule_line line = is_marked (skip_while is_end line)

-- the line that a text begins with, and what follows its line feed
abbrev pub line_of : List ℕ → List ℕ
line_of text = take_while (λ b. not (is_feed b)) text

abbrev pub after_line : List ℕ → List ℕ
after_line text = drop (suc (length (line_of text))) text

-- what stands before the first such line, and what follows it; the first byte begins a line, or doesn't
abbrev pub split_from : Bool → List ℕ → Option Parts
split_from fresh [] = None
split_from fresh (b ∷ bs) =
    if fresh && is_schedule_line (line_of (b ∷ bs)) then Some (record { text = []; schedule = after_line (b ∷ bs) })
    else option_map {T = Parts} (λ p. record p { text = b ∷ p.text }) (split_from (is_feed b) bs)

-- without such a line all is the program's text
abbrev pub parts_of : List ℕ → Parts
parts_of input = elim (split_from true input) [ None ↦ record { text = input; schedule = codes "r*3076" } | Some p ↦ p ]

-- ---- the turns among events, by their ranks

abbrev pub turn_in : Event → List ℕ
turn_in (Turn k) = k ∷ []
turn_in (Deliver from to) = []
turn_in (Control from to) = []
turn_in Sweep = []
turn_in Wave = []
turn_in (Kill k) = []
turn_in Restart = []
