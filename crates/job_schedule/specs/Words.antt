-- The words of a schedule, and what each stands for.
use Rattle.std.specs.Prelude.{ℕ, ◌≡◌, ◌<◌, ◌≤◌, ◌^◌, min, List, ◌++◌, codes}
use Rattle.std.specs.Fmt.{decimal}
use Rattle.job_core.specs.declared.event.Event.TheVariants.{Turn, Deliver, Control, Sweep, Wave, Kill, Restart}
use Rattle.job_schedule.specs.declared.schedule.Word.{Word}
use Rattle.job_schedule.specs.declared.schedule.Word.TheVariants.{One, Round}
use Rattle.job_schedule.specs.declared.schedule.Entry.{Entry}

-- a number: one to nine digits without a leading zero, or 0
pub record IsNumber (text : List ℕ) (n : ℕ) : Type 0 where
  pub digits : text ≡ decimal n
  pub most : n < 10 ^ 9

-- a rank; a number too great for one stands for 65,535, which is no rank
pub data IsRank (text : List ℕ) : ℕ → Type 0 where
  numbered : (n : ℕ) → IsNumber text n → IsRank text (min n 65535)

-- a word without repeats
pub data IsWord (text : List ℕ) : Word → Type 0 where
  turn : (u : List ℕ) (rank : ℕ) → text ≡ codes "t" ++ u → IsRank u rank → IsWord text (One (Turn rank))
  kill : (u : List ℕ) (rank : ℕ) → text ≡ codes "k" ++ u → IsRank u rank → IsWord text (One (Kill rank))
  deliver : (u v : List ℕ) (from to : ℕ) → text ≡ codes "d" ++ (u ++ (codes ">" ++ v)) → IsRank u from → IsRank v to → IsWord text (One (Deliver from to))
  control : (u v : List ℕ) (from to : ℕ) → text ≡ codes "c" ++ (u ++ (codes ">" ++ v)) → IsRank u from → IsRank v to → IsWord text (One (Control from to))
  sweep : text ≡ codes "s" → IsWord text (One Sweep)
  wave : text ≡ codes "w" → IsWord text (One Wave)
  restart : text ≡ codes "x" → IsWord text (One Restart)
  round : text ≡ codes "r" → IsWord text Round

-- a word, or a word with a star and its repeats, at least one
pub data IsEntry (text : List ℕ) : Entry → Type 0 where
  once : (word : Word) → IsWord text word → IsEntry text (record { what = word; repeats = 1 })
  repeated : (u v : List ℕ) (word : Word) (n : ℕ) → text ≡ u ++ (codes "*" ++ v) → IsWord u word → IsNumber v n → 1 ≤ n → IsEntry text (record { what = word; repeats = n })
