-- The files that the core's effects write: images and logs, each rank's output, and the committed line.
use Rattle.std.specs.Prelude.{◌≡◌, ℕ, ◌<◌, true, List, [], ◌∷◌, ◌++◌, length, take, ◌==◌, if◌then◌else◌}
use Rattle.core_laws.specs.Rows.{set_at}
use Rattle.core_laws.specs.Written.{Written}
use Rattle.core_laws.specs.Handling.{after_save, after_stop}
use Rattle.core_laws.specs.Core.{Core}
use Rattle.core_laws.specs.Effects.{Effect, Writes, Saves, Logs, Commits}

-- What the files hold, without their bytes.
pub record Files (S : Type 0) : Type 0 where
  -- images and logs of the line to come
  pub new : ℕ → Written S
  -- those of the committed line, and which line it is
  pub committed : ℕ → Written S
  pub line : ℕ
  -- each rank's output
  pub output : ℕ → List ℕ

abbrev pub with_effect : {S : Type 0} → Files S → Effect S → Files S
with_effect f (Writes r bytes) = record f { output = set_at f.output r (f.output r ++ bytes) }
with_effect f (Saves r k early) = record f { new = set_at f.new r (record (f.new r) { image = k; early = early }) }
with_effect f (Logs r log ops) = record f { new = set_at f.new r (record (f.new r) { log = log; ops = ops }) }
with_effect f (Commits l) = record f { committed = f.new; line = l }

abbrev pub with_effects : {S : Type 0} → Files S → List (Effect S) → Files S
with_effects f [] = f
with_effects f (e ∷ es) = with_effects (with_effect f e) es

-- Before a restart each output is cut to the length that the committed line's image has of it, or to nothing where there is no line.
abbrev pub cut_back : {S : Type 0} → Files S → Files S
cut_back f = record f { output = λ r. if f.line == 0 then [] else take (length (f.committed r).image.output) (f.output r) }

-- the same image, with the same early counts
pub record IsImage {S : Type 0} (w v : Written S) : Type 0 where
  pub image : w.image ≡ v.image
  pub early : (s : ℕ) → w.early s ≡ v.early s

-- the same log, and as many operations
pub record IsLog {S : Type 0} (w v : Written S) : Type 0 where
  pub log : w.log ≡ v.log
  pub ops : w.ops ≡ v.ops

-- The files have the images and logs that the core says it has written, and the committed line.
pub record LinesFiled {S : Type 0} (n : ℕ) (f : Files S) (c : Core S) : Type 0 where
  pub images : (r : ℕ) → r < n → after_save c.protocol r ≡ true → IsImage (f.new r) (c.written r)
  pub logs : (r : ℕ) → r < n → after_stop c.protocol r ≡ true → IsLog (f.new r) (c.written r)
  pub line : f.line ≡ c.protocol.wave.line
  pub committed_images : 0 < c.protocol.wave.line → (r : ℕ) → r < n → IsImage (f.committed r) (c.saved r)
  pub committed_logs : 0 < c.protocol.wave.line → (r : ℕ) → r < n → IsLog (f.committed r) (c.saved r)

-- ys are the first of xs
pub record StartsWith (xs ys : List ℕ) : Type 0 where
  pub rest : List ℕ
  pub is : xs ≡ ys ++ rest

-- Each output file has its rank's output, and begins with the output of the committed line's image, and with that of the image of the line to come.
pub record OutputsFiled {S : Type 0} (n : ℕ) (f : Files S) (c : Core S) : Type 0 where
  pub outputs : (r : ℕ) → r < n → f.output r ≡ (c.one r).rank.output
  pub committed : (r : ℕ) → r < n → StartsWith (f.output r) (c.saved r).image.output
  pub written : (r : ℕ) → r < n → StartsWith (f.output r) (c.written r).image.output

-- All that the core says it has written is in the files.
pub record Filed {S : Type 0} (n : ℕ) (f : Files S) (c : Core S) : Type 0 where
  pub lines : LinesFiled n f c
  pub outputs : OutputsFiled n f c
