-- What the files of a line come to.
use Rattle.std.specs.Prelude.{◌≡◌, ◌⊎◌, ℕ, ◌<◌, true, List, Err, map}
use Rattle.disk_model.specs.Disk.{Contents}
use Rattle.file_fields.specs.Forms.{Form, fit_each, read_whole}
use Rattle.image_text.specs.Texts.{image_form}
use Rattle.image_text.specs.declared.image.Image.{Image}
use Rattle.late_logs.specs.Texts.{log_form}
use Rattle.late_logs.specs.declared.log.Log.{Log}
use Rattle.line_store.specs.Held.{Standing}
use Rattle.line_store.specs.Reading.{image_file, log_file, table}

-- So many values, each within its limits.
abbrev pub AllFit : {A : Type 0} → Form A → ℕ → List A → Type 0
AllFit F count values = fit_each (λ at. F) 0 count values ≡ true

-- All files of these ranks are the texts of these values, in order.
pub record AreTexts {A : Type 0} (F : Form A) (ranks : ℕ) (text : ℕ → List ℕ) (values : List A) : Type 0 where
  pub fits : AllFit F ranks values
  pub texts : map F.text values ≡ table text ranks

-- The first file that is no text is that of this rank, from this place on.
pub record IsFirstWrong {A : Type 0} (F : Form A) (ranks : ℕ) (text : ℕ → List ℕ) (rank at : ℕ) : Type 0 where
  pub values : List A
  pub inside : rank < ranks
  pub before : AreTexts F rank text values
  pub wrong : read_whole F (text rank) ≡ Err at

-- It is an image's.
pub record IsImageWrong (c : Contents) (ranks line file at : ℕ) : Type 0 where
  pub rank : ℕ
  pub same : file ≡ image_file rank line
  pub first : IsFirstWrong image_form ranks (λ r. c (image_file r line)) rank at

-- It is a log's.
pub record IsLogWrong (c : Contents) (ranks line file at : ℕ) : Type 0 where
  pub rank : ℕ
  pub same : file ≡ log_file rank line
  pub first : IsFirstWrong log_form ranks (λ r. c (log_file r line)) rank at

-- The first file of a line that is none: an image's, or a log's where all images are right.
abbrev pub IsLineWrong : Contents → ℕ → ℕ → ℕ → ℕ → Type 0
IsLineWrong c ranks line file at = IsImageWrong c ranks line file at ⊎ ((images : List Image) × AreTexts image_form ranks (λ r. c (image_file r line)) images × IsLogWrong c ranks line file at)

-- They are the images and logs of the committed line.
pub record AreOf (ranks : ℕ) (images : List Image) (logs : List Log) (s : Standing) : Type 0 where
  pub image : AreTexts image_form ranks (λ r. (s.committed r).image) images
  pub log : AreTexts log_form ranks (λ r. (s.committed r).log) logs
