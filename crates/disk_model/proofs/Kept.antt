-- What a disk in memory keeps: its files are those after its calls.
use Rattle.std.proofs.Common.{◌≡◌, ℕ, false, ◌==◌, if◌then◌else◌, List, [], ◌∷◌, ◌++◌, sym, ◌∙◌, ap}
use Rattle.std.proofs.lemmas.Bool.{true≢false}
use Rattle.std.proofs.lemmas.List.{map-append}
use Rattle.std.specs.Prelude.{Result, Ok, Err, OnOk, OnErr}
use Rattle.std.specs.Result.{is_err}
use Rattle.disk_model.specs.declared.calls.Choice.{Choice}
use Rattle.disk_model.specs.declared.calls.Call.{Call}
use Rattle.disk_model.specs.declared.calls.Call.TheVariants.{Stop}
use Rattle.disk_model.specs.declared.file.MemFile.{MemFile}
use Rattle.disk_model.specs.Files.{Change, Stops, FileState, at_rest, left_by, on_file, is_on, files_after}
use Rattle.disk_model.specs.Stored.{change, changes, state_in, AreAfter}
use Rattle.disk_model.proofs.Replays.{pushed}

-- what holds after an Ok, of a result that is no error
pub from_ok : {T E : Type 0} (r : Result T E) (P : Type 0) → is_err r ≡ false → OnOk r P → P
from_ok (Ok x) P is p = p
from_ok (Err e) P is p = absurd (true≢false is)

module _ (calls now : List Call) (files new : List MemFile) (are : AreAfter calls files) where
  module _ (file : ℕ) (call : Call) (on : (f : ℕ) → is_on (change call) f ≡ (f == file)) where
    after-ok : now ≡ calls ++ call ∷ [] → ((f : ℕ) → state_in new f ≡ (if f == file then on_file (change call) (state_in files f) else state_in files f)) → AreAfter now new
    after-ok noted done f = done f
        ∙ ap (λ (s : FileState). if f == file then on_file (change call) s else s) (are f)
        ∙ ap (λ t. if t then on_file (change call) (files_after (changes calls) f) else files_after (changes calls) f) (sym (on f))
        ∙ sym (pushed (changes calls) (change call) f)
        ∙ ap (λ (l : List Change). files_after l f) (sym (ap changes noted ∙ map-append change calls (call ∷ [])))

    -- whatever a call that adds a change answers
    pub after-call : {T E : Type 0} (r : Result T E) → OnOk r (now ≡ calls ++ call ∷ []) → OnOk r ((f : ℕ) → state_in new f ≡ (if f == file then on_file (change call) (state_in files f) else state_in files f))
        → OnErr r (now ≡ calls) → OnErr r ((f : ℕ) → state_in new f ≡ state_in files f) → AreAfter now new
    after-call (Ok x) noted done same unchanged = after-ok noted done
    after-call (Err e) noted done same unchanged = λ f. unchanged f ∙ are f ∙ ap (λ (l : List Call). files_after (changes l) f) (sym same)

  pub after-stop : (choice : Choice) → now ≡ calls ++ Stop choice ∷ [] → ((f : ℕ) → state_in new f ≡ at_rest (left_by choice (state_in files f))) → AreAfter now new
  after-stop choice noted done f = done f
      ∙ ap (λ (s : FileState). at_rest (left_by choice s)) (are f)
      ∙ sym (pushed (changes calls) (Stops choice) f)
      ∙ ap (λ (l : List Change). files_after l f) (sym (ap changes noted ∙ map-append change calls (Stop choice ∷ [])))
