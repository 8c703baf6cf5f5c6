-- The files of a line, read one after another.
use Rattle.std.proofs.Common.{◌≡◌, ℕ, zero, suc, ◌+◌, ◌<◌, true, List, [], ◌∷◌, ◌++◌, Result, Ok, Err, ⊎_elim, inl, inr, refl, sym, ◌∙◌, ap, subst, arith}
use Rattle.std.proofs.lemmas.List.{map-append}
use Rattle.std.proofs.lemmas.Bool.{and_parts, and_from, true≢false}
use Rattle.disk_model.specs.Disk.{Contents, View}
use Rattle.file_fields.specs.Forms.{Form, fit_each, read_whole}
use Rattle.file_fields.proofs.Laws.{IsForm}
use Rattle.image_text.proofs.Lawful.{image-form}
use Rattle.image_text.specs.Texts.{image_form}
use Rattle.image_text.specs.declared.image.Image.{Image}
use Rattle.late_logs.proofs.Lawful.{log-form}
use Rattle.late_logs.specs.Texts.{log_form}
use Rattle.late_logs.specs.declared.log.Log.{Log}
use Rattle.line_store.specs.declared.fault.StoreFault.{StoreFault}
use Rattle.line_store.specs.declared.fault.StoreFault.TheVariants.{DiskFault, JobThere, NoJob, Damaged, NoMemory}
use Rattle.line_store.specs.Answers.{IsPlain, Refused, IsWrong, IsTextOf}
use Rattle.line_store.specs.Held.{Standing, IsHeld, AreWell}
use Rattle.line_store.specs.Loads.{AllFit, AreTexts, AreOf, IsImageWrong, IsLogWrong, IsLineWrong}
use Rattle.line_store.specs.Reading.{image_file, log_file, ranks_of, table, Saved}
use Rattle.line_store.specs.Texts.{IsText}
use Rattle.line_store.proofs.Frame.{table-same}
use Rattle.line_store.proofs.Lawful.{whole-again}

fit_more : {A : Type 0} (F : Form A) (at n : ℕ) (xs : List A) (x : A) → fit_each (λ k. F) at n xs ≡ true → F.fits x ≡ true → fit_each (λ k. F) at (suc n) (xs ++ x ∷ []) ≡ true
fit_more F at zero [] x fits last = and_from (F.fits x) true last refl
fit_more F at zero (y ∷ xs) x fits last = absurd (true≢false (sym fits))
fit_more F at (suc n) [] x fits last = absurd (true≢false (sym fits))
fit_more F at (suc n) (y ∷ xs) x fits last =
    let parts = and_parts (F.fits y) (fit_each (λ k. F) (at + 1) n xs) fits in
    and_from (F.fits y) (fit_each (λ k. F) (at + 1) (suc n) (xs ++ x ∷ [])) parts.0 (fit_more F (at + 1) n xs x parts.1 last)

pub none-fit : {A : Type 0} (F : Form A) (xs : List A) → xs ≡ [] → AllFit F 0 xs
none-fit {A = A} F xs none = subst (λ (l : List A). AllFit F 0 l) (sym none) refl

pub more-fit : {A : Type 0} (F : Form A) (n : ℕ) (xs : List A) (x : A) (ys : List A) → AllFit F n xs → F.fits x ≡ true → ys ≡ xs ++ x ∷ [] → AllFit F (n + 1) ys
more-fit {A = A} F n xs x ys so_far is all =
    let next : n + 1 ≡ suc n = omega arith in
    subst (λ (l : List A). AllFit F (n + 1) l) (sym all) (subst (λ k. AllFit F k (xs ++ x ∷ [])) (sym next) (fit_more F 0 n xs x so_far is))

pub none-texts : {A : Type 0} (F : Form A) (text : ℕ → List ℕ) (xs : List A) → xs ≡ [] → AreTexts F 0 text xs
none-texts {A = A} F text xs none = subst (λ (l : List A). AreTexts F 0 text l) (sym none) (record { fits = refl; texts = refl })

-- one value more
pub more-texts : {A : Type 0} (F : Form A) (n : ℕ) (text : ℕ → List ℕ) (xs : List A) (x : A) (ys : List A) → AreTexts F n text xs → IsTextOf F (text n) x → ys ≡ xs ++ x ∷ [] → AreTexts F (n + 1) text ys
more-texts {A = A} F n text xs x ys so_far is all =
    let next : n + 1 ≡ suc n = omega arith in
    subst (λ (l : List A). AreTexts F (n + 1) text l) (sym all) (subst (λ k. AreTexts F k text (xs ++ x ∷ [])) (sym next) (record {
      fits = fit_more F 0 n xs x so_far.fits is.0;
      texts = map-append F.text xs (x ∷ []) ∙ ap (λ (l : List (List ℕ)). l ++ F.text x ∷ []) so_far.texts ∙ ap (λ (b : List ℕ). table text n ++ b ∷ []) (sym is.1);
    }))

-- by files that read alike
pub same-texts : {A : Type 0} (F : Form A) (n : ℕ) (f g : ℕ → List ℕ) (xs : List A) → ((r : ℕ) → f r ≡ g r) → AreTexts F n f xs → AreTexts F n g xs
same-texts F n f g xs same are = record { fits = are.fits; texts = are.texts ∙ table-same f g n (λ r lt. same r) }

pub image-wrong : (c : Contents) (ranks line rank : ℕ) (xs : List Image) (fault : StoreFault) → rank < ranks → AreTexts image_form rank (λ r. c (image_file r line)) xs
    → Refused (IsWrong image_form (image_file rank line) (c (image_file rank line))) fault → Refused (IsImageWrong c ranks line) fault
image-wrong c ranks line rank xs (Damaged file at) lt before wrong = record { rank = rank; same = wrong.0; first = record { values = xs; inside = lt; before = before; wrong = wrong.1 } }
image-wrong c ranks line rank xs DiskFault lt before wrong = tt
image-wrong c ranks line rank xs NoMemory lt before wrong = tt
image-wrong c ranks line rank xs JobThere lt before wrong = wrong
image-wrong c ranks line rank xs NoJob lt before wrong = wrong

pub log-wrong : (c : Contents) (ranks line rank : ℕ) (xs : List Log) (fault : StoreFault) → rank < ranks → AreTexts log_form rank (λ r. c (log_file r line)) xs
    → Refused (IsWrong log_form (log_file rank line) (c (log_file rank line))) fault → Refused (IsLogWrong c ranks line) fault
log-wrong c ranks line rank xs (Damaged file at) lt before wrong = record { rank = rank; same = wrong.0; first = record { values = xs; inside = lt; before = before; wrong = wrong.1 } }
log-wrong c ranks line rank xs DiskFault lt before wrong = tt
log-wrong c ranks line rank xs NoMemory lt before wrong = tt
log-wrong c ranks line rank xs JobThere lt before wrong = wrong
log-wrong c ranks line rank xs NoJob lt before wrong = wrong

-- of the whole line
pub line-image : (c : Contents) (ranks line : ℕ) (fault : StoreFault) → Refused (IsImageWrong c ranks line) fault → Refused (IsLineWrong c ranks line) fault
line-image c ranks line (Damaged file at) wrong = inl wrong
line-image c ranks line DiskFault wrong = tt
line-image c ranks line NoMemory wrong = tt
line-image c ranks line JobThere wrong = wrong
line-image c ranks line NoJob wrong = wrong

pub line-log : (c d : Contents) (ranks line : ℕ) (images : List Image) (fault : StoreFault) → ((f : ℕ) → d f ≡ c f) → AreTexts image_form ranks (λ r. c (image_file r line)) images
    → Refused (IsLogWrong d ranks line) fault → Refused (IsLineWrong c ranks line) fault
line-log c d ranks line images (Damaged file at) same right wrong = inr (
  images,
  right,
  record {
    rank = wrong.rank;
    same = wrong.same;
    first = record {
      values = wrong.first.values;
      inside = wrong.first.inside;
      before = same-texts log_form wrong.rank (λ r. d (log_file r line)) (λ r. c (log_file r line)) wrong.first.values (λ r. same (log_file r line)) wrong.first.before;
      wrong = subst (λ (b : List ℕ). read_whole log_form b ≡ Err at) (same (log_file wrong.rank line)) wrong.first.wrong;
    };
  },
)
line-log c d ranks line images DiskFault same right wrong = tt
line-log c d ranks line images NoMemory same right wrong = tt
line-log c d ranks line images JobThere same right wrong = wrong
line-log c d ranks line images NoJob same right wrong = wrong

-- by files that read alike below the number of ranks
pub below-texts : {A : Type 0} (F : Form A) (n m : ℕ) (f g : ℕ → List ℕ) (xs : List A) → n ≡ m → ((r : ℕ) → r < m → f r ≡ g r) → AreTexts F n f xs → AreTexts F m g xs
below-texts F n m f g xs count same are = subst (λ k. AreTexts F k f xs → AreTexts F m g xs) (sym count) (λ are. record { fits = are.fits; texts = are.texts ∙ table-same f g m same }) are

-- What was loaded is the committed line's.
pub loaded-held : (text : List ℕ) (v : View) (s : Standing) (ranks line : ℕ) (images : List Image) (logs : List Log) → IsHeld text v s → ranks ≡ ranks_of text → line ≡ s.line → 0 < line
    → AreTexts image_form ranks (λ r. v.seen (image_file r line)) images → AreTexts log_form ranks (λ r. v.seen (log_file r line)) logs → AreOf (ranks_of text) images logs s
loaded-held text v s ranks line images logs held count at pos i l =
    let above : 0 < s.line = omega (arith, at, pos) in
    record {
      image = below-texts image_form ranks (ranks_of text) (λ r. v.seen (image_file r line)) (λ r. (s.committed r).image) images count (λ r lt. ap (λ k. v.seen (image_file r k)) at ∙ ap (λ (x : Saved). x.image) (held.committed above r lt)) i;
      log = below-texts log_form ranks (ranks_of text) (λ r. v.seen (log_file r line)) (λ r. (s.committed r).log) logs count (λ r lt. ap (λ k. v.seen (log_file r k)) at ∙ ap (λ (x : Saved). x.log) (held.committed above r lt)) l;
    }

-- A text isn't wrong.
pub not-wrong : {A : Type 0} (F : Form A) → IsForm F → (b : List ℕ) (at : ℕ) → IsText F b → read_whole F b ≡ Err at → ⊥
not-wrong {A = A} F law b at is wrong = different (sym (ap (read_whole F) is.2 ∙ whole-again F law is.0 is.1) ∙ wrong)
  where
    was_ok : Result A ℕ → ℕ
    was_ok (Ok x) = 1
    was_ok (Err at) = 0

    different : Ok is.0 ≡ Err at → ⊥
    different e = let no : 1 ≡ 0 = ap was_ok e in absurd (omega (arith, no))

pub never-wrong : (text : List ℕ) (v : View) (s : Standing) (ranks line : ℕ) (fault : StoreFault) → IsHeld text v s → ranks ≡ ranks_of text → line ≡ s.line → 0 < line → AreWell (ranks_of text) s
    → Refused (IsLineWrong v.seen ranks line) fault → IsPlain fault
never-wrong text v s ranks line (Damaged file at) held count same pos well wrong = ⊎_elim
    (λ i.
    let lt : i.rank < ranks_of text = omega (arith, i.first.inside, count) in
    let seen : v.seen (image_file i.rank line) ≡ (s.committed i.rank).image = ap (λ k. v.seen (image_file i.rank k)) same ∙ ap (λ (x : Saved). x.image) (held.committed above i.rank lt) in
    not-wrong image_form image-form (v.seen (image_file i.rank line)) at (subst (λ (b : List ℕ). IsText image_form b) (sym seen) (well above i.rank lt).image) i.first.wrong)
    (λ w.
    let l = w.2 in
    let lt : l.rank < ranks_of text = omega (arith, l.first.inside, count) in
    let seen : v.seen (log_file l.rank line) ≡ (s.committed l.rank).log = ap (λ k. v.seen (log_file l.rank k)) same ∙ ap (λ (x : Saved). x.log) (held.committed above l.rank lt) in
    not-wrong log_form log-form (v.seen (log_file l.rank line)) at (subst (λ (b : List ℕ). IsText log_form b) (sym seen) (well above l.rank lt).log) l.first.wrong)
    wrong
  where
    above : 0 < s.line
    above = omega (arith, same, pos)
never-wrong text v s ranks line DiskFault held count same pos well wrong = tt
never-wrong text v s ranks line NoMemory held count same pos well wrong = tt
never-wrong text v s ranks line JobThere held count same pos well wrong = wrong
never-wrong text v s ranks line NoJob held count same pos well wrong = wrong
