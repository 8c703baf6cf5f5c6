-- How the texts of jobs and ends are put together, and read.
use Rattle.std.proofs.Common.{◌≡◌, ℕ, ◌+◌, ◌-◌, ◌*◌, ◌^◌, ◌<◌, ◌≤◌, true, false, ◌&&◌, ◌==◌, leb, if◌then◌else◌, List, [], ◌∷◌, ◌++◌, length, take, drop, get_or, Result, Ok, Err, refl, sym, ◌∙◌, ap, subst, arith, length-append, length-drop}
use Rattle.std.proofs.lemmas.Bool.{and_parts, leb-true, le-leb, eqb-true}
use Rattle.std.proofs.lemmas.List.{take_all, take_more, drop_all, drop_at, append_assoc}
use Rattle.std.specs.Prelude.{codes}
use Rattle.std.specs.Int.{w8, w16, w32, w64}
use Rattle.file_fields.specs.Forms.{Found, Pair, on_value, exactly, number, repeated, counted, text_each, at_end, read_whole}
use Rattle.file_fields.specs.Reads.{Stopped}
use Rattle.file_fields.specs.declared.reading.ReadFault.{ReadFault}
use Rattle.file_fields.specs.declared.reading.ReadFault.TheVariants.{Wrong, NoMemory}
use Rattle.file_fields.proofs.Items.{text-push}
use Rattle.file_fields.proofs.Laws.{AreBytes, IsFound}
use Rattle.file_fields.proofs.Messages.{below}
use Rattle.file_fields.specs.Messages.{arrival_form}
use Rattle.image_text.specs.declared.image.Image.{Image}
use Rattle.image_text.specs.Texts.{image_form, state_form, object_form, early_form}
use Rattle.mpi_words.specs.declared.operation.End.{End}
use Rattle.line_store.specs.declared.job.Job.{Job}
use Rattle.line_store.specs.Reading.{ranks_of, output_of}
use Rattle.line_store.specs.Texts.{bytes, head_form, program_from, job_form, end_form, ends_form}
use Rattle.line_store.proofs.Lawful.{head-form}

pub ends-read : (ranks n : ℕ) (old mid rest new : List ℕ) (xs : List End) → (exactly (codes "C3EN")).read old ≡ Ok (record { value = tt; rest = mid }) → (number w16 ranks ranks).read mid ≡ Ok (record { value = n; rest = rest })
    → (repeated n (λ at. end_form)).read rest ≡ Ok (record { value = xs; rest = new }) → (ends_form ranks).read old ≡ Ok (record { value = xs; rest = new })
unfolding ends_form
ends-read ranks n old mid rest new xs magic count each = rw (magic, count, each) refl

pub ends-stopped : (ranks n : ℕ) (old mid rest new : List ℕ) (fault : ReadFault) → (exactly (codes "C3EN")).read old ≡ Ok (record { value = tt; rest = mid }) → (number w16 ranks ranks).read mid ≡ Ok (record { value = n; rest = rest })
    → Stopped (repeated n (λ at. end_form)) rest new fault → Stopped (ends_form ranks) old new fault
unfolding ends_form
ends-stopped ranks n old mid rest new Wrong magic count each = rw (magic, count, each) refl
ends-stopped ranks n old mid rest new NoMemory magic count each = tt

-- What follows a job's head is its program text.
pub after-head : (old rest : List ℕ) (ranks count : ℕ) → head_form.read old ≡ Ok (record { value = (ranks, count); rest = rest }) → job_form.read old ≡ program_from ranks count rest
unfolding job_form
after-head old rest ranks count is = rw is (same ((bytes count).read rest))
  where
    same : (r : Result (Found (List ℕ)) (List ℕ)) → on_value {B = Job} (λ (p : Pair (ℕ × ℕ) (List ℕ)). record { ranks = p.first.0; text = p.second }) (on_value {B = Pair (ℕ × ℕ) (List ℕ)} (λ (text : List ℕ). record { first = (ranks, count); second = text }) r)
        ≡ on_value {B = Job} (λ (text : List ℕ). record { ranks = ranks; text = text }) r
    same (Ok found) = refl
    same (Err left) = refl

pub no-head : (old rest : List ℕ) → head_form.read old ≡ Err rest → read_whole job_form old ≡ Err (length old - length rest)
unfolding job_form
no-head old rest is = rw is refl

-- The place of what follows the head.
pub behind-head : (old rest : List ℕ) (head : ℕ × ℕ) → AreBytes old → head_form.read old ≡ Ok (record { value = head; rest = rest }) → (drop (length old - length rest) old ≡ rest) × (length rest ≤ length old)
behind-head old rest head are is =
    let found = subst (λ (r : Result (Found (ℕ × ℕ)) (List ℕ)). IsFound head_form old r) is (head-form.only old are) in
    let size : length old ≡ length (head_form.text head) + length rest = ap length found.1 ∙ length-append (head_form.text head) rest in
    let place : length (head_form.text head) ≡ length old - length rest = omega (arith, size) in
    (ap (λ (l : List ℕ). drop (length old - length rest) l) found.1 ∙ drop_at (head_form.text head) rest (length old - length rest) place, omega (arith, size))

-- The program text is too short, or something follows it, or neither.
module _ (size ranks count : ℕ) (rest : List ℕ) where
  pub too-short : length rest < count → at_end size (program_from ranks count rest) ≡ Err (size - length rest)
  unfolding bytes
  too-short lt = elim (leb count (length rest)) as (λ t. leb count (length rest) ≡ t → at_end size (on_value {B = Job} (λ (text : List ℕ). record { ranks = ranks; text = text }) (if t then Ok (record { value = take count rest; rest = drop count rest }) else Err rest)) ≡ Err (size - length rest)) [
    | true ↦ λ e. absurd (omega (arith, lt, leb-true count (length rest) e))
    | false ↦ λ e. refl
  ] refl

  pub something-follows : count < length rest → at_end size (program_from ranks count rest) ≡ Err (size - (length rest - count))
  unfolding bytes
  something-follows lt =
      let enough : leb count (length rest) ≡ true = le-leb count (length rest) (omega (arith, lt)) in
      let some : (length (drop count rest) == 0) ≡ false = not_zero (length (drop count rest)) (omega (arith, lt, length-drop count rest)) in
      let left : length (drop count rest) ≡ length rest - count = length-drop count rest in
      rw (enough, some, left) refl
    where
      not_zero : (n : ℕ) → 0 < n → (n == 0) ≡ false
      not_zero n pos = elim (n == 0) as (λ t. (n == 0) ≡ t → t ≡ false) [
        | true ↦ λ e. absurd (omega (arith, pos, eqb-true n 0 e))
        | false ↦ λ e. refl
      ] refl

  pub just-right : length rest ≡ count → at_end size (program_from ranks count rest) ≡ Ok (record { ranks = ranks; text = rest })
  unfolding bytes
  just-right same =
      let enough : leb count (length rest) ≡ true = le-leb count (length rest) (omega (arith, same)) in
      let all : take count rest ≡ rest = take_all count rest (omega (arith, same)) in
      let none : drop count rest ≡ [] = drop_all count rest (omega (arith, same)) in
      rw (enough, all, none) refl

-- a job within its limits
pub job-limits : (j : Job) → job_form.fits j ≡ true → (j.ranks ≤ 16) × (length j.text ≤ 65536)
unfolding job_form head_form exactly
job-limits j fits =
    let a = and_parts ((number w16 1 16).fits j.ranks && (number w32 0 65536).fits (length j.text)) ((bytes (length j.text)).fits j.text) fits in
    let b = and_parts ((number w16 1 16).fits j.ranks) ((number w32 0 65536).fits (length j.text)) a.0 in
    (below w16 1 16 j.ranks b.0, below w32 0 65536 (length j.text) b.1)

-- A job's text names its ranks, and an image's the length of its output.
pub job-ranks : (j : Job) → job_form.fits j ≡ true → ranks_of (job_form.text j) ≡ j.ranks
unfolding job_form head_form exactly number bytes ranks_of
job-ranks j fits = let few = (job-limits j fits).0 in omega (arith, few)

image-few : (i : Image) → image_form.fits i ≡ true → i.state.output ≤ 1048576
unfolding image_form state_form exactly
image-few i fits =
    let u16 = number w16 0 (2 ^ 16 - 1) in
    let s = i.state in
    let output = number w32 0 1048576 in
    let others = (number w64 1 (2 ^ 43 * i.line)).fits s.serial && ((number w8 0 2).fits s.phase && ((number w64 0 (2 ^ 31 * i.line)).fits s.calls && ((counted (number w32 0 (2 ^ 32 - 1))).fits s.sites && ((counted object_form).fits s.variables && (counted object_form).fits s.objects)))) in
    let last = (counted arrival_form).fits i.mailbox && (repeated i.ranks early_form).fits i.early in
    let a = and_parts (u16.fits i.ranks) (u16.fits i.rank && (u16.fits i.line && ((number w64 0 (200000 * i.line)).fits i.ops && ((output.fits s.output && others) && last)))) fits in
    let b = and_parts (u16.fits i.rank) (u16.fits i.line && ((number w64 0 (200000 * i.line)).fits i.ops && ((output.fits s.output && others) && last))) a.1 in
    let c = and_parts (u16.fits i.line) ((number w64 0 (200000 * i.line)).fits i.ops && ((output.fits s.output && others) && last)) b.1 in
    let d = and_parts ((number w64 0 (200000 * i.line)).fits i.ops) ((output.fits s.output && others) && last) c.1 in
    let e = and_parts (output.fits s.output && others) last d.1 in
    let f = and_parts (output.fits s.output) others e.0 in
    below w32 0 1048576 s.output f.0

pub image-output : (i : Image) → image_form.fits i ≡ true → output_of (image_form.text i) ≡ i.state.output
unfolding image_form state_form exactly number output_of
image-output i fits = let few = image-few i fits in omega (arith, few)

-- one end more
pub end-more : (old text new : List ℕ) (ends : List End) (i : ℕ) (x : End) → i < length ends → get_or ends i x ≡ x → text ≡ old ++ text_each (λ at. end_form) 0 (take i ends) → new ≡ text ++ end_form.text x
    → new ≡ old ++ text_each (λ at. end_form) 0 (take (i + 1) ends)
end-more old text new ends i x lt here so_far put =
    let front : take (i + 1) ends ≡ take i ends ++ x ∷ [] = take_more ends i x lt ∙ ap (λ y. take i ends ++ y ∷ []) here in
    put ∙ ap (λ (l : List ℕ). l ++ end_form.text x) so_far ∙ append_assoc old (text_each (λ at. end_form) 0 (take i ends)) (end_form.text x)
    ∙ ap (λ (l : List ℕ). old ++ l) (sym (ap (text_each (λ at. end_form) 0) front ∙ text-push (λ at. end_form) 0 (take i ends) x))

abbrev pub job_with : ℕ → List ℕ → Job
job_with ranks text = record { ranks = ranks; text = text }

-- the whole text by its head
pub whole-from : (old rest : List ℕ) (ranks count at : ℕ) → AreBytes old → head_form.read old ≡ Ok (record { value = (ranks, count); rest = rest }) → at ≡ length old - length rest
    → at_end (length old) (program_from ranks count (drop at old)) ≡ read_whole job_form old
whole-from old rest ranks count at are is place =
    let behind : drop at old ≡ rest = ap (λ n. drop n old) place ∙ (behind-head old rest (ranks, count) are is).0 in
    ap (λ (l : List ℕ). at_end (length old) (program_from ranks count l)) behind ∙ ap (at_end (length old)) (sym (after-head old rest ranks count is))
