-- The texts of a job and of its ends.
use Rattle.std.specs.Prelude.{◌≡◌, ℕ, ◌-◌, ◌^◌, ◌==◌, leb, Bool, if◌then◌else◌, ℤ, pos, negsuc, List, [], ◌∷◌, ◌++◌, length, take, drop, Result, Ok, Err, IsTrue, codes}
use Rattle.std.specs.Int.{w8, w16, w32, to_le_bytes, cast_signed, cast_unsigned}
use Rattle.mpi_words.specs.declared.operation.End.{End}
use Rattle.mpi_words.specs.declared.operation.End.TheVariants.{Exit, Fault}
use Rattle.file_fields.specs.Forms.{Form, Found, and_then, on_value, exactly, number, is_between, followed, repeated, converted}
use Rattle.line_store.specs.declared.job.Job.{Job}

-- so many bytes, which are one field
unfoldable pub bytes : ℕ → Form (List ℕ)
bytes n = record {
  fits = λ text. length text == n;
  text = λ text. text;
  read = λ rest. if leb n (length rest) then Ok (record { value = take n rest; rest = drop n rest }) else Err rest;
}

-- magic, format, ranks and the program text's length
unfoldable pub head_form : Form (ℕ × ℕ)
head_form = converted
    (λ p. (p.second.second.first, p.second.second.second))
    (λ h. record { first = tt; second = record { first = tt; second = record { first = h.0; second = h.1 } } })
    (followed (exactly (codes "C3JB")) (λ magic. followed (exactly (1 ∷ 0 ∷ [])) (λ format. followed (number w16 1 16) (λ ranks. number w32 0 65536))))

-- the job whose program text follows
abbrev pub program_from : ℕ → ℕ → List ℕ → Result (Found Job) (List ℕ)
program_from ranks count rest = on_value (λ text. record { ranks = ranks; text = text }) ((bytes count).read rest)

-- and the program text
unfoldable pub job_form : Form Job
job_form = converted
    (λ p. record { ranks = p.first.0; text = p.second })
    (λ j. record { first = (j.ranks, length j.text); second = j.text })
    (followed head_form (λ head. bytes head.1))

-- a value of `main`, in two's complement
unfoldable pub exit_form : Form ℤ
exit_form = record {
  fits = is_between (negsuc (2 ^ 31 - 1)) (pos (2 ^ 31 - 1));
  text = λ z. to_le_bytes w32 (cast_unsigned w32 z);
  read = λ rest. on_value (cast_signed w32) ((number w32 0 (2 ^ 32 - 1)).read rest);
}

-- the code of a fault
abbrev pub fault_form : Form ℕ
fault_form = number w32 101 118

abbrev pub fits_end : End → Bool
fits_end (Exit value) = exit_form.fits value
fits_end (Fault code) = fault_form.fits code

abbrev pub text_end : End → List ℕ
text_end (Exit value) = (0 ∷ []) ++ exit_form.text value
text_end (Fault code) = (1 ∷ []) ++ fault_form.text code

abbrev pub read_end : ℕ → List ℕ → Result (Found End) (List ℕ)
read_end tag rest = if tag == 0 then on_value (λ value. Exit value) (exit_form.read rest) else on_value (λ code. Fault code) (fault_form.read rest)

-- 0 and a value, or 1 and a code
unfoldable pub end_form : Form End
end_form = record { fits = fits_end; text = text_end; read = λ rest. and_then ((number w8 0 1).read rest) read_end }

-- magic, the job's ranks, and the end of each
unfoldable pub ends_form : ℕ → Form (List End)
ends_form ranks = converted
    (λ p. p.second.second)
    (λ ends. record { first = tt; second = record { first = ranks; second = ends } })
    (followed (exactly (codes "C3EN")) (λ magic. followed (number w16 ranks ranks) (λ n. repeated n (λ at. end_form))))

-- the bytes are a value's text
abbrev pub IsText : {A : Type 0} → Form A → List ℕ → Type 0
IsText {A = A} F text = (x : A) × IsTrue (F.fits x) × (text ≡ F.text x)
