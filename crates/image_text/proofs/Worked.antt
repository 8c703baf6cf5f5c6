-- A worked image.
use Rattle.std.proofs.Common.{◌≡◌, ℕ, List, [], ◌∷◌, Ok, refl}
use Rattle.image_text.specs.declared.image.Image.{Image}
use Rattle.file_fields.specs.Forms.{exactly, number, repeated, counted, read_whole}
use Rattle.image_text.specs.Texts.{state_form, image_form}

bytes : List ℕ
bytes = 67 ∷ 51 ∷ 73 ∷ 77 ∷ 1 ∷ 0 ∷ 2 ∷ 0 ∷ 0 ∷ 0 ∷ 1 ∷ 0 ∷ 1 ∷ 0 ∷ 0 ∷ 0 ∷ 0 ∷ 0 ∷ 0 ∷ 0 ∷ 0 ∷ 0 ∷ 0 ∷ 0 ∷ 1 ∷ 0 ∷ 0 ∷ 0 ∷ 0 ∷ 0 ∷ 0 ∷ 0 ∷ 0
    ∷ 0 ∷ 0 ∷ 0 ∷ 0 ∷ 0 ∷ 0 ∷ 0 ∷ 0 ∷ 1 ∷ 0 ∷ 0 ∷ 0 ∷ 1 ∷ 0 ∷ 0 ∷ 0 ∷ 0 ∷ 0 ∷ 0 ∷ 0 ∷ 0 ∷ 0 ∷ 0 ∷ 0 ∷ 0 ∷ 0 ∷ 0 ∷ 0 ∷ 0 ∷ 0 ∷ 0 ∷ 0 ∷ 0 ∷ 0 ∷ 0 ∷ 0 ∷ []

image : Image
image = record {
  ranks = 2;
  rank = 0;
  line = 1;
  ops = 1;
  state = record { output = 0; serial = 1; phase = 0; calls = 0; sites = 1 ∷ []; variables = []; objects = [] };
  mailbox = [];
  early = 0 ∷ 0 ∷ [];
}

written : image_form.text image ≡ bytes
unfolding image image_form state_form exactly number counted repeated bytes
written = refl

read : read_whole image_form bytes ≡ Ok image
unfolding image image_form state_form exactly number counted repeated bytes
read = refl
