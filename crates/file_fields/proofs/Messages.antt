-- Limits and texts of messages.
use Rattle.std.proofs.Common.{◌≡◌, ℕ, ◌-◌, ◌^◌, ◌<◌, ◌≤◌, Bool, true, false, ◌&&◌, ◌==◌, leb, if◌then◌else◌, List, ◌++◌, length, pos, ◌%◌, refl, ◌∙◌, arith}
use Rattle.std.proofs.lemmas.Bool.{and_parts, leb-true}
use Rattle.std.proofs.lemmas.List.{append_assoc}
use Rattle.std.specs.Int.{Width, w8, w32}
use Rattle.mpi_words.specs.declared.message.Datatype.{Datatype}
use Rattle.mpi_words.specs.declared.message.Datatype.TheVariants.{Char, Int, Long}
use Rattle.mpi_words.specs.declared.message.Message.{Message}
use Rattle.file_fields.specs.Forms.{number, signed, repeated}
use Rattle.file_fields.specs.Messages.{code_of, least_count, most_count, item_form, kind_form, message_form}

pub counts : (context : ℕ) → most_count context ≤ 4100
counts context = few (context == 0)
  where
    few : (none : Bool) → (if none then 4096 else 4100) ≤ 4100
    few true = omega arith
    few false = omega arith

pub below : (w : Width) (least most n : ℕ) → (number w least most).fits n ≡ true → n ≤ most
unfolding number
below w least most n fits = leb-true n most (and_parts (leb least n) (leb n most) fits).1

pub message-count : (m : Message) → message_form.fits m ≡ true → length m.items < 2 ^ 32
unfolding message_form
message-count m fits =
    let count = number w32 (least_count m.context) (most_count m.context) in
    let items = repeated (length m.items) (item_form m.context m.kind (length m.items)) in
    let tag = signed (pos 0) (pos (2 ^ 63 - 1)) in
    let a = and_parts ((number w8 0 1).fits m.context) (kind_form.fits m.kind && (tag.fits m.tag && (count.fits (length m.items) && items.fits m.items))) fits in
    let b = and_parts (kind_form.fits m.kind) (tag.fits m.tag && (count.fits (length m.items) && items.fits m.items)) a.1 in
    let c = and_parts (tag.fits m.tag) (count.fits (length m.items) && items.fits m.items) b.1 in
    let d = and_parts (count.fits (length m.items)) (items.fits m.items) c.1 in
    omega (arith, below w32 (least_count m.context) (most_count m.context) (length m.items) d.0, counts m.context)

pub behind : (o a b c d t : List ℕ) → ((((o ++ a) ++ b) ++ c) ++ d) ++ t ≡ o ++ (a ++ (b ++ (c ++ (d ++ t))))
behind o a b c d t = append_assoc (((o ++ a) ++ b) ++ c) d t ∙ append_assoc ((o ++ a) ++ b) c (d ++ t) ∙ append_assoc (o ++ a) b (c ++ (d ++ t)) ∙ append_assoc o a (b ++ (c ++ (d ++ t)))

-- codes are bytes
pub kind-byte : (k : Datatype) → code_of k ≡ code_of k % 256
kind-byte Char = refl
kind-byte Int = refl
kind-byte Long = refl
