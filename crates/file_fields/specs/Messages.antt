-- The text of a message.
use Rattle.std.specs.Prelude.{ℕ, zero, suc, ◌-◌, ◌^◌, ◌==◌, ltb, if◌then◌else◌, ℤ, pos, negsuc, length}
use Rattle.std.specs.Int.{w8, w16, w32}
use Rattle.mpi_words.specs.declared.message.Datatype.{Datatype}
use Rattle.mpi_words.specs.declared.message.Datatype.TheVariants.{Char, Int, Long}
use Rattle.mpi_words.specs.declared.message.Message.{Message}
use Rattle.file_fields.specs.Forms.{Form, number, signed, followed, repeated, converted}

abbrev pub code_of : Datatype → ℕ
code_of Char = 0
code_of Int = 1
code_of Long = 2

abbrev pub kind_of : ℕ → Datatype
kind_of zero = Char
kind_of (suc zero) = Int
kind_of (suc (suc n)) = Long

unfoldable pub kind_form : Form Datatype
kind_form = converted kind_of code_of (number w8 0 2)

-- the range of a kind
abbrev pub least_of : Datatype → ℤ
least_of Char = negsuc 127
least_of Int = negsuc (2 ^ 31 - 1)
least_of Long = negsuc (2 ^ 63 - 1)

abbrev pub most_of : Datatype → ℤ
most_of Char = pos 127
most_of Int = pos (2 ^ 31 - 1)
most_of Long = pos (2 ^ 63 - 1)

-- how many items a message has by its context: the part of a collective call has four of its signature first
abbrev pub least_count : ℕ → ℕ
least_count context = if context == 0 then 0 else 4

abbrev pub most_count : ℕ → ℕ
most_count context = if context == 0 then 4096 else 4100

-- the least and the most that an item may be: the third of a signature is the number of values behind it
abbrev pub least_item : ℕ → Datatype → ℕ → ℕ → ℤ
least_item context kind count at = if context == 0 then least_of kind else (if ltb 3 at then least_of kind else (if at == 2 then pos (count - 4) else least_of Long))

abbrev pub most_item : ℕ → Datatype → ℕ → ℕ → ℤ
most_item context kind count at = if context == 0 then most_of kind else (if ltb 3 at then most_of kind else (if at == 2 then pos (count - 4) else most_of Long))

abbrev pub item_form : ℕ → Datatype → ℕ → ℕ → Form ℤ
item_form context kind count at = signed (least_item context kind count at) (most_item context kind count at)

unfoldable pub message_form : Form Message
message_form = converted
    (λ p. record { context = p.first; kind = p.second.first; tag = p.second.second.first; items = p.second.second.second.second })
    (λ m. record { first = m.context; second = record { first = m.kind; second = record { first = m.tag; second = record { first = length m.items; second = m.items } } } })
    (followed (number w8 0 1) (λ context.
    followed kind_form (λ kind.
    followed (signed (pos 0) (pos (2 ^ 63 - 1))) (λ tag.
    followed (number w32 (least_count context) (most_count context)) (λ count.
    repeated count (item_form context kind count))))))

-- a message from a rank
unfoldable pub arrival_form : Form (ℕ × Message)
arrival_form = converted (λ p. (p.first, p.second)) (λ a. record { first = a.0; second = a.1 }) (followed (number w16 0 (2 ^ 16 - 1)) (λ source. message_form))
