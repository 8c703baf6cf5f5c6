-- An image has one text, and no text has two images.
use Rattle.std.proofs.Common.{ℕ, ◌-◌, ◌*◌, ◌^◌, ◌≤◌, List, [], ◌∷◌, refl, arith}
use Rattle.std.specs.Prelude.{codes}
use Rattle.std.specs.Int.{w8, w16, w32, w64}
use Rattle.c3_base.specs.declared.cell.Cell.{Cell}
use Rattle.mpi_words.specs.declared.message.Message.{Message}
use Rattle.file_fields.specs.Cells.{cell_form}
use Rattle.file_fields.specs.Forms.{Form, Pair, exactly, number, followed, repeated, counted}
use Rattle.file_fields.specs.Messages.{arrival_form}
use Rattle.file_fields.proofs.Laws.{IsForm, exactly-form, number-form, followed-form, converted-form, repeated-form, counted-form, one_byte, two_bytes, four_bytes, eight_bytes}
use Rattle.file_fields.proofs.Lawful.{cell-form, arrival-form}
use Rattle.file_fields.proofs.Messages.{below}
use Rattle.image_text.specs.declared.object.SavedObject.{SavedObject}
use Rattle.image_text.specs.declared.state.RankState.{RankState}
use Rattle.image_text.specs.declared.image.Image.{Image}
use Rattle.image_text.specs.Texts.{u16_form, u32_form, u64_form, object_form, state_form, early_form, image_form}

u16-form : IsForm u16_form
u16-form = number-form w16 0 (2 ^ 16 - 1) two_bytes (omega arith)

u32-form : IsForm u32_form
u32-form = number-form w32 0 (2 ^ 32 - 1) four_bytes (omega arith)

u64-form : IsForm u64_form
u64-form = number-form w64 0 (2 ^ 64 - 1) eight_bytes (omega arith)

-- an object
abbrev Object : Type 0
Object = Pair ℕ (Pair ℕ (List Cell))

abbrev place_form : Form (Pair ℕ (List Cell))
place_form = followed u32_form (λ place. counted cell_form)

object-form : IsForm object_form
unfolding object_form
object-form = converted-form (λ (p : Object). record { serial = p.first; place = p.second.first; cells = p.second.second })
    (λ (o : SavedObject). record { first = o.serial; second = record { first = o.place; second = o.cells } })
    (followed u64_form (λ serial. place_form))
    (followed-form u64_form (λ serial. place_form) u64-form (λ serial f.
    followed-form u32_form (λ place. counted cell_form) u32-form (λ place g. counted-form cell_form cell-form)))
    (λ o. refl) (λ p fits. refl)

-- a state, from its last fields on
abbrev Objects : Type 0
Objects = List SavedObject

abbrev variables_form : Form (Pair Objects Objects)
variables_form = followed (counted object_form) (λ variables. counted object_form)

abbrev sites_form : Form (Pair (List ℕ) (Pair Objects Objects))
sites_form = followed (counted u32_form) (λ sites. variables_form)

abbrev Calls : Type 0
Calls = Pair ℕ (Pair (List ℕ) (Pair Objects Objects))

abbrev calls_form : ℕ → Form Calls
calls_form line = followed (number w64 0 (2 ^ 31 * line)) (λ calls. sites_form)

abbrev phase_form : ℕ → Form (Pair ℕ Calls)
phase_form line = followed (number w8 0 2) (λ phase. calls_form line)

abbrev serial_form : ℕ → Form (Pair ℕ (Pair ℕ Calls))
serial_form line = followed (number w64 1 (2 ^ 43 * line)) (λ serial. phase_form line)

abbrev State : Type 0
State = Pair ℕ (Pair ℕ (Pair ℕ Calls))

abbrev output_form : ℕ → Form State
output_form line = followed (number w32 0 1048576) (λ output. serial_form line)

sites-form : IsForm sites_form
sites-form = followed-form (counted u32_form) (λ sites. variables_form) (counted-form u32_form u32-form) (λ sites f.
    followed-form (counted object_form) (λ variables. counted object_form) (counted-form object_form object-form) (λ variables g. counted-form object_form object-form))

state-form : (line : ℕ) → line ≤ 65535 → IsForm (state_form line)
unfolding state_form
state-form line few = converted-form
    (λ (p : State). record {
      output = p.first;
      serial = p.second.first;
      phase = p.second.second.first;
      calls = p.second.second.second.first;
      sites = p.second.second.second.second.first;
      variables = p.second.second.second.second.second.first;
      objects = p.second.second.second.second.second.second;
    })
    (λ (s : RankState). record {
      first = s.output;
      second = record {
        first = s.serial;
        second = record {
          first = s.phase;
          second = record {
            first = s.calls;
            second = record { first = s.sites; second = record { first = s.variables; second = s.objects } };
          };
        };
      };
    })
    (output_form line)
    (followed-form (number w32 0 1048576) (λ output. serial_form line) (number-form w32 0 1048576 four_bytes (omega arith)) (λ output f.
    followed-form (number w64 1 (2 ^ 43 * line)) (λ serial. phase_form line) (number-form w64 1 (2 ^ 43 * line) eight_bytes (omega (arith, few))) (λ serial g.
    followed-form (number w8 0 2) (λ phase. calls_form line) (number-form w8 0 2 one_byte (omega arith)) (λ phase h.
    followed-form (number w64 0 (2 ^ 31 * line)) (λ calls. sites_form) (number-form w64 0 (2 ^ 31 * line) eight_bytes (omega (arith, few))) (λ calls k. sites-form)))))
    (λ s. refl) (λ p fits. refl)

-- an image, from its last fields on
abbrev Mailbox : Type 0
Mailbox = Pair (List (ℕ × Message)) (List ℕ)

abbrev mailbox_form : ℕ → Form Mailbox
mailbox_form ranks = followed (counted arrival_form) (λ mailbox. repeated ranks early_form)

abbrev ops_form : ℕ → ℕ → Form (Pair ℕ (Pair RankState Mailbox))
ops_form ranks line = followed (number w64 0 (200000 * line)) (λ ops. followed (state_form line) (λ state. mailbox_form ranks))

abbrev Line : Type 0
Line = Pair ℕ (Pair ℕ (Pair RankState Mailbox))

abbrev line_form : ℕ → Form Line
line_form ranks = followed u16_form (λ line. ops_form ranks line)

abbrev ranks_form : Form (Pair ℕ (Pair ℕ Line))
ranks_form = followed u16_form (λ ranks. followed u16_form (λ rank. line_form ranks))

abbrev Whole : Type 0
Whole = Pair (Unit {0}) (Pair (Unit {0}) (Pair ℕ (Pair ℕ Line)))

mailbox-form : (ranks : ℕ) → IsForm (mailbox_form ranks)
mailbox-form ranks = followed-form (counted arrival_form) (λ mailbox. repeated ranks early_form) (counted-form arrival_form arrival-form) (λ mailbox f.
    repeated-form early_form (λ rank. number-form w32 0 200000 four_bytes (omega arith)) ranks)

line-form : (ranks : ℕ) → IsForm (line_form ranks)
line-form ranks = followed-form u16_form (λ line. ops_form ranks line) u16-form (λ line f.
    let few : line ≤ 65535 = below w16 0 (2 ^ 16 - 1) line f in
    followed-form (number w64 0 (200000 * line)) (λ ops. followed (state_form line) (λ state. mailbox_form ranks)) (number-form w64 0 (200000 * line) eight_bytes (omega (arith, few))) (λ ops g.
    followed-form (state_form line) (λ state. mailbox_form ranks) (state-form line few) (λ state h. mailbox-form ranks)))

ranks-form : IsForm ranks_form
ranks-form = followed-form u16_form (λ ranks. followed u16_form (λ rank. line_form ranks)) u16-form (λ ranks f.
    followed-form u16_form (λ rank. line_form ranks) u16-form (λ rank g. line-form ranks))

pub image-form : IsForm image_form
unfolding image_form
image-form = converted-form
    (λ (p : Whole). record {
      ranks = p.second.second.first;
      rank = p.second.second.second.first;
      line = p.second.second.second.second.first;
      ops = p.second.second.second.second.second.first;
      state = p.second.second.second.second.second.second.first;
      mailbox = p.second.second.second.second.second.second.second.first;
      early = p.second.second.second.second.second.second.second.second;
    })
    (λ (i : Image). record {
      first = tt;
      second = record {
        first = tt;
        second = record {
          first = i.ranks;
          second = record {
            first = i.rank;
            second = record {
              first = i.line;
              second = record { first = i.ops; second = record { first = i.state; second = record { first = i.mailbox; second = i.early } } };
            };
          };
        };
      };
    })
    (followed (exactly (codes "C3IM")) (λ magic. followed (exactly (1 ∷ 0 ∷ [])) (λ format. ranks_form)))
    (followed-form (exactly (codes "C3IM")) (λ magic. followed (exactly (1 ∷ 0 ∷ [])) (λ format. ranks_form)) (exactly-form (codes "C3IM")) (λ magic f.
    followed-form (exactly (1 ∷ 0 ∷ [])) (λ format. ranks_form) (exactly-form (1 ∷ 0 ∷ [])) (λ format g. ranks-form)))
    (λ i. refl) (λ p fits. refl)
