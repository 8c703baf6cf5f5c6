-- The text of an image.
use Rattle.std.specs.Prelude.{ℕ, ◌-◌, ◌*◌, ◌^◌, [], ◌∷◌, codes}
use Rattle.std.specs.Int.{w8, w16, w32, w64}
use Rattle.image_text.specs.declared.object.SavedObject.{SavedObject}
use Rattle.image_text.specs.declared.state.RankState.{RankState}
use Rattle.image_text.specs.declared.image.Image.{Image}
use Rattle.file_fields.specs.Forms.{Form, exactly, number, followed, repeated, converted, counted}
use Rattle.file_fields.specs.Cells.{cell_form}
use Rattle.file_fields.specs.Messages.{arrival_form}

abbrev pub u16_form : Form ℕ
u16_form = number w16 0 (2 ^ 16 - 1)

abbrev pub u32_form : Form ℕ
u32_form = number w32 0 (2 ^ 32 - 1)

abbrev pub u64_form : Form ℕ
u64_form = number w64 0 (2 ^ 64 - 1)

-- serial, place and cells
unfoldable pub object_form : Form SavedObject
object_form = converted
    (λ p. record { serial = p.first; place = p.second.first; cells = p.second.second })
    (λ o. record { first = o.serial; second = record { first = o.place; second = o.cells } })
    (followed u64_form (λ serial. followed u32_form (λ place. counted cell_form)))

-- output, serial, phase, calls, sites, variables and objects of a state that is saved for a line
unfoldable pub state_form : ℕ → Form RankState
state_form line = converted
    (λ p. record {
      output = p.first;
      serial = p.second.first;
      phase = p.second.second.first;
      calls = p.second.second.second.first;
      sites = p.second.second.second.second.first;
      variables = p.second.second.second.second.second.first;
      objects = p.second.second.second.second.second.second;
    })
    (λ s. record {
      first = s.output;
      second = record {
        first = s.serial;
        second = record {
          first = s.phase;
          second = record {
            first = s.calls;
            second = record { first = s.sites; second = record { first = s.variables; second = s.objects } };
          };
        };
      };
    })
    (followed (number w32 0 1048576) (λ output.
    followed (number w64 1 (2 ^ 43 * line)) (λ serial.
    followed (number w8 0 2) (λ phase.
    followed (number w64 0 (2 ^ 31 * line)) (λ calls.
    followed (counted u32_form) (λ sites.
    followed (counted object_form) (λ variables.
    counted object_form)))))))

-- an early count
abbrev pub early_form : ℕ → Form ℕ
early_form rank = number w32 0 200000

-- magic, format, ranks, rank, line, ops, state, mailbox and early counts
unfoldable pub image_form : Form Image
image_form = converted
    (λ p. record {
      ranks = p.second.second.first;
      rank = p.second.second.second.first;
      line = p.second.second.second.second.first;
      ops = p.second.second.second.second.second.first;
      state = p.second.second.second.second.second.second.first;
      mailbox = p.second.second.second.second.second.second.second.first;
      early = p.second.second.second.second.second.second.second.second;
    })
    (λ i. record {
      first = tt;
      second = record {
        first = tt;
        second = record {
          first = i.ranks;
          second = record {
            first = i.rank;
            second = record {
              first = i.line;
              second = record { first = i.ops; second = record { first = i.state; second = record { first = i.mailbox; second = i.early } } };
            };
          };
        };
      };
    })
    (followed (exactly (codes "C3IM")) (λ magic.
    followed (exactly (1 ∷ 0 ∷ [])) (λ format.
    followed u16_form (λ ranks.
    followed u16_form (λ rank.
    followed u16_form (λ line.
    followed (number w64 0 (200000 * line)) (λ ops.
    followed (state_form line) (λ state.
    followed (counted arrival_form) (λ mailbox.
    repeated ranks early_form)))))))))
