-- Limits and texts of images.
use Rattle.std.proofs.Common.{◌≡◌, ℕ, ◌*◌, ◌^◌, true, ◌&&◌, List, ◌++◌, ◌∙◌, ap}
use Rattle.std.proofs.lemmas.Bool.{and_parts}
use Rattle.std.proofs.lemmas.List.{append_assoc}
use Rattle.std.specs.Int.{w8, w32, w64}
use Rattle.file_fields.specs.Cells.{cell_form}
use Rattle.file_fields.specs.Forms.{exactly, number, counted, repeated}
use Rattle.file_fields.specs.Messages.{arrival_form}
use Rattle.image_text.specs.declared.object.SavedObject.{SavedObject}
use Rattle.image_text.specs.declared.state.RankState.{RankState}
use Rattle.image_text.specs.declared.image.Image.{Image}
use Rattle.image_text.specs.Texts.{u16_form, u32_form, u64_form, object_form, state_form, early_form, image_form}

-- one piece of a text, and the pieces behind it
pub put : (old piece rest mid new : List ℕ) → mid ≡ old ++ piece → new ≡ mid ++ rest → new ≡ old ++ (piece ++ rest)
put old piece rest mid new first last = last ∙ ap (λ l. l ++ rest) first ∙ append_assoc old piece rest

pub object-cells : (o : SavedObject) → object_form.fits o ≡ true → (counted cell_form).fits o.cells ≡ true
unfolding object_form
object-cells o fits = (and_parts (u32_form.fits o.place) ((counted cell_form).fits o.cells) (and_parts (u64_form.fits o.serial) (u32_form.fits o.place && (counted cell_form).fits o.cells) fits).1).1

-- the lists of a state fit
pub record ListsFit (s : RankState) : Type 0 where
  pub sites : (counted u32_form).fits s.sites ≡ true
  pub variables : (counted object_form).fits s.variables ≡ true
  pub objects : (counted object_form).fits s.objects ≡ true

pub state-lists : (line : ℕ) (s : RankState) → (state_form line).fits s ≡ true → ListsFit s
unfolding state_form
state-lists line s fits =
    let sites = (counted u32_form).fits s.sites in
    let variables = (counted object_form).fits s.variables in
    let objects = (counted object_form).fits s.objects in
    let calls = (number w64 0 (2 ^ 31 * line)).fits s.calls in
    let phase = (number w8 0 2).fits s.phase in
    let serial = (number w64 1 (2 ^ 43 * line)).fits s.serial in
    let a = and_parts ((number w32 0 1048576).fits s.output) (serial && (phase && (calls && (sites && (variables && objects))))) fits in
    let b = and_parts serial (phase && (calls && (sites && (variables && objects)))) a.1 in
    let c = and_parts phase (calls && (sites && (variables && objects))) b.1 in
    let d = and_parts calls (sites && (variables && objects)) c.1 in
    let e = and_parts sites (variables && objects) d.1 in
    let f = and_parts variables objects e.1 in
    record { sites = e.0; variables = f.0; objects = f.1 }

pub record PartsFit (i : Image) : Type 0 where
  pub state : (state_form i.line).fits i.state ≡ true
  pub mailbox : (counted arrival_form).fits i.mailbox ≡ true

pub image-parts : (i : Image) → image_form.fits i ≡ true → PartsFit i
unfolding image_form exactly
image-parts i fits =
    let early = (repeated i.ranks early_form).fits i.early in
    let mailbox = (counted arrival_form).fits i.mailbox in
    let state = (state_form i.line).fits i.state in
    let ops = (number w64 0 (200000 * i.line)).fits i.ops in
    let line = u16_form.fits i.line in
    let rank = u16_form.fits i.rank in
    let ranks = u16_form.fits i.ranks in
    let a = and_parts ranks (rank && (line && (ops && (state && (mailbox && early))))) fits in
    let b = and_parts rank (line && (ops && (state && (mailbox && early)))) a.1 in
    let c = and_parts line (ops && (state && (mailbox && early))) b.1 in
    let d = and_parts ops (state && (mailbox && early)) c.1 in
    let e = and_parts state (mailbox && early) d.1 in
    record { state = e.0; mailbox = (and_parts mailbox early e.1).0 }
