use Rattle.std.proofs.Common.{◌≡◌, ℕ, ◌%◌, List, [], ◌∷◌, ◌++◌, ◌∙◌, ap, arith, rules, Fits, w8, w32, w64}
use Rattle.std.specs.Int.{to_le_bytes}
use Rattle.file_fields.specs.Forms.{number, counted}
use Rattle.image_text.specs.declared.object.SavedObject.{SavedObject}
use Rattle.image_text.specs.Texts.{u32_form, object_form, state_form}
use Rattle.image_text.proofs.Texts.{put, state-lists}
use Rattle.image_text.proofs.fields.write_state.Goals as goal

pub write_list-requires : goal.write_list-requires
write_list-requires c = ap (λ (l : List ℕ). (counted u32_form).fits l) c.as_slice.ensures ∙ (state-lists c.args.line c.args.state.now c.requires).sites

pub write_list-requires-2 : goal.write_list-requires-2
write_list-requires-2 c = ap (λ (l : List SavedObject). (counted object_form).fits l) c.as_slice-2.ensures ∙ (state-lists c.args.line c.args.state.now c.requires).variables

pub write_list-requires-3 : goal.write_list-requires-3
write_list-requires-3 c = ap (λ (l : List SavedObject). (counted object_form).fits l) c.as_slice-3.ensures ∙ (state-lists c.args.line c.args.state.now c.requires).objects

pub returns : goal.returns
unfolding state_form number
returns c =
    let s = c.args.state.now in
    let old = c.args.text.now.items in
    let output = to_le_bytes w32 s.output in
    let serial = to_le_bytes w64 s.serial in
    let phase = to_le_bytes w8 s.phase in
    let calls = to_le_bytes w64 s.calls in
    let sites = (counted u32_form).text s.sites in
    let variables = (counted object_form).text s.variables in
    let objects = (counted object_form).text s.objects in
    let n1 = c.append.new.text.items in
    let n2 = c.append-2.new.text.items in
    let n3 = c.append-3.new.text.items in
    let n4 = c.append-4.new.text.items in
    let n5 = c.write_list.new.text.items in
    let n6 = c.write_list-2.new.text.items in
    let new = c.write_list-3.new.text.items in
    let small : Fits w8 s.phase = search rules in
    let byte : s.phase ≡ s.phase % 256 = omega (arith, small.fits) in
    put old output (serial ++ (phase ++ (calls ++ (sites ++ (variables ++ objects))))) n1 new (c.in_ok-append.ensures ∙ ap (λ (l : List ℕ). old ++ l) c.to_le_bytes.ensures)
    (put n1 serial (phase ++ (calls ++ (sites ++ (variables ++ objects)))) n2 new (c.in_ok-append-2.ensures ∙ ap (λ (l : List ℕ). n1 ++ l) c.to_le_bytes-2.ensures)
    (put n2 phase (calls ++ (sites ++ (variables ++ objects))) n3 new (c.in_ok-append-3.ensures ∙ ap (λ (l : List ℕ). n2 ++ l) c.to_le_bytes-3.ensures ∙ ap (λ (n : ℕ). n2 ++ n ∷ []) byte)
    (put n3 calls (sites ++ (variables ++ objects)) n4 new (c.in_ok-append-4.ensures ∙ ap (λ (l : List ℕ). n3 ++ l) c.to_le_bytes-4.ensures)
    (put n4 sites (variables ++ objects) n5 new (c.in_ok-write_list.ensures ∙ ap (λ (l : List ℕ). n4 ++ (counted u32_form).text l) c.as_slice.ensures)
    (put n5 variables objects n6 new (c.in_ok-write_list-2.ensures ∙ ap (λ (l : List SavedObject). n5 ++ (counted object_form).text l) c.as_slice-2.ensures)
    (c.in_ok-write_list-3.ensures ∙ ap (λ (l : List SavedObject). n6 ++ (counted object_form).text l) c.as_slice-3.ensures))))))
