-- Calls get the serials of saved variables, from the newest on.
use Rattle.std.proofs.Common.{◌≡◌, ◌-◌, List, [], ◌∷◌, ◌++◌, length, map, take, ap, sym, ◌∙◌}
use Rattle.std.proofs.lemmas.List.{append_assoc, map-append}
use Rattle.flat_code.specs.Machine as machine
use Rattle.flat_code.specs.Restart.{first_among, numbered}
use Rattle.image_text.specs.declared.object.SavedObject.{SavedObject}
use Rattle.rank_machine.specs.declared.frame.Frame.{Frame}
use Rattle.rank_machine.specs.State.{frame_of, frames_of}
use Rattle.rank_machine.proofs.Frames.{frames_more}
use Rattle.rank_machine.proofs.Numbers.{numbers, numbers_left}

-- a call with the serials of the newest of these variables
abbrev pub with_newest : List SavedObject → machine.Frame → machine.Frame
with_newest vs f = record f { variables = record { first = first_among (numbers vs) f.variables.count; count = f.variables.count } }

pub one_more : (newest before after : List Frame) (frame other : Frame) (vs : List SavedObject) → before ≡ after ++ frame ∷ [] → frame_of other ≡ with_newest vs (frame_of frame) → map frame_of (newest ++ other ∷ []) ++ numbered (numbers (take (length vs - frame.variables.count) vs)) (frames_of after) ≡ map frame_of newest ++ numbered (numbers vs) (frames_of before)
one_more newest before after frame other vs e f =
    let n = frame.variables.count in
    let rest = numbered (numbers (take (length vs - n) vs)) (frames_of after) in
    let left : numbered (numbers vs) (frames_of before) ≡ with_newest vs (frame_of frame) ∷ rest = ap (λ fs. numbered (numbers vs) (frames_of fs)) e ∙ ap (numbered (numbers vs)) (frames_more after frame) ∙ ap (λ ss. with_newest vs (frame_of frame) ∷ numbered ss (frames_of after)) (numbers_left n vs) in
    ap (λ fs. fs ++ rest) (map-append frame_of newest (other ∷ [])) ∙ append_assoc (map frame_of newest) (frame_of other ∷ []) rest ∙ ap (λ g. map frame_of newest ++ g ∷ rest) f ∙ sym (ap (λ x. map frame_of newest ++ x) left)
