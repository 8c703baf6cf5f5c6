-- The newest call is the last.
use Rattle.std.proofs.Common.{◌≡◌, List, [], ◌∷◌, ◌++◌, map, ap}
use Rattle.std.proofs.lemmas.List.{reverse-append}
use Rattle.rank_machine.specs.declared.frame.Frame.{Frame}
use Rattle.rank_machine.specs.State.{frame_of, frames_of}

pub frames_more : (frames : List Frame) (frame : Frame) → frames_of (frames ++ frame ∷ []) ≡ frame_of frame ∷ frames_of frames
frames_more frames frame = ap (map frame_of) (reverse-append frames (frame ∷ []))
