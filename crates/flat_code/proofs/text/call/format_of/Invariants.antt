use Rattle.std.proofs.Common.{◌≡◌, ◌++◌, drop, flat_map}
use Rattle.std.specs.Prelude.{codes}
use Rattle.flat_code.specs.Text.{piece_text}
use Rattle.flat_code.proofs.text.call.format_of.Given as goal

abbrev pub invariant-loop-piece : goal.invariant-loop-piece
invariant-loop-piece l = l.text.items ++ flat_map piece_text (drop l.piece-index l.format) ≡ codes "\"" ++ flat_map piece_text l.format
