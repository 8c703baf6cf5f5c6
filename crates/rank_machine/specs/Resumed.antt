-- Objects of malloc that can come back, one after another.
use Rattle.std.specs.Prelude.{◌≡◌, ℕ, ◌+◌, ◌<◌, ◌≤◌, List, [], ◌∷◌, ◌++◌, length, None}
use Rattle.c_memory.specs.Memory.{Object, find_object}
use Rattle.c_memory.specs.Resumed.{insert_object}
use Rattle.flat_code.specs.Placed.{Block}
use Rattle.image_text.specs.declared.object.SavedObject.{SavedObject}
use Rattle.rank_machine.specs.Saving.{block_of, object_of}
use Rattle.rank_machine.specs.Tied.{AreApart}

-- an object can come above these blocks, with a serial that none of these has
pub record CanKeep (next : ℕ) (bs : List Block) (heap : List Object) (o : SavedObject) : Type 0 where
  pub above : AreApart o.place 0 bs
  pub within : o.place + length o.cells ≤ 65536
  pub positive : 0 < o.serial
  pub below : o.serial < next
  pub new : find_object heap o.serial ≡ None

abbrev pub AreReady : ℕ → List Block → List Object → List SavedObject → Type 0
AreReady next bs heap [] = Unit {0}
AreReady next bs heap (o ∷ os) = CanKeep next bs heap o × AreReady next (bs ++ block_of o ∷ []) (insert_object (object_of o) heap) os
