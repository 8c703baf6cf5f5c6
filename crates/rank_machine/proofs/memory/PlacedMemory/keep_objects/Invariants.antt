use Rattle.std.proofs.Common.{◌≡◌, ◌++◌, ◌≤◌, drop, map}
use Rattle.rank_machine.specs.Resumed.{AreReady}
use Rattle.rank_machine.specs.Saving.{among, block_of, object_of}
use Rattle.rank_machine.proofs.memory.PlacedMemory.keep_objects.Given as goal

abbrev pub invariant-loop-o : goal.invariant-loop-o
invariant-loop-o l = record {
  asked : 65536 ≤ l.self.memory.asked;
  ready : AreReady l.self.memory.next l.self.blocks l.self.memory.heap (drop l.o-index l.objects);
  memory : l.self.memory ≡ record l.fn.self.memory { heap = l.self.memory.heap };
  heap : among l.self.memory.heap (map object_of (drop l.o-index l.objects)) ≡ among l.fn.self.memory.heap (map object_of l.objects);
  blocks : l.self.blocks ++ map block_of (drop l.o-index l.objects) ≡ l.fn.self.blocks ++ map block_of l.objects;
}
