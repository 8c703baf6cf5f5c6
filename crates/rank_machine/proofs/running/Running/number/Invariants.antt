use Rattle.std.proofs.Common.{◌≡◌, ◌++◌, length, map}
use Rattle.flat_code.specs.Restart.{numbered}
use Rattle.rank_machine.specs.State.{frame_of, frames_of}
use Rattle.rank_machine.proofs.Numbers.{numbers}
use Rattle.rank_machine.proofs.running.Running.number.Given as goal

abbrev pub invariant-loop-frame : goal.invariant-loop-frame
invariant-loop-frame l = record {
  parts : l.self.parts ≡ l.fn.self.parts;
  end : l.self.end ≡ l.fn.self.end;
  frames : map frame_of l.newest.items ++ numbered (numbers l.left) (frames_of l.self.frames.items) ≡ numbered (numbers l.variables) (frames_of l.fn.self.frames.items);
}

abbrev pub decreases-loop-frame : goal.decreases-loop-frame
decreases-loop-frame l = length l.self.frames.items
