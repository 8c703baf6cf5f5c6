use Rattle.std.proofs.Common.{◌<◌, length, ap, arith}
use Rattle.c_memory.specs.Memory.{is_full}
use Rattle.c_meaning.specs.Running.{todo, block_of, call_of, below, state_of}
use Rattle.c_meaning.proofs.Begins.{begun}
use Rattle.c_meaning.proofs.running.Running.begin.Goals as goal

pub returns : goal.returns
returns c =
    let fs = c.args.functions.now in
    let frame = c.args.frame.now in
    let h : c.args.next < length (block_of fs frame) = omega (arith, c.if-block-next.false, ap length c.block-block.ensures) in
    begun fs is_full (state_of fs c.args.self.now) (call_of fs frame) (below fs c.args.self.now) (block_of fs frame) c.args.next (todo fs frame) _ h (c.in_ok-push.ensures _)
