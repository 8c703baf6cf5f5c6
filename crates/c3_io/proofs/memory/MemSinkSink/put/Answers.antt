use Rattle.std.proofs.Common.{Contains, inl, subst}
use Rattle.c3_io.specs.Memory.{Output}
use Rattle.c3_io.proofs.memory.MemSinkSink.put.Goals as goal

pub returns-then-next_fails-clause-fails_only : goal.returns-then-next_fails-clause-fails_only
returns-then-next_fails-clause-fails_only c = inl (subst (λ (s : Output). Contains s.fail s.calls) c.self.view_is (c.next_fails.ensures.fails.0 c.if-next_fails.true))
