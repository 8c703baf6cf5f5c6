use Rattle.std.proofs.Common.{◌≡◌}
use Rattle.std.specs.Io.KnownBytes.{Keeps}
use Rattle.c3_io.proofs.standard.StdSinkSink.put.Given as goal

abbrev pub invariant-loop : goal.invariant-loop
invariant-loop g l = record {
  no_fault : l.self-inside.faults ≡ l.initial.self-inside.faults;
  kept : Keeps (g.O.Write.contents l.initial.self-inside.writer) (g.O.Write.contents l.self-inside.writer);
}
