use Rattle.std.proofs.Common.{◌≡◌, ◌+◌, drop}
use Rattle.c_memory.specs.Memory.{with_arguments}
use Rattle.c_memory.proofs.objects.Objects.pass.Given as goal

abbrev pub invariant-loop-v : goal.invariant-loop-v
invariant-loop-v g l = record {
  serial : l.serial ≡ l.fn.first + l.v-index;
  memory : with_arguments (g.Self.Objects.memory l.self) l.serial (drop l.v-index l.arguments) ≡ with_arguments (g.Self.Objects.memory l.fn.self) l.fn.first l.fn.arguments;
  rest : g.Self.Objects.rest l.self ≡ g.Self.Objects.rest l.fn.self;
}
