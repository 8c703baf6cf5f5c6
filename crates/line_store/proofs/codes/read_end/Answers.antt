use Rattle.std.proofs.Common.{arith, w32}
use Rattle.line_store.proofs.Pieces.{read-most}
use Rattle.line_store.proofs.codes.read_end.Goals as goal

pub overflow_cast-result : goal.overflow_cast-result
overflow_cast-result c = record { fits = omega (arith, read-most w32 101 118 c.in_ok-code.code c.u8.new.self c.u32.new.self c.in_ok-code.ensures) }
