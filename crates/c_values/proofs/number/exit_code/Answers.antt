use Rattle.std.proofs.Common.{rules}
use Rattle.c_values.proofs.Exits.{exit_code}
use Rattle.c_values.proofs.number.exit_code.Goals as goal

pub returns : goal.returns
returns c = exit_code c.args.v.word c.rem_euclid.result c.cast_signed.result (search rules) (search rules) (search rules) c.rem_euclid.ensures.value c.cast_signed.ensures
