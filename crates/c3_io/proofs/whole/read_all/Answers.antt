use Rattle.std.proofs.Common.{rules, ◌++◌, length, take, length-append, arith}
use Rattle.std.proofs.lemmas.List.{length-take}
use Rattle.c3_io.proofs.Known.{HasMoreThan-from_Consumes, Took-from_Consumes, Consumes-then}
use Rattle.c3_io.proofs.whole.read_all.Goals as goal

pub returns-clause-too_long : goal.returns-clause-too_long
returns-clause-too_long g c _ = HasMoreThan-from_Consumes (g.S.Source.left c.args.source.now) _ c.loop-chunk.bytes.items c.args.limit c.loop-chunk.invariant.taken (omega (arith, c.loop-chunk-test.false, c.len.ensures))

pub returns-in_err-extend_from_slice-in-Ok-clause-took : goal.returns-in_err-extend_from_slice-in-Ok-clause-took
returns-in_err-extend_from_slice-in-Ok-clause-took g c =
    let read = take c.in-Ok.count c.take.new.into in
    let taken = c.loop-chunk.bytes.items ++ read in (
      length taken,
      search (rules, arith, length-append, length-take),
      Took-from_Consumes (g.S.Source.left c.args.source.now) _ taken (Consumes-then _ _ _ c.loop-chunk.bytes.items read c.loop-chunk.invariant.taken c.in-Ok.ensures.bytes.0),
    )
