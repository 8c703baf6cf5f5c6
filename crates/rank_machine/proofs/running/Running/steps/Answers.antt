use Rattle.std.proofs.Common.{◌≡◌, ◌<◌, ◌+◌, ◌-◌, Option, ap, ◌∙◌, arith, rules}
use Rattle.mpi_words.specs.declared.operation.Want.{Want}
use Rattle.rank_machine.specs.Running.{placing_of}
use Rattle.rank_machine.specs.Turning.{gone_on, most_steps}
use Rattle.rank_machine.proofs.Counted.{one_more}
use Rattle.rank_machine.proofs.running.Running.steps.Goals as goal

pub returns-in-Some-clause-function : goal.returns-in-Some-clause-function
returns-in-Some-clause-function c =
    let fs = c.args.functions.now in
    let q = placing_of c.part.new.self in
    let less : c.loop.counter < 18446744073709551615 = omega arith in
    one_more fs c.args.limit c.loop.left c.loop.counter (placing_of c.args.self.now) (placing_of c.loop.self) (λ k. gone_on fs k c.part.new.left c.in_ok-want.field-0 q) less c.loop.invariant.function c.in_ok-want.ensures.function
    ∙ ap (λ (w : Option Want). gone_on fs (most_steps - (c.loop.counter + 1)) c.part.new.left w q) c.in-Some.is

pub loop-preserved : goal.loop-preserved
loop-preserved c = record {
  turn = search rules;
  function =
      let fs = c.args.functions.now in
      let q = placing_of c.part.new.self in
      let less : c.loop.counter < 18446744073709551615 = omega arith in
      one_more fs c.args.limit c.loop.left c.loop.counter (placing_of c.args.self.now) (placing_of c.loop.self) (λ k. gone_on fs k c.part.new.left c.in_ok-want.field-0 q) less c.loop.invariant.function c.in_ok-want.ensures.function
      ∙ ap (λ (w : Option Want). gone_on fs (most_steps - (c.loop.counter + 1)) c.part.new.left w q) c.in_default.is;
}
