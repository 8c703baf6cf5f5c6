use Rattle.std.proofs.Common.{◌∙◌, Some, sym}
use Rattle.c_check.specs.Check.{Accepted, Refused}
use Rattle.c_check.proofs.Verdicts.{only, noted, accepts, refuses, some_form}
use Rattle.c_check.proofs.Regular.{is_regular_program}
use Rattle.c_check.proofs.check.Goals as goal

pub returns-in-Some-clause-right : goal.returns-in-Some-clause-right
returns-in-Some-clause-right c =
    refuses c.args.tree.now c.deref.result.now c.in-Some.breach
    (noted _ _ _ _ c.deref.ensures.value c.in_ok-found.ensures.breaches c.new-walker.ensures)
    (sym c.first.ensures ∙ c.in-Some.is)

pub returns-in-Some-clause-exact : goal.returns-in-Some-clause-exact
returns-in-Some-clause-exact c =
    only c.args.tree.now (Some (Refused c.in-Some.breach.kind c.in-Some.breach.at)) (returns-in-Some-clause-right c)

pub returns-in-Some-found-clause-right : goal.returns-in-Some-found-clause-right
returns-in-Some-found-clause-right c =
    accepts c.args.tree.now c.deref.result.now c.in-Some-found.program
    (noted _ _ _ _ c.deref.ensures.value c.in_ok-found.ensures.breaches c.new-walker.ensures)
    (sym c.first.ensures ∙ c.in-None.is)
    (sym c.in-Some-found.is ∙ c.in_ok-found.ensures.found)

pub returns-in-Some-found-clause-exact : goal.returns-in-Some-found-clause-exact
returns-in-Some-found-clause-exact c =
    only c.args.tree.now (Some (Accepted c.in-Some-found.program)) (returns-in-Some-found-clause-right c)

pub returns-in-Some-found-clause-regular : goal.returns-in-Some-found-clause-regular
returns-in-Some-found-clause-regular c = is_regular_program c.args.tree.now c.in-Some-found.program (returns-in-Some-found-clause-right c)

pub unreachable-requires : goal.unreachable-requires
unreachable-requires c =
    some_form c.args.tree.now c.deref.result.now
    (noted _ _ _ _ c.deref.ensures.value c.in_ok-found.ensures.breaches c.new-walker.ensures)
    (sym c.first.ensures ∙ c.in-None.is)
    (sym c.in-None-found.is ∙ c.in_ok-found.ensures.found)
