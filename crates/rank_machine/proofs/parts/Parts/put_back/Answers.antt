use Rattle.std.proofs.Common.{refl}
use Rattle.rank_machine.proofs.Descriptions.{newest_described}
use Rattle.rank_machine.proofs.Readiness.{ready, rising}
use Rattle.rank_machine.proofs.parts.Parts.put_back.Goals as goal

pub keep_variables-requires : goal.keep_variables-requires
keep_variables-requires c = rw (c.clear.ensures.memory, c.as_slice.ensures) (rising c.requires.formed.0 c.args.state.now c.requires.formed.1)

pub keep_objects-requires-clause-ready : goal.keep_objects-requires-clause-ready
keep_objects-requires-clause-ready c = rw (c.in_ok-keep_variables.ensures.memory, c.in_ok-keep_variables.ensures.blocks, c.clear.ensures.memory, c.clear.ensures.blocks, c.as_slice-2.ensures) (ready c.requires.formed.0 c.args.state.now c.requires.formed.1)

pub returns-clause-machine : goal.returns-clause-machine
returns-clause-machine c frames =
    let serials = newest_described c.in_ok-self.field-0 c.as_slice-3.result.now c.in_ok-self.ensures in
    rw (serials, c.in_ok-keep_objects.ensures.memory, c.in_ok-keep_variables.ensures.memory, c.clear.ensures.memory, c.as_slice.ensures, c.as_slice-2.ensures, c.as_slice-3.ensures, c.phase_of-self.ensures, c.from-self.ensures) refl
