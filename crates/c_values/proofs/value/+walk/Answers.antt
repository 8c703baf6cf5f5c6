use Rattle.c_values.proofs.Nodes.{goes_on}
use Rattle.c_values.proofs.value.+walk.Goals as goal

pub value-returns-in_ok-a-in-Chain : goal.value-returns-in_ok-a-in-Chain
value-returns-in_ok-a-in-Chain g t c = goes_on c.args.e.now c.in-Chain.first c.get-in-Chain.result.now c.in-Chain.rest c.as_slice.result.now c.args.variables.now (g.M.Objects.memory c.args.memory.now) c.in_ok-a-in-Chain.a c.chain.result c.in-Chain.is c.get-in-Chain.ensures c.as_slice.ensures c.in_ok-a-in-Chain.ensures c.chain.ensures
