use Rattle.lset_steps.proofs.Promised.{frozen_nodes_of}
use Rattle.lset_steps.proofs.laws.frozen_nodes.Goals as goal

pub returns : goal.returns
returns g c = frozen_nodes_of g.M.Machine.table g.met.M.Machine.lawful
