use Rattle.lset_steps.proofs.Promised.{unmarked_in_chain_of}
use Rattle.lset_steps.proofs.laws.unmarked_nodes_in_chain.Goals as goal

pub returns : goal.returns
returns g c = unmarked_in_chain_of g.M.Machine.table g.met.M.Machine.lawful
