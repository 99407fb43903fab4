use Rattle.lset_steps.proofs.Promised.{sorted_chain_of}
use Rattle.lset_steps.proofs.laws.sorted_chain.Goals as goal

pub returns : goal.returns
returns g c = sorted_chain_of g.M.Machine.table g.met.M.Machine.lawful
