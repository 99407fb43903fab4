use Rattle.lset_steps.proofs.Promised.{unlinked_stays_of}
use Rattle.lset_steps.proofs.laws.unlinked_nodes_stay.Goals as goal

pub returns : goal.returns
returns g c = unlinked_stays_of g.M.Machine.table g.met.M.Machine.lawful
