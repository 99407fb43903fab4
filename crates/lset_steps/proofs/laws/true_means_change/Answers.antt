use Rattle.lset_steps.proofs.Promised.{true_means_change_of}
use Rattle.lset_steps.proofs.laws.true_means_change.Goals as goal

pub returns : goal.returns
returns g c = true_means_change_of g.M.Machine.table g.met.M.Machine.lawful
