use Rattle.lset_steps.proofs.Promised.{named_change_of}
use Rattle.lset_steps.proofs.laws.named_change.Goals as goal

pub returns : goal.returns
returns g c = named_change_of g.M.Machine.table g.met.M.Machine.lawful
