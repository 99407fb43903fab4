use Rattle.lset_steps.proofs.Promised.{in_range_of}
use Rattle.lset_steps.proofs.laws.in_range.Goals as goal

pub returns : goal.returns
returns g c = in_range_of g.M.Machine.table g.met.M.Machine.lawful
