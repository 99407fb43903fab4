use Rattle.lset_steps.proofs.Promised.{seen_before_of}
use Rattle.lset_steps.proofs.laws.seen_in_the_past.Goals as goal

pub returns : goal.returns
returns g c = seen_before_of g.M.Machine.table g.met.M.Machine.lawful
