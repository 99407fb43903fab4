use Rattle.lset_steps.proofs.Promised.{lock_uses_of}
use Rattle.lset_steps.proofs.laws.lock_uses.Goals as goal

pub returns : goal.returns
returns g c = lock_uses_of g.M.Machine.table g.met.M.Machine.lawful
