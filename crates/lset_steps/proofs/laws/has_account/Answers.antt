use Rattle.lset_steps.proofs.Promised.{account_is}
use Rattle.lset_steps.proofs.laws.has_account.Goals as goal

pub returns : goal.returns
returns g c = account_is g.M.Machine.table g.met.M.Machine.lawful
