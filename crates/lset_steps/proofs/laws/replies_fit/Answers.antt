use Rattle.lset_steps.proofs.Promised.{replies_fit_of}
use Rattle.lset_steps.proofs.laws.replies_fit.Goals as goal

pub returns : goal.returns
returns g c = replies_fit_of g.M.Machine.table g.met.M.Machine.lawful
