use Rattle.lset_steps.proofs.Promised.{listed_content_of}
use Rattle.lset_steps.proofs.laws.listed_content.Goals as goal

pub returns : goal.returns
returns g c = listed_content_of g.M.Machine.table g.met.M.Machine.lawful
