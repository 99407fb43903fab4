use Rattle.lset_steps.proofs.Promised.{no_link_is_marked_of}
use Rattle.lset_steps.proofs.laws.no_link_is_marked.Goals as goal

pub returns : goal.returns
returns g c = no_link_is_marked_of g.M.Machine.table g.met.M.Machine.lawful
