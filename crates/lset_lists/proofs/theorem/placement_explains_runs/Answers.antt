use Rattle.lset_lists.proofs.Linearized.{placement_explains}
use Rattle.lset_lists.proofs.theorem.placement_explains_runs.Goals as goal

pub returns : goal.returns
returns g c = placement_explains g.M.Machine.table c.has_account.ensures c.listed_content.ensures
