use Rattle.lset_lists.proofs.Linearized.{runs_linearize}
use Rattle.lset_lists.proofs.theorem.runs_are_linearizable.Goals as goal

pub returns : goal.returns
returns g c = runs_linearize g.M.Machine.table c.placement_explains_runs.ensures
