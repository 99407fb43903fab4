use Rattle.lset_loops.proofs.StepsOfCall.{of_table}
use Rattle.lset_loops.proofs.caller.Caller.release_last.Goals as goal

pub step_on-requires-clause-place : goal.step_on-requires-clause-place
step_on-requires-clause-place g c = of_table _ _ _ _ _ c.args.self.now.is_call _ _ c.requires.holds
