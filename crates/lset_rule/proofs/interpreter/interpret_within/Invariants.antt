use Rattle.lset_rule.proofs.RowSteps.{Reached}
use Rattle.lset_rule.proofs.interpreter.interpret_within.Given as goal

abbrev pub ghosts-start_on : goal.ghosts-start_on
ghosts-start_on g a = record { call = a.call }

abbrev pub invariant-loop-round : goal.invariant-loop-round
invariant-loop-round g l = Reached g.M.Machine.table l.fn.call l.fn.place l.last.fed l.place
