use Rattle.lset_loops.specs.Coarse.{AtKey}
use Rattle.lset_loops.proofs.coarse.walk.Given as goal

abbrev pub invariant-loop-round : goal.invariant-loop-round
invariant-loop-round g l = AtKey l.fn.caller.origin l.fn.caller.slots l.pred.number l.curr.number l.place
