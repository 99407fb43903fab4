use Rattle.lset_loops.specs.Fine.{AtLock}
use Rattle.lset_loops.proofs.fine.walk.Given as goal

abbrev pub invariant-loop-round : goal.invariant-loop-round
invariant-loop-round g l = AtLock l.fn.caller.origin l.fn.caller.slots l.pred.number l.curr.number l.place
