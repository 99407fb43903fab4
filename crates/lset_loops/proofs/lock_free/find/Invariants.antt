use Rattle.lset_loops.specs.LockFree.{AtLink}
use Rattle.lset_loops.proofs.lock_free.find.Given as goal

abbrev pub invariant-loop-round : goal.invariant-loop-round
invariant-loop-round g l = AtLink l.fn.caller.origin l.fn.caller.slots l.pred.number l.curr.number l.place
