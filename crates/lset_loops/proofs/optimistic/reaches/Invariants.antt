use Rattle.lset_loops.specs.Optimistic.{AtNode}
use Rattle.lset_loops.proofs.optimistic.reaches.Given as goal

abbrev pub invariant-loop-round : goal.invariant-loop-round
invariant-loop-round g l = AtNode l.fn.caller.origin l.fn.caller.slots l.fn.stopped l.node l.place
