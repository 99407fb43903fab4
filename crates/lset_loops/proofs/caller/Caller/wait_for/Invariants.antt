use Rattle.lset_loops.specs.Calling.{Holds}
use Rattle.lset_loops.proofs.caller.Caller.wait_for.Given as goal

abbrev pub invariant-loop-round : goal.invariant-loop-round
invariant-loop-round g l = Holds g.M.Machine.table l.self.origin l.fn.place.me.0.local l.place
