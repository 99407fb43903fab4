use Rattle.std.proofs.Common.{◌/◌}
use Rattle.lset_loops.specs.LockFree.{AtLink}
use Rattle.lset_loops.proofs.lock_free.lock_free_change_within.Given as goal

abbrev pub invariant-loop-round : goal.invariant-loop-round
invariant-loop-round g l = AtLink l.caller.origin l.caller.slots 0 (l.link / 2) l.place
