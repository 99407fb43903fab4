use Rattle.std.proofs.Common.{◌/◌}
use Rattle.lset_loops.specs.Lazy.{AtKey}
use Rattle.lset_loops.proofs.lazy.lazy_change_within.Given as goal

abbrev pub invariant-loop-round : goal.invariant-loop-round
invariant-loop-round g l = AtKey l.caller.origin l.caller.slots 0 (l.link / 2) l.place
