use Rattle.std.proofs.Common.{length}
use Rattle.lset_judge.proofs.count.+need_turns.Given as goal

abbrev pub decreases-need_turns : goal.decreases-need_turns
decreases-need_turns l = length l.calls.now
