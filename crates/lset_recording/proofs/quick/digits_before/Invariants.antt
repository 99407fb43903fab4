use Rattle.std.proofs.Common.{◌≤◌, ◌-◌}
use Rattle.lset_recording.proofs.NumbersBefore.{AreDigits}
use Rattle.lset_recording.proofs.quick.digits_before.Given as goal

abbrev pub invariant-loop-i : goal.invariant-loop-i
invariant-loop-i l = (l.i ≤ l.most) × AreDigits l.text l.i l.value

abbrev pub decreases-loop-i : goal.decreases-loop-i
decreases-loop-i l = l.most - l.i
