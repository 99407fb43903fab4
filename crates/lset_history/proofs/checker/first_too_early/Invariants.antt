use Rattle.std.proofs.Common.{◌≤◌, length}
use Rattle.lset_history.proofs.EarlyCalls.{FindsEarly, EndsSmallest}
use Rattle.lset_history.proofs.checker.first_too_early.Given as goal

abbrev pub invariant-loop-i : goal.invariant-loop-i
invariant-loop-i l = record {
  in_range : l.i ≤ length l.order;
  smallest : EndsSmallest l.calls l.order l.i l.smallest_end;
  found : FindsEarly l.calls l.order l.i l.early;
}
