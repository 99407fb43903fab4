use Rattle.std.proofs.Common.{◌≡◌, ◌++◌, drop}
use Rattle.lset_report.specs.Order.{points_in}
use Rattle.lset_report.proofs.order.points_of.Given as goal

abbrev pub invariant-loop-next : goal.invariant-loop-next
invariant-loop-next l = l.points.items ++ points_in (drop l.next-index l.places) ≡ points_in l.places
