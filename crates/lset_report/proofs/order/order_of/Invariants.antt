use Rattle.std.proofs.Common.{◌≡◌, ◌++◌, drop}
use Rattle.lset_report.specs.Order.{placed_in}
use Rattle.lset_report.proofs.order.order_of.Given as goal

abbrev pub invariant-loop-next : goal.invariant-loop-next
invariant-loop-next l = l.order.items ++ placed_in (drop l.next-index l.places) ≡ placed_in l.places
