use Rattle.std.proofs.Common.{◌≡◌, ◌++◌, drop}
use Rattle.lset_replay.specs.PlacedOrder.{pointed_from}
use Rattle.lset_replay.proofs.order.pointed_calls.Given as goal

abbrev pub invariant-loop-number : goal.invariant-loop-number
invariant-loop-number l = l.pointed.items ++ pointed_from l.number (drop l.number l.places) ≡ pointed_from 0 l.places
