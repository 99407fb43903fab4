use Rattle.std.proofs.Common.{◌≡◌, [], map}
use Rattle.std.specs.List.{range_with_len}
use Rattle.lset_rule.proofs.RuleAtOpening.{spare}
use Rattle.lset_live.specs.Seats.{new_seat}
use Rattle.lset_live.proofs.NewSeats.{opened}
use Rattle.lset_live.proofs.opening.open_on.Given as goal

abbrev pub invariant-loop-t : goal.invariant-loop-t
invariant-loop-t g l = (l.place.me ≡ (spare l.set-inside.0.shared.key l.t, []))
    × (l.place.table_id ≡ l.set-inside.0.shared.table_id)
    × (l.seats.items ≡ map (new_seat (opened l.set-inside.0.shared.table_id l.set-inside.0.shared.key)) (range_with_len 0 l.t))
