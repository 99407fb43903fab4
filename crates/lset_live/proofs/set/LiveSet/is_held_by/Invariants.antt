use Rattle.std.proofs.Common.{◌≡◌, ◌≤◌, take, sum_by}
use Rattle.lset_live.specs.Seats.{SeatValue}
use Rattle.lset_live.proofs.set.LiveSet.is_held_by.Given as goal

abbrev pub invariant-loop-seat : goal.invariant-loop-seat
invariant-loop-seat g l = record {
  sum : l.total ≡ sum_by (λ (s : SeatValue). s.held) (take l.seat-index l.seats);
  low : l.total ≤ l.most;
  none : l.seat-index ≡ 0 → l.total ≡ 0;
  few : l.seat-index ≤ l.total;
}
