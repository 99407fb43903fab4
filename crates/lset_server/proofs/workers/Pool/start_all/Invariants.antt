use Rattle.std.proofs.Common.{◌≡◌, ◌-◌, ◌++◌, map, length, All}
use Rattle.std.specs.Vec.Iter.{into_iter_items}
use Rattle.crossbeam_channel.specs.Claims.{view, IsSeatAt}
use Rattle.crossbeam_channel.specs.Ends.{sends_on, receives_on}
use Rattle.lset_server.specs.Tallies.{tally}
use Rattle.lset_server.proofs.workers.Pool.start_all.Given as goal

abbrev pub invariant-loop-seat : goal.invariant-loop-seat
invariant-loop-seat g l = record {
  seats : map (λ h. h.promise.seat.value) l.workers.items ++ into_iter_items l.seat-iterator ≡ l.fn.seats.items;
  of : All (λ s. s.set ≡ l.self.set.now) (into_iter_items l.seat-iterator);
  owed : All (λ h. (receives_on h.promise.from.value ≡ sends_on l.self.to) × (h.promise.set.value ≡ l.self.set.now) × (h.promise.most ≡ l.self.sessions))
      l.workers.items;
  pass : IsSeatAt (sends_on l.self.to) l.pass;
  view : view l.pass ≡ tally ((view l.fn.pass).parts - length l.workers.items) (view l.fn.pass).sent (view l.fn.pass).received;
}
