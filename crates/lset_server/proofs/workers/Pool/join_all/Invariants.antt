use Rattle.std.proofs.Common.{◌≡◌, ◌≤◌, ◌+◌, ◌*◌, ◌++◌, List, map, length, sum_by, All, IfSome}
use Rattle.std.specs.Option.{option_map}
use Rattle.std.specs.Vec.Iter.{into_iter_items}
use Rattle.crossbeam_channel.specs.Claims.{view, IsSeatAt}
use Rattle.crossbeam_channel.specs.Ends.{sends_on, receives_on}
use Rattle.lset_words.specs.Records.{Record}
use Rattle.lset_live.specs.Seats.{held_in}
use Rattle.lset_session.specs.declared.TheConstants.{MOST_LINES}
use Rattle.lset_server.specs.Workers.{HaveWorked}
use Rattle.lset_server.proofs.workers.Pool.join_all.Given as goal

abbrev pub invariant-loop-worker : goal.invariant-loop-worker
invariant-loop-worker g l = record {
  joined : (done : List Record)
      × (done ++ map (λ h. h.promise.seat.value.past) (into_iter_items l.worker-iterator) ≡ map (λ h. h.promise.seat.value.past)
      l.fn.workers.items)
      × HaveWorked done (option_map (λ s. s.past) l.seat) (view l.fn.pass) (view l.pass) (length done) l.sessions l.calls;
  held : held_in l.seat + sum_by (λ h. h.promise.seat.value.held) (into_iter_items l.worker-iterator) ≡ sum_by
      (λ h. h.promise.seat.value.held) l.fn.workers.items;
  seat : IfSome l.seat (λ s. s.set ≡ l.self.set.now);
  owed : All (λ h. (receives_on h.promise.from.value ≡ sends_on l.self.to) × (h.promise.set.value ≡ l.self.set.now) × (h.promise.most ≡ l.self.sessions))
      (into_iter_items l.worker-iterator);
  pass : IsSeatAt (sends_on l.self.to) l.pass;
  sessions : l.sessions + l.self.sessions * length (into_iter_items l.worker-iterator) ≤ l.self.sessions * length l.fn.workers.items;
  calls : l.calls + MOST_LINES * (l.self.sessions * length (into_iter_items l.worker-iterator)) ≤ MOST_LINES *
      (l.self.sessions * length l.fn.workers.items);
}
