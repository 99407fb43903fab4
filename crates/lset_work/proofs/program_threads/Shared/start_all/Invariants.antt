use Rattle.std.proofs.Common.{◌≡◌, ◌≤◌, ◌+◌, ◌++◌, map, length, All, vec_capacity}
use Rattle.std.specs.Vec.Iter.{into_iter_items}
use Rattle.lset_work.proofs.program_threads.Shared.start_all.Given as goal

abbrev pub invariant-loop-seat : goal.invariant-loop-seat
invariant-loop-seat g l = record {
  seats : map (λ w. w.promise.seat.value) l.workers.items ++ into_iter_items l.seat-iterator ≡ l.fn.seats.items;
  programs : map (λ w. w.promise.program.value.items) l.workers.items ++ map (λ p. p.calls.items) (into_iter_items l.programs) ≡
      map (λ p. p.calls.items) l.fn.programs.items;
  same : length (into_iter_items l.programs) ≡ length (into_iter_items l.seat-iterator);
  of : All (λ s. s.set ≡ l.self.set.now) (into_iter_items l.seat-iterator);
  started : All (λ w. w.promise.set.value ≡ l.self.set.now) l.workers.items;
  gated : All (λ w. w.promise.gate.value ≡ l.self.gate.now) l.workers.items;
  room : length l.workers.items + length (into_iter_items l.seat-iterator) ≤ vec_capacity l.workers;
}
