use Rattle.std.proofs.Common.{◌≡◌, ◌≤◌, ◌+◌, length, All, vec_capacity}
use Rattle.std.specs.Vec.Iter.{into_iter_items}
use Rattle.lset_work.proofs.ProgramLaws.{SoFar}
use Rattle.lset_work.proofs.program_threads.join_all.Given as goal

abbrev pub invariant-loop-worker : goal.invariant-loop-worker
invariant-loop-worker g l = record {
  so_far : SoFar l.set (λ w. w.promise.seat.value) (λ w. w.promise.program.value.items) (λ v. v.items) l.fn.workers.items
      (into_iter_items l.worker-iterator)
      l.seat l.replies.items;
  started : All (λ w. w.promise.set.value ≡ l.set) (into_iter_items l.worker-iterator);
  gated : All (λ w. w.promise.gate.value ≡ l.gate) (into_iter_items l.worker-iterator);
  room : length l.replies.items + length (into_iter_items l.worker-iterator) ≤ vec_capacity l.replies;
}
