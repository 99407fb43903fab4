use Rattle.std.proofs.Common.{◌≡◌, ◌<◌, ◌≤◌, ℕ, get_or, length}
use Rattle.lset_judge.specs.declared.stream.Pending.{Pending}
use Rattle.lset_judge.proofs.pending.nearest_place.Given as goal

abbrev pub invariant-loop-i : goal.invariant-loop-i
invariant-loop-i l = record {
  inside : (l.place < l.i) × (l.i ≤ length l.few);
  at_it : (d : Pending) → (get_or l.few l.place d).end ≡ l.end;
  smallest : (d : Pending) (k : ℕ) → k < l.i → l.end ≤ (get_or l.few k d).end;
}
