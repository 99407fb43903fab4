use Rattle.std.proofs.Common.{ℕ, ◌<◌, take}
use Rattle.lset_history.specs.Faults.{IsTwice}
use Rattle.lset_history.specs.Checks.{MarksCalls}
use Rattle.lset_history.proofs.checker.first_twice.Given as goal

abbrev pub invariant-loop-place : goal.invariant-loop-place
invariant-loop-place l = record {
  once : (k : ℕ) → k < l.place-index → IsTwice l.order k → ⊥;
  marks : MarksCalls l.placed (take l.place-index l.order);
}
