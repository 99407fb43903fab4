use Rattle.std.proofs.Common.{ℕ, ◌<◌}
use Rattle.lset_history.specs.Faults.{IsUnknown}
use Rattle.lset_history.proofs.checker.first_unknown.Given as goal

abbrev pub invariant-loop-place : goal.invariant-loop-place
invariant-loop-place l = (k : ℕ) → k < l.place-index → IsUnknown l.calls l.order k → ⊥
