use Rattle.std.proofs.Common.{ℕ, ◌<◌}
use Rattle.lset_history.specs.Checks.{IsLeftOut}
use Rattle.lset_history.proofs.checker.first_missing.Given as goal

abbrev pub invariant-loop-index : goal.invariant-loop-index
invariant-loop-index l = (k : ℕ) → k < l.index → IsLeftOut l.calls l.placed k → ⊥
