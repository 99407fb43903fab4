use Rattle.std.proofs.Common.{◌≡◌, ℕ, ◌-◌, length}
use Rattle.std.specs.Prelude.{slice_index_or}
use Rattle.lset_judge.proofs.busy.lengthen.Given as goal

abbrev pub invariant-loop-ends : goal.invariant-loop-ends
invariant-loop-ends l = (i : ℕ) → slice_index_or l.ends.items i 0 ≡ slice_index_or l.fn.ends.items i 0

abbrev pub decreases-loop-ends : goal.decreases-loop-ends
decreases-loop-ends l = l.len - length l.ends.items
