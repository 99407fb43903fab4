use Rattle.std.proofs.Common.{◌≡◌, ℕ, length}
use Rattle.std.specs.Prelude.{All, Contains}
use Rattle.lset_judge.specs.declared.stream.StreamCall.{StreamCall}
use Rattle.lset_judge.proofs.many.pop_before.Given as goal

abbrev pub invariant-loop-end : goal.invariant-loop-end
invariant-loop-end l = record {
  same : l.calls.entries ≡ l.fn.calls.entries;
  held : All (λ (e : ℕ × StreamCall). Contains l.ends e.0) l.calls.entries;
}

abbrev pub decreases-loop-end : goal.decreases-loop-end
decreases-loop-end l = length l.ends
