use Rattle.std.proofs.Common.{ℕ, ◌<◌, ◌≤◌}
use Rattle.lset_judge.specs.Verdict.{adds_of}
use Rattle.lset_judge.proofs.judged.has_room.Given as goal

abbrev pub invariant-loop-thread : goal.invariant-loop-thread
invariant-loop-thread l = (k : ℕ) → k < l.thread → adds_of k l.calls ≤ l.quota
