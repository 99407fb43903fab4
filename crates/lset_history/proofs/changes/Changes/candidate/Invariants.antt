use Rattle.std.proofs.Common.{◌-◌, ◌≤◌}
use Rattle.lset_history.specs.Changes.{moments_of}
use Rattle.lset_history.specs.Raising.{IsCandidateUpTo}
use Rattle.lset_history.proofs.changes.Changes.candidate.Given as goal

abbrev pub invariant-loop-at : goal.invariant-loop-at
invariant-loop-at l = record {
  up : l.moment ≤ l.last;
  candidate : IsCandidateUpTo (moments_of l.self) l.key l.found l.from l.moment l.last;
}

abbrev pub decreases-loop-at : goal.decreases-loop-at
decreases-loop-at l = 4294967296 - l.last
