use Rattle.std.proofs.Common.{ℕ, ◌<◌, get_or}
use Rattle.lset_judge.specs.declared.stream.StreamCall.{StreamCall}
use Rattle.lset_judge.specs.Count.{NeedTurn}
use Rattle.lset_judge.specs.Stream.{record_of}
use Rattle.lset_judge.proofs.count.turn_after.Given as goal

abbrev pub invariant-loop-second : goal.invariant-loop-second
invariant-loop-second l = (i : ℕ) (d : StreamCall) → i < l.second-index → NeedTurn l.was (record_of l.first) (record_of (get_or l.rest i d))
