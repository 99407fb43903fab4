use Rattle.std.proofs.Common.{ℕ, ◌<◌, get_or}
use Rattle.lset_judge.specs.declared.stream.StreamCall.{StreamCall}
use Rattle.lset_judge.specs.Clash.{IsOf, records}
use Rattle.lset_judge.specs.Stream.{record_of}
use Rattle.lset_judge.proofs.count.all_known.Given as goal

abbrev pub invariant-loop-call : goal.invariant-loop-call
invariant-loop-call l = (i : ℕ) (d : StreamCall) → i < l.call-index → IsOf (records l.calls) l.key.0 (record_of (get_or l.counted i d))
