use Rattle.lset_judge.specs.declared.stream.StreamCall.{StreamCall}
use Rattle.lset_judge.specs.Clash.{IsOf, records}
use Rattle.lset_judge.specs.Stream.{record_of}
use Rattle.lset_judge.proofs.CountOfKey.{one_more}
use Rattle.lset_judge.proofs.count.all_known.Goals as goal

pub loop-call-preserved : goal.loop-call-preserved
loop-call-preserved c = one_more (λ (x : StreamCall). IsOf (records c.args.calls.now) c.args.key.0 (record_of x)) c.args.counted.now c.loop-call.call-index
    _ c.loop-call.invariant c.loop-call-test.true (c.is_of.ensures c.if-not-is_of.false)
