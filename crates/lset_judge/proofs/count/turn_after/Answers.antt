use Rattle.lset_judge.specs.declared.stream.StreamCall.{StreamCall}
use Rattle.lset_judge.specs.Count.{NeedTurn}
use Rattle.lset_judge.specs.Stream.{record_of}
use Rattle.lset_judge.proofs.CountOfKey.{one_more}
use Rattle.lset_judge.proofs.count.turn_after.Goals as goal

pub loop-second-preserved : goal.loop-second-preserved
loop-second-preserved c = one_more (λ (x : StreamCall). NeedTurn c.args.was (record_of c.args.first) (record_of x)) c.args.rest.now c.loop-second.second-index
    _ c.loop-second.invariant c.loop-second-test.true (c.need_turn.ensures c.if-not-need_turn.false)
