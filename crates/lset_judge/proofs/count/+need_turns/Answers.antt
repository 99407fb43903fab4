use Rattle.lset_judge.specs.declared.stream.StreamCall.{StreamCall}
use Rattle.lset_judge.specs.Count.{NeedTurn}
use Rattle.lset_judge.specs.Stream.{record_of}
use Rattle.lset_judge.proofs.CountOfKey.{pairs_of_parts}
use Rattle.lset_judge.proofs.count.+need_turns.Goals as goal

pub returns-then-turn_after : goal.returns-then-turn_after
returns-then-turn_after t c h = pairs_of_parts (λ (x y : StreamCall). NeedTurn c.args.was (record_of x) (record_of y)) c.args.calls.now
    _ c.in-len1-up.len_at_least (c.turn_after.ensures c.if-turn_after.true) (c.need_turns.ensures h)
