use Rattle.lset_schedule.proofs.DrawLaws.{draws_more, draws_end}
use Rattle.lset_schedule.proofs.draws.draw_calls.Goals as goal

pub loop-preserved : goal.loop-preserved
loop-preserved g c =
    rw c.in_ok-push.ensures.items
    (draws_more c.args.keys c.args.calls c.loop.counter c.loop.drawn.items _ _ c.draw_call.result _
    c.loop-test.true c.draw_call.ensures.drawn c.loop.invariant)

pub returns : goal.returns
returns g c =
    draws_end c.args.keys c.args.calls c.loop.counter c.loop.drawn.items _ _ c.loop-test.false c.loop.invariant
