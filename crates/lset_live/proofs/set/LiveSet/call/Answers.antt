use Rattle.lset_live.proofs.SeenExplained.{has_answered}
use Rattle.lset_live.proofs.set.LiveSet.call.Goals as goal

pub returns : goal.returns
returns g c = has_answered _ g.met.M.Machine.lawful c.runs_are_linearizable.ensures _ c.seat.inside.place
    c.make_on-reply.result.1 _ c.make_on-reply.ensures.place c.make_on-reply.ensures.made _ _ c.seat.view_is c.requires
