use Rattle.lset_live.proofs.SeenExplained.{has_answered}
use Rattle.lset_live.proofs.set.LiveSet.call_within.Goals as goal

pub returns : goal.returns
returns g c = has_answered g.M.Machine.table g.met.M.Machine.lawful c.runs_are_linearizable.ensures c.args.call
    c.seat.inside.place c.in_ok-slots.reply c.make_within.new.place c.in_ok-slots.ensures.place c.in_ok-slots.ensures.made _ _
    c.seat.view_is c.requires
