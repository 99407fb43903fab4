use Rattle.std.proofs.Common.{refl}
use Rattle.lset_loops.proofs.StepsOfCall.{asks, called}
use Rattle.lset_loops.proofs.fine.fine_within.Goals as goal

pub returns : goal.returns
returns g c = called _ _ _ c.new-caller.ensures.origin
    (_, c.unlock_last.ensures _ (c.unlock.ensures.leads _ c.act-answer.ensures.1) _ refl, refl)

pub unlock_last-requires : goal.unlock_last-requires
unlock_last-requires g c = asks (c.unlock.ensures.leads _ c.act-answer.ensures.1) refl

pub walk-requires : goal.walk-requires
walk-requires g c = (_, c.in_ok-begin_locked.ensures)
