use Rattle.std.proofs.Common.{refl}
use Rattle.lset_loops.proofs.StepsOfCall.{called}
use Rattle.lset_loops.proofs.coarse.coarse_within.Goals as goal

pub returns : goal.returns
returns g c = let left = c.act-answer.ensures in
    called _ _ _ c.new-caller.ensures.origin (_, c.release_last.ensures _ left.3 _ refl, refl)

pub walk-requires : goal.walk-requires
walk-requires g c = (_, c.in_ok-begin_locked.ensures)
