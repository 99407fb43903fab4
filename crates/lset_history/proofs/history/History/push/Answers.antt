use Rattle.std.proofs.Common.{arith}
use Rattle.lset_history.proofs.HistoryKept.{kept_pushed, flag_is}
use Rattle.lset_history.proofs.history.History.push.Goals as goal

pub invariant_of-self-2 : goal.invariant_of-self-2
invariant_of-self-2 c =
    let latest = c.max-self-inside.type_inv in
    rw (c.in_ok-push.ensures.items, flag_is _ _ c.is_none.ensures, c.max-self-inside.ensures, c.last_moment.ensures)
    (kept_pushed _ c.self.inside.busy c.self.inside.latest _ c.self.invariant (rw (← c.self.view_is) at c.requires) (omega arith))
