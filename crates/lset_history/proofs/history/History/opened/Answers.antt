use Rattle.std.proofs.Common.{arith}
use Rattle.lset_history.proofs.HistoryKept.{kept_new}
use Rattle.lset_history.proofs.history.History.opened.Goals as goal

pub invariant_of-result : goal.invariant_of-result
invariant_of-result c = rw c.new.ensures.items (kept_new _
    (omega arith))
