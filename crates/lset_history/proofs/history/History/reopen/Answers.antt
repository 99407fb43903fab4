use Rattle.std.proofs.Common.{arith}
use Rattle.lset_history.proofs.HistoryKept.{kept_reopened}
use Rattle.lset_history.proofs.history.History.reopen.Goals as goal

pub invariant_of-self : goal.invariant_of-self
invariant_of-self c = kept_reopened _ c.self.inside.busy c.self.inside.latest _ c.self.invariant (omega arith)
