use Rattle.lset_progress.proofs.Livelock.{yielding_is_refused, yielding_goes_on}
use Rattle.lset_progress.proofs.two_that_yield_are_not_deadlock_free.Goals as goal

pub returns : goal.returns
returns c = record { bounded = yielding_is_refused; fair = yielding_goes_on }
