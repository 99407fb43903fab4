use Rattle.lset_optimistic.proofs.FittingReplies.{optimistic_replies_fit_of}
use Rattle.lset_optimistic.proofs.laws.optimistic_replies_fit.Goals as goal

pub returns : goal.returns
returns c = optimistic_replies_fit_of
