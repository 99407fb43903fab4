use Rattle.lset_live.proofs.NewSeats.{opened_of}
use Rattle.lset_live.proofs.opening.open.Goals as goal

pub returns-in-Ok-open_on-clause-seats : goal.returns-in-Ok-open_on-clause-seats
returns-in-Ok-open_on-clause-seats g c = opened_of c.in-Ok-open_on.opened.0 _ _ c.in-Ok-open_on.ensures
