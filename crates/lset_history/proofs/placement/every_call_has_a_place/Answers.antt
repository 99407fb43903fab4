use Rattle.lset_history.specs.Laws.{contents_of_lists}
use Rattle.lset_history.proofs.UniquePlacement.{has_placement}
use Rattle.lset_history.proofs.placement.every_call_has_a_place.Goals as goal

pub returns : goal.returns
returns c = λ op last log lists counts a. has_placement op last log (contents_of_lists lists) counts a
