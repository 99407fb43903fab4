use Rattle.lset_history.specs.Laws.{contents_of_lists}
use Rattle.lset_history.proofs.UniquePlacement.{placement_once}
use Rattle.lset_history.proofs.placement.placement_is_one_order.Goals as goal

pub returns : goal.returns
returns c = λ quota calls lists counts order other. placement_once quota calls (contents_of_lists lists) counts order
    other
