use Rattle.lset_history.specs.Laws.{contents_of_lists}
use Rattle.lset_history.proofs.RunHistories.{is_history}
use Rattle.lset_history.proofs.placement.logs_tell_histories.Goals as goal

pub returns : goal.returns
returns c = λ op last log lists counts a. is_history op last log (contents_of_lists lists) counts a
