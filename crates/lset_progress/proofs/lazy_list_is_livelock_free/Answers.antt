use Rattle.lset_progress.proofs.LazyProgress.{lazy_livelock_free}
use Rattle.lset_progress.proofs.lazy_list_is_livelock_free.Goals as goal

pub returns : goal.returns
returns c = lazy_livelock_free
