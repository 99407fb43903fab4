use Rattle.lset_steps.proofs.SmallLocals.{small_occurs}
use Rattle.lset_lazy.specs.Lazy.{lazy}
use Rattle.lset_lazy.specs.Lawful.{lazy_lawful}
use Rattle.lset_lazy.proofs.LazyListMachine.next.Goals as goal

pub next_action-requires : goal.next_action-requires
next_action-requires c = small_occurs lazy lazy_lawful c.args.local.now c.requires
