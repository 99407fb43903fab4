use Rattle.lset_steps.proofs.SmallLocals.{small_occurs}
use Rattle.lset_optimistic.specs.Optimistic.{optimistic}
use Rattle.lset_optimistic.specs.Lawful.{optimistic_lawful}
use Rattle.lset_optimistic.proofs.OptimisticListMachine.next.Goals as goal

pub next_action-requires : goal.next_action-requires
next_action-requires c = small_occurs optimistic optimistic_lawful c.args.local.now c.requires
