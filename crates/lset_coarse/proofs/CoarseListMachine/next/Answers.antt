use Rattle.lset_steps.proofs.SmallLocals.{small_occurs}
use Rattle.lset_coarse.specs.Coarse.{coarse}
use Rattle.lset_coarse.specs.Lawful.{coarse_lawful}
use Rattle.lset_coarse.proofs.CoarseListMachine.next.Goals as goal

pub next_action-requires : goal.next_action-requires
next_action-requires c = small_occurs coarse coarse_lawful c.args.local.now c.requires
