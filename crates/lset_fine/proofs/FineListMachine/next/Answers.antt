use Rattle.lset_steps.proofs.SmallLocals.{small_occurs}
use Rattle.lset_fine.specs.Fine.{fine}
use Rattle.lset_fine.specs.Lawful.{fine_lawful}
use Rattle.lset_fine.proofs.FineListMachine.next.Goals as goal

pub next_action-requires : goal.next_action-requires
next_action-requires c = small_occurs fine fine_lawful c.args.local.now c.requires
