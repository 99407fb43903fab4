use Rattle.lset_steps.proofs.SmallLocals.{small_occurs}
use Rattle.lset_lock_free.specs.LockFree.{lock_free}
use Rattle.lset_lock_free.specs.Lawful.{lock_free_lawful}
use Rattle.lset_lock_free.proofs.LockFreeListMachine.next.Goals as goal

pub next_action-requires : goal.next_action-requires
next_action-requires c = small_occurs lock_free lock_free_lawful c.args.local.now c.requires
