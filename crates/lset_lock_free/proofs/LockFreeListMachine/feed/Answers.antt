use Rattle.lset_steps.proofs.SmallLocals.{small_sees}
use Rattle.lset_lock_free.specs.LockFree.{lock_free}
use Rattle.lset_lock_free.specs.Lawful.{lock_free_lawful}
use Rattle.lset_lock_free.proofs.LockFreeListMachine.feed.Goals as goal

pub fed_by-requires : goal.fed_by-requires
fed_by-requires c = small_sees lock_free lock_free_lawful c.args.local.now c.args.seen c.requires
