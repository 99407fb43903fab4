use Rattle.lset_steps.proofs.SmallLocals.{small_sees}
use Rattle.lset_lock_free.specs.LockFree.{lock_free}
use Rattle.lset_lock_free.specs.Lawful.{lock_free_lawful}
use Rattle.lset_lock_free.proofs.LockFreeListMachine.effect.Goals as goal

pub effect_of-requires : goal.effect_of-requires
effect_of-requires c = small_sees lock_free lock_free_lawful c.args.local.now c.args.seen c.requires
