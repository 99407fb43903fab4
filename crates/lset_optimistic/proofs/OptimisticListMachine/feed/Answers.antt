use Rattle.lset_steps.proofs.SmallLocals.{small_sees}
use Rattle.lset_optimistic.specs.Optimistic.{optimistic}
use Rattle.lset_optimistic.specs.Lawful.{optimistic_lawful}
use Rattle.lset_optimistic.proofs.OptimisticListMachine.feed.Goals as goal

pub fed_by-requires : goal.fed_by-requires
fed_by-requires c = small_sees optimistic optimistic_lawful c.args.local.now c.args.seen c.requires
