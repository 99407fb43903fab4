use Rattle.lset_steps.proofs.SmallLocals.{small_sees}
use Rattle.lset_coarse.specs.Coarse.{coarse}
use Rattle.lset_coarse.specs.Lawful.{coarse_lawful}
use Rattle.lset_coarse.proofs.CoarseListMachine.feed.Goals as goal

pub fed_by-requires : goal.fed_by-requires
fed_by-requires c = small_sees coarse coarse_lawful c.args.local.now c.args.seen c.requires
