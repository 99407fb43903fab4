use Rattle.lset_steps.proofs.SmallLocals.{small_sees}
use Rattle.lset_lazy.specs.Lazy.{lazy}
use Rattle.lset_lazy.specs.Lawful.{lazy_lawful}
use Rattle.lset_lazy.proofs.LazyListMachine.feed.Goals as goal

pub fed_by-requires : goal.fed_by-requires
fed_by-requires c = small_sees lazy lazy_lawful c.args.local.now c.args.seen c.requires
