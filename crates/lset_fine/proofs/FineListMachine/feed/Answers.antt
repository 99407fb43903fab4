use Rattle.lset_steps.proofs.SmallLocals.{small_sees}
use Rattle.lset_fine.specs.Fine.{fine}
use Rattle.lset_fine.specs.Lawful.{fine_lawful}
use Rattle.lset_fine.proofs.FineListMachine.feed.Goals as goal

pub fed_by-requires : goal.fed_by-requires
fed_by-requires c = small_sees fine fine_lawful c.args.local.now c.args.seen c.requires
