use Rattle.lset_loops.proofs.StepsOfCall.{few_asks}
use Rattle.lset_loops.proofs.caller.Caller.unlock_last.Goals as goal

pub index-requires : goal.index-requires
index-requires g c = few_asks g.M.Machine.table c.args.self.now.origin g.met.M.Machine.lawful _ c.args.place.now c.requires
