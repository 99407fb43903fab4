use Rattle.lset_loops.proofs.StepsOfCall.{few_asks}
use Rattle.lset_loops.proofs.caller.Caller.exchange_last.Goals as goal

pub index-link-requires : goal.index-link-requires
index-link-requires g c = few_asks g.M.Machine.table c.args.self.now.origin g.met.M.Machine.lawful _ c.args.place.now c.requires
