use Rattle.lset_loops.proofs.StepsOfCall.{few_locks}
use Rattle.lset_loops.proofs.caller.Caller.lock.Goals as goal

pub index-requires : goal.index-requires
index-requires g c = few_locks g.M.Machine.table c.args.self.now.origin g.met.M.Machine.lawful _ _ c.args.place.now c.requires
