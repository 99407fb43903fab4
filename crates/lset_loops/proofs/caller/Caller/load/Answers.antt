use Rattle.lset_loops.proofs.StepsOfCall.{few_words, leads}
use Rattle.lset_loops.proofs.caller.Caller.load.Goals as goal

pub index-requires : goal.index-requires
index-requires g c = few_words g.M.Machine.table c.args.self.now.origin g.met.M.Machine.lawful _ c.args.place.now c.requires

pub returns : goal.returns
returns g c = leads _ _ _ _ _ _ c.requires c.step_on-seen.ensures.place c.step_on-seen.ensures.goes
