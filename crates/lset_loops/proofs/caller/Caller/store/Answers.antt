use Rattle.std.proofs.Common.{refl}
use Rattle.lset_loops.proofs.StepsOfCall.{few_words, of_table, leads}
use Rattle.lset_loops.proofs.caller.Caller.store.Goals as goal

pub index-requires : goal.index-requires
index-requires g c = few_words g.M.Machine.table c.args.self.now.origin g.met.M.Machine.lawful _ c.args.place.now c.requires

pub returns : goal.returns
returns g c = rw (c.step_on.ensures.stored _ _ refl) at (leads g.M.Machine.table c.args.self.now.origin _ c.args.place.now
    c.step_on.result c.step_on.new.place c.requires c.step_on.ensures.place
    c.step_on.ensures.goes)

pub step_on-requires-clause-place : goal.step_on-requires-clause-place
step_on-requires-clause-place g c = of_table _ _ _ _ _ c.args.self.now.is_call _ _ c.requires.holds
