use Rattle.std.proofs.Common.{ap, ◌∙◌}
use Rattle.lset_steps.specs.declared.Action.TheVariants.{Load}
use Rattle.lset_loops.proofs.StepsOfCall.{of_table_first, acts_first, begins_holding}
use Rattle.lset_loops.proofs.caller.Caller.begin_at_head.Goals as goal

pub start_on-seen-requires-clause-place : goal.start_on-seen-requires-clause-place
start_on-seen-requires-clause-place g c = of_table_first _ _ _ _ _ _ _ c.args.self.now.is_call c.requires.begins

pub start_on-seen-requires-clause-action : goal.start_on-seen-requires-clause-action
start_on-seen-requires-clause-action g c = ap Load c.link_index.ensures ∙ acts_first _ g.met.M.Machine.lawful _ _ _
    _ _ c.args.self.now.is_call.0 c.requires.begins c.requires.acts

pub returns : goal.returns
returns g c = begins_holding g.M.Machine.table g.met.M.Machine.lawful c.args.self.now.origin c.args.self.now.slots c.args.place.now _
    c.start_on-seen.new.place c.args.self.now.call c.args.self.now.is_call.0 c.requires.begins c.start_on-seen.ensures.place
    c.start_on-seen.ensures.starts (c.requires.goes_on _)

pub start_on-seen-requires-clause-low : goal.start_on-seen-requires-clause-low
start_on-seen-requires-clause-low g c = c.args.self.now.is_low
