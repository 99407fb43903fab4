use Rattle.lset_loops.proofs.StepsOfCall.{of_table, still, leads_still, leads_had}
use Rattle.lset_loops.proofs.caller.Caller.take.Goals as goal

pub wait_for-requires : goal.wait_for-requires
wait_for-requires g c = still _ _ _ _ _ _ _ c.requires c.if-seen-ne0.true c.step_on-seen.ensures.place
    c.step_on-seen.ensures.goes

pub returns-in_ok-wait_for : goal.returns-in_ok-wait_for
returns-in_ok-wait_for g c = leads_still _ _ _ _ _ _ _ _ c.requires c.if-seen-ne0.true
    c.step_on-seen.ensures.place c.step_on-seen.ensures.goes c.in_ok-wait_for.ensures

pub returns-else-seen-ne0 : goal.returns-else-seen-ne0
returns-else-seen-ne0 g c = leads_had _ _ _ _ _ _ _ c.requires c.if-seen-ne0.false c.step_on-seen.ensures.place
    c.step_on-seen.ensures.goes

pub step_on-seen-requires-clause-place : goal.step_on-seen-requires-clause-place
step_on-seen-requires-clause-place g c = of_table _ _ _ _ _ c.args.self.now.is_call _ _ c.requires.holds
