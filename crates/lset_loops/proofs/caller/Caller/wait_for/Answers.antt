use Rattle.lset_loops.proofs.StepsOfCall.{itself, of_table, leads_then, tried}
use Rattle.lset_loops.proofs.caller.Caller.wait_for.Goals as goal

pub loop-round-init : goal.loop-round-init
loop-round-init g c = itself g.M.Machine.table c.args.self.now.origin c.requires.held c.args.place.now c.requires.holds

pub loop-round-preserved : goal.loop-round-preserved
loop-round-preserved g c = tried _ _ _ _ _ c.loop-round.place _ _ c.requires c.if-seen-eq0.false
    c.loop-round.invariant c.step_on-seen.ensures.place c.step_on-seen.ensures.goes

pub returns-then-seen-eq0 : goal.returns-then-seen-eq0
returns-then-seen-eq0 g c = leads_then _ _ _ _ _ c.loop-round.place _ _ c.requires c.if-seen-eq0.true
    c.loop-round.invariant c.step_on-seen.ensures.place c.step_on-seen.ensures.goes

pub step_on-seen-requires-clause-place : goal.step_on-seen-requires-clause-place
step_on-seen-requires-clause-place g c = of_table _ _ _ _ _ c.args.self.now.is_call _ c.loop-round.place c.loop-round.invariant
