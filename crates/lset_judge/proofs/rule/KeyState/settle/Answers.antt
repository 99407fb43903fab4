use Rattle.std.proofs.Common.{arith, sym, ◌∙◌, suc, ◌≡◌, false, ◌<◌}
use Rattle.lset_judge.specs.Rule.{fits, open_changes}
use Rattle.lset_judge.specs.Code.{state_of, event_as}
use Rattle.lset_judge.proofs.EndsInHeap.{one_fewer, settles_on}
use Rattle.lset_judge.proofs.rule.KeyState.settle.Goals as goal

pub loop-event-smaller : goal.loop-event-smaller
loop-event-smaller c =
    let s = state_of c.loop-event.self in
    let fewer = one_fewer c.args.before s.there s.turned s.puts s.takes (state_of c.flip.new.self) c.if-not-flip.ensures.turned in
    let less : open_changes (state_of c.flip.new.self) < open_changes s = omega (arith, fewer) in less

pub loop-event-preserved : goal.loop-event-preserved
loop-event-preserved c =
    let s = state_of c.loop-event.self in
    let not_found : fits (suc c.args.before) (event_as c.args.event) s ≡ false = sym c.loop-event-test.ensures in
    record {
      found = sym (settles_on c.args.before (event_as c.args.event) s (state_of c.flip.new.self) not_found c.if-not-flip.ensures.turned) ∙ c.loop-event.invariant.found;
      facts = c.if-not-flip.ensures.facts ∙ c.loop-event.invariant.facts;
    }
