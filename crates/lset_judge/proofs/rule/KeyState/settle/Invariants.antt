use Rattle.std.proofs.Common.{◌≡◌}
use Rattle.lset_judge.specs.Rule.{found, open_changes}
use Rattle.lset_judge.specs.Code.{state_of, event_as}
use Rattle.lset_judge.specs.Facts.{facts_of}
use Rattle.lset_judge.proofs.rule.KeyState.settle.Given as goal

abbrev pub invariant-loop-event : goal.invariant-loop-event
invariant-loop-event l = record {
  found : found l.before (event_as l.event) (state_of l.self) ≡ found l.initial.before (event_as l.initial.event) (state_of l.initial.self);
  facts : facts_of l.self ≡ facts_of l.initial.self;
}

abbrev pub decreases-loop-event : goal.decreases-loop-event
decreases-loop-event l = open_changes (state_of l.self)
