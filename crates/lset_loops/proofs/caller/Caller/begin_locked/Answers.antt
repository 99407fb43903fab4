use Rattle.std.proofs.Common.{◌≡◌, ◌+◌, None, sym, ap, ◌∙◌, subst}
use Rattle.lset_steps.specs.declared.Action.TheVariants.{Exchange}
use Rattle.lset_loops.specs.Calling.{Holds, first}
use Rattle.lset_loops.proofs.StepsOfCall.{of_table_first, acts_first, begins_holding, first_tried}
use Rattle.lset_loops.proofs.caller.Caller.begin_locked.Goals as goal

pub start_on-seen-requires-clause-place : goal.start_on-seen-requires-clause-place
start_on-seen-requires-clause-place g c = of_table_first g.M.Machine.table c.args.self.now.origin _ _ _ c.args.self.now.slots
    c.args.place.now c.args.self.now.is_call c.requires.begins

pub start_on-seen-requires-clause-action : goal.start_on-seen-requires-clause-action
start_on-seen-requires-clause-action g c = ap (λ t. Exchange c.args.word 0 (t + 1)) c.from-own.ensures
    ∙ acts_first g.M.Machine.table g.met.M.Machine.lawful c.args.self.now.origin c.args.self.now.slots c.args.place.now
    c.args.self.now.call _ c.args.self.now.is_call.0 c.requires.begins c.requires.acts

pub wait_for-requires : goal.wait_for-requires
wait_for-requires g c = record {
  held = first g.M.Machine.table c.args.self.now.origin c.args.self.now.slots;
  holds = first_tried g.M.Machine.table g.met.M.Machine.lawful c.args.self.now.origin c.args.self.now.slots c.args.place.now
      c.start_on-seen.result c.start_on-seen.new.place c.args.self.now.call c.args.self.now.is_call.0
      c.requires.begins c.start_on-seen.ensures.place c.start_on-seen.ensures.starts c.requires.again
      c.if-seen-ne0.true;
  acts = c.requires.acts;
  again = c.requires.again;
  goes_on = c.requires.goes_on;
}

pub returns-in_ok-wait_for : goal.returns-in_ok-wait_for
returns-in_ok-wait_for g c = c.in_ok-wait_for.ensures.leads _
    (first_tried g.M.Machine.table g.met.M.Machine.lawful c.args.self.now.origin c.args.self.now.slots c.args.place.now
    c.start_on-seen.result c.start_on-seen.new.place c.args.self.now.call c.args.self.now.is_call.0
    c.requires.begins c.start_on-seen.ensures.place c.start_on-seen.ensures.starts c.requires.again
    c.if-seen-ne0.true)

pub returns-else-seen-ne0 : goal.returns-else-seen-ne0
returns-else-seen-ne0 g c =
    let m = g.M.Machine.table in
    let b = c.args.self.now.origin in
    let l = first m b c.args.self.now.slots in
    let zero = c.if-seen-ne0.false in
    subst (λ n. Holds m b (m.feed l n).local c.start_on-seen.new.place) zero
    (begins_holding m g.met.M.Machine.lawful b c.args.self.now.slots c.args.place.now c.start_on-seen.result
    c.start_on-seen.new.place c.args.self.now.call c.args.self.now.is_call.0 c.requires.begins
    c.start_on-seen.ensures.place c.start_on-seen.ensures.starts
    (subst (λ n. (m.feed l n).answer ≡ None) (sym zero) c.requires.goes_on))

pub start_on-seen-requires-clause-low : goal.start_on-seen-requires-clause-low
start_on-seen-requires-clause-low g c = c.args.self.now.is_low
