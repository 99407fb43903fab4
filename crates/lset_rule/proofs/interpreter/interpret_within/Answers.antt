use Rattle.std.proofs.Common.{rules, ◌<◌}
use Rattle.lset_words.specs.Words.{target, tail_word}
use Rattle.lset_rule.proofs.CallKnows.{first_comes, first_reached}
use Rattle.lset_rule.proofs.RowSteps.{Reached, may_step, stepped, answered}
use Rattle.lset_rule.proofs.interpreter.interpret_within.Given.{Over}
use Rattle.lset_rule.proofs.interpreter.interpret_within.Goals.{After-one_step-second, After-one_step-third, After-one_step-fourth}
use Rattle.lset_rule.proofs.interpreter.interpret_within.Goals as goal

pub next-action-requires : goal.next-action-requires
next-action-requires g c = let low : target c.args.call < tail_word = search rules in
    first_reached g.M.Machine.table g.met.M.Machine.lawful c.args.call low c.args.place.now.me.0 c.args.slots c.resting.result
    c.begin-begun.result c.requires.stands c.requires.idle c.requires.slots c.resting.ensures c.begin-begun.ensures

pub loop-round-init : goal.loop-round-init
loop-round-init g c = (
  first_comes _ g.met.M.Machine.lawful _ _ _ _ _ _ _ _
      c.start_on-seen.ensures.starts c.requires.slots c.resting.ensures c.begin-begun.ensures c.feed.ensures,
  c.start_on-seen.ensures.place,
)

-- After the second step of a round, the interpreted call has reached the state that the second step returned. `third`
-- and `fourth` make the corresponding statements about the third and the fourth step.
second : (g : Over) (c : After-one_step-second g) →
    Reached g.M.Machine.table c.args.call c.args.place.now c.one_step-second.result.fed c.one_step-second.new.place
second g c =
    stepped g.M.Machine.table c.args.call c.args.place.now c.loop-round.place c.one_step-second.new.place
    c.loop-round.last.fed c.one_step-second.result.fed c.loop-round.invariant c.in_default.is c.one_step-second.ensures

third : (g : Over) (c : After-one_step-third g) →
    Reached g.M.Machine.table c.args.call c.args.place.now c.one_step-third.result.fed c.one_step-third.new.place
third g c =
    let second : Reached g.M.Machine.table c.args.call c.args.place.now c.one_step-second.result.fed c.one_step-second.new.place = stepped g.M.Machine.table c.args.call c.args.place.now c.loop-round.place c.one_step-second.new.place
    c.loop-round.last.fed c.one_step-second.result.fed c.loop-round.invariant c.in_default.is c.one_step-second.ensures in
    stepped g.M.Machine.table c.args.call c.args.place.now c.one_step-second.new.place c.one_step-third.new.place
    c.one_step-second.result.fed c.one_step-third.result.fed second c.in_default-answer.is c.one_step-third.ensures

fourth : (g : Over) (c : After-one_step-fourth g) →
    Reached g.M.Machine.table c.args.call c.args.place.now c.one_step-fourth.result.fed c.one_step-fourth.new.place
fourth g c =
    let second : Reached g.M.Machine.table c.args.call c.args.place.now c.one_step-second.result.fed c.one_step-second.new.place = stepped g.M.Machine.table c.args.call c.args.place.now c.loop-round.place c.one_step-second.new.place
    c.loop-round.last.fed c.one_step-second.result.fed c.loop-round.invariant c.in_default.is c.one_step-second.ensures in
    let third : Reached g.M.Machine.table c.args.call c.args.place.now c.one_step-third.result.fed c.one_step-third.new.place = stepped g.M.Machine.table c.args.call c.args.place.now c.one_step-second.new.place c.one_step-third.new.place
    c.one_step-second.result.fed c.one_step-third.result.fed second c.in_default-answer.is c.one_step-third.ensures in
    stepped g.M.Machine.table c.args.call c.args.place.now c.one_step-third.new.place c.one_step-fourth.new.place
    c.one_step-third.result.fed c.one_step-fourth.result.fed third c.in_default-answer-2.is c.one_step-fourth.ensures

pub one_step-second-requires : goal.one_step-second-requires
one_step-second-requires g c = may_step _ g.met.M.Machine.lawful _ _ _ _ _ c.loop-round.place c.loop-round.last.fed c.requires
    c.loop-round.invariant (search rules)

pub one_step-third-requires : goal.one_step-third-requires
one_step-third-requires g c = may_step _ g.met.M.Machine.lawful _ _ _ _ _ _ c.one_step-second.result.fed c.requires
    (second g (goal.at.one_step-third-requires g c).After-one_step-second) c.in_default-answer.is

pub one_step-fourth-requires : goal.one_step-fourth-requires
one_step-fourth-requires g c = may_step _ g.met.M.Machine.lawful _ _ _ _ _ _ c.one_step-third.result.fed c.requires
    (third g (goal.at.one_step-fourth-requires g c).After-one_step-third) c.in_default-answer-2.is

pub one_step-last-requires : goal.one_step-last-requires
one_step-last-requires g c = may_step _ g.met.M.Machine.lawful _ _ _ _ _ _ c.one_step-fourth.result.fed c.requires
    (fourth g (goal.at.one_step-last-requires g c).After-one_step-fourth) c.in_default-answer-3.is

pub returns-in-Some-answer : goal.returns-in-Some-answer
returns-in-Some-answer g c = answered _ _ _ _ c.one_step-second.result.fed _ c.in-Some-answer.reply
    (second g (goal.at.returns-in-Some-answer g c).After-one_step-second) c.in-Some-answer.is c.of-in-Some-answer.ensures

pub returns-in-Some-answer-2 : goal.returns-in-Some-answer-2
returns-in-Some-answer-2 g c = answered _ _ _ _ c.one_step-third.result.fed _ c.in-Some-answer-2.reply
    (third g (goal.at.returns-in-Some-answer-2 g c).After-one_step-third) c.in-Some-answer-2.is c.of-in-Some-answer-2.ensures

pub returns-in-Some-answer-3 : goal.returns-in-Some-answer-3
returns-in-Some-answer-3 g c = answered _ _ _ _ c.one_step-fourth.result.fed _ c.in-Some-answer-3.reply
    (fourth g (goal.at.returns-in-Some-answer-3 g c).After-one_step-fourth) c.in-Some-answer-3.is c.of-in-Some-answer-3.ensures

pub loop-round-preserved : goal.loop-round-preserved
loop-round-preserved g c = stepped _ _ _ _ _ c.one_step-fourth.result.fed c.one_step-last.result.fed
    (fourth g (goal.at.loop-round-preserved g c).After-one_step-fourth) c.in_default-answer-3.is c.one_step-last.ensures
