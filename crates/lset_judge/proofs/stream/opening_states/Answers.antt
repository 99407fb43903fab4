use Rattle.lset_words.specs.Effects.{presence}
use Rattle.lset_judge.specs.Rule.{opened}
use Rattle.lset_judge.specs.Stream.{state_or}
use Rattle.lset_judge.specs.Facts.{facts_or, facts_opened}
use Rattle.lset_judge.proofs.KeyStates.{seen_more}
use Rattle.lset_judge.proofs.stream.opening_states.Goals as goal

pub loop-key-preserved : goal.loop-key-preserved
loop-key-preserved c = record {
  states = seen_more state_or opened c.loop-key.states c.insert.new.self c.args.opening.now c.loop-key.key-index c.opened.result c.loop-key-test.true
      c.opened.ensures.state c.in_ok-insert.ensures.updates c.loop-key.invariant.states;
  facts = seen_more facts_or (λ b. facts_opened (presence b)) c.loop-key.states c.insert.new.self c.args.opening.now c.loop-key.key-index c.opened.result c.loop-key-test.true
      c.opened.ensures.facts c.in_ok-insert.ensures.updates c.loop-key.invariant.facts;
}
