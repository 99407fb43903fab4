use Rattle.std.proofs.Common.{◌≡◌, ℕ, take}
use Rattle.lset_words.specs.Effects.{presence}
use Rattle.lset_words.specs.SequentialSet.{has_key}
use Rattle.lset_judge.specs.Rule.{opened}
use Rattle.lset_judge.specs.Stream.{state_for}
use Rattle.lset_judge.specs.Facts.{facts_for, facts_opened}
use Rattle.lset_judge.proofs.stream.opening_states.Given as goal

abbrev pub invariant-loop-key : goal.invariant-loop-key
invariant-loop-key l = record {
  states : (k : ℕ) → state_for l.states k ≡ opened (has_key k (take l.key-index l.opening));
  facts : (k : ℕ) → facts_for l.states k ≡ facts_opened (presence (has_key k (take l.key-index l.opening)));
}
