use Rattle.std.proofs.Common.{◌≡◌, true, false}
use Rattle.std.specs.Prelude.{All, MatchOption}
use Rattle.lset_words.specs.SequentialSet.{has_key}
use Rattle.lset_judge.specs.Code.{state_of}
use Rattle.lset_judge.specs.Leaving.{may_be_left}
use Rattle.lset_judge.specs.Stream.{state_for}
use Rattle.lset_judge.proofs.stream.Stream.wrongly_left.Given as goal

abbrev pub invariant-loop-key : goal.invariant-loop-key
invariant-loop-key l = MatchOption l.wrong (All (λ p. may_be_left (has_key p.0.now l.keys) (state_of p.1.now) ≡ true) l.yielded)
    (λ k. may_be_left (has_key k l.keys) (state_for l.self.states k) ≡ false)
