use Rattle.std.proofs.Common.{◌≡◌, ◌≢◌, ℕ, true, None, take}
use Rattle.std.specs.Bool.{nat_eq}
use Rattle.std.specs.HashMap.{get}
use Rattle.lset_words.specs.SequentialSet.{has_key}
use Rattle.lset_judge.proofs.stream.Stream.unknown_left.Given as goal

abbrev pub invariant-loop-key : goal.invariant-loop-key
invariant-loop-key l = (k : ℕ) → has_key k (take l.key-index l.keys) ≡ true → get nat_eq l.self.states k ≢ None
