use Rattle.std.proofs.Common.{ℕ, ◌<◌, List, length}
use Rattle.std.specs.Prelude.{All, Contains}
use Rattle.lset_words.specs.declared.history.CallRecord.{CallRecord}
use Rattle.lset_judge.specs.Facts.{IsStreamKept}
use Rattle.lset_judge.proofs.stream.Stream.meet_before.Given as goal

abbrev pub invariant-loop-next : goal.invariant-loop-next
invariant-loop-next l = record {
  kept : (threads : ℕ) (opening : List ℕ) (calls : List CallRecord) → IsStreamKept threads opening calls l.fn.self → IsStreamKept threads opening calls l.self;
  before : l.fn.self.moment < l.moment → l.self.moment < l.moment;
  some : All (Contains l.fn.self.pending) l.self.pending;
}

abbrev pub decreases-loop-next : goal.decreases-loop-next
decreases-loop-next l = length l.self.pending
