use Rattle.std.proofs.Common.{◌≡◌, ◌∙◌, sym, arith}
use Rattle.std.specs.BinaryHeap.{heap_items, heap_len}
use Rattle.lset_judge.proofs.EndsInHeap.{popped, none_held}
use Rattle.lset_judge.proofs.ends.Ends.pop.Goals as goal

pub returns : goal.returns
returns c =
    let p = popped c.in-Some.end (heap_items c.self.inside.heap) (heap_items c.pop.new.self) c.in-Some.ensures.permutation
    (c.in-Some.ensures.below_top c.self.invariant) in
    (sym c.self.view_is ∙ p.0, p.1)

pub returns-in_default : goal.returns-in_default
returns-in_default c =
    let h = c.self.inside.heap in
    let none : heap_len h ≡ 0 = rw c.in_default.is at c.pop.ensures.none in
    sym c.self.view_is ∙ none_held (heap_items h) (omega (arith, none, h.data.ok.0))
