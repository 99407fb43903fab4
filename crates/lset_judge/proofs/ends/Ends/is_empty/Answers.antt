use Rattle.std.proofs.Common.{◌≡◌, sym, ap, ◌∙◌, arith, length}
use Rattle.std.specs.Prelude.{◌==◌}
use Rattle.std.specs.BinaryHeap.{heap_items, heap_len}
use Rattle.lset_judge.proofs.EndsInHeap.{same_length}
use Rattle.lset_judge.proofs.ends.Ends.is_empty.Goals as goal

pub returns : goal.returns
returns c =
    let h = c.self.inside.heap in
    let long : heap_len h ≡ length (heap_items h) = omega (arith, h.data.ok.0) in
    c.is_empty.ensures ∙ ap (λ n. n == 0) (long ∙ sym (same_length (heap_items h)) ∙ ap length c.self.view_is)
