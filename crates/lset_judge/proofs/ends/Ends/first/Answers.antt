use Rattle.std.proofs.Common.{◌≡◌, ◌<◌, ◌≤◌, ◌∙◌, ℕ, List, Some, All, length, refl, inl, inr, sym, subst, arith}
use Rattle.std.specs.Prelude.{IsSome, slice_get}
use Rattle.std.specs.BinaryHeap.{heap_items, heap_len}
use Rattle.std.proofs.lemmas.Bool.{true≢false}
use Rattle.lset_words.proofs.Numbers.{below_or_not}
use Rattle.lset_judge.proofs.EndsInHeap.{first_held, none_held}
use Rattle.lset_judge.proofs.ends.Ends.first.Goals as goal

pub returns-in-Some : goal.returns-in-Some
returns-in-Some c =
    let x = c.in-Some.end.now in let h = c.self.inside.heap in let xs = heap_items h in
    let some = c.peek.ensures.variant.0 (subst IsSome (sym c.in-Some.is) refl) in
    let low : 0 < length xs = omega (arith, some, h.data.ok.0) in
    subst (λ (ys : List ℕ). (slice_get ys 0 ≡ Some x.0) × All (λ (e : ℕ). x.0 ≤ e) ys) c.self.view_is
    (first_held x xs low c.in-Some.ensures.lookup (c.in-Some.ensures.greatest c.self.invariant))

pub returns-in-None : goal.returns-in-None
returns-in-None c =
    let h = c.self.inside.heap in
    let none : heap_len h ≤ 0 = elim (below_or_not 0 (heap_len h)) [
      | inl l ↦ absurd (true≢false (sym (subst IsSome c.in-None.is (c.peek.ensures.variant.1 l))))
      | inr low ↦ low
    ] in
    sym c.self.view_is ∙ none_held (heap_items h) (omega (arith, none, h.data.ok.0))
