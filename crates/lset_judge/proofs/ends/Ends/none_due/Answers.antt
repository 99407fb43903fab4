use Rattle.std.proofs.Common.{◌≡◌, ◌<◌, ◌≤◌, ◌∙◌, suc, length, true, refl, inl, inr, sym, subst, arith}
use Rattle.std.specs.Prelude.{◌==◌, nat_lt, IsSome}
use Rattle.std.specs.BinaryHeap.{heap_items, heap_len}
use Rattle.std.proofs.lemmas.Bool.{true≢false}
use Rattle.lset_words.proofs.Numbers.{below_or_not}
use Rattle.lset_judge.specs.Rule.{not_before}
use Rattle.lset_judge.proofs.EndsInHeap.{due_told, none_held}
use Rattle.lset_judge.proofs.ends.Ends.none_due.Goals as goal

pub returns-in-Some : goal.returns-in-Some
returns-in-Some c =
    let m = c.args.before in let h = c.self.inside.heap in let xs = heap_items h in
    let some = c.peek.ensures.variant.0 (subst IsSome (sym c.in-Some.is) refl) in
    let low : 0 < length xs = omega (arith, some, h.data.ok.0) in
    subst (λ ys. nat_lt m c.saturating_sub.result ≡ (not_before (suc (suc m)) ys == length ys)) c.self.view_is
    (due_told m c.saturating_sub.result c.in-Some.end.now xs low c.in-Some.ensures.lookup (c.in-Some.ensures.greatest c.self.invariant) c.saturating_sub.ensures)

pub returns-in-None : goal.returns-in-None
returns-in-None c =
    let m = c.args.before in let h = c.self.inside.heap in
    let none : heap_len h ≤ 0 = elim (below_or_not 0 (heap_len h)) [
      | inl l ↦ absurd (true≢false (sym (subst IsSome c.in-None.is (c.peek.ensures.variant.1 l))))
      | inr low ↦ low
    ] in
    subst (λ ys. true ≡ (not_before (suc (suc m)) ys == length ys))
    (sym (none_held (heap_items h) (omega (arith, none, h.data.ok.0))) ∙ c.self.view_is) refl
