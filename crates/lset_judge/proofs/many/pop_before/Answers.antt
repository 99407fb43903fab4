use Rattle.std.proofs.Common.{◌≤◌, ◌∷◌, ◌∙◌, ℕ, List, All, IsPermutation, sym, ap, subst}
use Rattle.std.specs.Prelude.{Contains, is_some}
use Rattle.lset_judge.specs.declared.stream.StreamCall.{StreamCall}
use Rattle.lset_judge.proofs.ManyFound.{removed, held_without, held_after, each_end}
use Rattle.lset_judge.proofs.many.pop_before.Goals as goal

abbrev Held : List ℕ → List (ℕ × StreamCall) → Type 0
Held ends es = All (λ (e : ℕ × StreamCall). Contains ends e.0) es

pub returns-in-Some-remove-clause-held : goal.returns-in-Some-remove-clause-held
returns-in-Some-remove-clause-held c =
    let end = c.in-Some.end in let es = c.loop-end.calls.entries in let now = c.remove.new.self.entries in let call = c.in-Some-remove.call in
    held_without end c.loop-end.ends c.pop_before.new.self now c.in-Some.ensures.0 (ap is_some c.remove.ensures.updates.1)
    (held_after end call c.loop-end.ends es now (removed end call es now (sym c.remove.ensures.value ∙ c.in-Some-remove.is) c.remove.ensures.entries)
    c.loop-end.invariant.held)

pub returns-in-Some-remove-clause-next : goal.returns-in-Some-remove-clause-next
returns-in-Some-remove-clause-next c =
    let end = c.in-Some.end in let es = c.loop-end.calls.entries in let now = c.remove.new.self.entries in let call = c.in-Some-remove.call in (
      c.in-Some.ensures.1,
      subst (λ (old : List (ℕ × StreamCall)). IsPermutation old ((end, call) ∷ now)) c.loop-end.invariant.same
          (removed end call es now (sym c.remove.ensures.value ∙ c.in-Some-remove.is) c.remove.ensures.entries),
      subst (All (λ (e : ℕ × StreamCall). end ≤ e.0)) c.loop-end.invariant.same
          (each_end (λ (m : ℕ). end ≤ m) c.loop-end.ends es c.loop-end.invariant.held c.in-Some.ensures.2),
    )

pub loop-end-preserved : goal.loop-end-preserved
loop-end-preserved c =
    let es = c.loop-end.calls.entries in let rest = c.pop_before.new.self in let same = c.in_default-remove.ensures.unchanged in record {
      same = same ∙ c.loop-end.invariant.same;
      held = subst (Held rest) (sym same) (held_without c.in-Some.end c.loop-end.ends rest es c.in-Some.ensures.0
          (ap is_some (sym c.remove.ensures.value ∙ c.in_default-remove.is)) c.loop-end.invariant.held);
    }

pub returns-clause-held : goal.returns-clause-held
returns-clause-held c = subst (λ (ends : List ℕ). Held ends c.loop-end.calls.entries) (sym c.in_default.ensures.0) c.loop-end.invariant.held

pub returns-clause-next : goal.returns-clause-next
returns-clause-next c = (
  c.loop-end.invariant.same,
  subst (All (λ (e : ℕ × StreamCall). c.args.moment ≤ e.0)) c.loop-end.invariant.same
      (each_end (λ (m : ℕ). c.args.moment ≤ m) c.loop-end.ends c.loop-end.calls.entries c.loop-end.invariant.held c.in_default.ensures.1),
)
