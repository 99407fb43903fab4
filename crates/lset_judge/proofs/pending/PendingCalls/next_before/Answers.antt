use Rattle.std.proofs.Common.{◌≡◌, ◌<◌, ◌≤◌, ◌++◌, ◌∙◌, List, All, length, get_or, sym, ap, subst, arith}
use Rattle.lset_judge.specs.declared.stream.Pending.{Pending}
use Rattle.lset_judge.specs.Pending.{IsNext}
use Rattle.lset_judge.proofs.PendingFound.{few_next, many_next}
use Rattle.lset_judge.proofs.pending.PendingCalls.next_before.Goals as goal

pub returns-in-Some : goal.returns-in-Some
returns-in-Some c =
    let s = c.self.inside in let p = c.in-Some.next in let few = s.few.items in let now = c.next_before.new.self in let near = c.end_of_few-end.result in
    subst (λ (ps : List Pending). IsNext c.args.moment ps p (few ++ now)) c.self.view_is
    (many_next few s.many now c.args.moment near c.min.result p c.min.ensures c.in-Some.ensures
    (subst (All (λ (q : Pending). near ≤ q.end)) c.deref.ensures.value c.end_of_few-end.ensures.smallest))

pub returns-then-end-moment : goal.returns-then-end-moment
returns-then-end-moment c =
    let s = c.self.inside in let p = c.swap_remove-next.result in let few = s.few.items in let rest = c.swap_remove-next.new.self.items in
    let end = c.end_of_few-end.result in
    let first = subst (λ (ps : List Pending). (s.next < length ps) × ((d : Pending) → (get_or ps s.next d).end ≡ end)) c.deref.ensures.value
    (c.end_of_few-end.ensures.first (let early = c.if-end-moment.true in let fits = c.ranges.moment.fits in omega (arith, early, fits))) in
    let same = c.in_default.ensures.0 in
    subst (λ (ps : List Pending). IsNext c.args.moment ps p (rest ++ c.next_before.new.self)) c.self.view_is
    (subst (λ (ms : List Pending). IsNext c.args.moment (few ++ s.many) p (rest ++ ms)) (sym same)
    (few_next few s.many s.next c.args.moment end c.min.result p rest first.0 c.swap_remove-next.ensures.value c.swap_remove-next.ensures.items
    (ap (λ (q : Pending). q.end) c.swap_remove-next.ensures.value ∙ first.1 p) c.if-end-moment.true
    (subst (All (λ (q : Pending). end ≤ q.end)) c.deref.ensures.value c.end_of_few-end.ensures.smallest) c.min.ensures c.in_default.ensures.1))
