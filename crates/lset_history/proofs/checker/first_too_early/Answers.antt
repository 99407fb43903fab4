use Rattle.std.proofs.Common.{◌≡◌, suc, ◌<◌, ◌-◌, [], length, ap, subst, arith}
use Rattle.std.proofs.lemmas.List.{get_or_default}
use Rattle.std.proofs.lemmas.Bool.{both_ways}
use Rattle.lset_words.specs.declared.history.CallRecord.{CallRecord}
use Rattle.lset_words.specs.History.{no_call}
use Rattle.lset_history.specs.Faults.{place_at}
use Rattle.lset_history.proofs.EarlyCalls.{EndsSmallest, FindsEarly, smallest_more, early_here, early_later, early_first}
use Rattle.lset_history.proofs.checker.first_too_early.Goals as goal
use Rattle.lset_history.proofs.checker.first_too_early.Goals.{then-is_below, else-is_below}

pub loop-i-preserved : goal.loop-i-preserved
loop-i-preserved c =
    let calls = c.args.calls.now in
    let order = c.args.order.now in
    let i = c.loop-i.i in
    let j = i - 1 in
    let inside : j < length order = omega arith in
    let next : i ≡ suc j = omega arith in
    let read = get_or_default calls (place_at order j).call _ no_call (c.requires j (place_at [] 0) inside) in
    let smallest = subst (λ n. EndsSmallest calls order n c.loop-i.smallest_end) next c.loop-i.invariant.smallest in
    let begun = ap (λ (x : CallRecord). x.begun) read in
    record {
      in_range = omega arith;
      smallest = rw c.lesser-smallest_end.ensures (smallest_more calls order j _ _ inside (ap (λ (x : CallRecord). x.ended) read) smallest);
      found = elim c.if-is_below.branch [
        | then-is_below w ↦ rw w.early-is (early_here calls order j _ _ inside begun smallest
            (c.is_below.ensures.0 w.if-is_below.true))
        | else-is_below w ↦ rw w.early-is (early_later calls order j _ _ _ begun smallest
            (λ h. both_ways _ w.if-is_below.false (c.is_below.ensures.1 h)) (subst (λ n. FindsEarly calls order n c.loop-i.early) next c.loop-i.invariant.found))
      ];
    }

pub returns : goal.returns
returns c =
    let zero : c.loop-i.i ≡ 0 = omega arith in
    early_first c.args.calls.now c.args.order.now c.loop-i.early
    (subst (λ n. FindsEarly c.args.calls.now c.args.order.now n c.loop-i.early) zero c.loop-i.invariant.found)
