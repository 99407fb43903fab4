use Rattle.std.proofs.Common.{sym, ◌∙◌}
use Rattle.std.specs.Cmp.Lexicographic.{same_text, other_text}
use Rattle.std.proofs.lemmas.Option.{MatchOption-at_none, MatchOption-at_some}
use Rattle.std.proofs.lemmas.Bool.{not-true, not-false}
use Rattle.lset_history.proofs.Verdicts.{stands_once, leaves_none_out, threads_below, missing_fault, wrong_reply_fault}
use Rattle.lset_history.proofs.Verdicts.{too_early_fault, wrong_set_fault, explained, not_explained}
use Rattle.lset_history.proofs.checker.check_order.Goals as goal

pub returns-in-Some-first_missing-clause-first_fault : goal.returns-in-Some-first_missing-clause-first_fault
returns-in-Some-first_missing-clause-first_fault c =
    missing_fault _ _ _ c.args.keys.now _ _ (stands_once c.args.history.now _ _ _ c.calls-calls.ensures.value c.in_default.ensures
    c.in_default-first_twice.ensures.once c.in_default-first_twice.ensures.marks)
    c.in-Some-first_missing.ensures

pub returns-in-Some-first_missing-clause-not_explained : goal.returns-in-Some-first_missing-clause-not_explained
returns-in-Some-first_missing-clause-not_explained c =
    not_explained c.args.history.now c.args.order.now c.args.keys.now _ (returns-in-Some-first_missing-clause-first_fault c)

pub first_wrong_reply-requires-clause-threads : goal.first_wrong_reply-requires-clause-threads
first_wrong_reply-requires-clause-threads c =
    threads_below c.args.history.now c.calls-calls.result.now c.in_ok-oracle.oracle
    c.calls-calls.ensures.value c.calls-calls.ensures.history c.in_ok-oracle.ensures

pub returns-in-Some-2-clause-first_fault : goal.returns-in-Some-2-clause-first_fault
returns-in-Some-2-clause-first_fault c =
    let left = leaves_none_out _ _ _ _ _ (stands_once _ _ _ _ c.calls-calls.ensures.value c.in_default.ensures
    c.in_default-first_twice.ensures.once c.in_default-first_twice.ensures.marks) c.in_default-first_missing.ensures
    c.in_ok-oracle.ensures in
    let wrong = MatchOption-at_some _ _ _ c.in-Some-2.is c.in_ok-number.ensures.answers in
    wrong_reply_fault _ _ _ c.args.keys.now _ _ _ left wrong

pub returns-in-Some-2-clause-not_explained : goal.returns-in-Some-2-clause-not_explained
returns-in-Some-2-clause-not_explained c =
    not_explained c.args.history.now c.args.order.now c.args.keys.now _ (returns-in-Some-2-clause-first_fault c)

pub returns-in-Some-first_too_early-clause-first_fault : goal.returns-in-Some-first_too_early-clause-first_fault
returns-in-Some-first_too_early-clause-first_fault c =
    let left = leaves_none_out _ _ _ _ _ (stands_once _ _ _ _ c.calls-calls.ensures.value c.in_default.ensures
    c.in_default-first_twice.ensures.once c.in_default-first_twice.ensures.marks) c.in_default-first_missing.ensures
    c.in_ok-oracle.ensures in
    let replies = MatchOption-at_none _ _ c.in_default-2.is c.in_ok-number.ensures.answers in
    too_early_fault _ _ _ c.args.keys.now _ _ _ left replies.0 c.in-Some-first_too_early.ensures

pub returns-then-ne-clause-first_fault : goal.returns-then-ne-clause-first_fault
returns-then-ne-clause-first_fault c =
    let left = leaves_none_out _ _ _ _ _ (stands_once _ _ _ _ c.calls-calls.ensures.value c.in_default.ensures
    c.in_default-first_twice.ensures.once c.in_default-first_twice.ensures.marks) c.in_default-first_missing.ensures
    c.in_ok-oracle.ensures in
    let replies = MatchOption-at_none _ _ c.in_default-2.is c.in_ok-number.ensures.answers in
    let other = other_text _ c.args.keys.now (sym (not-true _ (sym c.if-ne.ensures))) in
    wrong_set_fault _ _ _ _ _ _ _ left replies.0
    c.in_default-first_too_early.ensures replies.1 (λ same. other (c.as_slice.ensures.value ∙ c.in_ok-keys.ensures.keys ∙ same))

pub returns-clause-explained : goal.returns-clause-explained
returns-clause-explained c =
    let left = leaves_none_out _ _ _ _ _ (stands_once _ _ _ _ c.calls-calls.ensures.value c.in_default.ensures
    c.in_default-first_twice.ensures.once c.in_default-first_twice.ensures.marks) c.in_default-first_missing.ensures
    c.in_ok-oracle.ensures in
    let replies = MatchOption-at_none _ _ c.in_default-2.is c.in_ok-number.ensures.answers in
    let same = same_text _ c.args.keys.now (sym (not-false _ (sym c.if-ne.ensures))) in
    explained _ _ _ _ _ _ _ left replies.0
    c.in_default-first_too_early.ensures replies.1 (sym c.in_ok-keys.ensures.keys ∙ sym c.as_slice.ensures.value ∙ same)
    c.in_ok-keys.ensures.rising
