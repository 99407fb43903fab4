use Rattle.std.proofs.Common.{[], refl, ◌∙◌, arith}
use Rattle.std.proofs.lemmas.Bool.{MatchBool-at_true, MatchBool-at_false}
use Rattle.std.proofs.lemmas.List.{get_or_default}
use Rattle.lset_words.specs.History.{no_call}
use Rattle.lset_history.specs.Faults.{place_at}
use Rattle.lset_history.proofs.EarlierPlaces.{reply_there, other_reply_there, goes_on_there, replies_more, right_before}
use Rattle.lset_history.proofs.checker.first_wrong_reply.Goals as goal

pub returns-then-not-branch-clause-answers : goal.returns-then-not-branch-clause-answers
returns-then-not-branch-clause-answers c =
    let i = c.loop-place.place-index in
    let calls = c.args.calls.now in
    let low = c.requires.known i (place_at [] 0) c.loop-place-test.true in
    let other = MatchBool-at_false _ _ c.if-not-branch.true c.in_ok-has_reply.ensures.answers in
    record {
      place = i;
      inside = c.loop-place-test.true;
      names = refl;
      refused = other_reply_there c.args.oracle.now c.loop-place.oracle calls c.args.order.now i _ c.loop-place.invariant.goes_on
          (get_or_default calls _ _ no_call low) other;
      first = right_before c.args.oracle.now calls c.args.order.now i (omega arith) c.loop-place.invariant.replies;
    }

pub loop-place-preserved : goal.loop-place-preserved
loop-place-preserved c =
    let i = c.loop-place.place-index in
    let calls = c.args.calls.now in
    let order = c.args.order.now in
    let low = c.requires.known i (place_at [] 0) c.loop-place-test.true in
    let at = get_or_default calls _ _ no_call low in
    let right = MatchBool-at_true _ _ c.if-not-branch.false c.in_ok-has_reply.ensures.answers in
    record {
      replies = replies_more c.args.oracle.now calls order i c.loop-place-test.true c.loop-place.invariant.replies
          (reply_there c.args.oracle.now c.loop-place.oracle calls order i _ c.loop-place.invariant.goes_on at right.0);
      goes_on = right.1 ∙ goes_on_there c.args.oracle.now c.loop-place.oracle calls order i _ c.loop-place-test.true
          c.loop-place.invariant.goes_on at;
    }
