use Rattle.std.proofs.Common.{subst}
use Rattle.lset_judge.specs.Stream.{stream_history, IsStreamVerdict}
use Rattle.lset_judge.specs.Judge.{left_by, HasNoClashIn}
use Rattle.lset_judge.proofs.FactsGoOn.{clash_now}
use Rattle.lset_judge.proofs.FactsSuffice.{left_timed}
use Rattle.lset_judge.proofs.set_judge.Judge.close.Goals as goal

pub returns-in-Linearizable : goal.returns-in-Linearizable
returns-in-Linearizable c = λ threads opening calls is.
    subst (IsStreamVerdict (stream_history threads opening calls) c.args.keys.now) c.in-Linearizable.is
    (c.verdict.ensures.said threads opening calls (c.in_ok-come_to_end.ensures.kept threads opening calls is).stream)

pub returns : goal.returns
returns c = λ threads opening calls is.
    let s = c.come_to_end.new.self in let refusal = c.in-NotLinearizable.refusal in
    let so = c.in_ok-come_to_end.ensures.kept threads opening calls is in (
      subst (IsStreamVerdict (stream_history threads opening calls) c.args.keys.now) c.in-NotLinearizable.is (c.verdict.ensures.said threads opening calls so.stream),
      clash_now s refusal c.left_as-left.result (left_by c.args.keys.now refusal.key.0 refusal.moment) c.clash_for-clash.result c.left_as-left.ensures
          c.clash_for-clash.ensures.found threads opening calls so,
      (λ none. subst (HasNoClashIn opening calls refusal.key.0) c.left_as-left.ensures
          (c.clash_for-clash.ensures.missed none opening threads calls so c.in_ok-come_to_end.ensures.met)),
    )

pub clash_for-clash-requires-clause-left : goal.clash_for-clash-requires-clause-left
clash_for-clash-requires-clause-left c =
    let refusal = c.in-NotLinearizable.refusal in left_timed c.args.keys.now refusal.key.0 refusal.moment c.left_as-left.result c.left_as-left.ensures
