use Rattle.std.proofs.Common.{refl, subst}
use Rattle.std.specs.Prelude.{None}
use Rattle.lset_judge.specs.Stream.{stream_history, IsStreamVerdictCutOff}
use Rattle.lset_judge.proofs.FactsGoOn.{clash_now}
use Rattle.lset_judge.proofs.set_judge.Judge.close_cut_off.Goals as goal

pub returns-in-Linearizable : goal.returns-in-Linearizable
returns-in-Linearizable c = λ threads opening calls is.
    subst (IsStreamVerdictCutOff (stream_history threads opening calls)) c.in-Linearizable.is
    (c.verdict_cut_off.ensures.said threads opening calls (c.in_ok-come_to_end.ensures.kept threads opening calls is).stream)

pub returns : goal.returns
returns c = λ threads opening calls is.
    let s = c.come_to_end.new.self in let refusal = c.in-NotLinearizable.refusal in
    let so = c.in_ok-come_to_end.ensures.kept threads opening calls is in (
      subst (IsStreamVerdictCutOff (stream_history threads opening calls)) c.in-NotLinearizable.is (c.verdict_cut_off.ensures.said threads opening calls so.stream),
      clash_now s refusal None None c.clash_for-clash.result refl c.clash_for-clash.ensures.found threads opening calls so,
      (λ none. c.clash_for-clash.ensures.missed none opening threads calls so c.in_ok-come_to_end.ensures.met),
    )
