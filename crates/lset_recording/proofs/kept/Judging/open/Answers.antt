use Rattle.std.proofs.Common.{◌≡◌, subst, ◌∙◌}
use Rattle.std.proofs.lemmas.Result.{on_ok_weaker}
use Rattle.lset_recording.specs.Kept.{IsJudgeKept}
use Rattle.lset_recording.proofs.kept.Judging.open.Goals as goal

pub returns-in-None-clause-kept : goal.returns-in-None-clause-kept
returns-in-None-clause-kept c = on_ok_weaker c.create_judge.result (λ created v kept.
    let s = c.args.self.now in
    let same : c.deref.result.now ≡ v.opening = c.deref.ensures.value ∙ kept.opening in
    record {
      opening = kept.opening;
      opens = kept.opens;
      judge = subst (λ o. IsJudgeKept o v.calls s.judge → IsJudgeKept o v.calls c.create_judge.new.place) same (created v.calls) kept.judge;
      calls = kept.calls;
      keys = kept.keys;
      left = kept.left;
      cut_off = kept.cut_off;
    }) c.create_judge.ensures.kept
