use Rattle.std.proofs.Common.{Some, subst}
use Rattle.lset_judge.specs.Stream.{record_of}
use Rattle.lset_recording.specs.Kept.{IsJudgeKept}
use Rattle.lset_recording.proofs.KeptByLine.{one_call_more}
use Rattle.lset_recording.proofs.kept.Judging.keep_call.Goals as goal

pub returns-in-Err-clause-refused : goal.returns-in-Err-clause-refused
returns-in-Err-clause-refused c = λ other.
    let refused = c.in-Err.ensures.refused other in (
      refused.0,
      λ v was_kept follows.
          let kept = c.in_ok-open.ensures.kept v was_kept in
          refused.1 v.opening v.calls (subst (IsJudgeKept v.opening v.calls) c.in-Some.is kept.judge) follows,
    )

pub returns-clause-kept : goal.returns-clause-kept
returns-clause-kept c = λ v was_kept.
    let x = record_of c.args.call in
    let kept = c.in_ok-open.ensures.kept v was_kept in
    let before : IsJudgeKept v.opening v.calls (Some c.in-Some.judge) = subst (IsJudgeKept v.opening v.calls) c.in-Some.is kept.judge in
    let more = c.in_default.ensures.added v.opening v.calls before in (
      more.0,
      record {
        opening = kept.opening;
        opens = kept.opens;
        judge = more.1;
        calls = one_call_more v.opening v.calls x c.add_call.new.judge c.open.new.self.calls c.saturating_add-self.result more.1 kept.calls
            c.saturating_add-self.ensures;
        keys = kept.keys;
        left = kept.left;
        cut_off = kept.cut_off;
      },
    )
