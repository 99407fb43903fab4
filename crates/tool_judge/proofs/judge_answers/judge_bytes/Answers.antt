use Rattle.std.proofs.Common.{[], Err, append-nil, subst, sym}
use Rattle.std.proofs.lemmas.Result.{err_from_is_err_and}
use Rattle.lset_recording.specs.Reading.{Says}
use Rattle.tool_base.specs.Tools.{view}
use Rattle.tool_judge.specs.Judging.{Judges}
use Rattle.tool_judge.specs.declared.judge_answers.Detail.TheVariants.{Whole}
use Rattle.tool_judge.proofs.AnswerOfBytes.{of_fault}
use Rattle.tool_judge.proofs.judge_answers.judge_bytes.Goals as goal

pub returns-in_err-feed-clause-judges : goal.returns-in_err-feed-clause-judges
returns-in_err-feed-clause-judges c =
    let bytes = c.args.bytes.now in
    let e = c.in_err-feed.field-0.0 in
    let p = err_from_is_err_and c.from_residual.result c.from_residual.ensures.1 in
    subst (λ r. Judges bytes (view r)) (sym p.1)
    (of_fault Whole bytes e p.0 p.2 (λ other.
    subst (λ t. Says t (Err e)) (append-nil bytes) (c.in_err-feed.ensures.refused [] c.new-reader.ensures other [])))

pub returns-clause-judges : goal.returns-clause-judges
returns-clause-judges c = c.answer_of.ensures.judges c.args.bytes.now (c.in_ok-feed.ensures.taken [] c.new-reader.ensures)
