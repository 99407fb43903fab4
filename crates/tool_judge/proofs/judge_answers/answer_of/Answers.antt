use Rattle.tool_judge.proofs.AnswerOfBytes.{answered}
use Rattle.tool_judge.proofs.judge_answers.answer_of.Goals as goal

pub returns-clause-judges : goal.returns-clause-judges
returns-clause-judges c = λ bytes is.
    let said = c.in_ok-said.ensures.said bytes is in
    answered c.args.detail bytes said.0 _ c.in_detail-shown.result _ said.1 said.2 c.in_detail-shown.ensures.verdict c.in_detail-shown.ensures.calls c.in_ok-answer.ensures
