use Rattle.tool_judge.proofs.RightAnswers.{right}
use Rattle.tool_judge.proofs.judge_answers.answers_are_right.Goals as goal

pub returns : goal.returns
returns c = right
