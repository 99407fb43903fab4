use Rattle.std.proofs.Common.{Ok, List, ℕ, subst, sym}
use Rattle.std.specs.Prelude.{is_ok}
use Rattle.tool_base.specs.Tools.{view}
use Rattle.tool_judge.specs.Judging.{Judges}
use Rattle.tool_judge.specs.declared.judge_answers.Detail.TheVariants.{Whole}
use Rattle.tool_judge.proofs.MoreLines.{if_added}
use Rattle.tool_judge.proofs.extra_lines.with_lines.Goals as goal

pub returns-in-Ok : goal.returns-in-Ok
returns-in-Ok c = λ bytes judges.
    let was = subst (λ m. Judges bytes (view m)) c.in-Ok.is judges in
    subst (λ (text : List ℕ). Judges bytes (Ok (record { text = text; status = c.in-Ok.answer.status })))
    (sym c.extend_from_slice-added.ensures.items)
    (if_added Whole (is_ok c.extend_from_slice-added.result) bytes c.in-Ok.answer.text.items c.args.lines.now c.in-Ok.answer.status was)
