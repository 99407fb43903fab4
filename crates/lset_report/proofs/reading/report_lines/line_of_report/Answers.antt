use Rattle.std.proofs.Common.{◌∙◌}
use Rattle.lset_text.proofs.PartLaws.{some_part}
use Rattle.lset_report.proofs.FieldCounts.{one_piece, two_pieces, no_call, is_call}
use Rattle.lset_report.proofs.reading.report_lines.line_of_report.Goals as goal
use Rattle.lset_report.proofs.reading.report_lines.line_of_report.Goals.{in_default-2-via-in-Two+in_default}
use Rattle.lset_report.proofs.reading.report_lines.line_of_report.Goals.{in_default-2-via-in_default+in_default}

pub returns-in_default-section : goal.returns-in_default-section
returns-in_default-section c =
    rw c.in_default.ensures.parts (c.end.ensures
    ∙ one_piece c.args.version c.args.section c.args.line.now c.in_default-section.not-Done)

pub returns-in_default-2 : goal.returns-in_default-2
returns-in_default-2 c = elim c.in_default-2.branch [
  | in_default-2-via-in-Two+in_default w ↦ rw (c.in-Some.ensures.parts, c.in_default-cut.ensures.parts) (c.key.ensures
      ∙ two_pieces c.args.version c.args.section c.in-Some.word.now c.in-Some.rest.now w.in_default-2.not-Done-1
      (λ two opening. w.in_default-2.not-Opening-1 opening))
  | in_default-2-via-in_default+in_default w ↦ rw (c.in-Some.ensures.parts, c.in_default-cut.ensures.parts) (c.key.ensures
      ∙ two_pieces c.args.version c.args.section c.in-Some.word.now c.in-Some.rest.now w.in_default-2.not-Done-1
      (λ two opening. (let one = w.in_default-2.is-0 in cc)))
]

pub returns-in-Opening : goal.returns-in-Opening
returns-in-Opening c =
    rw (c.in-Some.ensures.parts, c.in-Some-cut.ensures.parts, c.in-Some-cut-2.ensures.parts)
    (c.call.ensures ∙ is_call c.args.version c.args.section c.in-Some.word.now c.in-Some-cut.second.now c.in-Some-cut-2.third.now _
    (some_part 32 c.in-Some-cut-2.rest.now) c.in-Opening.is)

pub returns-in_default-section-3 : goal.returns-in_default-section-3
returns-in_default-section-3 c =
    rw (c.in-Some.ensures.parts, c.in-Some-cut.ensures.parts, c.in-Some-cut-2.ensures.parts)
    (no_call c.args.version c.args.section c.in-Some.word.now c.in-Some-cut.second.now c.in-Some-cut-2.third.now _
    (some_part 32 c.in-Some-cut-2.rest.now) c.in_default-section-3.not-Opening c.in_default-section-3.not-Calls)
