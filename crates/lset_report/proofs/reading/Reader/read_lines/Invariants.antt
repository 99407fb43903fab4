use Rattle.std.proofs.Common.{◌≡◌, ◌≤◌, ◌+◌, length}
use Rattle.lset_text.specs.Lines.{Stands}
use Rattle.lset_text.specs.Texts.{first_line}
use Rattle.lset_report.specs.ReportReading.{grammar}
use Rattle.lset_report.specs.ReportReader.{state}
use Rattle.lset_report.proofs.ReportLoops.{AllOf}
use Rattle.lset_report.proofs.reading.Reader.read_lines.Given as goal

abbrev pub invariant-loop-rest : goal.invariant-loop-rest
invariant-loop-rest l = record {
  stands : Stands grammar first_line l.text (AllOf l.text (state l.initial.self)) l.number (state l.self) l.rest;
  lines_left : l.number + length l.rest ≤ first_line + length l.text;
}

abbrev pub decreases-loop-rest : goal.decreases-loop-rest
decreases-loop-rest l = length l.rest
