use Rattle.std.proofs.Common.{rules, sym, ◌∙◌, map}
use Rattle.lset_text.specs.Headers.{header_lines}
use Rattle.lset_text.specs.Openings.{opening_lines}
use Rattle.lset_report.specs.Report.{ReportValue, view}
use Rattle.lset_report.specs.Texts.{title, header_in, call_lines, place_line, key_line, last_line}
use Rattle.lset_report.proofs.ReportTexts.{texts_of}
use Rattle.lset_report.proofs.writing.write_report.Goals as goal

pub returns : goal.returns
returns c =
    let r : ReportValue = view c.args.report.now in
    search rules ∙ sym (texts_of (header_lines (title r.version) (header_in r)) (opening_lines r.history.opening.keys)
    (call_lines 0 r.history.calls) (map place_line r.order) (map key_line r.keys) last_line)
