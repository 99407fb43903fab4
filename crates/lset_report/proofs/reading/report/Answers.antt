use Rattle.std.proofs.Common.{sym, ap, ◌∙◌, inl, inr, Result, Ok}
use Rattle.std.proofs.lemmas.Result.{err_from_is_err_and}
use Rattle.lset_text.specs.Results.{◌>>=◌}
use Rattle.lset_text.specs.declared.causes.LineFault.{LineFault}
use Rattle.lset_report.specs.Report.{ReportValue}
use Rattle.lset_report.specs.ReportReading.{SoFar}
use Rattle.lset_report.proofs.ReportLoops.{header_fault, report_is, whole_text, runs_out_after_header, report_told}
use Rattle.lset_report.proofs.reading.report.Goals as goal

pub returns-in_default : goal.returns-in_default
returns-in_default c =
    let title = c.as_bytes.ensures.value ∙ c.title.ensures in
    inr (rw c.at.ensures (runs_out_after_header c.args.bytes.now c.version_told-version.result c.version_told-version.ensures
    c.in_ok-header.rest.now c.in_ok-header.header (rw title at c.in_ok-header.ensures.exact)))

pub returns-in_err-header : goal.returns-in_err-header
returns-in_err-header c =
    let p = err_from_is_err_and c.from_residual.result c.from_residual.ensures.1 in
    let title = c.as_bytes.ensures.value ∙ c.title.ensures in
    rw (p.1, p.2) (inl (header_fault c.args.bytes.now c.version_told-version.result c.version_told-version.ensures
    c.in_err-header.field-0.0 (rw title at c.in_err-header.ensures.exact)))

pub returns-in_err-read_lines : goal.returns-in_err-read_lines
returns-in_err-read_lines c =
    let p = err_from_is_err_and c.from_residual-in_err-read_lines.result c.from_residual-in_err-read_lines.ensures.1 in
    let title = c.as_bytes.ensures.value ∙ c.title.ensures in
    rw (p.1, p.2) (whole_text c.args.bytes.now c.version_told-version.result c.version_told-version.ensures
    c.in_ok-header.rest.now c.in_ok-header.header (rw title at c.in_ok-header.ensures.exact) c.in-Ok.reader _
    c.in-Ok.ensures.section c.in-Ok.ensures.nothing c.in_err-read_lines.ensures)

pub returns : goal.returns
returns c =
    let title = c.as_bytes.ensures.value ∙ c.title.ensures in
    report_is c.args.bytes.now c.version_told-version.result c.version_told-version.ensures c.in_ok-header.rest.now
    c.in_ok-header.header (rw title at c.in_ok-header.ensures.exact) c.in-Ok.reader c.in-Ok.ensures.section
    c.in-Ok.ensures.nothing
    ∙ ap (λ (r : Result SoFar LineFault). r >>= report_told) c.in_ok-read_lines.ensures
    ∙ ap (λ (r : ReportValue). Ok r) (sym c.into_report.ensures)
