use Rattle.lset_report.proofs.ReportTexts.{is_found, reads_text}
use Rattle.lset_report.proofs.reading.reports_read_back.Goals as goal

pub returns : goal.returns
returns c = λ r bytes. (reads_text r, is_found bytes r)
