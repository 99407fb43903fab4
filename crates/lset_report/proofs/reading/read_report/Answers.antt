use Rattle.std.proofs.lemmas.Result.{IfOk-weaker}
use Rattle.lset_report.specs.Report.{view}
use Rattle.lset_report.proofs.ReportTexts.{found_in, has_words}
use Rattle.lset_report.proofs.reading.read_report.Goals as goal

pub returns-clause-words : goal.returns-clause-words
returns-clause-words c =
    IfOk-weaker c.report.result _ _ (λ s h. has_words (view s) h.0) (found_in c.args.bytes.now c.report.result c.report.ensures)
