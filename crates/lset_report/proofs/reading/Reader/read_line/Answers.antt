use Rattle.std.proofs.Common.{sym}
use Rattle.lset_report.specs.ReportReader.{so_far}
use Rattle.lset_report.proofs.ReportLoops.{line_read, judged_good}
use Rattle.lset_report.proofs.reading.Reader.read_line.Goals as goal

pub put-requires : goal.put-requires
put-requires c =
    judged_good (so_far c.args.self.now) c.in-Ok.line
    (line_read c.args.self.now.section (so_far c.args.self.now) c.args.text.now c.in-Ok.line (sym c.in-Ok.ensures)).1
