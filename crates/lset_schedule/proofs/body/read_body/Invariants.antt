use Rattle.std.proofs.Common.{length}
use Rattle.lset_text.specs.Parts.{cut_at}
use Rattle.lset_text.specs.Lines.{lines_from, Stands}
use Rattle.lset_text.specs.Texts.{first_line}
use Rattle.lset_schedule.specs.ScheduleReading.{grammar, no_lines, told, Counts}
use Rattle.lset_schedule.proofs.body.read_body.Given as goal

abbrev pub invariant-loop-rest : goal.invariant-loop-rest
invariant-loop-rest g l =
    let lines = grammar g.L.EventLine.lines l.version in
    record {
      stands : Stands lines first_line l.text (lines_from lines first_line (no_lines l.fn.header) (cut_at 10 l.text)) l.number (told l.body) l.rest;
      counts : Counts g.L.EventLine.lines l.body;
    }

abbrev pub decreases-loop-rest : goal.decreases-loop-rest
decreases-loop-rest g l = length l.rest
