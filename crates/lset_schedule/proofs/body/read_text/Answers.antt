use Rattle.std.proofs.lemmas.Result.{err_from_is_err_and}
use Rattle.lset_text.proofs.TextLaws.{good_after}
use Rattle.lset_schedule.specs.ScheduleReading.{texts}
use Rattle.lset_schedule.proofs.body.read_text.Goals as goal

pub returns-clause-memory : goal.returns-clause-memory
returns-clause-memory g c =
    good_after (texts g.L.EventLine.lines c.args.version c.args.title.now) c.args.text.now
    c.in_ok-header.rest.now c.in_ok-header.header c.read_body.result c.in_ok-header.ensures.exact c.read_body.ensures.memory

pub returns-in_err-header-clause-memory : goal.returns-in_err-header-clause-memory
returns-in_err-header-clause-memory g c =
    let p = err_from_is_err_and c.from_residual.result c.from_residual.ensures.1 in
    rw (p.1, p.2) (λ memory. absurd (c.in_err-header.ensures.asks memory))
