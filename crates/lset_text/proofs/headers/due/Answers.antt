use Rattle.lset_text.proofs.PartLaws.{some_part}
use Rattle.lset_text.proofs.HeaderLaws.{line_due_goes}
use Rattle.lset_text.proofs.headers.due.Goals as goal

pub returns-in-Some-clause-value : goal.returns-in-Some-clause-value
returns-in-Some-clause-value c =
    rw c.in-Some.ensures.parts (line_due_goes c.args.line c.args.cause c.in-Some.first.now _ (some_part 10 c.in-Some.rest.now))
