use Rattle.std.proofs.lemmas.Result.{MatchResult-weaker}
use Rattle.lset_text.specs.Parts.{cut_at}
use Rattle.lset_text.proofs.HeaderLaws.{header_in_text, header_never}
use Rattle.lset_text.proofs.headers.read_header.Goals as goal

pub returns-clause-found : goal.returns-clause-found
returns-clause-found c =
    MatchResult-weaker c.header_due.result c.header_due.ensures.value
    (λ p is. header_in_text c.args.title.now c.args.text.now p.0 p.1.now is)
    (λ e is. tt)

pub returns-clause-asks : goal.returns-clause-asks
returns-clause-asks c =
    MatchResult-weaker c.header_due.result c.header_due.ensures.value (λ p is. tt)
    (λ e is. header_never c.args.title.now (cut_at 10 c.args.text.now) e is)
