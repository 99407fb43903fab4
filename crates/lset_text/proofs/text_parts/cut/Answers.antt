use Rattle.lset_text.proofs.PartLaws.{uncut, cut_first}
use Rattle.lset_text.proofs.text_parts.cut.Goals as goal

pub returns-in_err-at-clause-parts : goal.returns-in_err-at-clause-parts
returns-in_err-at-clause-parts c = rw c.from_residual.ensures (uncut c.args.byte c.args.text.now c.in_err-at.ensures)

pub returns-clause-parts : goal.returns-clause-parts
returns-clause-parts c = cut_first c.args.byte c.args.text.now c.in_ok-at.at c.in_ok-at.ensures
