use Rattle.std.proofs.Common.{◌∙◌, sym}
use Rattle.std.proofs.lemmas.Bool.{eqb-true}
use Rattle.tool_replay.proofs.Versions.{have_calls, none}
use Rattle.tool_replay.proofs.version.smallest_version.Goals as goal

pub returns-then-are_of_first-clause-opening : goal.returns-then-are_of_first-clause-opening
returns-then-are_of_first-clause-opening c = none c.args.opening.now (eqb-true _ _ (sym c.is_empty.ensures ∙ c.if-is_empty.true))

pub returns-else-is_empty-clause-calls : goal.returns-else-is_empty-clause-calls
returns-else-is_empty-clause-calls c = have_calls c.args.lines.now
