use Rattle.std.proofs.Common.{sym, ◌∙◌}
use Rattle.lset_judge.proofs.ClashOfKey.{is_known}
use Rattle.lset_judge.proofs.clash.is_of.Goals as goal

pub returns-then-is_of : goal.returns-then-is_of
returns-then-is_of c h = is_known c.args.calls.now c.args.key.0 c.args.call (c.has.ensures h) (sym c.is_of.ensures ∙ c.if-is_of.true)
