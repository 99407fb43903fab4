use Rattle.std.proofs.Common.{refl}
use Rattle.lset_judge.proofs.CountOfKey.{none_counted}
use Rattle.lset_judge.proofs.count.find_count.Goals as goal

pub returns-then-is_count-clause-none : goal.returns-then-is_count-clause-none
returns-then-is_count-clause-none c = none_counted c.args.calls.now c.args.key c.args.there c.args.left _ refl (c.is_count.ensures c.if-is_count.true)
