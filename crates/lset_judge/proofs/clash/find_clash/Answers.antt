use Rattle.lset_judge.proofs.ClashOfKey.{none_if}
use Rattle.lset_judge.proofs.clash.find_clash.Goals as goal

pub returns-clause-none : goal.returns-clause-none
returns-clause-none c = none_if c.args.calls.now c.args.key.0 c.args.there c.args.left c.last_clash.result c.last_clash.ensures
