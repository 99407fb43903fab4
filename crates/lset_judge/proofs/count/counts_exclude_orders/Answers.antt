use Rattle.lset_judge.proofs.CountOfKey.{count_refutes}
use Rattle.lset_judge.proofs.count.counts_exclude_orders.Goals as goal

pub returns : goal.returns
returns c = count_refutes
