use Rattle.lset_judge.proofs.ClashOfKey.{clash_refutes}
use Rattle.lset_judge.proofs.clash.clashes_exclude_orders.Goals as goal

pub returns : goal.returns
returns c = clash_refutes
