use Rattle.lset_live.proofs.Receipts.{keep_order}
use Rattle.lset_live.proofs.receipt.receipts_keep_order.Goals as goal

pub returns : goal.returns
returns g = keep_order
