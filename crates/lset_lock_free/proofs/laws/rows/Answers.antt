use Rattle.lset_lock_free.proofs.Rows.{lock_free_rows}
use Rattle.lset_lock_free.proofs.laws.rows.Goals as goal

pub returns : goal.returns
returns c = lock_free_rows
