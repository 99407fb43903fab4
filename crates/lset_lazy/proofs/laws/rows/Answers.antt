use Rattle.lset_lazy.proofs.Rows.{lazy_rows}
use Rattle.lset_lazy.proofs.laws.rows.Goals as goal

pub returns : goal.returns
returns c = lazy_rows
