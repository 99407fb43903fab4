use Rattle.std.proofs.Common.{subst}
use Rattle.lset_live.specs.Closes.{LastWords, HasLaws}
use Rattle.lset_live.proofs.Closing.{laws_of}
use Rattle.lset_live.proofs.closed.Closed.keeps_its_laws.Goals as goal

pub returns : goal.returns
returns c = subst (λ (w : LastWords). HasLaws w) c.self.view_is (laws_of _ c.self.invariant.0)
