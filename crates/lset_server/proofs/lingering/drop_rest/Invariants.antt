use Rattle.std.proofs.Common.{◌≡◌, false}
use Rattle.lset_server.proofs.lingering.drop_rest.Given as goal

abbrev pub invariant-loop-left : goal.invariant-loop-left
invariant-loop-left g l = g.I.Source.has_failed l.reader ≡ false

abbrev pub decreases-loop-left : goal.decreases-loop-left
decreases-loop-left g l = l.left
