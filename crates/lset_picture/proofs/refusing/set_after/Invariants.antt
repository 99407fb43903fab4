use Rattle.std.proofs.Common.{◌≡◌}
use Rattle.lset_picture.proofs.refusing.set_after.Given as goal

abbrev pub invariant-loop-place : goal.invariant-loop-place
invariant-loop-place l = l.oracle.threads ≡ l.threads
