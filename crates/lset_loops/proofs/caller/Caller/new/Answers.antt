use Rattle.std.proofs.Common.{ap}
use Rattle.lset_loops.specs.Begun.{begun_at}
use Rattle.lset_loops.proofs.StepsOfCall.{may_begin}
use Rattle.lset_loops.proofs.caller.Caller.new.Goals as goal

pub returns-clause-begins : goal.returns-clause-begins
returns-clause-begins g c = may_begin _ _ _ (ap (begun_at c.args.call) c.of.ensures) c.requires
