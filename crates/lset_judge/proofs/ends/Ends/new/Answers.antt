use Rattle.std.proofs.Common.{ap}
use Rattle.lset_judge.specs.Heaped.{increasing_of}
use Rattle.lset_judge.proofs.ends.Ends.new.Goals as goal

pub returns : goal.returns
returns c = ap increasing_of c.new.ensures.items
