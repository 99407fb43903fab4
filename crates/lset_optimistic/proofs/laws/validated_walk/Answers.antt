use Rattle.lset_optimistic.proofs.SecondWalks.{validated_walk_of}
use Rattle.lset_optimistic.proofs.laws.validated_walk.Goals as goal

pub returns : goal.returns
returns c = validated_walk_of
