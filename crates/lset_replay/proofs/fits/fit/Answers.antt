use Rattle.lset_history.specs.Changes.{moments_of}
use Rattle.lset_history.proofs.CeilingTests.{ceiling_search}
use Rattle.lset_replay.specs.Trace.{found_in}
use Rattle.lset_replay.proofs.fits.fit.Goals as goal

pub returns-in-Ceiling : goal.returns-in-Ceiling
returns-in-Ceiling c = rw c.in-Ceiling.is (ceiling_search (moments_of c.args.changes.now) c.first_ceiling.ensures.bounded
    c.in-Ceiling.key.0 (found_in c.args.reply) c.args.made.begun c.args.last c.first_ceiling.result c.requires
    (rw (← c.found_in.ensures) c.first_ceiling.ensures.first))
