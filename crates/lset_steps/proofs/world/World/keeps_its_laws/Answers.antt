use Rattle.std.proofs.Common.{subst}
use Rattle.lset_steps.specs.Worlds.{WorldState, IsRun}
use Rattle.lset_steps.proofs.WorldRuns.{order_of}
use Rattle.lset_steps.proofs.world.World.keeps_its_laws.Goals as goal

pub returns : goal.returns
returns g c = order_of g.M.Machine.table c.args.self.now g.met.M.Machine.lawful
    (subst (λ (w : WorldState). IsRun g.M.Machine.table w) c.self.view_is c.self.invariant)
