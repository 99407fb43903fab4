use Rattle.lset_steps.specs.declared.Event.TheVariants.{Begin}
use Rattle.lset_steps.proofs.WorldRuns.{is_run_after}
use Rattle.lset_steps.proofs.world.World.begin.Goals as goal

pub invariant_of-self : goal.invariant_of-self
invariant_of-self g c =
    let h = rw (← c.self.view_is) at c.requires in
    let l = rw (← c.self.view_is) at c.local-local.ensures in
    rw (c.begin.ensures, l) (is_run_after g.M.Machine.table _ (Begin c.args.t c.args.call) c.self.invariant h)
