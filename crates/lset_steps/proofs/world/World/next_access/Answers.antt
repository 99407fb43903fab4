use Rattle.lset_steps.proofs.WorldRuns.{named_in}
use Rattle.lset_steps.proofs.world.World.next_access.Goals as goal

pub sight-seen-requires : goal.sight-seen-requires
sight-seen-requires g c =
    let h = rw (← c.self.view_is) at c.requires in
    let l = rw (← c.self.view_is) at c.local-local.ensures in
    rw (c.next-action.ensures, l, c.deref.ensures.value) (named_in g.M.Machine.table _ c.args.t g.met.M.Machine.lawful
    c.self.invariant h)
