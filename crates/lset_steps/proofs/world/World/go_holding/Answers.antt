use Rattle.lset_steps.specs.declared.Event.TheVariants.{Go}
use Rattle.lset_steps.proofs.WorldRuns.{is_run_after, named_in}
use Rattle.lset_steps.proofs.world.World.go_holding.Goals as goal

pub invariant_of-self : goal.invariant_of-self
invariant_of-self g c =
    let h = rw (← c.self.view_is) at c.requires.call in
    let l = rw (← c.self.view_is) at c.requires.held in
    rw (
      c.feed-fed.ensures,
      c.access-seen.ensures.seen,
      c.access-seen.ensures.left,
      c.next-action.ensures,
      l,
    ) (is_run_after g.M.Machine.table _ (Go c.args.t) c.self.invariant h)

pub access-seen-requires : goal.access-seen-requires
access-seen-requires g c =
    let h = rw (← c.self.view_is) at c.requires.call in
    let l = rw (← c.self.view_is) at c.requires.held in
    rw (c.next-action.ensures, l) (named_in g.M.Machine.table _ c.args.t g.met.M.Machine.lawful c.self.invariant h)
