use Rattle.std.proofs.Common.{◌-◌}
use Rattle.lset_steps.specs.Chain.{node_key}
use Rattle.lset_steps.specs.Laws.{view_of}
use Rattle.lset_steps.proofs.WalkedTo.{HasPicked}
use Rattle.lset_steps.proofs.world.World.walk.Given as goal

abbrev pub invariant-loop-node : goal.invariant-loop-node
invariant-loop-node g l = HasPicked (goal.F-post g l.pick) (view_of l.self.sizes l.self.state) l.picked.items l.node

abbrev pub decreases-loop-node : goal.decreases-loop-node
decreases-loop-node g l = node_key l.self.state.words 1 - node_key l.self.state.words l.node
