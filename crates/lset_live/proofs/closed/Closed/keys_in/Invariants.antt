use Rattle.std.proofs.Common.{◌-◌, ◌≤◌, vec_capacity}
use Rattle.lset_steps.specs.Chain.{node_key}
use Rattle.lset_live.proofs.KeysWalk.{Walks}
use Rattle.lset_live.proofs.closed.Closed.keys_in.Given as goal

abbrev pub invariant-loop-node : goal.invariant-loop-node
invariant-loop-node l = Walks l.self l.keys.items l.node × (vec_capacity l.fn.room ≤ vec_capacity l.keys)

abbrev pub decreases-loop-node : goal.decreases-loop-node
decreases-loop-node l = node_key l.self.words 1 - node_key l.self.words l.node
