use Rattle.lset_steps.proofs.SmallLocals.{slot_small}
use Rattle.lset_steps.proofs.rows.own_slot.Goals as goal

pub returns-clause-few : goal.returns-clause-few
returns-clause-few c = rw c.slot_node.ensures (slot_small _ _ _ c.requires.thread c.requires.quota c.requires.used)
