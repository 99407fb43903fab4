-- The slots of a thread (nodes reserved for its adds), and the other state that the thread keeps between two calls.
use Rattle.lset_steps.specs.declared.Local.{Local}
use Rattle.lset_steps.specs.Steps.{idle}
use Rattle.lset_rule.specs.declared.slots.OwnSlots.{OwnSlots}

abbrev pub slots_of : Local → OwnSlots
slots_of l = record { thread = l.thread; quota = l.quota; used = l.used }

-- Returns the private state of a thread that has the slots `s` (nodes reserved for its adds) and no pending call.
abbrev pub resting : OwnSlots → Local
resting s = record (idle s.quota s.thread) { used = s.used }
