use Rattle.std.proofs.Common.{◌-◌}
use Rattle.lset_words.specs.Words.{sizes}
use Rattle.lset_steps.specs.BoundedReads.{most_reads}
use Rattle.lset_rule.specs.Calls.{steps_of}
use Rattle.lset_loops.specs.Calling.{Holds}
use Rattle.lset_loops.proofs.ContainsRows.{reading}
use Rattle.lset_loops.proofs.reads.contains_on.Given as goal

abbrev pub invariant-loop-curr : goal.invariant-loop-curr
invariant-loop-curr g l = Holds g.M.Machine.table l.caller.origin (reading l.caller.origin l.caller.slots 21 l.curr.number) l.place

abbrev pub decreases-loop-curr : goal.decreases-loop-curr
decreases-loop-curr g l = most_reads (sizes l.caller.origin.me.0.shape) - steps_of l.place.me.0.under
