use Rattle.lset_words.specs.declared.Call.TheVariants.{Contains}
use Rattle.lset_rule.proofs.CallKnows.{Comes}
use Rattle.lset_rule.specs.Seats.{IsSeat}
use Rattle.lset_rule.specs.Calls.{steps_of}
use Rattle.lset_rule.proofs.ContainsEnds.{steps_left}
use Rattle.lset_words.specs.Words.{sizes}
use Rattle.lset_steps.specs.BoundedReads.{most_reads}
use Rattle.lset_rule.proofs.interpreter.interpret_read.Given as goal

abbrev pub ghosts-start_on : goal.ghosts-start_on
ghosts-start_on g a = record { call = a.call }

abbrev pub invariant-loop-fed : goal.invariant-loop-fed
invariant-loop-fed g l = Comes g.M.Machine.table (Contains l.fn.key) l.fn.place.me.0 l.fed l.place.me.0
    × IsSeat l.fn.place l.place

abbrev pub decreases-loop-fed : goal.decreases-loop-fed
decreases-loop-fed g l = steps_left l.fed.answer (most_reads (sizes l.fn.place.me.0.shape)) (steps_of l.place.me.0.under)
