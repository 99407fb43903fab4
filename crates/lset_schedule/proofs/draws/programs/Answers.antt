use Rattle.lset_schedule.specs.Draws.{program_of}
use Rattle.lset_schedule.proofs.DrawLaws.{programs_more}
use Rattle.lset_schedule.proofs.draws.programs.Goals as goal

pub loop-thread-preserved : goal.loop-thread-preserved
loop-thread-preserved c =
    programs_more (λ p. p.items) (program_of c.args.calls c.args.keys c.args.seed) c.loop-thread.all.items _ _
    c.loop-thread.thread c.in_ok-push.ensures.items c.in_ok-program.ensures c.loop-thread.invariant
