use Rattle.std.proofs.Common.{◌<◌, ◌^◌, rules}
use Rattle.tool_threads.proofs.ShortPrograms.{are_short}
use Rattle.tool_threads.proofs.run_command.run_round.Goals as goal

pub work-requires-clause-short : goal.work-requires-clause-short
work-requires-clause-short g c κs within =
    let r = c.args.request in
    let few : r.calls < 2 ^ 32 = search rules in
    are_short (λ v. v.items) c.in_ok-programs.programs.items r.threads r.calls r.keys r.seed few c.in_ok-programs.ensures.drawn
