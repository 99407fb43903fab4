use Rattle.lset_command.proofs.TableRows.{one_more}
use Rattle.lset_command.proofs.command_line.with_arguments.Goals as goal
use Rattle.lset_command.specs.CommandLine.{Makes, argument_of, with_argument}
use Rattle.std.proofs.Common.{subst}

pub loop-row-preserved : goal.loop-row-preserved
loop-row-preserved c = λ a made. subst (Makes c.and_arg-command.result)
    (one_more with_argument argument_of a c.args.rows.now c.loop-row.row-index _ c.loop-row-test.true)
    (c.and_arg-command.ensures _ _ (c.loop-row.invariant a made) c.arg_of.ensures.rule c.arg_of.ensures.local)
