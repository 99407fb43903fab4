use Rattle.lset_command.proofs.TableRows.{one_more}
use Rattle.lset_command.proofs.command_line.with_commands.Goals as goal
use Rattle.lset_command.specs.CommandLine.{Makes, row_of, with_command}
use Rattle.std.proofs.Common.{subst}

pub loop-row-preserved : goal.loop-row-preserved
loop-row-preserved c = λ a made. subst (Makes c.and_subcommand-program.result)
    (one_more with_command row_of a c.args.rows.now c.loop-row.row-index _ c.loop-row-test.true)
    (c.and_subcommand-program.ensures _ _ (c.loop-row.invariant a made) c.command_of.ensures)
