use Rattle.std.proofs.Common.{map, take}
use Rattle.std.specs.List.{fold}
use Rattle.clap.specs.Words.{App}
use Rattle.lset_command.specs.CommandLine.{Makes, argument_of, with_argument}
use Rattle.lset_command.proofs.command_line.with_arguments.Given as goal

abbrev pub invariant-loop-row : goal.invariant-loop-row
invariant-loop-row l = (a : App) → Makes l.initial.command a → Makes l.command (fold with_argument a (map argument_of (take l.row-index l.rows)))
