use Rattle.std.proofs.Common.{map, take}
use Rattle.std.specs.List.{fold}
use Rattle.clap.specs.Words.{App}
use Rattle.lset_command.specs.CommandLine.{Makes, row_of, with_command}
use Rattle.lset_command.proofs.command_line.with_commands.Given as goal

abbrev pub invariant-loop-row : goal.invariant-loop-row
invariant-loop-row l = (a : App) → Makes l.initial.program a → Makes l.program (fold with_command a (map row_of (take l.row-index l.rows)))
