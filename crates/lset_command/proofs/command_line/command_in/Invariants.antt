use Rattle.std.proofs.Common.{◌≡◌, drop, map}
use Rattle.lset_command.specs.CommandLine.{command_in, row_of}
use Rattle.lset_command.proofs.command_line.command_in.Given as goal

abbrev pub invariant-loop-row : goal.invariant-loop-row
invariant-loop-row l = command_in l.name (map row_of (drop l.row-index l.rows)) ≡ command_in l.fn.name (map row_of l.fn.rows)
