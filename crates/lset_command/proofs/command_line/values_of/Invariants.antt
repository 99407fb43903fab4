use Rattle.std.proofs.Common.{◌≡◌, ◌++◌, map}
use Rattle.std.specs.String.{string_bytes}
use Rattle.clap.specs.Words.{found_of, rows_of}
use Rattle.clap.specs.Matches.{ids_left}
use Rattle.lset_command.specs.CommandLine.{values_in}
use Rattle.lset_command.proofs.FoundValues.{values_by_names}
use Rattle.lset_command.proofs.command_line.values_of.Given as goal

abbrev pub invariant-loop-name : goal.invariant-loop-name
invariant-loop-name l =
    let rows = rows_of (found_of l.found) in
    map string_bytes l.values.items ++ values_by_names rows (ids_left l.name-iterator) ≡ values_in rows
