use Rattle.std.proofs.Common.{◌≡◌, ◌++◌, map, take}
use Rattle.std.specs.String.{string_bytes}
use Rattle.lset_command.proofs.command_line.push_values.Given as goal

abbrev pub invariant-loop-text : goal.invariant-loop-text
invariant-loop-text l = map string_bytes l.values.items ≡ map string_bytes l.initial.values.items
    ++ map (λ t. t.now) (take l.text-index l.texts)
