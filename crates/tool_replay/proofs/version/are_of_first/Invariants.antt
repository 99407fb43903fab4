use Rattle.std.proofs.Common.{take}
use Rattle.std.specs.List.{AllByRecursion}
use Rattle.lset_text.specs.declared.words.Version.TheVariants.{One}
use Rattle.lset_schedule.specs.Plan.{HasCallOfLine}
use Rattle.tool_replay.proofs.version.are_of_first.Given as goal

abbrev pub invariant-loop-line : goal.invariant-loop-line
invariant-loop-line l = AllByRecursion (HasCallOfLine One) (take l.line-index l.lines)
