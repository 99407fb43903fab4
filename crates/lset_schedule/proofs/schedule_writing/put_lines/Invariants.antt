use Rattle.std.proofs.Common.{◌≡◌, ◌++◌, drop, map}
use Rattle.std.specs.Prelude.{string_bytes}
use Rattle.lset_text.specs.Parts.{text_of}
use Rattle.lset_schedule.specs.Plan.{line_text}
use Rattle.lset_schedule.proofs.schedule_writing.put_lines.Given as goal

abbrev pub invariant-loop-line : goal.invariant-loop-line
invariant-loop-line l = string_bytes l.out ++ text_of (map line_text
    (drop l.line-index l.lines)) ≡ string_bytes l.initial.out ++ text_of (map line_text l.lines)
