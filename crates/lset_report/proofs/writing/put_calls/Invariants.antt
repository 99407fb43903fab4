use Rattle.std.proofs.Common.{◌≡◌, ◌++◌, drop}
use Rattle.std.specs.Prelude.{string_bytes}
use Rattle.lset_text.specs.Parts.{text_of}
use Rattle.lset_report.specs.Texts.{call_lines}
use Rattle.lset_report.proofs.writing.put_calls.Given as goal

-- The invariant of the loop over the calls: the text written so far, followed by the lines of the remaining calls, is
-- the text of all calls.
abbrev pub invariant-loop-number : goal.invariant-loop-number
invariant-loop-number l = string_bytes l.out ++ text_of (call_lines l.number
    (drop l.number l.calls)) ≡ string_bytes l.initial.out ++ text_of (call_lines 0 l.calls)
