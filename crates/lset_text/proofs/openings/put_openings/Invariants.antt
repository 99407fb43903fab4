use Rattle.std.proofs.Common.{◌≡◌, ◌++◌, drop}
use Rattle.std.specs.Prelude.{string_bytes}
use Rattle.lset_text.specs.Parts.{text_of}
use Rattle.lset_text.specs.Openings.{opening_lines}
use Rattle.lset_text.proofs.openings.put_openings.Given as goal

abbrev pub invariant-loop-key : goal.invariant-loop-key
invariant-loop-key l = string_bytes l.out ++ text_of (opening_lines (drop l.key-index l.keys))
    ≡ string_bytes l.initial.out ++ text_of (opening_lines l.keys)
