use Rattle.std.proofs.Common.{◌≡◌, ◌++◌, drop, map}
use Rattle.std.specs.Prelude.{string_bytes}
use Rattle.lset_text.specs.Parts.{text_of}
use Rattle.lset_report.specs.Texts.{key_line}
use Rattle.lset_report.proofs.writing.put_keys.Given as goal

abbrev pub invariant-loop-key : goal.invariant-loop-key
invariant-loop-key l = string_bytes l.out ++ text_of (map key_line
    (drop l.key-index l.keys)) ≡ string_bytes l.initial.out ++ text_of (map key_line l.keys)
