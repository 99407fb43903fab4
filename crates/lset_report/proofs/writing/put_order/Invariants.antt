use Rattle.std.proofs.Common.{◌≡◌, ◌++◌, drop, map}
use Rattle.std.specs.Prelude.{string_bytes}
use Rattle.lset_text.specs.Parts.{text_of}
use Rattle.lset_report.specs.Texts.{place_line}
use Rattle.lset_report.proofs.writing.put_order.Given as goal

abbrev pub invariant-loop-place : goal.invariant-loop-place
invariant-loop-place l = string_bytes l.out ++ text_of (map place_line
    (drop l.place-index l.order)) ≡ string_bytes l.initial.out ++ text_of (map place_line l.order)
