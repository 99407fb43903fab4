use Rattle.std.proofs.Common.{sym, codes}
use Rattle.lset_text.specs.Parts.{cut_at}
use Rattle.lset_text.proofs.PartLaws.{some_part}
use Rattle.lset_recording.proofs.FieldCounts.{call_many}
use Rattle.lset_recording.proofs.recording_lines.call.Goals as goal

pub returns-in-Some-cut-4 : goal.returns-in-Some-cut-4
returns-in-Some-cut-4 c =
    rw (
      c.in-Some.ensures.parts,
      c.in-Some-cut.ensures.parts,
      c.in-Some-cut-2.ensures.parts,
      c.in-Some-cut-3.ensures.parts,
      c.in-Some-cut-4.ensures.parts,
    )
    (sym (call_many (codes "call") c.args.thread.now c.in-Some.call.now c.in-Some-cut.key.now c.in-Some-cut-2.begun.now
    c.in-Some-cut-3.end.now c.in-Some-cut-4.field-0-0.now (cut_at 32 c.in-Some-cut-4._more.now) (some_part 32 c.in-Some-cut-4._more.now)))
