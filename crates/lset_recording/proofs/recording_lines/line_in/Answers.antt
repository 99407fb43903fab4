use Rattle.std.proofs.Common.{rules, ◌≡◌, true, codes}
use Rattle.std.specs.Str.{bytes_eq}
use Rattle.lset_text.proofs.PartLaws.{some_part}
use Rattle.lset_recording.specs.Reading.{takes_calls}
use Rattle.lset_recording.proofs.FieldCounts.{call_pieces}
use Rattle.lset_recording.proofs.recording_lines.line_in.Goals as goal

pub returns-then-not-takes_calls : goal.returns-then-not-takes_calls
returns-then-not-takes_calls c =
    rw (c.in-Some.ensures.parts, c.in-Some-cut.ensures.parts)
    (rw (call_pieces c.args.section c.in-Some.word.now c.in-Some-cut.second.now _ (some_part 32 c.in-Some-cut.rest.now))
    (search rules))

pub returns : goal.returns
returns c =
    let takes : takes_calls c.args.section ≡ true = search rules in
    let word : bytes_eq c.in-Some.word.now (codes "call") ≡ true = search rules in
    rw (c.in-Some.ensures.parts, c.in-Some-cut.ensures.parts)
    (rw (call_pieces c.args.section c.in-Some.word.now c.in-Some-cut.second.now _ (some_part 32 c.in-Some-cut.rest.now))
    (rw (takes, word) c.call.ensures))
