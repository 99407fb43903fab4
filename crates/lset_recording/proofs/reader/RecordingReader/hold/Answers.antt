use Rattle.std.proofs.Common.{◌++◌}
use Rattle.std.proofs.lemmas.Bool.{false≢true}
use Rattle.lset_recording.proofs.ReadLaws.{stands, read_at, held_more, held_on, held_full}
use Rattle.lset_recording.proofs.reader.RecordingReader.hold.Goals as goal

pub returns-in-Ok-clause-read : goal.returns-in-Ok-clause-read
returns-in-Ok-clause-read c = λ before is.
    let r = c.args.self.now in
    let more = c.args.bytes.now in
    read_at (before ++ more) (is.held ++ more) is.told _
    (held_more before is.held more r.judging.number is.told (stands before r is) c.requires) is.judging
    (held_on r.is_long is.held r.line.items _ more is.line c.in-Ok.ensures.ok) is.sound

pub returns-in-Err-clause-read : goal.returns-in-Err-clause-read
returns-in-Err-clause-read c = λ before is.
    let r = c.args.self.now in
    let more = c.args.bytes.now in
    read_at (before ++ more) (is.held ++ more) is.told _
    (held_more before is.held more r.judging.number is.told (stands before r is) c.requires) is.judging
    (held_full r.is_long is.held r.line.items more is.line
    (λ fits. false≢true (c.in-Err.ensures.variant.1 fits))) is.sound
