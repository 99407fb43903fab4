use Rattle.std.proofs.Common.{◌≡◌, ◌++◌, ◌∷◌, [], Err, sym, ap, subst, ◌∙◌}
use Rattle.lset_text.specs.declared.causes.LineFault.{LineFault}
use Rattle.lset_text.specs.Causes.{fault}
use Rattle.lset_recording.specs.Reading.{Says}
use Rattle.lset_recording.proofs.ReadLaws.{whole_line, line_read, line_refused}
use Rattle.lset_recording.proofs.reader.RecordingReader.whole_line_in.Goals as goal

pub returns-in-Ok-clause-taken : goal.returns-in-Ok-clause-taken
returns-in-Ok-clause-taken c = λ bytes is.
    let r = c.args.self.now in
    let line = c.args.line.now in
    let t = c.in-Ok.ensures.taken is.told is.judging in
    line_read (bytes ++ line) line r.judging.number is.told
    (whole_line bytes line r is c.requires.lacks c.requires.short c.requires.none) t.0 _ t.1 t.2 t.3 c.requires.none c.requires.short is.sound

pub returns-in-Err-clause-refused : goal.returns-in-Err-clause-refused
returns-in-Err-clause-refused c = λ bytes is other more.
    let r = c.args.self.now in
    let line = c.args.line.now in
    let cause = c.in-Err.cause in
    let named : c.fault.result ≡ fault r.judging.number cause = c.fault.ensures ∙ ap (λ n. fault n cause) c.in-Err.ensures.same in
    let refused = c.in-Err.ensures.refused (λ memory. other (ap (λ (e : LineFault). e.cause) named ∙ memory)) is.told is.judging in
    subst (λ (e : LineFault). Says ((bytes ++ line ++ 10 ∷ []) ++ more) (Err e)) (sym named)
    (line_refused (bytes ++ line) line r.judging.number is.told
    (whole_line bytes line r is c.requires.lacks c.requires.short c.requires.none) cause refused more)

pub returns-in-Err-clause-line : goal.returns-in-Err-clause-line
returns-in-Err-clause-line c = ap (λ (e : LineFault). e.line) c.fault.ensures ∙ c.in-Err.ensures.same
