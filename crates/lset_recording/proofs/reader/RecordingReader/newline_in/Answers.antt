use Rattle.std.proofs.Common.{◌≡◌, ◌++◌, ◌∷◌, [], Err, sym, ap, subst, ◌∙◌}
use Rattle.lset_text.specs.declared.causes.LineFault.{LineFault}
use Rattle.lset_text.specs.Causes.{fault}
use Rattle.lset_recording.specs.Reading.{IsTaken, IsRefused, Says, cause_if_long}
use Rattle.lset_recording.specs.Kept.{IsHeld}
use Rattle.lset_recording.proofs.ReadLaws.{too_long, stands, line_read, line_refused}
use Rattle.lset_recording.proofs.reader.RecordingReader.newline_in.Goals as goal

pub returns-then-self-clause-refused : goal.returns-then-self-clause-refused
returns-then-self-clause-refused c = λ bytes is other more.
    let r = c.args.self.now in
    let many = subst (IsHeld is.held r.line.items) c.if-self.true is.line in
    let cause : c.cause_if_long.result ≡ cause_if_long is.told.section =
    c.cause_if_long.ensures ∙ ap cause_if_long is.judging.section in
    subst (λ (e : LineFault). Says ((bytes ++ 10 ∷ []) ++ more) (Err e))
    (sym (c.fault.ensures ∙ ap (fault r.judging.number) cause))
    (line_refused bytes is.held r.judging.number is.told (stands bytes r is) (cause_if_long is.told.section)
    (too_long is.told is.held many) more)

pub returns-in-Ok-clause-taken : goal.returns-in-Ok-clause-taken
returns-in-Ok-clause-taken c = λ bytes is.
    let r = c.args.self.now in
    let held : is.held ≡ r.line.items = subst (IsHeld is.held r.line.items) c.if-self.false is.line in
    let line : c.as_slice.result.now ≡ is.held = c.as_slice.ensures.value ∙ sym held in
    let t = c.in-Ok.ensures.taken is.told is.judging in
    line_read bytes is.held r.judging.number is.told (stands bytes r is) t.0 _ (subst (λ l. IsTaken is.told l t.0) line t.1) t.2 t.3
    c.clear.ensures c.if-self.false is.sound

pub returns-in-Err-clause-refused : goal.returns-in-Err-clause-refused
returns-in-Err-clause-refused c = λ bytes is other more.
    let r = c.args.self.now in
    let cause = c.in-Err.cause in
    let held : is.held ≡ r.line.items = subst (IsHeld is.held r.line.items) c.if-self.false is.line in
    let line : c.as_slice.result.now ≡ is.held = c.as_slice.ensures.value ∙ sym held in
    let named : c.fault-in-Err.result ≡ fault r.judging.number cause =
    c.fault-in-Err.ensures ∙ ap (λ n. fault n cause) c.in-Err.ensures.same in
    let refused = c.in-Err.ensures.refused (λ memory. other (ap (λ (e : LineFault). e.cause) named ∙ memory)) is.told is.judging in
    subst (λ (e : LineFault). Says ((bytes ++ 10 ∷ []) ++ more) (Err e)) (sym named)
    (line_refused bytes is.held r.judging.number is.told (stands bytes r is) cause
    (subst (λ l. IsRefused is.told l cause) line refused) more)

pub returns-then-self-clause-line : goal.returns-then-self-clause-line
returns-then-self-clause-line c = ap (λ (e : LineFault). e.line) c.fault.ensures

pub returns-in-Err-clause-line : goal.returns-in-Err-clause-line
returns-in-Err-clause-line c = ap (λ (e : LineFault). e.line) c.fault-in-Err.ensures ∙ c.in-Err.ensures.same
