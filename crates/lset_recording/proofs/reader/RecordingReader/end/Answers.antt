use Rattle.std.proofs.Common.{◌≡◌, ◌<◌, [], length, Err, sym, ap, subst, ◌∙◌, arith}
use Rattle.std.proofs.lemmas.Bool.{eqb-true, eqb-false}
use Rattle.std.proofs.lemmas.List.{nil_from_length}
use Rattle.lset_text.specs.declared.causes.LineFault.{LineFault}
use Rattle.lset_text.specs.Causes.{fault}
use Rattle.lset_text.specs.declared.causes.Cause.TheVariants as wrong
use Rattle.lset_recording.specs.Reading.{Says}
use Rattle.lset_recording.specs.Kept.{IsHeld}
use Rattle.lset_recording.proofs.ReadLaws.{stands, at_end, some_left, above_zero, finished, not_finished, line_of_end}
use Rattle.lset_recording.proofs.reader.RecordingReader.end.Goals as goal
use Rattle.lset_recording.proofs.reader.RecordingReader.end.Goals.{then-self-via-then-self, then-self-via-else-self+then-not-is_empty}

pub returns-then-self-clause-refused : goal.returns-then-self-clause-refused
returns-then-self-clause-refused c = λ other bytes is.
    let r = c.args.self in
    let some : 0 < length is.held = elim c.then-self.branch [
      | then-self-via-then-self w ↦ (let many = subst (IsHeld is.held r.line.items) w.if-self.true is.line in omega (arith, many))
      | then-self-via-else-self+then-not-is_empty w ↦ (let same = subst (IsHeld is.held r.line.items) w.if-self.false is.line in
          let slice = w.as_slice.ensures.value in
          let long = ap length (same ∙ sym slice) in
          let not_none = above_zero _ (eqb-false _ _ (sym w.is_empty.ensures ∙ w.if-not-is_empty.true)) in
          omega (arith, long, not_none))
    ] in
    subst (λ (e : LineFault). Says bytes (Err e)) (sym c.fault.ensures)
    (at_end bytes is.held r.judging.number is.told (stands bytes r is) (Err (fault r.judging.number wrong.NotEnded))
    (some_left r.judging.number is.told is.held some))

pub returns-clause-said : goal.returns-clause-said
returns-clause-said c =
    let none : c.args.self.line.items ≡ [] =
    sym c.as_slice.ensures.value ∙ nil_from_length c.as_slice.result.now (eqb-true _ _ (sym c.is_empty.ensures ∙ c.if-not-is_empty.false)) in
    finished c.args.self c.finish.result c.if-self.false none c.finish.ensures.said

pub returns-clause-refused : goal.returns-clause-refused
returns-clause-refused c =
    let none : c.args.self.line.items ≡ [] =
    sym c.as_slice.ensures.value ∙ nil_from_length c.as_slice.result.now (eqb-true _ _ (sym c.is_empty.ensures ∙ c.if-not-is_empty.false)) in
    not_finished c.args.self c.finish.result c.if-self.false none c.finish.ensures.refused

pub returns-then-self-clause-line : goal.returns-then-self-clause-line
returns-then-self-clause-line c = λ bytes is. ap (λ (e : LineFault). e.line) c.fault.ensures ∙ is.counted

pub returns-clause-line : goal.returns-clause-line
returns-clause-line c = line_of_end c.args.self c.finish.result c.finish.ensures.line
