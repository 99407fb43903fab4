use Rattle.std.proofs.Common.{◌≡◌, Ok, Err, rules, refl, sym, ap, ◌∙◌, inl, arith}
use Rattle.std.proofs.lemmas.Bool.{eqb-true, eqb-false}
use Rattle.std.proofs.lemmas.Result.{err_from_is_err_and}
use Rattle.lset_text.specs.declared.causes.Cause.TheVariants.{NotEnded}
use Rattle.lset_text.specs.Causes.{fault}
use Rattle.lset_text.specs.Results.{map_fault}
use Rattle.lset_text.specs.Texts.{first_line}
use Rattle.lset_text.proofs.LineLaws.{starts, goes_on, not_ended, is_done}
use Rattle.lset_report.specs.ReportReading.{ends, grammar}
use Rattle.lset_report.specs.ReportReader.{state}
use Rattle.lset_report.proofs.ReportLoops.{AllOf, stops_at}
use Rattle.lset_report.proofs.reading.Reader.read_lines.Goals as goal

pub loop-rest-init : goal.loop-rest-init
loop-rest-init c = record {
  stands = starts grammar first_line c.args.text.now (state c.args.self.now);
  lines_left = omega arith;
}

pub returns-in_default : goal.returns-in_default
returns-in_default c =
    let some = eqb-false _ _ (sym c.is_empty.ensures ∙ c.loop-rest-test.true) in
    inl (rw c.unended.ensures
    (not_ended grammar first_line c.args.text.now (AllOf c.args.text.now (state c.args.self.now)) c.loop-rest.number
    (state c.loop-rest.self) c.loop-rest.rest.now c.in_default.ensures.parts some c.loop-rest.invariant.stands))

pub returns-in_err-read_line : goal.returns-in_err-read_line
returns-in_err-read_line c =
    let p = err_from_is_err_and c.from_residual.result c.from_residual.ensures.1 in
    rw (p.1, p.2)
    (stops_at c.args.text.now (state c.args.self.now) (state c.loop-rest.self) c.loop-rest.number c.loop-rest.rest.now
    c.in-Some.first.now c.in-Some.after.now c.in_err-read_line.field-0.0 c.in-Some.ensures.parts
    c.in_err-read_line.ensures c.loop-rest.invariant.stands)

pub loop-rest-preserved : goal.loop-rest-preserved
loop-rest-preserved c =
    record {
      stands = goes_on grammar first_line c.args.text.now (AllOf c.args.text.now (state c.args.self.now)) c.loop-rest.number
          (state c.loop-rest.self) (state c.read_line.new.self) c.loop-rest.rest.now c.in-Some.first.now c.in-Some.after.now
          c.in-Some.ensures.parts c.in-Some.ensures.shorter c.in_ok-read_line.ensures c.loop-rest.invariant.stands;
      lines_left = omega (arith, c.loop-rest.invariant.lines_left, c.in-Some.ensures.shorter);
    }

pub returns-in-Done : goal.returns-in-Done
returns-in-Done c =
    let none = eqb-true _ _ (sym c.is_empty.ensures ∙ c.loop-rest-test.false) in
    let ended : ends (state c.loop-rest.self) ≡ Ok (state c.loop-rest.self) = rw c.in-Done.is refl in
    is_done grammar first_line c.args.text.now (AllOf c.args.text.now (state c.args.self.now)) c.loop-rest.number
    (state c.loop-rest.self) c.loop-rest.rest.now none c.loop-rest.invariant.stands
    ∙ ap (map_fault (fault c.loop-rest.number)) ended

pub returns-in_default-section : goal.returns-in_default-section
returns-in_default-section c =
    let unended : ends (state c.loop-rest.self) ≡ Err NotEnded = search rules in
    let none = eqb-true _ _ (sym c.is_empty.ensures ∙ c.loop-rest-test.false) in
    inl (rw c.unended-in_default-section.ensures
    (is_done grammar first_line c.args.text.now (AllOf c.args.text.now (state c.args.self.now)) c.loop-rest.number
    (state c.loop-rest.self) c.loop-rest.rest.now none c.loop-rest.invariant.stands
    ∙ ap (map_fault (fault c.loop-rest.number)) unended))
