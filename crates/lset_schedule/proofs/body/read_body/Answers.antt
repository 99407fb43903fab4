use Rattle.std.proofs.Common.{sym, ◌∙◌}
use Rattle.std.proofs.lemmas.Bool.{eqb-true, eqb-false}
use Rattle.lset_text.proofs.LineLaws.{goes_on, not_ended, is_done, refused, ran_out}
use Rattle.lset_text.specs.Texts.{first_line}
use Rattle.lset_schedule.specs.ScheduleReading.{grammar, told}
use Rattle.lset_schedule.proofs.BodyLoops.{never_memory}
use Rattle.lset_schedule.proofs.body.read_body.Goals as goal

pub returns-in_default-clause-exact : goal.returns-in_default-clause-exact
returns-in_default-clause-exact g c = λ other.
    rw c.unended.ensures
    (not_ended (grammar g.L.EventLine.lines c.args.version) first_line c.args.text.now _ c.loop-rest.number (told c.loop-rest.body)
    c.loop-rest.rest.now c.in_default.ensures.parts (eqb-false _ _ (sym c.is_empty.ensures ∙ c.loop-rest-test.true))
    c.loop-rest.invariant.stands)

pub returns-in-Err-clause-exact : goal.returns-in-Err-clause-exact
returns-in-Err-clause-exact g c =
    rw c.at.ensures
    (refused (grammar g.L.EventLine.lines c.args.version) first_line c.args.text.now _ c.loop-rest.number (told c.loop-rest.body)
    c.loop-rest.rest.now c.in-Some.line.now c.in-Some.after.now c.in-Some.ensures.parts c.loop-rest.invariant.stands c.in-Err.cause
    c.in-Err.ensures.takes)

pub returns-in-Err-clause-memory : goal.returns-in-Err-clause-memory
returns-in-Err-clause-memory g c =
    rw c.at.ensures
    (ran_out (grammar g.L.EventLine.lines c.args.version) first_line c.args.text.now _ c.loop-rest.number (told c.loop-rest.body)
    c.loop-rest.rest.now c.in-Some.line.now c.in-Some.after.now c.in-Some.ensures.parts c.loop-rest.invariant.stands c.in-Err.cause
    (never_memory g.L.EventLine.lines c.args.version (told c.loop-rest.body) c.in-Some.line.now)
    c.in-Err.ensures.takes)

pub loop-rest-preserved : goal.loop-rest-preserved
loop-rest-preserved g c = record {
  stands = goes_on (grammar g.L.EventLine.lines c.args.version) first_line c.args.text.now _ c.loop-rest.number (told c.loop-rest.body)
      (told c.read_line.new.self) c.loop-rest.rest.now c.in-Some.line.now c.in-Some.after.now c.in-Some.ensures.parts
      c.in-Some.ensures.shorter c.in_default-read_line.ensures.takes c.loop-rest.invariant.stands;
  counts = c.in_default-read_line.ensures.counts;
}

pub returns-clause-exact : goal.returns-clause-exact
returns-clause-exact g c =
    is_done (grammar g.L.EventLine.lines c.args.version) first_line c.args.text.now _ c.loop-rest.number (told c.loop-rest.body)
    c.loop-rest.rest.now (eqb-true _ _ (sym c.is_empty.ensures ∙ c.loop-rest-test.false)) c.loop-rest.invariant.stands
