use Rattle.std.proofs.Common.{◌∙◌, sym, refl, arith, below_more}
use Rattle.lset_history.specs.Faults.{place_at}
use Rattle.lset_history.proofs.EarlierPlaces.{stands_earlier, stands_nowhere, marks_more}
use Rattle.lset_history.proofs.checker.first_twice.Goals as goal

pub returns-then-placed-place-clause-once : goal.returns-then-placed-place-clause-once
returns-then-placed-place-clause-once c =
    let i = c.loop-place.place-index in
    let at = stands_earlier c.args.order.now i _ (sym (c.loop-place.invariant.marks _) ∙ c.if-placed-place.true) in
    record {
      place = i;
      inside = c.loop-place-test.true;
      names = refl;
      refused = (at.0, at.1, at.3);
      first = c.loop-place.invariant.once;
    }

pub loop-place-preserved : goal.loop-place-preserved
loop-place-preserved c =
    let order = c.args.order.now in
    let i = c.loop-place.place-index in
    let known = c.requires.known i (place_at order i) c.loop-place-test.true in
    record {
      once = below_more _ _ c.loop-place.invariant.once
          (λ w. stands_nowhere order i _ (sym (c.loop-place.invariant.marks _) ∙ c.if-placed-place.false) w.0 w.1 (omega arith)
          w.2);
      marks = marks_more c.loop-place.placed order i c.loop-place-test.true (omega (arith, known)) c.loop-place.invariant.marks;
    }

pub returns-clause-once : goal.returns-clause-once
returns-clause-once c = λ place low. c.loop-place.invariant.once place (omega arith)
