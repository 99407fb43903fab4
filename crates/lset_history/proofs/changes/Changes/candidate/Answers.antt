use Rattle.std.proofs.Common.{◌≤◌, ◌<◌, sym, subst, ◌∙◌, arith}
use Rattle.lset_history.specs.Changes.{moments_of}
use Rattle.lset_history.specs.Raising.{IsNextNote}
use Rattle.lset_history.proofs.CeilingSearch.{candidate_begins, candidate_raised, candidate_kept, candidate_ends}
use Rattle.lset_history.proofs.changes.Changes.candidate.Goals as goal

pub loop-at-init : goal.loop-at-init
loop-at-init c = record {
  up = omega arith;
  candidate = candidate_begins (moments_of c.args.self.now) c.args.key c.args.found c.args.from;
}

pub loop-at-preserved-then-is_against : goal.loop-at-preserved-then-is_against
loop-at-preserved-then-is_against c = record {
  up = omega arith;
  candidate = candidate_raised (moments_of c.args.self.now) c.args.key c.args.found c.loop-at.last (c.in-Some.at, c.in-Some.noted)
      (subst (IsNextNote (moments_of c.args.self.now) c.loop-at.last) c.in-Some.is c.note_after.ensures) c.args.from
      c.loop-at.moment
      c.loop-at.invariant.candidate c.loop-at.invariant.up (sym c.is_against.ensures ∙ c.if-is_against.true);
}

pub loop-at-preserved : goal.loop-at-preserved
loop-at-preserved c =
    let next = subst (IsNextNote (moments_of c.args.self.now) c.loop-at.last) c.in-Some.is c.note_after.ensures in
    record {
      up = (let a : c.loop-at.moment ≤ c.loop-at.last = c.loop-at.invariant.up in let b : c.loop-at.last < c.in-Some.at = next.0
          in omega arith);
      candidate = candidate_kept (moments_of c.args.self.now) c.args.key c.args.found c.loop-at.last (
        c.in-Some.at,
        c.in-Some.noted,
      )
          next c.args.from c.loop-at.moment c.loop-at.invariant.candidate c.loop-at.invariant.up
          (sym c.is_against.ensures ∙ c.if-is_against.false);
    }

pub returns : goal.returns
returns c = candidate_ends (moments_of c.args.self.now) c.args.key c.args.found c.args.from c.loop-at.moment c.loop-at.last
    c.loop-at.invariant.candidate c.loop-at.invariant.up
    (subst (IsNextNote (moments_of c.args.self.now) c.loop-at.last) c.in_default.is c.note_after.ensures)
