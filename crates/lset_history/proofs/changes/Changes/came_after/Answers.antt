use Rattle.std.proofs.Common.{sym, subst, ◌∙◌}
use Rattle.lset_history.specs.Changes.{moments_of}
use Rattle.lset_history.proofs.CeilingSearch.{IsFrom, CameUpTo, after_is_from, one_more_came, below_unless}
use Rattle.lset_history.proofs.changes.Changes.came_after.Goals as goal

pub loop-next-preserved : goal.loop-next-preserved
loop-next-preserved c = record {
  from = after_is_from (moments_of c.args.self.now) c.args.key c.in-Some.reached c.present_after-next.result
      (subst (IsFrom c.args.key) c.in-Some.is c.loop-next.invariant.from) c.present_after-next.ensures;
  came = one_more_came (moments_of c.args.self.now) c.args.key c.in-Some.reached c.args.end c.present_after-next.result
      c.args.moment
      c.present_after-next.ensures (sym c.was_present.ensures ∙ c.if-was_present.false)
      (subst (λ o. CameUpTo (moments_of c.args.self.now) c.args.key o c.args.end c.args.moment) c.in-Some.is
      c.loop-next.invariant.came);
}

pub returns-then-was_present-clause-there : goal.returns-then-was_present-clause-there
returns-then-was_present-clause-there c = λ _. (
  c.in-Some.reached,
  subst (IsFrom c.args.key) c.in-Some.is c.loop-next.invariant.from,
  below_unless c.in-Some.reached c.args.end c.is_past.result c.if-is_past.false c.is_past.ensures.1,
  sym c.was_present.ensures ∙ c.if-was_present.true,
)
