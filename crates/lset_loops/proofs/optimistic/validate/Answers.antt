use Rattle.std.proofs.Common.{◌/◌}
use Rattle.lset_words.proofs.Numbers.{if_same, if_other}
use Rattle.lset_loops.proofs.StepsOfCall.{moved}
use Rattle.lset_loops.proofs.optimistic.validate.Goals as goal

pub returns-then-link-found : goal.returns-then-link-found
returns-then-link-found g c = let at8 = rw c.if-not-branch.false at c.in_ok-reaches.ensures in (
  _,
  moved (c.load_link-link.ensures.leads _ at8.1) (if_other (c.load_link-link.result / 2) _ c.if-link-found.true _ _),
)

pub returns-then-not-branch : goal.returns-then-not-branch
returns-then-not-branch g c = rw c.if-not-branch.true at c.in_ok-reaches.ensures

pub returns : goal.returns
returns g c = let at8 = rw c.if-not-branch.false at c.in_ok-reaches.ensures in (
  at8.0,
  moved (c.load_link-link.ensures.leads _ at8.1) (if_same (c.load_link-link.result / 2) _ c.if-link-found.false _ _),
)
