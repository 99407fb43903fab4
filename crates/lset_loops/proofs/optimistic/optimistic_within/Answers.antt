use Rattle.std.proofs.Common.{refl, ap}
use Rattle.lset_words.specs.Words.{link_index}
use Rattle.lset_words.proofs.Numbers.{if_other}
use Rattle.lset_steps.specs.declared.Action.TheVariants.{Load}
use Rattle.lset_steps.specs.ReadRows.{continued}
use Rattle.lset_loops.proofs.StepsOfCall.{asks, called, no_rest, step}
use Rattle.lset_loops.proofs.optimistic.optimistic_within.Goals as goal

pub loop-round-init : goal.loop-round-init
loop-round-init g c = (no_rest, c.begin_at_head-link.ensures)

pub lock-requires-in-loop-round : goal.lock-requires-in-loop-round
lock-requires-in-loop-round g c =
    record {
      held = _;
      holds = c.in_ok-lock.ensures.leads _ c.in_ok-stopped.ensures.1;
      acts = refl;
      again = λ n ne. ap continued (if_other n 0 ne _ _);
      goes_on = refl;
    }

pub validate-requires : goal.validate-requires
validate-requires g c =
    (c.in_ok-stopped.ensures.0, c.in_ok-lock-2.ensures.leads _ (c.in_ok-lock.ensures.leads _ c.in_ok-stopped.ensures.1))

pub act-answer-requires : goal.act-answer-requires
act-answer-requires g c = rw c.if-branch.true at c.in_ok-validate.ensures

pub unlock-requires : goal.unlock-requires
unlock-requires g c = step c.act-answer.ensures.1 refl (λ n. refl)

pub unlock_last-requires : goal.unlock_last-requires
unlock_last-requires g c = asks (c.unlock.ensures.leads _ c.act-answer.ensures.1) refl

pub returns-then-branch : goal.returns-then-branch
returns-then-branch g c = called _ _ _ c.new-caller.ensures.origin
    (_, c.unlock_last.ensures _ (c.unlock.ensures.leads _ c.act-answer.ensures.1) _ refl, refl)

pub unlock-requires-in-loop-round : goal.unlock-requires-in-loop-round
unlock-requires-in-loop-round g c = let left = rw c.if-branch.false at c.in_ok-validate.ensures in
    step left.1 refl (λ n. refl)

pub unlock-requires-in-loop-round-2 : goal.unlock-requires-in-loop-round-2
unlock-requires-in-loop-round-2 g c = let left = rw c.if-branch.false at c.in_ok-validate.ensures in
    step (c.unlock-in-loop-round.ensures.leads _ left.1) refl (λ n. refl)

pub load_link-link-requires : goal.load_link-link-requires
load_link-link-requires g c = let left = rw c.if-branch.false at c.in_ok-validate.ensures in
    step (c.unlock-in-loop-round-2.ensures.leads _ (c.unlock-in-loop-round.ensures.leads _ left.1)) (ap (λ n. Load (link_index n)) c.head.ensures) (λ n. refl)

pub loop-round-preserved : goal.loop-round-preserved
loop-round-preserved g c = let left = rw c.if-branch.false at c.in_ok-validate.ensures in (
  record left.0 { pkey = 0 },
  c.load_link-link.ensures.leads _ (c.unlock-in-loop-round-2.ensures.leads _ (c.unlock-in-loop-round.ensures.leads _ left.1)),
)
