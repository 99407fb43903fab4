use Rattle.std.proofs.Common.{None, refl, ap, ◌∙◌}
use Rattle.lset_words.specs.Words.{link_index}
use Rattle.lset_words.proofs.Numbers.{if_other}
use Rattle.lset_steps.specs.declared.Action.TheVariants.{Load}
use Rattle.lset_steps.specs.ReadRows.{continued, first_row}
use Rattle.lset_lazy.specs.Lazy.{lazy}
use Rattle.lset_loops.specs.Calling.{row}
use Rattle.lset_loops.proofs.StepsOfCall.{asks, called, moved, no_rest, step}
use Rattle.lset_loops.proofs.lazy.lazy_change_within.Goals as goal

pub loop-round-init : goal.loop-round-init
loop-round-init g c = (
  no_rest,
  moved c.begin_at_head-link.ensures
      (ap (λ pc. (lazy.feed (row c.new-caller.result.slots c.new-caller.result.origin.call pc None 0 0 no_rest) c.begin_at_head-link.result).local)
      (ap (λ b. first_row b.call) c.new-caller.ensures.origin ∙ c.requires.changes)),
)

pub lock-requires-in-loop-round : goal.lock-requires-in-loop-round
lock-requires-in-loop-round g c =
    record {
      held = _;
      holds = c.in_ok-lock.ensures.leads _ c.in_ok-found.ensures.1;
      acts = refl;
      again = λ n ne. ap continued (if_other n 0 ne _ _);
      goes_on = refl;
    }

pub validate-requires : goal.validate-requires
validate-requires g c = (c.in_ok-found.ensures.0, c.in_ok-lock-2.ensures.leads _ (c.in_ok-lock.ensures.leads _ c.in_ok-found.ensures.1))

pub unlock_last-requires : goal.unlock_last-requires
unlock_last-requires g c = asks (c.unlock.ensures.leads _ c.act-answer.ensures.1) refl

pub returns-in-Some : goal.returns-in-Some
returns-in-Some g c = called _ _ _ c.new-caller.ensures.origin
    (_, c.unlock_last.ensures _ (c.unlock.ensures.leads _ c.act-answer.ensures.1) _ refl, refl)

pub unlock-requires-in-None : goal.unlock-requires-in-None
unlock-requires-in-None g c = step c.in-None.ensures.1 refl (λ n. refl)

pub unlock-requires-in-None-2 : goal.unlock-requires-in-None-2
unlock-requires-in-None-2 g c =
    step (c.unlock-in-None.ensures.leads _ c.in-None.ensures.1) refl (λ n. refl)

pub load_link-link-requires : goal.load_link-link-requires
load_link-link-requires g c =
    step (c.unlock-in-None-2.ensures.leads _ (c.unlock-in-None.ensures.leads _ c.in-None.ensures.1)) (ap (λ n. Load (link_index n)) c.head.ensures) (λ n. refl)

pub loop-round-preserved : goal.loop-round-preserved
loop-round-preserved g c = (
  _,
  c.load_link-link.ensures.leads _
      (c.unlock-in-None-2.ensures.leads _ (c.unlock-in-None.ensures.leads _ c.in-None.ensures.1)),
)
