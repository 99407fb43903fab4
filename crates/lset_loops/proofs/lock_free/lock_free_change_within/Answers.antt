use Rattle.std.proofs.Common.{None, refl, ap, ◌∙◌}
use Rattle.lset_words.specs.Words.{link_index}
use Rattle.lset_steps.specs.declared.Action.TheVariants.{Load}
use Rattle.lset_steps.specs.ReadRows.{first_row}
use Rattle.lset_lock_free.specs.LockFree.{lock_free}
use Rattle.lset_loops.specs.Calling.{row}
use Rattle.lset_loops.proofs.StepsOfCall.{called, moved, no_rest, step}
use Rattle.lset_loops.proofs.lock_free.lock_free_change_within.Goals as goal

pub loop-round-init : goal.loop-round-init
loop-round-init g c = (
  no_rest,
  moved c.begin_at_head-link.ensures
      (ap (λ pc. (lock_free.feed (row c.new-caller.result.slots c.new-caller.result.origin.call pc None 0 0 no_rest) c.begin_at_head-link.result).local)
      (ap (λ b. first_row b.call) c.new-caller.ensures.origin ∙ c.requires.changes)),
)

pub load_link-link-requires : goal.load_link-link-requires
load_link-link-requires g c =
    step c.in-None.ensures.3 (ap (λ n. Load (link_index n)) c.head.ensures) (λ n. refl)

pub loop-round-preserved : goal.loop-round-preserved
loop-round-preserved g c = (_, c.load_link-link.ensures.leads _ c.in-None.ensures.3)

pub returns-in-Some : goal.returns-in-Some
returns-in-Some g c = called _ _ _ c.new-caller.ensures.origin c.in-Some.ensures
