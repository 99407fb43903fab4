use Rattle.lset_steps.proofs.WorldRuns.{is_run_of_keys}
use Rattle.lset_steps.proofs.world.World.opened.Goals as goal

pub invariant_of-result : goal.invariant_of-result
invariant_of-result g c = rw (
  c.threads.ensures.value,
  c.quota.ensures.value,
  c.opening.ensures.value,
  c.in_ok-words.ensures.words,
  c.in_ok-locals.ensures,
)
    (is_run_of_keys g.M.Machine.table c.args.layout c.args.keys.now c.requires.many c.threads.ensures.within c.requires.rising
    c.in_ok-words.ensures.low)
