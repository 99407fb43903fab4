use Rattle.std.proofs.Common.{subst}
use Rattle.lset_steps.specs.Laws.{Occurs}
use Rattle.lset_rule.proofs.row_steps.row_step.Goals as goal

pub next-action-requires : goal.next-action-requires
next-action-requires g c = subst (λ n. Occurs g.M.Machine.table (record c.args.local.now { pc = n })) c.requires.row
    c.requires.call.occurs
