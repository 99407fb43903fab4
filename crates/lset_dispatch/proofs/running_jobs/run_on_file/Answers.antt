use Rattle.std.proofs.Common.{Err, inl, inr, refl}
use Rattle.tool_base.specs.declared.trouble.Trouble.TheVariants.{CannotRead}
use Rattle.lset_dispatch.proofs.Endings.{at_job}
use Rattle.lset_dispatch.proofs.running_jobs.run_on_file.Goals as goal

pub returns-in_default : goal.returns-in_default
returns-in_default g c = inl (Err CannotRead, refl, c.deliver.ensures)

pub returns-in-Judge : goal.returns-in-Judge
returns-in-Judge g c = inr (_, (_, refl), at_job _ _ _ _ _ _ _ _ c.in-Judge.is c.judge_file.ensures)

pub returns : goal.returns
returns g c = inr (_, (_, refl), c.run_job.ensures)
