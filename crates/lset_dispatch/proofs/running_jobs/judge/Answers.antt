use Rattle.lset_dispatch.proofs.Endings.{if_known}
use Rattle.lset_dispatch.proofs.running_jobs.judge.Goals as goal

pub returns : goal.returns
returns g c = (_, if_known _ _ _ c.pointed.ensures c.judge_input-made.ensures, c.deliver.ensures)
