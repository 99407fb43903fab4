use Rattle.lset_dispatch.proofs.Endings.{if_known}
use Rattle.lset_dispatch.proofs.running_jobs.judge_file.Goals as goal

pub returns : goal.returns
returns g c = (_, if_known _ _ _ c.explained-made.ensures c.judge_input-made.ensures, c.deliver.ensures)
