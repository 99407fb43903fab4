use Rattle.lset_dispatch.proofs.running_jobs.judge_verdict.Goals as goal

pub returns : goal.returns
returns g c = (_, c.judge_briefly-made.ensures, c.deliver.ensures)
