use Rattle.lset_dispatch.proofs.Endings.{at_job}
use Rattle.lset_dispatch.proofs.running_jobs.run_job.Goals as goal

pub returns-in-Replay : goal.returns-in-Replay
returns-in-Replay g c = at_job _ _ _ _ _ _ _ _ c.in-Replay.is c.replay.ensures

pub returns-in-Judge : goal.returns-in-Judge
returns-in-Judge g c = at_job _ _ _ _ _ _ _ _ c.in-Judge.is c.judge.ensures

pub returns-in-Verdict : goal.returns-in-Verdict
returns-in-Verdict g c = at_job _ _ _ _ _ _ _ _ c.in-Verdict.is c.judge_verdict.ensures

pub returns-in-Check : goal.returns-in-Check
returns-in-Check g c = at_job _ _ _ _ _ _ _ _ c.in-Check.is c.tool_check.ensures

pub returns-in-Gen : goal.returns-in-Gen
returns-in-Gen g c = at_job _ _ _ _ _ _ _ _ c.in-Gen.is (_, c.generate_text.ensures, c.deliver-in-Gen.ensures)
