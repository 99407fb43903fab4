use Rattle.std.proofs.Common.{Err, None, Ok, Some, refl, inl}
use Rattle.tool_base.specs.declared.trouble.Trouble.TheVariants.{Bad}
use Rattle.lset_dispatch.proofs.Endings.{ended, unsaid}
use Rattle.lset_dispatch.proofs.dispatching.run_words.Goals as goal

pub returns-in-Err-read_job : goal.returns-in-Err-read_job
returns-in-Err-read_job g c =
    inl (
      c.in-Ok.ensures.refused,
      ended _ _ _ _ _ _ _ _ _ (Err c.in-Err-read_job.wrong) _ c.in-Ok.ensures.taken
          c.in-Err-read_job.ensures.asked refl (Err (Bad c.in-Err-read_job.wrong), refl, c.deliver.ensures),
    )

pub returns-in_default : goal.returns-in_default
returns-in_default g c =
    inl (
      c.in-Ok.ensures.refused,
      ended _ _ _ _ _ _ _ _ _ (Ok c.in-Ok-read_job.job) None c.in-Ok.ensures.taken
          c.in-Ok-read_job.ensures.asked c.in_default.ensures c.run_job.ensures,
    )

pub returns-then-asks_to_explain : goal.returns-then-asks_to_explain
returns-then-asks_to_explain g c =
    inl (
      c.in-Ok.ensures.refused,
      unsaid _ _ _ _ _ _ _ _ _ c.in-Ok.ensures.taken (c.asks_to_explain.ensures c.if-asks_to_explain.true),
    )

pub returns : goal.returns
returns g c =
    inl (
      c.in-Ok.ensures.refused,
      ended _ _ _ _ _ _ _ _ _ (Ok c.in-Ok-read_job.job) (Some _) c.in-Ok.ensures.taken
          c.in-Ok-read_job.ensures.asked c.in-Some.ensures c.run_on_file.ensures,
    )
