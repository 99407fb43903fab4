use Rattle.lset_schedule.specs.Plan.{view}
use Rattle.lset_schedule.proofs.VersionLaws.{schedule_has_words}
use Rattle.tool_replay.proofs.replay_command.ReplayTool.answer.Goals as goal

-- Lemma: the report can be written. A schedule that was read contains only calls and opening keys (keys at the start)
-- that its format version allows, and the report of its run uses only words of that version.
pub write_report-requires : goal.write_report-requires
write_report-requires c =
    c.in-Ok.ensures.in_words (schedule_has_words (view c.in_ok-schedule.schedule) c.in_ok-schedule.ensures.found.0)
