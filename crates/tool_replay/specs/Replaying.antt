-- The contract of the command `replay`: the report that `replay` prints for each input.
use Rattle.std.specs.Prelude.{◌≡◌, ℕ, ◌⊎◌, List, Result, Ok, Err}
use Rattle.lset_lists.specs.Tables.{table_of}
use Rattle.lset_text.specs.declared.causes.Cause.TheVariants as cause
use Rattle.lset_text.specs.declared.causes.LineFault.{LineFault}
use Rattle.lset_schedule.specs.Plan.{Plan, IsSchedule, schedule_text, opening_in}
use Rattle.lset_schedule.specs.ScheduleReading.{reading}
use Rattle.lset_replay.specs.declared.fault.ReplayFault.{ReplayFault}
use Rattle.lset_replay.specs.declared.fault.ReplayFault.TheVariants as replay
use Rattle.lset_replay.specs.Events.{events_of}
use Rattle.lset_report.specs.Report.{ReportValue}
use Rattle.lset_replay.specs.Reports.{IsReplay, IsRefusal, IsExplained}
use Rattle.lset_report.specs.Texts.{report_text}
use Rattle.tool_base.specs.declared.trouble.Trouble.{Trouble}
use Rattle.tool_base.specs.Trouble.{of_line_fault}
use Rattle.tool_base.specs.declared.trouble.Trouble.TheVariants.{Line, Memory}
use Rattle.tool_base.specs.Tools.{Made, OnInput}

-- Holds if the bytes are the text of the schedule `p`, and `r` is the report of the run of `p`. The order in `r`
-- explains the history of `r` and leaves its final keys.
pub record IsReported (bytes : List ℕ) (p : Plan) (r : ReportValue) : Type 0 where
  pub schedule : IsSchedule p
  pub text : bytes ≡ schedule_text p
  pub replay : IsReplay (table_of p.kind) p r
  pub explained : IsExplained r

-- Returns the program's error for a schedule that cannot be replayed.
abbrev pub of_replay : ReplayFault → Trouble
of_replay (replay.NoThread number) = Line number cause.NoThread
of_replay (replay.Busy number) = Line number cause.Busy
of_replay (replay.Idle number) = Line number cause.Idle
of_replay replay.Memory = Memory

-- Holds if `t` is the correct error of the command `replay`. The first argument is the result of reading the input as a
-- schedule: the input's first error, or a schedule with an event that is not enabled.
abbrev pub IsFirstFault : Result Plan LineFault → Trouble → Type 0
IsFirstFault (Err fault) t = t ≡ of_line_fault fault
IsFirstFault (Ok p) t = (refusal : ReplayFault) × (t ≡ of_replay refusal) × IsRefusal (table_of p.kind) (opening_in p) (events_of p) refusal

-- Holds if a result of `replay` for a text is correct: the text of the report, the first error, or a failed allocation.
abbrev pub ReplaysText : List ℕ → Made → Type 0
ReplaysText bytes (Ok answer) =
    (p : Plan) × (r : ReportValue) × IsReported bytes p r × (answer ≡ record { text = report_text r; status = 0 })
ReplaysText bytes (Err t) = (t ≡ Memory) ⊎ IsFirstFault (reading bytes) t

abbrev pub Replays : List ℕ → Made → Type 0
Replays bytes made = OnInput ReplaysText bytes made
