-- [Replay]: the report of a schedule or, if the schedule cannot be run, the line and the cause of the first event that
-- is not enabled.
use Rattle.std.specs.Prelude.{◌≡◌, ℕ, ◌<◌, List, length, Result, Ok, Err}
use Rattle.std.specs.List.Sorted.{IsStrictlyIncreasing}
use Rattle.lset_words.specs.declared.history.CallRecord.{CallRecord}
use Rattle.lset_words.specs.declared.history.Placed.{Placed}
use Rattle.lset_words.specs.History.{Linearizes}
use Rattle.lset_words.specs.SequentialSet.{opening_set}
use Rattle.lset_words.specs.Words.{Opening, sizes}
use Rattle.lset_steps.specs.declared.Event.{Event}
use Rattle.lset_steps.specs.declared.world.StepFault.{StepFault}
use Rattle.lset_steps.specs.declared.world.StepFault.TheVariants as step
use Rattle.lset_steps.specs.Steps.{Table, Run, event_at, state_at}
use Rattle.lset_steps.specs.Laws.{views}
use Rattle.lset_steps.specs.Worlds.{WorldState, Refused, IsContent}
use Rattle.lset_lists.specs.Headline.{history_of, IsPlacedBy, keys_left}
use Rattle.lset_schedule.specs.Plan.{Plan, opening_in}
use Rattle.lset_report.specs.Report.{ReportValue, view}
use Rattle.lset_replay.specs.declared.events.LineEvent.{LineEvent}
use Rattle.lset_replay.specs.declared.fault.ReplayFault.{ReplayFault}
use Rattle.lset_replay.specs.declared.fault.ReplayFault.TheVariants as fault
use Rattle.lset_report.specs.declared.report.Report.{Report}
use Rattle.lset_replay.specs.Events.{events_of, only_events, line_at}

-- Holds if the report of the run with the given events has the given history, order and final keys.
pub record IsReportOf (T : Table) (op : Opening) (events : List Event)
    (history : List CallRecord) (order : List Placed) (keys : List ℕ) : Type 0 where
  -- Each event is enabled when it is executed.
  pub run : Run T op (event_at events) (length events)
  -- The history in the report is the history of the run.
  pub history_is : history ≡ history_of T op (event_at events) (length events)
  -- The order in the report is the [Placement]: the calls, sorted by their linearization points.
  pub placement : IsPlacedBy T op (event_at events) (length events) order
  -- The final keys in the report are the keys of the set after the last event.
  pub content : IsContent (views T op (event_at events) (length events)) keys

-- Returns the shared words and the threads' private states after the first `k` events.
abbrev pub world_after : Table → Opening → List Event → ℕ → WorldState
world_after T op events k = record { sizes = sizes op; state = state_at T op (event_at events) k }

-- Holds if `line` contains the first event that is not enabled, and `cause` is the first cause that applies to the
-- event.
pub record IsFirstRefused (T : Table) (op : Opening) (events : List LineEvent)
    (line : ℕ) (cause : StepFault) : Type 0 where
  pub index : ℕ
  pub known : index < length events
  pub line_is : line ≡ line_at events index
  pub before : Run T op (event_at (only_events events)) index
  pub refused : Refused (world_after T op (only_events events) index) (event_at (only_events events) index) cause

-- Holds if a replay can fail with the given error: the line and the cause of the first event that is not enabled, or a
-- failed allocation.
abbrev pub IsRefusal : Table → Opening → List LineEvent → ReplayFault → Type 0
IsRefusal T op events (fault.NoThread line) = IsFirstRefused T op events line step.NoThread
IsRefusal T op events (fault.Busy line) = IsFirstRefused T op events line step.Busy
IsRefusal T op events (fault.Idle line) = IsFirstRefused T op events line step.Idle
IsRefusal T op events fault.Memory = Unit {0}

-- Holds if `r` is the correct report when the schedule `p` is replayed on the step table `T` (the atomic steps of a
-- list).
pub record IsReplay (T : Table) (p : Plan) (r : ReportValue) : Type 0 where
  pub version_is : r.version ≡ p.version
  pub kind_is : r.kind ≡ p.kind
  pub opening_is : r.history.opening ≡ opening_in p
  pub report : IsReportOf T (opening_in p) (only_events (events_of p)) r.history.calls r.order r.keys

-- Holds if a replay on the step table `T` (the atomic steps of a list) can have the given result. The result is the
-- report of the schedule, the error of the first event that is not enabled, or `Memory` for a failed allocation.
abbrev pub Replays : Table → Plan → Result Report ReplayFault → Type 0
Replays T p (Ok r) = IsReplay T p (view r)
Replays T p (Err refusal) = IsRefusal T (opening_in p) (events_of p) refusal

-- [Headline, of a report]: holds if the order in the report linearizes the history and leaves the final keys, which are
-- in strictly increasing order.
pub record IsExplained (r : ReportValue) : Type 0 where
  pub linearizes : Linearizes r.history.opening.quota (opening_set r.history.opening) r.history.calls r.order
  pub leaves : keys_left r.history.opening r.history.calls r.order ≡ r.keys
  pub increasing : IsStrictlyIncreasing r.keys
