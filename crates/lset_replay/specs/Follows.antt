-- The invariant of a replay: the recorder, which collects the calls, and the world (the shared words of the list and
-- the private states of its threads) match the events executed so far.
use Rattle.std.specs.Prelude.{◌≡◌, ℕ, ◌<◌, List, length, Result}
use Rattle.lset_text.specs.declared.causes.Cause.{Cause}
use Rattle.lset_text.specs.declared.causes.Cause.TheVariants as cause
use Rattle.lset_text.specs.declared.causes.LineFault.{LineFault}
use Rattle.lset_steps.specs.declared.Event.{Event}
use Rattle.lset_steps.specs.declared.Told.{Told}
use Rattle.lset_steps.specs.declared.world.StepFault.TheVariants as step
use Rattle.lset_steps.specs.Steps.{Table, Run, event_at, log_of}
use Rattle.lset_steps.specs.Worlds.{WorldState}
use Rattle.lset_steps.specs.Promises.{HasAccount, ListedContent}
use Rattle.lset_replay.specs.declared.events.LineEvent.{LineEvent}
use Rattle.lset_replay.specs.declared.recorder.Recorder.{Recorder}
use Rattle.lset_replay.specs.Events.{only_events, line_at}
use Rattle.lset_replay.specs.Made.{HasMade}
use Rattle.lset_replay.specs.Trace.{trace_at, trace_of}
use Rattle.lset_replay.specs.Reports.{world_after, IsFirstRefused}
use Rattle.lset_words.specs.Words.{Opening}

-- Holds if values of type `W` change with each event as the step table `T` (the atomic steps of a list) defines. A
-- value of type `W` is a world (the words and threads of a list), and `state` returns the world's state. `account` and
-- `listed` are the assumptions about `T`: how each event changes the keys in the set, and which keys can be in the set.
pub record AreSteps (T : Table) (W : Type 0) (makes : W → Event → Result Told Cause → W → Type 0) (state : W → WorldState) : Type 0 where
  pub account : HasAccount T
  pub listed : ListedContent T
  pub made : (w : W) (e : Event) (r : Result Told Cause) (w' : W) → makes w e r w' → HasMade T (state w) e r (state w')

-- Holds if the first `k` events led to the world `w` (the words and threads of a list), and the recorder `r` has
-- recorded the first `k` events.
pub record HasFollowed (T : Table) (op : Opening) (events : List LineEvent) (k : ℕ) (w : WorldState) (r : Recorder) : Type 0 where
  pub run : Run T op (event_at (only_events events)) k
  pub world : w ≡ world_after T op (only_events events) k
  pub trace : trace_of r ≡ trace_at op (log_of T op (event_at (only_events events))) k
  pub opening_is : r.history.opening ≡ op
  pub counted : r.last ≡ k

-- Holds if `next` is the event with index `k`, counted from 0.
pub record ComesNext (es : List LineEvent) (k : ℕ) (next : LineEvent) : Type 0 where
  pub known : k < length es
  pub event_is : event_at (only_events es) k ≡ next.event
  pub line_is : next.line ≡ line_at es k

-- Holds if a run can stop at `line` with the given cause: the line contains the first event that is not enabled, or an
-- allocation failed.
abbrev pub IsStoppedBy : Table → Opening → List LineEvent → ℕ → Cause → Type 0
IsStoppedBy T op events line cause.NoThread = IsFirstRefused T op events line step.NoThread
IsStoppedBy T op events line cause.Busy = IsFirstRefused T op events line step.Busy
IsStoppedBy T op events line cause.Idle = IsFirstRefused T op events line step.Idle
IsStoppedBy T op events line cause.Memory = Unit {0}
IsStoppedBy T op events line other = ⊥

abbrev pub IsStopped : Table → Opening → List LineEvent → LineFault → Type 0
IsStopped T op events stopped = IsStoppedBy T op events stopped.line stopped.cause
