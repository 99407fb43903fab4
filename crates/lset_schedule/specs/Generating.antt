-- The properties of a random schedule, and the arguments that `generate` rejects.
use Rattle.std.specs.Prelude.{◌≡◌, ℕ, ◌<◌, ◌≤◌, ◌⊎◌, Bool, true, false, List, [], ◌∷◌, length, count_by, flat_map, replicate}
use Rattle.std.specs.List.{AllByRecursion}
use Rattle.lset_text.specs.Spellings.{HasCall}
use Rattle.lset_text.specs.declared.words.Version.TheVariants.{One}
use Rattle.lset_words.specs.declared.TheConstants.{MOST_THREADS, MOST_QUOTA}
use Rattle.lset_schedule.specs.declared.TheConstants.{MOST_GENERATED}
use Rattle.lset_words.specs.Words.{IsWithin, key_of, empty}
use Rattle.lset_steps.specs.declared.Event.{Event}
use Rattle.lset_steps.specs.declared.Event.TheVariants as event
use Rattle.lset_steps.specs.Steps.{Table, Run, state_at, event_at, local_of}
use Rattle.lset_schedule.specs.declared.value.Line.{Line}
use Rattle.lset_schedule.specs.declared.value.Line.TheVariants as line
use Rattle.lset_schedule.specs.declared.gen_fault.GenFault.{GenFault}
use Rattle.lset_schedule.specs.declared.gen_fault.GenFault.TheVariants.{Threads, Quota, Keys, Memory}

-- Returns the events of a line. A `go` line is one event for each of its steps.
abbrev pub events_of_line : Line → List Event
events_of_line (line.Begin t call) = event.Begin t call ∷ []
events_of_line (line.Go t steps) = replicate steps (event.Go t)

-- Returns the events of several lines, in order.
abbrev pub events_of_lines : List Line → List Event
events_of_lines lines = flat_map events_of_line lines

abbrev pub is_begin : Line → Bool
is_begin (line.Begin t call) = true
is_begin (line.Go t steps) = false

-- Holds if a line is a single event of a thread below `threads`. If the event begins a call, the key of the call must
-- be below `keys`, and version 1 of the format must allow the call.
abbrev pub IsGeneratedLine : ℕ → ℕ → Line → Type 0
IsGeneratedLine threads keys (line.Begin t call) = (t < threads) × ((key_of call).0 < keys) × HasCall One call
IsGeneratedLine threads keys (line.Go t steps) = (t < threads) × (steps ≡ 1)

abbrev pub StartsWithBegin : List Line → Type 0
StartsWithBegin [] = ⊥
StartsWithBegin (l ∷ ls) = is_begin l ≡ true

-- Holds if thread `t` has no pending call after the events `es`, on a set that is initially empty.
abbrev pub NoneOpenAfter : Table → ℕ → ℕ → List Event → ℕ → Type 0
NoneOpenAfter T threads quota es t = (local_of (state_at T (empty threads quota) (event_at es) (length es)) t).pc ≡ 0

-- The properties that every result of `generate` for the given arguments has.
pub record IsGenerated (T : Table) (threads quota calls keys : ℕ) (lines : List Line) : Type 0 where
  -- Each line is a single event, and the event's thread is one of the schedule's threads.
  pub each : AllByRecursion (IsGeneratedLine threads keys) lines
  -- The events are a run of the list: each event is enabled when it happens.
  pub run : Run T (empty threads quota) (event_at (events_of_lines lines)) (length (events_of_lines lines))
  pub first : 0 < calls → StartsWithBegin lines
  pub few : count_by is_begin lines ≤ calls
  -- With a single thread, all `calls` calls have begun and completed, unless the maximum number of events was reached.
  pub alone : threads ≡ 1
      → (length lines ≡ MOST_GENERATED)
      ⊎ ((count_by is_begin lines ≡ calls) × NoneOpenAfter T threads quota (events_of_lines lines) 0)

-- Holds if `generate` accepts the given arguments.
abbrev pub IsAccepted : ℕ → ℕ → ℕ → Type 0
IsAccepted threads quota keys = IsWithin (record { threads = threads; quota = quota; opening = 0 }) × (0 < keys)

-- Holds if `generate` can return the given error for the given arguments: the error of the first check that fails, or
-- `Memory` if no check fails.
abbrev pub Refuses : ℕ → ℕ → ℕ → GenFault → Type 0
Refuses threads quota keys Threads = (threads ≡ 0) ⊎ (MOST_THREADS < threads)
Refuses threads quota keys Quota = (0 < threads) × (threads ≤ MOST_THREADS) × (MOST_QUOTA < quota)
Refuses threads quota keys Keys = IsWithin (record { threads = threads; quota = quota; opening = 0 }) × (keys ≡ 0)
Refuses threads quota keys Memory = IsAccepted threads quota keys
