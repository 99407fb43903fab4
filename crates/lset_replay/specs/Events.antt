-- The events of a schedule, each with the number of its line in the schedule's text.
use Rattle.std.specs.Prelude.{ℕ, ◌+◌, ◌≤◌, List, [], ◌∷◌, ◌++◌, map, replicate, slice_index_or}
use Rattle.lset_steps.specs.declared.Event.{Event}
use Rattle.lset_steps.specs.declared.Event.TheVariants as event
use Rattle.lset_schedule.specs.declared.value.Line.{Line}
use Rattle.lset_schedule.specs.declared.value.Line.TheVariants as line
use Rattle.std.specs.List.{sum_by}
use Rattle.lset_words.specs.Words.{Opens}
use Rattle.lset_schedule.specs.declared.TheConstants.{MOST_EVENTS}
use Rattle.lset_schedule.specs.Plan.{Plan, event_count, first_event_line, opening_in}
use Rattle.lset_replay.specs.declared.events.LineEvent.{LineEvent}

-- Returns the events of one line: the start of a call, or one or more steps of a thread.
abbrev pub events_of_line : ℕ → Line → List LineEvent
events_of_line number (line.Begin t call) = record { line = number; event = event.Begin t call } ∷ []
events_of_line number (line.Go t steps) = replicate steps (record { line = number; event = event.Go t })

abbrev pub events_from : ℕ → List Line → List LineEvent
events_from number [] = []
events_from number (l ∷ ls) = events_of_line number l ++ events_from (number + 1) ls

abbrev pub events_of : Plan → List LineEvent
events_of p = events_from (first_event_line p) p.lines

-- Holds if a schedule is within the limits of a replay: its sizes, its opening keys (the keys at the start), and its
-- number of events, at most `MOST_EVENTS`. The events need not be enabled.
pub record IsInLimits (p : Plan) : Type 0 where
  pub opens : Opens (opening_in p)
  pub few : sum_by event_count p.lines ≤ MOST_EVENTS

abbrev pub event_in : LineEvent → Event
event_in e = e.event

abbrev pub only_events : List LineEvent → List Event
only_events es = map event_in es

-- Returns the line number of event `index`. Events are counted from 0.
abbrev pub line_at : List LineEvent → ℕ → ℕ
line_at es index = (slice_index_or es index (record { line = 0; event = event.Go 0 })).line
