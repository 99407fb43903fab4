-- The lines of the random schedule that `generate` returns for a seed. `generate` works in turns, and random numbers
-- determine the event of each turn.
use Rattle.std.specs.Prelude.{◌≡◌, ℕ, zero, suc, ◌-◌, ◌%◌, ◌<◌, ◌⊎◌, ◌==◌, if◌then◌else◌, Option, Some, None, List, [], ◌∷◌, ◌++◌, length}
use Rattle.rand_core.specs.Stream.{Stream, next_u32}
use Rattle.lset_schedule.specs.declared.TheConstants.{MOST_GENERATED, MOST_TURNS}
use Rattle.lset_steps.specs.declared.Event.{Event}
use Rattle.lset_steps.specs.declared.Event.TheVariants as event
use Rattle.lset_steps.specs.Steps.{Table, State, after, local_of, opening}
use Rattle.lset_schedule.specs.declared.value.Line.{Line}
use Rattle.lset_schedule.specs.declared.value.Line.TheVariants as line
use Rattle.lset_schedule.specs.Draws.{drawn_call, seeded}
use Rattle.lset_words.specs.Words.{empty}

abbrev pub line_of_event : Event → Line
line_of_event (event.Begin t call) = line.Begin t call
line_of_event (event.Go t) = line.Go t 1

-- Returns how many calls can still begin after the given event, if `left` calls could begin before the event.
abbrev pub left_after : ℕ → Event → ℕ
left_after left (event.Begin t call) = left - 1
left_after left (event.Go t) = left

-- Holds if `generate` stops after `events` events: either the maximum number of events is reached, or no call is
-- pending and no further call can begin.
abbrev pub IsOver : State → ℕ → ℕ → Type 0
IsOver s events left =
    (events ≡ MOST_GENERATED) ⊎ ((left ≡ 0) × ((t : ℕ) → t < length s.locals → (local_of s t).pc ≡ 0))

-- The state of `generate` between two turns: the list's state, the number of calls that can still begin, the lines
-- drawn so far, and the remaining random numbers.
pub record Progress : Type 0 where
  pub state : State
  pub left : ℕ
  pub lines : List Line
  pub answers : Stream

-- Returns the event of a turn for thread `t`, and the remaining random numbers. If thread `t` has a pending call, the
-- event is a step of the pending call. Otherwise, if more calls can begin, the event starts a random call of thread
-- `t`.
abbrev pub event_drawn : State → ℕ → ℕ → ℕ → Stream → Option Event × Stream
event_drawn s t left keys answers =
    if (local_of s t).pc == 0
    then (if left == 0 then (None, answers) else (Some (event.Begin t (drawn_call keys answers).0), (drawn_call keys answers).1))
    else (Some (event.Go t), answers)

-- Returns the state of `generate` after a turn with the given event, or after a turn without an event.
abbrev pub progressed : Table → Progress → Option Event → Stream → Progress
progressed T p None answers = record { state = p.state; left = p.left; lines = p.lines; answers = answers }
progressed T p (Some e) answers = record {
  state = after T p.state e;
  left = left_after p.left e;
  lines = p.lines ++ line_of_event e ∷ [];
  answers = answers;
}

-- Returns the state of `generate` after the next turn. The first random number selects a thread. If the thread begins a
-- call, the following random numbers select the call.
abbrev pub after_turn : Table → ℕ → ℕ → Progress → Progress
after_turn T threads keys p =
    let first = next_u32 p.answers in
    let turn = event_drawn p.state (first.0 % threads) p.left keys first.1 in
    progressed T p turn.0 turn.1

abbrev pub IsEnd : Progress → Type 0
IsEnd p = IsOver p.state (length p.lines) p.left

-- Holds if `lines` are the lines of the schedule after at most `turns` more turns of `generate` from the state `p`.
-- (Each turn draws at most one event.) `generate` stops early if the schedule is complete.
unfoldable pub AreDrawn : Table → ℕ → ℕ → ℕ → Progress → List Line → Type 0
AreDrawn T threads keys zero p lines = lines ≡ p.lines
AreDrawn T threads keys (suc turns) p lines =
    (IsEnd p × (lines ≡ p.lines)) ⊎ ((IsEnd p → ⊥) × AreDrawn T threads keys turns (after_turn T threads keys p) lines)

abbrev pub before_turns : ℕ → ℕ → ℕ → Stream → Progress
before_turns threads quota calls answers = record {
  state = opening (empty threads quota);
  left = calls;
  lines = [];
  answers = answers;
}

-- Holds if `generate` draws `lines` for the given arguments.
abbrev pub AreOfSeed : Table → ℕ → ℕ → ℕ → ℕ → ℕ → List Line → Type 0
AreOfSeed T threads quota calls keys seed lines =
    AreDrawn T threads keys MOST_TURNS (before_turns threads quota calls (seeded seed)) lines
