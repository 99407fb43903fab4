-- One turn of `generate`, which draws at most one event.
use Rattle.std.specs.Prelude.{◌≡◌, ◌≢◌, ℕ, ◌<◌}
use Rattle.lset_words.specs.Words.{key_of}
use Rattle.lset_text.specs.Spellings.{HasCall}
use Rattle.lset_text.specs.declared.words.Version.TheVariants.{One}
use Rattle.lset_steps.specs.declared.Event.{Event}
use Rattle.lset_steps.specs.declared.Event.TheVariants as event
use Rattle.lset_steps.specs.Steps.{State, local_of}

abbrev pub HasOpenCall : State → ℕ → Type 0
HasOpenCall s t = (local_of s t).pc ≢ 0

-- Holds if a turn for thread `t` has no event: the thread has no pending call, and no further call can begin.
abbrev pub IsIdle : State → ℕ → ℕ → Type 0
IsIdle s t left = ((local_of s t).pc ≡ 0) × (left ≡ 0)

-- Holds if `e` is a possible event when a turn of `generate` selects thread `t`. If the thread has a pending call, `e`
-- is a step of that call. Otherwise, if `left` more calls can begin and `left` is not 0, `e` starts a call.
abbrev pub IsNextEvent : State → ℕ → ℕ → ℕ → Event → Type 0
IsNextEvent s t left keys (event.Begin u call) = (u ≡ t) × ((local_of s t).pc ≡ 0) × (0 < left) × ((key_of call).0 < keys)
    × HasCall One call
IsNextEvent s t left keys (event.Go u) = (u ≡ t) × HasOpenCall s t
