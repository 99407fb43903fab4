-- Converts the state and the events of a key from the types in the judge's code to the types in Rule.antt.
use Rattle.std.specs.Prelude.{◌≡◌, ℕ, Bool, true, false, List, [], ◌∷◌}
use Rattle.lset_words.specs.Effects.{is_there}
use Rattle.lset_judge.specs.declared.key_changes.Held.{Held}
use Rattle.lset_judge.specs.declared.key_changes.Held.TheVariants.{Nothing, Put, Take, Many}
use Rattle.lset_judge.specs.declared.key_changes.KeyChanges.{KeyChanges}
use Rattle.lset_judge.specs.declared.rule.KeyState.{KeyState}
use Rattle.lset_judge.specs.declared.event.Event.{Event as MomentEvent}
use Rattle.lset_judge.specs.declared.event.Event.TheVariants.{Begins, Ends, Looks, Idle}
use Rattle.lset_judge.specs.Rule.{State, Event, begins, ends, looks, idle}

-- `puts_held` returns the moments when the pending `add`s that have not taken effect will end. `takes_held` returns the
-- moments when the pending `remove`s that have not taken effect will end. If the code uses no heap, at most one pending
-- change has not taken effect, and it ends at `until`.
abbrev pub puts_held : ℕ → Held → List ℕ
puts_held until Nothing = []
puts_held until Put = until ∷ []
puts_held until Take = []
puts_held until (Many many) = many.value.puts

abbrev pub takes_held : ℕ → Held → List ℕ
takes_held until Nothing = []
takes_held until Put = []
takes_held until Take = until ∷ []
takes_held until (Many many) = many.value.takes

abbrev pub puts_in : KeyChanges → List ℕ
puts_in c = puts_held c.puts_until c.held

abbrev pub takes_in : KeyChanges → List ℕ
takes_in c = takes_held c.takes_until c.held

-- Returns whether the pending changes are stored in heaps.
abbrev pub is_many : Held → Bool
is_many Nothing = false
is_many Put = false
is_many Take = false
is_many (Many many) = true

-- Holds if `old` and `new` have the same pending changes, the same last moment when an `add` ends, and the same last
-- moment when a `remove` ends.
pub record AreSame (old new : KeyChanges) : Type 0 where
  pub puts : puts_in new ≡ puts_in old
  pub takes : takes_in new ≡ takes_in old
  pub puts_until : new.puts_until ≡ old.puts_until
  pub takes_until : new.takes_until ≡ old.takes_until

abbrev pub state_of : KeyState → State
state_of s = record { there = is_there s.there; turned = s.turned; puts = puts_in s.changes; takes = takes_in s.changes }

abbrev pub event_as : MomentEvent → Event
event_as (Begins p until) = begins (is_there p) until
event_as (Ends p) = ends (is_there p)
event_as (Looks p since) = looks (is_there p) since
event_as Idle = idle
