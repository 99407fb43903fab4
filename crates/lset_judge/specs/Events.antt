-- The events of one key in a history: the starts and ends of the calls on the key. At most one event happens at each
-- moment.
use Rattle.std.specs.Prelude.{◌≡◌, ℕ, ◌+◌, ◌==◌, Bool, true, false, if◌then◌else◌, List, [], ◌∷◌, Option, Some, None}
use Rattle.lset_words.specs.declared.Call.{Call}
use Rattle.lset_words.specs.declared.Call.TheVariants.{Add, Remove}
use Rattle.lset_words.specs.declared.Reply.{Reply}
use Rattle.lset_words.specs.declared.effect.Effect.{Effect}
use Rattle.lset_words.specs.declared.effect.Effect.TheVariants.{Changes, Sees, Other}
use Rattle.lset_words.specs.Effects.{effect_of, is_there}
use Rattle.lset_words.specs.declared.history.CallRecord.{CallRecord}
use Rattle.lset_words.specs.SequentialSet.{has_key}
use Rattle.lset_words.specs.Words.{key_of}
use Rattle.lset_history.specs.History.{HistoryValue}
use Rattle.lset_judge.specs.Rule.{Event, begins, ends, looks, idle, may_leave}

-- The effect of a call on its key. `changes true` makes the key present, `changes false` makes it absent, `sees` finds
-- the key present or absent, and `nothing` does not matter to the judge.
pub data Kind : Type 0 where
  changes : Bool → Kind
  sees : Bool → Kind
  nothing : Kind

abbrev pub kind_as : Effect → Kind
kind_as (Changes p) = changes (is_there p)
kind_as (Sees p) = sees (is_there p)
kind_as Other = nothing

abbrev pub kind_of : Call → Reply → Kind
kind_of c r = kind_as (effect_of c r)

-- Returns the effect that a pending call can have on its key. A pending `add` or `remove` can change the key. A pending
-- read has no effect, since it has not returned anything.
abbrev pub open_kind : Call → Kind
open_kind (Add k) = changes true
open_kind (Remove k) = changes false
open_kind c = nothing

abbrev pub kind_if : Call → Option (ℕ × Reply) → Kind
kind_if c None = open_kind c
kind_if c (Some e) = kind_of c e.1

-- Returns the moment when a call ends. For a pending call, returns the sum of `last` and the call's start, so that
-- pending calls end at different moments and after all completed calls.
abbrev pub until_if : ℕ → ℕ → Option (ℕ × Reply) → ℕ
until_if last begun None = last + begun
until_if last begun (Some e) = e.0

abbrev pub ends_at : ℕ → Option (ℕ × Reply) → Bool
ends_at m None = false
ends_at m (Some e) = e.0 == m

abbrev pub begin_event : Kind → ℕ → Event
begin_event (changes w) until = begins w until
begin_event (sees w) until = idle
begin_event nothing until = idle

abbrev pub end_event : Kind → ℕ → Event
end_event (changes w) begun = ends w
end_event (sees w) begun = looks w begun
end_event nothing begun = idle

-- Returns the event of key k at moment m: the start or the end of a call on k. `last` is the last moment of the
-- history, or a later moment.
abbrev pub event_at : ℕ → ℕ → List CallRecord → ℕ → Event
event_at last k [] m = idle
event_at last k (x ∷ xs) m =
    if (key_of x.call).0 == k then (
    if x.begun == m then begin_event (kind_if x.call x.ended) (until_if last x.begun x.ended)
    else (if ends_at m x.ended then end_event (kind_if x.call x.ended) x.begun else event_at last k xs m)
    ) else event_at last k xs m

-- Returns whether key k passes the judge's test (see Rule.antt): each start and end of a call on k, and the final state
-- of k, are possible. `keys` are the final keys. `last` is the last moment of the history, or a later moment.
abbrev pub rule_explains : ℕ → HistoryValue → List ℕ → ℕ → Bool
rule_explains last h keys k = may_leave (event_at last k h.calls) (has_key k h.opening.keys) (has_key k keys) last

-- Holds if every key passes the judge's test (see `rule_explains`). `keys` are the final keys. `last` is the last
-- moment of the history, or a later moment.
abbrev pub RulePasses : ℕ → HistoryValue → List ℕ → Type 0
RulePasses last h keys = (k : ℕ) → rule_explains last h keys k ≡ true
