-- A count: so many calls on a key that no order can contain all of them. The key would have to change back between the
-- calls of a count more often than other calls can change it.
use Rattle.std.specs.Prelude.{◌≡◌, ℕ, ◌+◌, ◌-◌, ◌<◌, ◌≤◌, ◌==◌, ◌⊎◌, ◌&&◌, not, nat_lt, Bool, true, List, length, filter, Option, Some, None, All, AllPairs, IfSome}
use Rattle.lset_words.specs.declared.Reply.{Reply}
use Rattle.lset_words.specs.declared.history.CallRecord.{CallRecord}
use Rattle.lset_words.specs.declared.effect.Presence.{Presence}
use Rattle.lset_words.specs.Effects.{is_there}
use Rattle.lset_words.specs.Words.{key_of}
use Rattle.lset_words.specs.History.{Precedes, IsHistory}
use Rattle.lset_words.specs.SequentialSet.{has_key}
use Rattle.lset_history.specs.History.{HistoryValue}
use Rattle.lset_judge.specs.Verdict.{IsUnexplained}
use Rattle.lset_judge.specs.declared.count.Count.{Count}
use Rattle.lset_judge.specs.Events.{kind_if}
use Rattle.lset_judge.specs.Rest.{has_ended, turns_to}
use Rattle.lset_judge.specs.Clash.{records, other, leaves_if, needs_if, IsOf}

-- Returns 1 for `None`, else 0. A count (so many calls on a key that no order can contain all of them) covers the time
-- from `since` to `until`. If `since` is None, the key's opening state counts as an additional first call. If `until`
-- is None, the key's final state counts as an additional last call.
abbrev pub also : Option ℕ → ℕ
also None = 1
also (Some moment) = 0

abbrev pub OpensSo : Presence → Presence → Option ℕ → Type 0
OpensSo there was None = there ≡ was
OpensSo there was (Some since) = Unit {0}

abbrev pub LeftOtherwise : Option Presence → Presence → Option ℕ → Type 0
LeftOtherwise left was None = left ≡ Some (other was)
LeftOtherwise left was (Some until) = Unit {0}

-- Holds if the call x starts at the moment `since` or later. If `since` is None, holds if x needs the state opposite to
-- `was`.
abbrev pub BeginsIn : Presence → Option ℕ → CallRecord → Type 0
BeginsIn was None x = needs_if x.call x.ended ≡ Some (other was)
BeginsIn was (Some since) x = since ≤ x.begun

-- Holds if the call x has ended by the moment `until`. If `until` is None, holds if x leaves the key in the state
-- `was`.
abbrev pub EndsIn : Presence → Option ℕ → CallRecord → Type 0
EndsIn was None x = leaves_if x.call x.ended ≡ Some was
EndsIn was (Some until) x = has_ended until x.ended ≡ true

-- Holds if the key must change back between the calls x and y. Whichever call comes first leaves the key in the state
-- `was`, and the other call needs the opposite state.
pub record NeedTurn (was : Presence) (x y : CallRecord) : Type 0 where
  pub later : x.begun < y.begun
  pub leaves : leaves_if x.call x.ended ≡ Some was
  pub needs : needs_if y.call y.ended ≡ Some (other was)
  pub either : Precedes x y ⊎ ((leaves_if y.call y.ended ≡ Some was) × (needs_if x.call x.ended ≡ Some (other was)))

-- `begins_by` returns whether a call starts before `until`. `turns_in` returns whether a call on the key changed the
-- key to the state `there` (or is pending and can still do so), and overlaps the time from `since` to `until`.
abbrev pub begins_by : ℕ → Option ℕ → Bool
begins_by begun None = true
begins_by begun (Some until) = nat_lt begun until

abbrev pub ends_from : Option ℕ → Option (ℕ × Reply) → Bool
ends_from None ended = true
ends_from (Some since) ended = not (has_ended since ended)

abbrev pub turns_in : ℕ → Presence → Option ℕ → Option ℕ → CallRecord → Bool
turns_in key there since until x =
    (key_of x.call).0 == key && (turns_to there (kind_if x.call x.ended) && (begins_by x.begun until && ends_from since x.ended))

abbrev pub turning_in : ℕ → Presence → Option ℕ → Option ℕ → List CallRecord → List CallRecord
turning_in key there since until calls = filter (turns_in key there since until) calls

-- Returns how often the key must change back in a count of `counted` calls: once between each call and the next. If
-- `since` is None, the key's opening state counts as an additional call. If `until` is None, the key's final state
-- counts as an additional call.
abbrev pub turns_of : ℕ → Option ℕ → Option ℕ → ℕ
turns_of counted since until = counted + also since + also until - 1

-- Holds if `counted` contains so many calls on a key that no order can contain all of them. The key must change back
-- between any two calls in `counted`. If the key's opening or final state counts as a call, the key must also change
-- back after the opening state or before the final state. But too few other calls can change the key back between
-- `since` and `until`.
pub record IsCountOf (calls : List CallRecord) (key : ℕ) (there : Presence) (left : Option Presence) (was : Presence) (since until : Option ℕ)
    (counted : List CallRecord) : Type 0 where
  pub known : All (IsOf calls key) counted
  pub begin : All (BeginsIn was since) counted
  pub «end» : All (EndsIn was until) counted
  pub opens : OpensSo there was since
  pub closes : LeftOtherwise left was until
  pub turns : AllPairs (NeedTurn was) counted
  pub fewer : length (turning_in key (other was) since until calls) < turns_of (length counted) since until

-- If the history h contains a count (so many calls on a key that no order can contain all of them), no order explains h
-- and leaves the final keys `keys`.
abbrev pub CountsExcludeOrders : Type 0
CountsExcludeOrders = (h : HistoryValue) (keys : List ℕ) (key : ℕ) (there : Presence) (left : Option Presence) (was : Presence)
    (since until : Option ℕ) (counted : List CallRecord) → IsHistory h.opening.threads h.calls → has_key key h.opening.keys ≡ is_there there
    → IfSome left (λ (l : Presence). has_key key keys ≡ is_there l) → IsCountOf h.calls key there left was since until counted → IsUnexplained h keys

-- Holds if c is a count (so many calls on a key that no order can contain all of them), and `c.backs` are all calls
-- that can change the key back.
pub record IsCount (calls : List CallRecord) (there : Presence) (left : Option Presence) (c : Count) : Type 0 where
  pub count : IsCountOf calls c.key.0 there left c.was c.since c.until (records c.calls.items)
  pub backs : records c.backs.items ≡ turning_in c.key.0 (other c.was) c.since c.until calls
